use Rattle.gix_refspec_diff.proofs.Common.{IfOk-weaker, MakesForward, ap, map, reading_of, same_Some, start_of, subst}
use Rattle.gix_refspec_diff.proofs.Common.{sym, ◌∙◌}
use Rattle.gix_refspec_lint.proofs.Common.{HasPlainSource, eqb-true, nil_from_length}
use Rattle.gix_refspec_lint.proofs.lemmas.IndexLemmas.{read_at}
use Rattle.gix_refspec_diff.proofs.lemmas.SearchLemmas.{known_name, name_found}
use Rattle.gix_refspec_diff.proofs.pairs.fetched_by_name.Goals as goal

pub returns-then-is_empty : goal.returns-then-is_empty
returns-then-is_empty c g h r are at positive plain =
    known_name g h c.args.lists.now are c.args.index r at (c.is_flagged.ensures.0 c.if-is_flagged.true)
    (ap (map reading_of)
    (nil_from_length c.args.lists.now.exclusions.now (eqb-true _ 0 (sym c.is_empty.ensures ∙ c.if-is_empty.true))))

pub returns : goal.returns
returns c g h r are at positive plain =
    let here = read_at c.args.lists.now.one.now.specs.now c.args.index c.index-specs-index.result c.requires
    c.index-specs-index.is in
    let same = same_Some _ _ (sym here ∙ at) in
    let has = c.in_ok-sources.ensures (subst HasPlainSource (sym same) plain) in
    IfOk-weaker c.example_among.result _ _
    (name_found g h c.args.lists.now are c.args.index r at (map start_of c.in_ok-sources.sources.items)
    (λ refs s d makes. has refs s d (subst (MakesForward refs s d) (sym same) makes))) (c.example_among.ensures g h are)
