use Rattle.gix_refspec_diff.proofs.Common.{inl, reading_of, sym, ◌∙◌}
use Rattle.gix_refspec_lint.proofs.Common.{HasPlainSource, accepted_few}
use Rattle.gix_refspec_lint.proofs.lemmas.IndexLemmas.{read_at}
use Rattle.gix_refspec_diff.proofs.lemmas.SearchLemmas.{negative_fetches}
use Rattle.gix_refspec_diff.proofs.pairs.fetched_by.Goals as goal

pub parts_of-requires : goal.parts_of-requires
parts_of-requires c x is =
    let spec = c.index-specs-index.result in
    accepted_few (reading_of spec) x spec.accepted (inl (sym c.source.ensures ∙ is))

pub returns-then-is_negative : goal.returns-then-is_negative
returns-then-is_negative c g h are =
    negative_fetches g h c.args.lists.now are c.args.index _
    (read_at c.args.lists.now.one.now.specs.now c.args.index c.index-specs-index.result c.requires
    c.index-specs-index.is)
    c.if-is_negative.ensures

pub returns-in-None : goal.returns-in-None
returns-in-None c g h are =
    let cs = c.args.lists.now.one.now.specs.now in
    let plain : HasPlainSource (reading_of c.index-specs-index.result) =
    rw c.source.ensures at c.in-None.ensures in
    c.fetched_by_name.ensures g h _ are
    (read_at cs c.args.index c.index-specs-index.result c.requires c.index-specs-index.is)
    c.if-is_negative.ensures plain

pub returns-in-Some : goal.returns-in-Some
returns-in-Some c g h are =
    let (x, has, split) = c.in-Some.ensures in
    c.fetched_by_pattern.ensures g h _ are
    (read_at c.args.lists.now.one.now.specs.now c.args.index c.index-specs-index.result c.requires
    c.index-specs-index.is)
    c.if-is_negative.ensures (record { text = x; has = sym c.source.ensures ∙ has; split = split })
