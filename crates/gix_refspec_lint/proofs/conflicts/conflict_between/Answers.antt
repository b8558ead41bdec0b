-- By the destinations of the two specs: one without a star is the only one, and two patterns share the names that
-- decide.
use Rattle.gix_refspec_lint.proofs.Common.{not, option_map, sym, ap, ◌∙◌, arith, pointwise_decides, false≢true}
use Rattle.gix_refspec_lint.proofs.Common.{Decides-eqb, IfOk-weaker, bstr_bytes, example_of}
use Rattle.gix_refspec_lint.proofs.lemmas.FoundLemmas.{have_common, names_differ, none_alike, none_apart, none_fetched}
use Rattle.gix_refspec_lint.proofs.lemmas.FoundLemmas.{found_only, fetches_only}
use Rattle.gix_refspec_lint.proofs.conflicts.conflict_between.Goals as goal

pub returns-in_default : goal.returns-in_default
returns-in_default c g is have e shown =
    none_fetched g _ is c.args.first c.index-group-first.result (omega (arith, c.requires.0, c.requires.1))
    (sym c.destination.ensures ∙ ap (option_map bstr_bytes) c.in_default.is) _ _ _ shown.conflict.one

pub returns-in_default-destination : goal.returns-in_default-destination
returns-in_default-destination c g is have e shown =
    none_fetched g _ is c.args.second c.index-group-second.result c.requires.1
    (sym c.destination-2.ensures ∙ ap (option_map bstr_bytes) c.in_default-destination.is) _ _ _
    shown.conflict.other

pub returns-then-ne : goal.returns-then-ne
returns-then-ne c g is have =
    names_differ g _ is _ have c.args.first c.args.second c.index-group-first.result c.index-group-second.result
    (omega (arith, c.requires.0, c.requires.1)) c.requires.1 c.in-None-None.is-0 c.in-None-None.is-1
    _ _ (sym c.destination.ensures ∙ ap (option_map bstr_bytes) c.in-Some.is)
    (sym c.destination-2.ensures ∙ ap (option_map bstr_bytes) c.in-Some-destination.is)
    (λ same. false≢true
    (sym (c.ne.ensures
    ∙ ap not ((pointwise_decides Decides-eqb (bstr_bytes c.in-Some.one_name)
    (bstr_bytes c.in-Some-destination.other_name)).1 same)) ∙ c.if-ne.true))

pub returns-else-ne : goal.returns-else-ne
returns-else-ne c g is have =
    IfOk-weaker c.conflict_at.result _ _ (λ found. found_only g _ _ _ (option_map example_of found)
    (λ e shown. fetches_only g _ is c.args.first c.index-group-first.result (omega (arith, c.requires.0, c.requires.1))
    _ have c.in-None-None.is-0
    _ (sym c.destination.ensures ∙ ap (option_map bstr_bytes) c.in-Some.is) _ _ _ shown.conflict.one))
    (c.conflict_at.ensures g is)

pub returns-in-None-Some : goal.returns-in-None-Some
returns-in-None-Some c g is have =
    IfOk-weaker c.conflict_at-in-None-Some.result _ _ (λ found. found_only g _ _ _ (option_map example_of found)
    (λ e shown. fetches_only g _ is c.args.first c.index-group-first.result (omega (arith, c.requires.0, c.requires.1))
    _ have c.in-None-Some.is-0
    _ (sym c.destination.ensures ∙ ap (option_map bstr_bytes) c.in-Some.is) _ _ _ shown.conflict.one))
    (c.conflict_at-in-None-Some.ensures g is)

pub returns-in-Some-None : goal.returns-in-Some-None
returns-in-Some-None c g is have =
    IfOk-weaker c.conflict_at-in-Some-None.result _ _ (λ found. found_only g _ _ _ (option_map example_of found)
    (λ e shown. fetches_only g _ is c.args.second c.index-group-second.result c.requires.1 _ have c.in-Some-None.is-1
    _ (sym c.destination-2.ensures ∙ ap (option_map bstr_bytes) c.in-Some-destination.is) _ _ _ shown.conflict.other))
    (c.conflict_at-in-Some-None.ensures g is)

pub returns-in-None : goal.returns-in-None
returns-in-None c g is have =
    none_apart g _ is _ have c.args.first c.args.second c.index-group-first.result c.index-group-second.result
    (omega (arith, c.requires.0, c.requires.1)) c.requires.1
    _ _ c.in-Some-Some.is-0 c.in-Some-Some.is-1 c.in-None.ensures

pub returns-then-have_same_sides : goal.returns-then-have_same_sides
returns-then-have_same_sides c g is have =
    let same = c.have_same_sides.ensures c.if-have_same_sides.true in
    none_alike g _ is _ have c.args.first c.args.second c.index-group-first-in-Some-of.result
    c.index-group-second-in-Some-of.result (omega (arith, c.requires.0, c.requires.1)) c.requires.1
    _ _ c.in-Some-Some.is-0 c.in-Some-Some.is-1 same.0 same.1

pub returns-else-have_same_sides : goal.returns-else-have_same_sides
returns-else-have_same_sides c g is have =
    c.conflict_among.ensures g is (have_common g _ is _ have c.args.first c.args.second c.index-group-first.result
    c.index-group-second.result (omega (arith, c.requires.0, c.requires.1)) c.requires.1
    _ _ c.in-Some-Some.is-0 c.in-Some-Some.is-1 c.in-Some-of.common c.in-Some-of.ensures)
