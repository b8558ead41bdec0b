use Rattle.gix_refspec_match.proofs.Common.{arith, take_all, rules}
use Rattle.gix_refspec_match.proofs.lemmas.hits.MatcherLemmas.{backward_matcher, backward_unmatched}
use Rattle.gix_refspec_match.proofs.lemmas.hits.MatcherLemmas.{equal_from_duplicates, flagged_matcher, no_matcher}
use Rattle.gix_refspec_match.proofs.lemmas.hits.MatcherLemmas.{spec_joined, spec_skipped}
use Rattle.gix_refspec_match.proofs.matcher.Matchers.backward.Goals as goal

pub loop-spec_index-preserved-in_default : goal.loop-spec_index-preserved-in_default
loop-spec_index-preserved-in_default c = search (rules, spec_skipped, no_matcher, c.in_default.ensures)

pub loop-spec_index-preserved-in_default-destination : goal.loop-spec_index-preserved-in_default-destination
loop-spec_index-preserved-in_default-destination c = search (rules, spec_skipped, backward_unmatched)

pub loop-spec_index-preserved : goal.loop-spec_index-preserved
loop-spec_index-preserved c =
    let told = rw c.as_slice.ensures.value at c.is_flagged.ensures in
    elim c.if-not-is_flagged.branch [
      | goal.then-not-is_flagged+in_ok-push w ↦
          rw w.list-is (search (
            rules,
            spec_joined,
            backward_matcher,
            told,
            c.in-Some.ensures,
            c.in-Some-destination.is,
            w.in_ok-push.ensures.items,
          ))
      | goal.else-not-is_flagged w ↦
          rw w.list-is (search (rules, spec_skipped, flagged_matcher, told, c.in-Some.ensures))
    ]

pub returns : goal.returns
returns c =
    let made = rw (
      take_all c.loop-spec_index.spec_index c.args.specs.now (omega arith),
      ← c.shrink_to_fit.ensures.items,
    ) at c.loop-spec_index.invariant in
    search (rules, equal_from_duplicates, c.in_ok-equal.ensures.ok)
