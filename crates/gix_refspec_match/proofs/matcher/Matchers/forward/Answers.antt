use Rattle.gix_refspec_match.proofs.Common.{arith, take_all, rules}
use Rattle.gix_refspec_match.proofs.lemmas.hits.MatcherLemmas.{equal_from_duplicates, flagged_matcher, forward_matcher}
use Rattle.gix_refspec_match.proofs.lemmas.hits.MatcherLemmas.{no_id_object, no_matcher, no_object, object_here}
use Rattle.gix_refspec_match.proofs.lemmas.hits.MatcherLemmas.{object_unmatched, spec_joined, spec_skipped}
use Rattle.gix_refspec_match.proofs.matcher.Matchers.forward.Goals as goal

pub loop-spec_index-preserved-in_default : goal.loop-spec_index-preserved-in_default
loop-spec_index-preserved-in_default c = search (rules, spec_skipped, no_matcher, no_object, c.in_default.ensures)

pub loop-spec_index-preserved : goal.loop-spec_index-preserved
loop-spec_index-preserved c = elim c.match-sides.branch [
  | goal.in-Object+in_ok-push-in-Object w ↦
      rw (w.list-is, w.objects-is)
      (search (
        rules,
        spec_skipped,
        spec_joined,
        object_unmatched,
        object_here,
        c.in-Some.ensures,
        w.in-Object.is,
        w.in_ok-push-in-Object.ensures.items,
      ))
  | goal.in_default-source+then-not-is_flagged+in_ok-push-in_default-source w ↦
      let told = rw w.as_slice.ensures.value at w.is_flagged.ensures in
      let pushed = w.in_ok-push-in_default-source.ensures.items in
      rw (w.list-is, w.objects-is)
      (search (
        rules,
        spec_skipped,
        spec_joined,
        forward_matcher,
        no_id_object,
        told,
        c.in-Some.ensures,
        w.in_default-source.not-Object,
        pushed,
      ))
  | goal.in_default-source+else-not-is_flagged w ↦
      let told = rw w.as_slice.ensures.value at w.is_flagged.ensures in
      rw (w.list-is, w.objects-is)
      (search (
        rules,
        spec_skipped,
        flagged_matcher,
        no_id_object,
        told,
        c.in-Some.ensures,
        w.in_default-source.not-Object,
      ))
]

pub returns-clause-matchers : goal.returns-clause-matchers
returns-clause-matchers c =
    let made = rw (
      take_all c.loop-spec_index.spec_index c.args.specs.now (omega arith),
      ← c.shrink_to_fit.ensures.items,
    ) at c.loop-spec_index.invariant.0 in
    search (rules, equal_from_duplicates, c.in_ok-equal.ensures.ok)
