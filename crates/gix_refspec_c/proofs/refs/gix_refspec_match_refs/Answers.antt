-- The slices get the mappings that are kept, and the outcome is the number of the result.
use Rattle.std.proofs.Common.{List, inr, map, refl, subst}
use Rattle.std.proofs.lemmas.Result.{on_ok_weaker}
use Rattle.gix_refspec.specs.Views.Group.{readings_of}
use Rattle.gix_refspec_c.specs.declared.refs.Known.{Known}
use Rattle.gix_refspec_c.specs.Kept.{entries_of}
use Rattle.gix_refspec_c.specs.Matching.{Lists, direction_code}
use Rattle.gix_refspec_c.specs.Outcome.{fails}
use Rattle.gix_refspec_c.specs.Refs.{AreMatchedRefs, AreUnmatchedRefs, known_ref, out_of_memory, ref_text, spec_text}
use Rattle.gix_refspec_c.proofs.MatchingLemmas.{lacks_all}
use Rattle.gix_refspec_c.proofs.OutcomeLemmas.{answered}
use Rattle.gix_refspec_c.proofs.RefsLemmas.{matched_refs}
use Rattle.gix_refspec_c.proofs.refs.gix_refspec_match_refs.Goals as goal

pub returns-in-Err : goal.returns-in-Err
returns-in-Err c = fails c.in-Some.direction c.in-Some.ensures c.in-Err.failure c.number-in-Err.ensures
    (inr (c.in-Err.ensures.err, refl))

pub returns : goal.returns
returns c = fails c.in-Some.direction c.in-Some.ensures c.in-Err-kept_of.failure c.number-in-Err-kept_of.ensures
    (inr (out_of_memory c.in-Err-kept_of.ensures.err, refl))

pub returns-in-Ok-kept_of : goal.returns-in-Ok-kept_of
returns-in-Ok-kept_of c =
    let direction = c.in-Some.direction in
    let specs = map spec_text c.args.specs.now in
    let texts = map ref_text c.args.refs.now in
    let es = entries_of c.in-Ok-kept_of.kept in
    let group = readings_of c.in-Ok.input.group in
    let lists = subst (λ (known : List Known). Lists direction group (map known_ref known) es) c.as_slice.ensures.value
    c.in-Ok-kept_of.ensures.ok in
    let is = matched_refs direction specs texts group (map known_ref c.in-Ok.input.refs.items) es c.in-Ok.ensures.ok
    lists in
    let write = on_ok_weaker c.write_kept.result (λ write. (es, is, write)) c.write_kept.ensures.ok in
    let none = lacks_all (AreMatchedRefs direction specs texts) (AreUnmatchedRefs direction specs texts) es _ _
    c.write_kept.result is (out_of_memory refl) c.write_kept.ensures.err in
    answered direction_code c.args.direction _ _ _ direction c.write_kept.result c.outcome_of.result c.in-Some.ensures
    c.outcome_of.ensures write none
