use Rattle.gix_refspec_why.proofs.Common.{[], ◌∷◌, ◌∙◌, refl, sym, ap, subst, map, option_map, length, take, take_all}
use Rattle.gix_refspec_why.proofs.Common.{arith, AllByRecursion, IsExcludedBy, all_join, map_more, reading_of}
use Rattle.gix_refspec_why.proofs.Common.{slice_get-map, slice_get_read}
use Rattle.gix_refspec_why.proofs.lemmas.SourceLemmas.{excludes_with, none_excluded, not_excluding, positive_included}
use Rattle.std.specs.List.{take-map}
use Rattle.gix_refspec_why.proofs.exclusion.first_exclusion.Goals as goal

pub returns-in-Excludes : goal.returns-in-Excludes
returns-in-Excludes c =
    let specs = c.args.specs.now in
    let i = c.loop-spec_index.spec_index in
    let spec = c.index-specs-spec_index.result in
    let excludes = c.in-Excludes.ensures [] in (
      reading_of spec,
      record {
        at = slice_get-map reading_of specs i
            ∙ ap (option_map reading_of)
            (slice_get_read specs (length specs) i spec refl c.loop-spec_index-test.true c.index-specs-spec_index.is);
        holds = excludes_with (reading_of spec) c.args.name.now c.in-Excludes.word excludes;
        before = subst (AllByRecursion (λ r. ¬ (IsExcludedBy c.args.name.now r))) (sym (take-map reading_of i specs))
            c.loop-spec_index.invariant;
      },
      excludes,
    )

pub loop-spec_index-preserved : goal.loop-spec_index-preserved
loop-spec_index-preserved c =
    let specs = c.args.specs.now in
    let i = c.loop-spec_index.spec_index in
    let spec = c.index-specs-spec_index.result in
    let n = c.args.name.now in
    let none : ¬ (IsExcludedBy n (reading_of spec)) =
    elim c.if-is_negative.branch [
      | goal.then-is_negative+in_default w ↦ not_excluding [] n (reading_of spec) w.exclusion_fate.result
          (w.exclusion_fate.ensures []) w.in_default.not-Excludes
      | goal.else-is_negative w ↦ positive_included n (reading_of spec) w.if-is_negative.ensures
    ] in
    rw (map_more reading_of specs i spec c.loop-spec_index-test.true, ← c.index-specs-spec_index.is)
    (all_join (λ r. ¬ (IsExcludedBy n r)) (map reading_of (take i specs)) (reading_of spec ∷ [])
    c.loop-spec_index.invariant
    (none, tt))

pub returns : goal.returns
returns c = none_excluded _ _
    (rw (take_all c.loop-spec_index.spec_index c.args.specs.now (omega arith)) at c.loop-spec_index.invariant)
