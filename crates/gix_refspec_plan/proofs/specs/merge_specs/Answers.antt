-- A merged ref that isn't flagged is asked for, if it is a ref name.
use Rattle.gix_refspec_plan.proofs.Common.{[], sym, ◌∙◌, inl, inr, subst, false≢true, BStr, IsRefName, name_of_ref}
use Rattle.gix_refspec_plan.proofs.Common.{bstr_bytes, asked_of, slice_index_or, get_or_default, get_or-map, length-map}
use Rattle.gix_refspec_plan.proofs.Common.{arith, Merge}
use Rattle.gix_refspec_plan.proofs.lemmas.plan.MadeLemmas.{made_one, made_none}
use Rattle.gix_refspec_plan.proofs.specs.merge_specs.Goals as goal

pub fetch_of-requires-clause-name : goal.fetch_of-requires-clause-name
fetch_of-requires-clause-name c =
    name_of_ref _ (subst IsRefName c.as_bytes.ensures (c.is_ref_name.ensures.0 c.if-is_ref_name.true))

pub loop-index-preserved : goal.loop-index-preserved
loop-index-preserved c =
    let merges = c.args.merges.now in
    let i = c.loop-index.index in
    let below = c.loop-index-test.true in
    let d : BStr = record { bytes = record { ref_ptr = (0, 0); now = [] } } in
    let n = slice_index_or merges i d in
    let is = get_or_default merges i d n below in
    let flag = rw c.as_slice.ensures.value at c.is_flagged.ensures in
    let told = rw (get_or-map bstr_bytes merges i d [] below) at
    (c.in_ok-flags.ensures i [] (omega (arith, length-map merges bstr_bytes))) in
    elim c.if-not-is_flagged.branch [
      | goal.then-not-is_flagged+then-is_ref_name+in_ok-push w ↦
          rw w.made-is (made_one _ bstr_bytes asked_of merges i n _ below is c.loop-index.invariant _ _ (
            (λ j. record { reading = w.fetch_of.ensures j; origin = Merge i }),
            subst IsRefName w.as_bytes.ensures (w.is_ref_name.ensures.0 w.if-is_ref_name.true),
            (λ covers. false≢true (sym w.if-not-is_flagged.true ∙ flag.1 (told.1 (inl covers)))),
            (λ before. false≢true (sym w.if-not-is_flagged.true ∙ flag.1 (told.1 (inr before)))),
          ) w.in_ok-push.ensures.items)
      | goal.else-not-is_flagged w ↦
          rw w.made-is (made_none _ bstr_bytes asked_of merges i n _ below is c.loop-index.invariant
          (λ a (shown, name, uncovered, new). elim w.else-not-is_flagged.branch [
            | goal.else-not-is_flagged-via-then-not-is_flagged+else-is_ref_name v ↦
                false≢true (sym v.if-is_ref_name.false ∙ v.is_ref_name.ensures.1
                (subst IsRefName (sym v.as_bytes.ensures) name))
            | goal.else-not-is_flagged-via-else-not-is_flagged v ↦ elim (told.0 (flag.0 v.if-not-is_flagged.false))
                [ inl covers ↦ uncovered covers | inr before ↦ new before ]
          ]))
    ]
