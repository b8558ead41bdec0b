use Rattle.gix_refspec_match.proofs.Common.{codes, ◌≡◌, true, ◌∙◌, arith, inl, inr, subst, length, rules, ◌⊎◌, ◌≤◌}
use Rattle.gix_refspec_match.proofs.Common.{nat_tests, all_weaker, one_more_mapped, HasTail, short_tail_number}
use Rattle.gix_refspec_match.proofs.Common.{name_bytes, ShortTails}
use Rattle.gix_refspec_match.proofs.bloom.ShortTails.of.Goals as goal

pub loop-name-preserved : goal.loop-name-preserved
loop-name-preserved c =
    let n = c.as_bytes-name.result.now in
    let added = c.add-in-loop-name.ensures in
    let any = c.if-short_tails.short_tails in
    let new : ShortTails = record { tails = c.add-in-loop-name.new.self; any = any } in
    let told : (c.loop-name.short_tails.any ≡ true → any ≡ true) × ((any ≡ true) ⊎ (4 ≤ length n)) =
    elim c.if-short_tails.branch [
      | goal.then-short_tails w ↦
          ((λ is. w.short_tails-is ∙ w.if-short_tails.true), inl (w.short_tails-is ∙ w.if-short_tails.true))
      | goal.else-short_tails w ↦ let long : (any ≡ true) ⊎ (4 ≤ length n) =
          grind (arith, nat_tests, w.short_tails-is) in search rules
    ] in
    let here : HasTail new n = search (rules, told.1) in (
      record {
        tails = added.whole;
        head = added.others (short_tail_number (codes "HEAD")) c.loop-name.invariant.0.head;
      },
      one_more_mapped name_bytes (HasTail new) c.args.names.now c.loop-name.name-index c.name-item.result
          (all_weaker _ (HasTail new)
          (λ x has. elim has [
            | inl short ↦ inl (told.0 short)
            | inr (long, number) ↦
                inr (long, added.others (short_tail_number x) number)
          ]) _ c.loop-name.invariant.1)
          c.loop-name-test.true c.name-item.is (subst (HasTail new) (c.as_bytes-name.ensures ∙ c.as_bstr.ensures) here),
    )
