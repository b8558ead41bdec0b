-- Where a text is found first in another.
use Rattle.gix_refspec_remote.proofs.Common.{◌≡◌, ℕ, List, ◌++◌, ◌∙◌, ap, sym, arith, inl, inr, length, take, drop, ◌+◌}
use Rattle.gix_refspec_remote.proofs.Common.{◌≤◌, ContainsText, cases_lt, drop-append_seam, length-append}
use Rattle.gix_refspec_remote.proofs.Common.{take-append-drop, take-append_seam, length-take-le, length-drop, take_all}
use Rattle.gix_refspec_remote.proofs.Common.{◌-◌}
use Rattle.memchr.proofs.lemmas.MatchLemmas.{OccursAt-from_part, OccursAt-split}
use Rattle.gix_refspec_remote.specs.Rename.{IsRenamed, stored_below}
use Rattle.memchr.specs.Find.{NoneBefore, Nowhere, OccursAt}

module _ (hay needle : List ℕ) where
  -- the texts before and after an occurrence
  pub found_here : (k : ℕ) → OccursAt hay needle k → hay ≡ take k hay ++ (needle ++ drop (k + length needle) hay)
  found_here k occurs = sym (take-append-drop k hay) ∙ ap (λ y. take k hay ++ y) (OccursAt-split hay needle k occurs)

  -- it occurs after each text before it
  pub occurs_after : (b a : List ℕ) → hay ≡ b ++ (needle ++ a) → OccursAt hay needle (length b)
  occurs_after b a is = OccursAt-from_part hay needle (length b)
      (omega (arith, ap length is, length-append b (needle ++ a), length-append needle a))
      (ap (λ h. take (length needle) (drop (length b) h)) is ∙ ap (take (length needle))
      (drop-append_seam b (needle ++ a))
      ∙ take-append_seam needle a)

  -- the first occurrence is before each other
  pub first_here : (k : ℕ) → NoneBefore (OccursAt hay needle) 0 (length hay + 1) k → (b a : List ℕ)
      → hay ≡ b ++ (needle ++ a) → k ≤ length b
  first_here k found b a is = elim (cases_lt (length b) k) [
    | inl below ↦ absurd (found.before (length b) (omega arith) below (occurs_after b a is))
    | inr far ↦ far
  ]

  -- a text that occurs nowhere isn't contained
  pub contained_nowhere : Nowhere (OccursAt hay needle) 0 (length hay + 1) → ¬ (ContainsText needle hay)
  contained_nowhere nowhere contains =
      let occurs = occurs_after contains.before contains.after contains.here in
      nowhere (length contains.before) (omega arith) (omega (arith, occurs.fits)) occurs

-- the value with another text in place of the first occurrence is the renamed one
pub renamed_is : (value old new text hay needle put : List ℕ) (k : ℕ) → hay ≡ value → needle ≡ stored_below old
    → put ≡ stored_below new → NoneBefore (OccursAt hay needle) 0 (length hay + 1) k → OccursAt hay needle k
    → text ≡ take k hay ++ (put ++ take (length hay - (k + length needle)) (drop (k + length needle) hay))
    → IsRenamed value old new text
renamed_is value old new text hay needle put k same by_old by_new none occurs is = record {
  before = take k hay;
  after = drop (k + length needle) hay;
  here = sym same ∙ found_here hay needle k occurs
      ∙ ap (λ y. take k hay ++ (y ++ drop (k + length needle) hay)) by_old;
  first = λ b a there. omega (
    arith,
    length-take-le k hay (omega (arith, occurs.fits)),
    first_here hay needle k none b a (same ∙ there ∙ ap (λ y. b ++ (y ++ a)) (sym by_old)),
  );
  renamed = is
      ∙ ap (λ y. take k hay ++ (put ++ y)) (take_all (length hay - (k + length needle)) (drop (k + length needle) hay)
      (omega (arith, length-drop (k + length needle) hay)))
      ∙ ap (λ y. take k hay ++ (y ++ drop (k + length needle) hay)) by_new;
}
