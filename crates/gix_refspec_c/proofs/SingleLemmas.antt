-- Buffers that lack an answer, and the order of two specs.
use Rattle.std.proofs.Common.{◌≡◌, ◌↔◌, ℕ, ℤ, pos, w32, to_z, of_z, List, Result, Ok, Err, IfErr, IsTrue, nat_eq, refl}
use Rattle.std.proofs.Common.{sym, ap, subst, ◌∙◌}
use Rattle.std.specs.declared.cmp.Ordering.{Ordering}
use Rattle.std.specs.declared.cmp.Ordering.TheVariants.{Less, Equal, Greater}
use Rattle.std.specs.Ordering.{nat_cmp}
use Rattle.std.specs.Cmp.{Equal-is}
use Rattle.std.specs.Cmp.Lexicographic.{pointwise, slice_cmp, lists_ties, texts_ties}
use Rattle.gix_refspec_text.specs.declared.parsing.Operation.{Operation}
use Rattle.gix_refspec.specs.Specs.Reading.{Reading}
use Rattle.gix_refspec.specs.Specs.Grammar.{Reads}
use Rattle.gix_refspec.specs.Specs.Meaning.{meaning_of, printed}
use Rattle.gix_refspec.specs.Specs.Order.{keys}
use Rattle.gix_refspec_c.specs.declared.failure.Failure.{Failure}
use Rattle.gix_refspec_c.specs.declared.failure.Failure.TheVariants as failure
use Rattle.gix_refspec_c.specs.Buffer.{WritesNothing, IsTooSmall}
use Rattle.gix_refspec_c.specs.Single.{AreCompared, sign}

-- the result for a buffer that is too small
pub too_small : (Is : List ℕ → Type 0) (Why : Failure → Type 0) (answer old new : List ℕ) (before after : ℕ)
    (r : Result (Unit {0}) Failure) → Is answer
    → IfErr r (λ f. (f ≡ failure.TooSmall) × IsTooSmall answer old new after)
    → IfErr r (WritesNothing Is Why old new before after)
too_small Is Why answer old new before after (Ok u) is small = tt
too_small Is Why answer old new before after (Err f) is small = subst (WritesNothing Is Why old new before after)
    (sym small.0) (answer, is, small.1)

-- a sign fits into 32 bits
signed : (o : Ordering) → to_z w32 (of_z w32 (sign o)) ≡ sign o
signed Less = refl
signed Equal = refl
signed Greater = refl

-- only `Equal` has the sign 0
zero : (o : Ordering) → (sign o ≡ pos 0) ↔ (o ≡ Equal)
zero Less = (λ same. cc, λ same. cc)
zero Equal = (λ same. refl, λ same. refl)
zero Greater = (λ same. cc, λ same. cc)

-- keys compare as equal exactly if they are the same
tied : (k l : List (List ℕ)) → (slice_cmp (slice_cmp nat_cmp) k l ≡ Equal) ↔ IsTrue (pointwise (pointwise nat_eq) k l)
tied k l =
    let is = Equal-is (slice_cmp (slice_cmp nat_cmp) k l) in (
      λ tie. lists_ties (slice_cmp nat_cmp) texts_ties k l ∙ is.1 tie,
      λ same. is.0 (sym (lists_ties (slice_cmp nat_cmp) texts_ties k l) ∙ same),
    )

-- two readings compare as their meanings do
pub compared : (op : Operation) (a b : List ℕ) (r q : Reading) (o : Ordering) (z : ℤ) → Reads op a r → Reads op b q
    → z ≡ sign o → o ≡ slice_cmp (slice_cmp nat_cmp) (keys (meaning_of r)) (keys (meaning_of q))
    → (IsTrue (pointwise (pointwise nat_eq) (keys (meaning_of r)) (keys (meaning_of q)))
    ↔ (meaning_of r ≡ meaning_of q)) → ((meaning_of r ≡ meaning_of q) ↔ (printed r ≡ printed q))
    → AreCompared op a b (to_z w32 (of_z w32 z))
compared op a b r q o z reads_a reads_b is ordered same printed =
    let kept : to_z w32 (of_z w32 z) ≡ sign o = ap (λ x. to_z w32 (of_z w32 x)) is ∙ signed o in
    let ties = tied (keys (meaning_of r)) (keys (meaning_of q)) in
    record {
      first = r;
      second = q;
      reads_first = reads_a;
      reads_second = reads_b;
      is = kept ∙ ap sign ordered;
      tie = (
        λ none. printed.0 (same.0 (ties.0 (sym ordered ∙ (zero o).0 (sym kept ∙ none)))),
        λ alike. kept ∙ (zero o).1 (ordered ∙ ties.1 (same.1 (printed.1 alike))),
      );
    }
