-- Which of two texts are needed, for ref prefixes of gitprotocol-v2(5): one that begins the other alone, the first of
-- equal ones,
-- and otherwise both.
use Rattle.gix_refspec_match.proofs.Common.{List, [], ◌∷◌, None, Some, codes, refl, ◌≡◌, ◌≢◌, ◌⊎◌, ◌<◌, ℕ, zero, suc}
use Rattle.gix_refspec_match.proofs.Common.{sym, ap, ◌∙◌, arith, inl, inr, subst, length, slice_get, same_Some}
use Rattle.gix_refspec_match.proofs.Common.{BeginsWith}
use Rattle.gix_refspec_match.proofs.lemmas.duplicates.RedundantLemmas.{begins_itself, few_needed}
use Rattle.gix_refspec_match.proofs.lemmas.lists.ListsLemmas.{made_once}
use Rattle.gix_refspec_match.specs.Matching.Redundant.{AreNeeded, IsNeededAt, IsRedundant, NoneBeginsAnother}
use Rattle.gix_refspec_text.proofs.facts.FaultFacts.{begins_not}

-- the first of two is redundant only if the second one begins it, and differs
first_of_two : (p q text other : List ℕ) (i : ℕ) → Some p ≡ Some text → slice_get (p ∷ q ∷ []) i ≡ Some other
    → BeginsWith other text → (other ≢ text) ⊎ (i < 0) → BeginsWith q p × (q ≢ p)
first_of_two p q text other i here there begins (inr less) = absurd (omega (arith, less))
first_of_two p q text other zero here there begins (inl differ) =
    absurd (differ (sym (same_Some p other there) ∙ same_Some p text here))
first_of_two p q text other (suc zero) here there begins (inl differ) =
    let is_p = same_Some p text here in
    let is_q = same_Some q other there in (
      subst (λ (x : List ℕ). BeginsWith x p) (sym is_q) (subst (BeginsWith other) (sym is_p) begins),
      λ same. differ (sym is_q ∙ same ∙ is_p),
    )
first_of_two p q text other (suc (suc i)) here there begins (inl differ) = absurd (cc)

-- and the second one only if the first begins it
second_of_two : (p q text other : List ℕ) (i : ℕ) → Some q ≡ Some text → slice_get (p ∷ q ∷ []) i ≡ Some other
    → BeginsWith other text → (other ≢ text) ⊎ (i < 1) → BeginsWith p q
second_of_two p q text other zero here there begins ahead =
    subst (λ (x : List ℕ). BeginsWith x q) (sym (same_Some p other there))
    (subst (BeginsWith other) (sym (same_Some q text here)) begins)
second_of_two p q text other (suc zero) here there begins (inl differ) =
    absurd (differ (sym (same_Some q other there) ∙ same_Some q text here))
second_of_two p q text other (suc zero) here there begins (inr less) = absurd (omega (arith, less))
second_of_two p q text other (suc (suc i)) here there begins ahead = absurd (cc)

first_free : (p q : List ℕ) → (BeginsWith q p → q ≡ p) → ¬ (IsRedundant (p ∷ q ∷ []) 0)
first_free p q alone redundant =
    let (begins, differ) = first_of_two p q redundant.text redundant.other redundant.index redundant.here
    redundant.there
    redundant.begins redundant.ahead in differ (alone begins)

second_free : (p q : List ℕ) → ¬ (BeginsWith p q) → ¬ (IsRedundant (p ∷ q ∷ []) 1)
second_free p q alone redundant =
    alone (second_of_two p q redundant.text redundant.other redundant.index redundant.here redundant.there
    redundant.begins redundant.ahead)

-- a text that begins the other one is left alone
pub first_left : (p q : List ℕ) → BeginsWith p q → (BeginsWith q p → q ≡ p) → AreNeeded (p ∷ q ∷ []) (p ∷ [])
first_left p q begins alone = record {
  are = (
    Some p,
    [],
    (refl, first_free p q alone),
    (
      None,
      [],
      (λ made is. is.1 (record {
        text = q;
        here = refl;
        index = 0;
        other = p;
        there = refl;
        begins = begins;
        ahead = inr (omega arith);
      })),
      refl,
      refl,
    ),
    refl,
  );
  begin = ((0, p, omega arith, refl, begins_itself p), ((0, p, omega arith, refl, begins), tt));
}

second_left : (p q : List ℕ) → BeginsWith q p → q ≢ p → ¬ (BeginsWith p q) → AreNeeded (p ∷ q ∷ []) (q ∷ [])
second_left p q begins differ alone = record {
  are = (
    None,
    q ∷ [],
    (λ made is. is.1 (record {
      text = p;
      here = refl;
      index = 1;
      other = q;
      there = refl;
      begins = begins;
      ahead = inl differ;
    })),
    (Some q, [], (refl, second_free p q alone), refl, refl),
    refl,
  );
  begin = ((0, q, omega arith, refl, begins), ((0, q, omega arith, refl, begins_itself q), tt));
}

both_left : (p q : List ℕ) → ¬ (BeginsWith q p) → ¬ (BeginsWith p q) → AreNeeded (p ∷ q ∷ []) (p ∷ q ∷ [])
both_left p q first second = record {
  are = (
    Some p,
    q ∷ [],
    (refl, first_free p q (λ begins. absurd (first begins))),
    (Some q, [], (refl, second_free p q second), refl, refl),
    refl,
  );
  begin = ((0, p, omega arith, refl, begins_itself p), ((1, q, omega arith, refl, begins_itself q), tt));
}

-- one text alone is needed
pub one_needed : (p : List ℕ) → AreNeeded (p ∷ []) (p ∷ [])
one_needed p = record {
  are = (Some p, [], (refl, few_needed (p ∷ []) 0 (omega arith)), refl, refl);
  begin = ((0, p, omega arith, refl, begins_itself p), tt);
}

-- texts have one list of needed ones
pub needed_once : (texts a b : List (List ℕ)) → AreNeeded texts a → AreNeeded texts b → a ≡ b
needed_once texts a b one other = made_once (IsNeededAt texts) (λ k x y z is also. is.0 ∙ sym also.0) 0 texts a b
    one.are other.are

-- the ref prefix of all branches stands for a branch, wherever it is; a ref prefix isn't a directory; of equal ones the
-- first stays; and a
-- branch doesn't stand for a tag
pub needed : AreNeeded (codes "refs/heads/" ∷ codes "refs/heads/main" ∷ []) (codes "refs/heads/" ∷ [])
    × AreNeeded (codes "refs/heads/ab" ∷ codes "refs/heads/a" ∷ []) (codes "refs/heads/a" ∷ [])
    × AreNeeded (codes "refs/heads/a" ∷ codes "refs/heads/a" ∷ []) (codes "refs/heads/a" ∷ [])
    × AreNeeded (codes "refs/heads/a" ∷ codes "refs/tags/a" ∷ []) (codes "refs/heads/a" ∷ codes "refs/tags/a" ∷ [])
    × AreNeeded (codes "refs/heads/main" ∷ codes "refs/heads/" ∷ []) (codes "refs/heads/" ∷ [])
needed = (
  first_left (codes "refs/heads/") (codes "refs/heads/main") (record { after = codes "main"; here = refl })
      (λ begins. absurd (begins_not (codes "refs/heads/main") (codes "refs/heads/") refl begins)),
  second_left (codes "refs/heads/ab") (codes "refs/heads/a") (record { after = codes "b"; here = refl })
      (λ same. omega (arith, ap length same)) (begins_not (codes "refs/heads/ab") (codes "refs/heads/a") refl),
  first_left (codes "refs/heads/a") (codes "refs/heads/a") (begins_itself (codes "refs/heads/a")) (λ begins. refl),
  both_left (codes "refs/heads/a") (codes "refs/tags/a") (begins_not (codes "refs/tags/a") (codes "refs/heads/a") refl)
      (begins_not (codes "refs/heads/a") (codes "refs/tags/a") refl),
  second_left (codes "refs/heads/main") (codes "refs/heads/") (record { after = codes "main"; here = refl })
      (λ same. omega (arith, ap length same)) (begins_not (codes "refs/heads/main") (codes "refs/heads/") refl),
)

-- so none of them is left out, and no other one is kept
pub not_needed : ¬ (AreNeeded (codes "refs/heads/" ∷ codes "refs/heads/main" ∷ []) [])
    × ¬ (AreNeeded (codes "refs/heads/" ∷ codes "refs/heads/main" ∷ [])
    (codes "refs/heads/" ∷ codes "refs/heads/main" ∷ []))
    × ¬ (AreNeeded (codes "refs/heads/a" ∷ codes "refs/heads/a" ∷ [])
    (codes "refs/heads/a" ∷ codes "refs/heads/a" ∷ []))
    × ¬ (NoneBeginsAnother (codes "refs/heads/" ∷ codes "refs/heads/main" ∷ []))
    × ¬ (NoneBeginsAnother (codes "refs/heads/main" ∷ codes "refs/heads/" ∷ []))
    × NoneBeginsAnother (codes "refs/heads/a" ∷ codes "refs/tags/a" ∷ [])
not_needed = (
  (λ are. omega (arith, ap length (needed_once _ _ _ needed.0 are))),
  (λ are. omega (arith, ap length (needed_once _ _ _ needed.0 are))),
  (λ are. omega (arith, ap length (needed_once _ _ _ needed.2 are))),
  (λ none. none.0.0.0 (record { after = codes "main"; here = refl })),
  (λ none. none.0.0.1 (record { after = codes "main"; here = refl })),
  (
    (
      (
        begins_not (codes "refs/heads/a") (codes "refs/tags/a") refl,
        begins_not (codes "refs/tags/a") (codes "refs/heads/a") refl,
      ),
      tt,
    ),
    (tt, tt),
  ),
)
