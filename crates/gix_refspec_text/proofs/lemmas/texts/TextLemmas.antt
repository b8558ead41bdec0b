-- Bytes that a text lacks, and texts that are split at an index.
use Rattle.gix_refspec_text.proofs.Common.{[], below_more, ◌≡◌, ◌||◌, MatchBool, nat_eq, ℕ, suc, ◌+◌, ◌-◌, ◌<◌, ◌≤◌}
use Rattle.gix_refspec_text.proofs.Common.{◌==◌, Bool, true, false, List, ◌∷◌, ◌++◌, length, get_or, take, drop, sym}
use Rattle.gix_refspec_text.proofs.Common.{ap, ◌∙◌, subst, arith, eq-eqb, take-append-drop, drop-cons, length-drop}
use Rattle.gix_refspec_text.proofs.Common.{drop-drop, get_or-drop, take_all, eqb-true, false≢true, add-one, Lacks}
use Rattle.gix_refspec_text.proofs.Common.{ContainsText}
use Rattle.gix_refspec_text.proofs.lemmas.lists.LacksLemmas.{Lacks-here}

-- no index of x from n on has the byte b
abbrev pub NoneFrom : ℕ → List ℕ → ℕ → Type 0
NoneFrom b x n = (k : ℕ) → n ≤ k → k < length x → ¬ ((get_or x k 0 == b) ≡ true)

pub Lacks-from_indexes : (b : ℕ) (x : List ℕ) → ((k : ℕ) → k < length x → ¬ ((get_or x k 0 == b) ≡ true)) → Lacks b x
Lacks-from_indexes b [] none = tt
Lacks-from_indexes b (c ∷ x) none =
    (λ e. none 0 (omega arith) (eq-eqb c b e), Lacks-from_indexes b x (λ k below. none (suc k) (omega arith)))

pub split_at : (x : List ℕ) (n b : ℕ) → n < length x → get_or x n 0 ≡ b → x ≡ take n x ++ (b ∷ drop (suc n) x)
split_at x n b inside here = sym (take-append-drop n x) ∙ ap (λ y. take n x ++ y)
    (drop-cons x n 0 inside ∙ ap (λ c. c ∷ drop (suc n) x) here)

pub split_at_last : (x front back : List ℕ) (n b : ℕ) → n < length x → (get_or x n 0 == b) ≡ true → NoneFrom b x (n + 1)
    → front ≡ take n x → back ≡ drop n x → (x ≡ front ++ (b ∷ take (length back - 1) (drop 1 back)))
    × Lacks b (take (length back - 1) (drop 1 back))
split_at_last x front back n b inside here none front_is back_is =
    let after : take (length (drop n x) - 1) (drop 1 (drop n x)) ≡ drop (suc n) x =
    rw (drop-drop, add-one)
    (take_all (length (drop n x) - 1) (drop (suc n) x) (omega (arith, length-drop n x, length-drop (suc n) x))) in
    let rest : take (length back - 1) (drop 1 back) ≡ drop (suc n) x = ap (λ y. take (length y - 1) (drop 1 y)) back_is
    ∙ after in
    let lacks : Lacks b (drop (suc n) x) =
    rw (← add-one)
    (Lacks-from_indexes b (drop (n + 1) x)
    (λ k below. rw get_or-drop (none (n + 1 + k) (omega arith) (omega (arith, length-drop (n + 1) x))))) in
    (rw (front_is, rest) (split_at x n b inside (eqb-true (get_or x n 0) b here)), subst (Lacks b) (sym rest) lacks)

-- b is in the text, or at none of its first n indexes
abbrev pub FoundBefore : ℕ → List ℕ → ℕ → Bool → Type 0
FoundBefore b x n found = MatchBool found (ContainsText (b ∷ []) x) ((k : ℕ) → k < n → ¬ ((get_or x k 0 == b) ≡ true))

found_by : (b : ℕ) (x : List ℕ) (n : ℕ) (test : Bool) → n < length x → (get_or x n 0 == b) ≡ test
    → ((k : ℕ) → k < n → ¬ ((get_or x k 0 == b) ≡ true)) → FoundBefore b x (n + 1) test
found_by b x n true inside is none =
    record { before = take n x; after = drop (suc n) x; here = split_at x n b inside (eqb-true (get_or x n 0) b is) }
found_by b x n false inside is none = below_more (λ k. ¬ ((get_or x k 0 == b) ≡ true)) n none
    (λ here. false≢true (sym is ∙ here))

pub found_further : (b : ℕ) (x : List ℕ) (n : ℕ) (found : Bool) → n < length x → FoundBefore b x n found
    → FoundBefore b x (n + 1) (found || nat_eq (get_or x n 0) b)
found_further b x n found inside known = grind (arith, found_by)

pub found_whole : (b : ℕ) (x : List ℕ) (n : ℕ) (found : Bool) → length x ≤ n → FoundBefore b x n found
    → MatchBool found (ContainsText (b ∷ []) x) (Lacks b x)
found_whole b x n found past known = grind (arith, Lacks-from_indexes)

pub Lacks-ContainsText : (b : ℕ) (x : List ℕ) → Lacks b x → ContainsText (b ∷ []) x → ⊥
Lacks-ContainsText b x lacks holds = Lacks-here b holds.before holds.after (subst (Lacks b) holds.here lacks)

pub Lacks-from_absent : (b : ℕ) (x : List ℕ) → ¬ (ContainsText (b ∷ []) x) → Lacks b x
Lacks-from_absent b [] absent = tt
Lacks-from_absent b (c ∷ x) absent =
    let later = Lacks-from_absent b x
    (λ holds. absent
    (record { before = c ∷ holds.before; after = holds.after; here = ap (λ y. c ∷ y) holds.here })) in
    (λ e. absent (record { before = []; after = x; here = ap (λ d. d ∷ x) e }), later)

pub one_not_two : (b : ℕ) (u v p q r : List ℕ) → Lacks b u → Lacks b v → u ++ (b ∷ v) ≡ p ++ (b ∷ (q ++ (b ∷ r))) → ⊥
one_not_two b [] v [] q r lacks_u lacks_v same = let rest : v ≡ q ++ (b ∷ r) =
    cc in Lacks-here b q r (subst (Lacks b) rest lacks_v)
one_not_two b [] v (c ∷ p) q r lacks_u lacks_v same = let rest : v ≡ p ++ (b ∷ (q ++ (b ∷ r))) =
    cc in Lacks-here b p (q ++ (b ∷ r)) (subst (Lacks b) rest lacks_v)
one_not_two b (c ∷ u) v [] q r lacks_u lacks_v same = lacks_u.0 (let e : c ≡ b = cc in e)
one_not_two b (c ∷ u) v (d ∷ p) q r lacks_u lacks_v same = one_not_two b u v p q r lacks_u.1 lacks_v (cc)
