-- The first and the last occurrence of a byte.
use Rattle.gix_refspec_text.proofs.Common.{[], ◌≡◌, ◌⊎◌, inl, inr, ℕ, List, ◌∷◌, ◌++◌, refl, sym, ap, subst}
use Rattle.gix_refspec_text.proofs.Common.{AllByRecursion, Lacks, cases_eq}

pub Lacks-here : (b : ℕ) (front back : List ℕ) → Lacks b (front ++ (b ∷ back)) → ⊥
Lacks-here b [] back lacks = lacks.0 refl
Lacks-here b (c ∷ front) back lacks = Lacks-here b front back lacks.1

pub first_with : {X : Type 0} (P : X → Type 0) (p q : List X) (b c : X) (s t : List X) → AllByRecursion (λ x. ¬ (P x)) p
    → AllByRecursion (λ x. ¬ (P x)) q → P b → P c → p ++ (b ∷ s) ≡ q ++ (c ∷ t) → (p ≡ q) × (b ≡ c) × (s ≡ t)
first_with P [] [] b c s t none_p none_q has_b has_c same = (refl, cc, cc)
first_with P [] (x ∷ q) b c s t none_p none_q has_b has_c same = let e : b ≡ x =
    cc in absurd (none_q.0 (subst P e has_b))
first_with P (x ∷ p) [] b c s t none_p none_q has_b has_c same = let e : c ≡ x =
    cc in absurd (none_p.0 (subst P e has_c))
first_with P (x ∷ p) (y ∷ q) b c s t none_p none_q has_b has_c same =
    let rest = first_with P p q b c s t none_p.1 none_q.1 has_b has_c (cc) in
    (cc rest.0, rest.1, rest.2)

pub first_once : (b : ℕ) (p q s t : List ℕ) → Lacks b p → Lacks b q → p ++ (b ∷ s) ≡ q ++ (b ∷ t) → (p ≡ q) × (s ≡ t)
first_once b p q s t lacks_p lacks_q same = let one = first_with (λ c. c ≡ b) p q b b s t lacks_p lacks_q refl refl
    same in (one.0, one.2)

pub record FirstIndex (b : ℕ) (x : List ℕ) : Type 0 where
  pub before : List ℕ
  pub after : List ℕ
  pub here : x ≡ before ++ (b ∷ after)
  pub first : Lacks b before

pub lacks_or_first : (b : ℕ) (x : List ℕ) → Lacks b x ⊎ FirstIndex b x
lacks_or_first b [] = inl tt
lacks_or_first b (c ∷ x) = elim (cases_eq c b) [
  | inl same ↦ inr (record { before = []; after = x; here = ap (λ d. d ∷ x) same; first = tt })
  | inr other ↦ elim (lacks_or_first b x) [
    | inl lacks ↦ inl (other, lacks)
    | inr i ↦
        inr (record { before = c ∷ i.before; after = i.after; here = ap (λ y. c ∷ y) i.here; first = (other, i.first) })
  ]
]

pub last_once : (b : ℕ) (p q s t : List ℕ) → Lacks b s → Lacks b t → p ++ (b ∷ s) ≡ q ++ (b ∷ t) → (p ≡ q) × (s ≡ t)
last_once b [] [] s t lacks_s lacks_t same = (refl, cc)
last_once b [] (c ∷ q) s t lacks_s lacks_t same = let rest : s ≡ q ++ (b ∷ t) =
    cc in absurd (Lacks-here b q t (subst (Lacks b) rest lacks_s))
last_once b (c ∷ p) [] s t lacks_s lacks_t same = let rest : p ++ (b ∷ s) ≡ t =
    cc in absurd (Lacks-here b p s (subst (Lacks b) (sym rest) lacks_t))
last_once b (c ∷ p) (d ∷ q) s t lacks_s lacks_t same =
    let rest = last_once b p q s t lacks_s lacks_t (cc) in
    (cc rest.0, rest.1)

abbrev pub LastIndex : ℕ → List ℕ → Type 0
LastIndex b x = (before : List ℕ) × (after : List ℕ) × (x ≡ before ++ (b ∷ after)) × Lacks b after

pub lacks_or_last : (b : ℕ) (x : List ℕ) → Lacks b x ⊎ LastIndex b x
lacks_or_last b [] = inl tt
lacks_or_last b (c ∷ x) = elim (lacks_or_last b x) [
  | inl lacks ↦ elim (cases_eq c b) [
    | inl same ↦ inr ([], x, ap (λ d. d ∷ x) same, lacks)
    | inr other ↦
        inl (other, lacks)
  ]
  | inr (before, after, here, last) ↦ inr (c ∷ before, after, ap (λ y. c ∷ y) here, last)
]
