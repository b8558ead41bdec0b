-- The refs that a branch may merge.
use Rattle.gix_refspec_lint.proofs.Common.{◌≡◌, ◌⊎◌, inl, inr, ℕ, zero, ◌+◌, ◌<◌, List, [], ◌∷◌, ◌++◌, length, map}
use Rattle.gix_refspec_lint.proofs.Common.{map-append, get_or, take, take_more, refl, sym, subst, arith, Contains}
use Rattle.gix_refspec_lint.proofs.Common.{Contains-append_left, Contains-append_right, Contains-push_cases, candidates}
use Rattle.gix_refspec_lint.proofs.Common.{Source, name, merged_text}
use Rattle.bstr.specs.{BStr.bstr_bytes, declared.bstr.BStr.BStr}
use Rattle.gix_refspec_lint.specs.Private.Idles.{AddsMergedRefs, AreMergedRefs, AreValidOf}

-- now has the old sources, and those of the names
pub record AddsNames (names : List (List ℕ)) (old now : List Source) : Type 0 where
  pub keeps : (s : Source) → Contains old s → Contains now s
  pub adds : (n : List ℕ) → Contains names n → Contains now (name n)
  pub only : (s : Source) → Contains now s → Contains old s ⊎ ((n : List ℕ) × (s ≡ name n) × Contains names n)

pub adds_next : (names : List (List ℕ)) (n : List ℕ) (old now new : List Source) → new ≡ now ++ name n ∷ []
    → AddsNames names old now → AddsNames (names ++ n ∷ []) old new
adds_next names n old now new is so_far =
    let last : Contains (now ++ name n ∷ []) (name n) = Contains-append_right now (name n ∷ []) (name n)
    (zero, omega arith, refl) in
    rw is (record {
      keeps = λ s has. Contains-append_left now (name n ∷ []) s (so_far.keeps s has);
      adds = λ m has. elim (Contains-push_cases names n m has) [
        | inl earlier ↦ Contains-append_left now (name n ∷ []) (name m) (so_far.adds m earlier)
        | inr same ↦ subst (λ x. Contains (now ++ name n ∷ []) (name x)) same last
      ];
      only = λ s has. elim (Contains-push_cases now (name n) s has) [
        | inl earlier ↦ elim (so_far.only s earlier) [
          | inl before ↦ inl before
          | inr (m, is, there) ↦ inr
              (m, is, Contains-append_left names (n ∷ []) m there)
        ]
        | inr same ↦ inr (n, sym same, Contains-append_right names (n ∷ []) n (zero, omega arith, refl))
      ];
    })

-- where the names are the valid candidates of a value, these are added
pub merged_of : (value : List ℕ) (all valid : List (List ℕ)) (old now : List Source)
    → all ≡ candidates (merged_text value) → AreValidOf all valid → AddsNames valid old now
    → AddsMergedRefs value old now
merged_of value all valid old now same are added = record {
  keeps = added.keeps;
  adds = λ n has good. added.adds n (are.has n (subst (λ l. Contains l n) (sym same) has) good);
  only = λ s has. elim (added.only s has) [
    | inl before ↦ inl before
    | inr (n, is, there) ↦ let (listed, good) = are.only n there in inr
        (n, is, subst (λ l. Contains l n) same listed, good)
  ];
}

pub merges_next : (merges : List (List ℕ)) (value : List ℕ) (old now : List Source) → AreMergedRefs merges old
    → AddsMergedRefs value old now → AreMergedRefs (merges ++ value ∷ []) now
merges_next merges value old now so_far added = record {
  has = λ n m. elim (Contains-push_cases merges value m.value m.has) [
    | inl earlier ↦ added.keeps (name n)
        (so_far.has n (record { value = m.value; has = earlier; candidate = m.candidate; valid = m.valid }))
    | inr same ↦ added.adds n (subst (λ v. Contains (candidates (merged_text v)) n) (sym same) m.candidate) m.valid
  ];
  only = λ s has. elim (added.only s has) [
    | inl before ↦ let (n, is, m) = so_far.only s before in (
      n,
      is,
      record {
        value = m.value;
        has = Contains-append_left merges (value ∷ []) m.value m.has;
        candidate = m.candidate;
        valid = m.valid;
      },
    )
    | inr (n, is, listed, good) ↦ (
      n,
      is,
      record {
        value = value;
        has = Contains-append_right merges (value ∷ []) value (zero, omega arith, refl);
        candidate = listed;
        valid = good;
      },
    )
  ];
}

pub merges_at : (xs : List BStr) (i : ℕ) (d : BStr) (value : List ℕ) (old now : List Source) → i < length xs
    → value ≡ bstr_bytes (get_or xs i d) → AreMergedRefs (map bstr_bytes (take i xs)) old
    → AddsMergedRefs value old now → AreMergedRefs (map bstr_bytes (take (i + 1) xs)) now
merges_at xs i d value old now below is so_far added =
    rw (take_more xs i d below, map-append bstr_bytes (take i xs) (get_or xs i d ∷ []))
    (merges_next (map bstr_bytes (take i xs)) (bstr_bytes (get_or xs i d)) old now so_far
    (subst (λ v. AddsMergedRefs v old now) is added))
