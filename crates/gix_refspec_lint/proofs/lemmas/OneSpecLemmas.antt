-- What one spec maps, and what a group excludes.
use Rattle.gix_refspec_lint.proofs.Common.{all_weaker, ◌≡◌, inl, inr, ◌↔◌, ℕ, List, [], ◌∷◌, Option, None, Some}
use Rattle.gix_refspec_lint.proofs.Common.{MatchOption, map, get_or, length, ◌<◌, refl, sym, ap, ◌∙◌, subst, arith}
use Rattle.gix_refspec_lint.proofs.Common.{AllByRecursion, slice_get, get_or-map, length-map, Ref, IsPositive, Reading}
use Rattle.gix_refspec_lint.proofs.Common.{AreKeptForward, Source, name, id, Mapped, HasPair, IsExcluded, IsExcludedBy}
use Rattle.gix_refspec_lint.proofs.Common.{IsSamePair, IsSourceExcluded, mapped_of, Mapping, MakesForward, kept_exactly}
use Rattle.gix_refspec_lint.proofs.Common.{Bool, true, false, MatchBool, is_some, HaveSameNames, IsValidSource}
use Rattle.gix_refspec_lint.proofs.Common.{CanBeWritten, IsSound, refs_of, ExcludesFrom, MakesSoundly, pair_of, Bor}
use Rattle.gix_refspec_lint.proofs.Common.{IsTrue, nat_eq, pointwise, false≢true, Decides-eqb, same_Some}
use Rattle.gix_refspec_lint.proofs.Common.{slice_eq-Decides, Excludes, Fits, by_pattern, the_name, IsAccepted, Negative}
use Rattle.gix_refspec_lint.proofs.Common.{IsSplit, lacks_no_pattern, split_once, HasSourcePattern, HasParts}
use Rattle.gix_refspec_lint.proofs.lemmas.FoundLemmas.{makes_also, unsplit_lacks}
use Rattle.gix_refspec_lint.proofs.lemmas.IndexLemmas.{made_there, makes_fewer, own_among, own_there}
use Rattle.gix_refspec_match.proofs.lemmas.keep.KeptLemmas.{HasPair-from_place}
use Rattle.gix_refspec_match.specs.Private.Kept.{AreExclusionsAt, AreExclusionsOf, ExcludeName, ExcludeNameAt}
use Rattle.gix_refspec_match.specs.declared.exclusions.Exclusions.{Exclusions}

pub tells_excluding : (g : List Reading) (es : Exclusions) (n : List ℕ) (answer : Option ℕ) → AreExclusionsOf g es
    → AreExclusionsAt g es → MatchOption answer (¬ (ExcludeName es n)) (ExcludeNameAt es n)
    → MatchOption answer (¬ (IsExcluded g n)) (λ k. (x : List ℕ) × (name n ≡ name x)
    × ((r : Reading) × (slice_get g k ≡ Some r) × IsExcludedBy x r))
tells_excluding g es n None are at none = λ by. none ((are n).1 by)
tells_excluding g es n (Some k) are at by = (n, refl, at n k by)

pub makes_positive : (refs : List Ref) (s : Source) (d : Option (List ℕ)) (r : Reading) → MakesForward refs s d r
    → IsPositive r.mode
makes_positive refs (name n) d r makes = makes.has.positive
makes_positive refs (id bytes) d r makes = makes.positive

none_excluded : (r : Reading) (s : Source) → IsPositive r.mode → ¬ (IsSourceExcluded (r ∷ []) s)
none_excluded r (name n) positive by = elim by [ inl one ↦ subst IsPositive one.negative positive | inr none ↦ none ]
none_excluded r (id bytes) positive none = none

pub kept_alone : (r : Reading) (refs : List Ref) (kept : List Mapped) (pair : Mapped)
    → AreKeptForward (r ∷ []) refs kept → HasPair kept pair ↔ MakesForward refs pair.source pair.destination r
kept_alone r refs kept pair are =
    let exact = (kept_exactly (r ∷ []) refs).forward kept are pair in (
      (λ has. let (k, q, below, is, makes) = (exact.0 has).0 in let first : k ≡ 0 = omega (arith, below) in subst
          (MakesForward refs pair.source pair.destination) (sym (rw first at is)) makes),
      (λ makes. exact.1 (
        (0, r, omega arith, refl, makes),
        none_excluded r pair.source (makes_positive refs pair.source pair.destination r makes),
      )),
    )

pub none_paired : (l : List Mapped) (pair : Mapped) → AllByRecursion (λ m. ¬ (IsSamePair m pair)) l → ¬ (HasPair l pair)
none_paired [] pair all has = has
none_paired (m ∷ l) pair all (inl same) = all.0 same
none_paired (m ∷ l) pair all (inr later) = none_paired l pair all.1 later

pub pair_there : (l : List Mapping) (k : ℕ) (m : Mapping) (pair : Mapped) → k < length l → m ≡ get_or l k m
    → IsSamePair (mapped_of m) pair → HasPair (map mapped_of l) pair
pair_there l k m pair below is same =
    HasPair-from_place (map mapped_of l) k (mapped_of m) pair (omega (arith, below, length-map l mapped_of))
    (subst (λ x. IsSamePair x pair) (ap mapped_of is ∙ sym (get_or-map mapped_of l k m (mapped_of m) below)) same)

-- ---- the sound mappings of one spec

pub sound_there : (c : Reading) (refs : List Ref) (l : List Mapping) (k : ℕ) (m : Mapping) (s : Source)
    → AreKeptForward (c ∷ []) refs (map mapped_of l) → k < length l → m ≡ get_or l k m
    → (mapped_of m).source ≡ s → IsSound (mapped_of m) → MakesSoundly refs s (mapped_of m).destination c
sound_there c refs l k m s kept below is same sound =
    let has = pair_there l k m (mapped_of m) below is (record { source = refl; destination = refl }) in
    let makes = subst (λ t. MakesForward refs t (mapped_of m).destination c) same
    ((kept_alone c refs (map mapped_of l) (mapped_of m) kept).0 has) in
    record { makes = makes; source = subst IsValidSource same sound.source; destination = sound.destination }

pub none_sound : (c : Reading) (refs : List Ref) (kept : List Mapped) (s : Source) → AreKeptForward (c ∷ []) refs kept
    → AllByRecursion (λ m. m.source ≡ s → ¬ (IsSound m)) kept
    → (d : Option (List ℕ)) → ¬ (MakesSoundly refs s d c)
none_sound c refs kept s are all d makes =
    none_paired kept (pair_of s d) (all_weaker (λ m. m.source ≡ s → ¬ (IsSound m)) (λ m. ¬ (IsSamePair m (pair_of s d)))
    (λ m none same. none same.source
    (record {
      source = subst IsValidSource (sym same.source) makes.source;
      destination =
          subst CanBeWritten (sym same.destination) makes.destination;
    }))
    kept all) ((kept_alone c refs kept (pair_of s d) are).1 makes.makes)

sound_also : (A B : List Ref) (s : Source) (d : Option (List ℕ)) (c : Reading) → HaveSameNames A B
    → MakesSoundly A s d c → MakesSoundly B s d c
sound_also A B s d c same makes = record {
  makes = makes_also A B s d c same makes.makes;
  source = makes.source;
  destination = makes.destination;
}

-- what a search for a sound mapping says of refs of these names
pub alone_told : (refs few : List Ref) (s : Source) (c : Reading) (found : Option Mapping) → HaveSameNames refs few
    → MatchOption found ((d : Option (List ℕ)) → ¬ (MakesSoundly refs s d c))
    (λ m. MakesSoundly refs s (mapped_of m).destination c)
    → MatchBool (is_some found) ((d : Option (List ℕ)) × MakesSoundly few s d c)
    ((d : Option (List ℕ)) → ¬ (MakesSoundly few s d c))
alone_told refs few s c None same none = λ d makes. none d (sound_also few refs s d c (sym same) makes)
alone_told refs few s c (Some m) same makes =
    ((mapped_of m).destination, sound_also refs few s (mapped_of m).destination c same makes)

-- a negative spec that excludes the source excludes what is mapped
pub excludes_told : (n c : Reading) (s : Source) (b : Bool) → IsSourceExcluded (n ∷ []) s
    → MatchBool b ((d : Option (List ℕ)) × MakesSoundly (refs_of s) s d c)
    ((d : Option (List ℕ)) → ¬ (MakesSoundly (refs_of s) s d c))
    → MatchBool b (ExcludesFrom n c s) (¬ (ExcludesFrom n c s))
excludes_told n c s true by (d, makes) = record { refs = refs_of s; destination = d; makes = makes; excludes = by }
excludes_told n c s false by none = grind (arith, makes_fewer, own_among, made_there, own_there)

-- ---- what a negative spec excludes

pub fits_excluded : (x before after n : List ℕ) → IsSplit before after x → Excludes x n → (w : List ℕ)
    × Fits before after n w
fits_excluded x before after n split (the_name lacks same) = absurd (lacks_no_pattern x before after lacks split)
fits_excluded x before after n split (by_pattern front back w parts fits) =
    let both = split_once x front back before after parts split in
    (w, subst (λ a. Fits a after n w) both.0 (subst (λ b. Fits front b n w) both.1 fits))

pub own_name : (x n : List ℕ) → ((before after : List ℕ) → ¬ (IsSplit before after x)) → Excludes x n → x ≡ n
own_name x n none (the_name lacks is) = sym is
own_name x n none (by_pattern before after word split fits) = absurd (none before after split)

pub parts_pattern : (r : Reading) (parts : Bor (List ℕ) × Bor (List ℕ)) → HasParts r.source (Some parts)
    → HasSourcePattern r parts.0.now parts.1.now
parts_pattern r parts (x, has, split) = record { text = x; has = has; split = split }

module _ (r : Reading) (x : List ℕ) (negative : r.mode ≡ Negative) (has : r.source ≡ Some x) (n : List ℕ) where
  pub text_excludes : IsSourceExcluded (r ∷ []) (name n) → Excludes x n
  text_excludes (inl by) = subst (λ y. Excludes y n) (same_Some _ _ (sym by.source ∙ has)) by.excludes
  text_excludes (inr none) = absurd none

  pub excludes_by : Excludes x n → IsSourceExcluded (r ∷ []) (name n)
  excludes_by excludes = inl (record { negative = negative; text = x; source = has; excludes = excludes })

  pub plain_excludes : (b : Bool) → ∥ IsAccepted r ∥₁
      → ((y before after : List ℕ) → Some x ≡ Some y → ¬ (IsSplit before after y)) → (b ≡ true) ↔ (x ≡ n)
      → IsTrue b ↔ IsSourceExcluded (r ∷ []) (name n)
  plain_excludes b accepted none same =
      let unsplit : (before after : List ℕ) → ¬ (IsSplit before after x) = λ before after. none x before after refl in (
        (λ told. excludes_by (the_name (unsplit_lacks r accepted x (inl has) unsplit) (sym (same.0 told)))),
        λ by. same.1 (own_name x n unsplit (text_excludes by)),
      )

  pub pattern_excludes : (before after : List ℕ) (word : Option (Bor (List ℕ)))
      → ((y : List ℕ) × (Some x ≡ Some y) × IsSplit before after y)
      → MatchOption word ((w : List ℕ) → ¬ (Fits before after n w)) (λ w. Fits before after n w.now)
      → IsTrue (is_some word) ↔ IsSourceExcluded (r ∷ []) (name n)
  pattern_excludes before after (Some w) (y, is, split) fits = (
    (λ told. excludes_by (by_pattern before after w.now (subst (IsSplit before after) (sym (same_Some _ _ is)) split)
        fits)),
    (λ by. refl),
  )
  pattern_excludes before after None (y, is, split) none = (
    (λ told. absurd (false≢true told)),
    λ by. let (w, fits) = fits_excluded x before after n
        (subst (IsSplit before after) (sym (same_Some _ _ is)) split) (text_excludes by) in absurd (none w fits),
  )

pub same_bytes : (x y n : List ℕ) {b : Bool} → b ≡ pointwise nat_eq x y → y ≡ n → (b ≡ true) ↔ (x ≡ n)
same_bytes x y n is same = let tells = slice_eq-Decides Decides-eqb x y _ is in
    ((λ told. tells.0 told ∙ same), (λ equal. tells.1 (equal ∙ sym same)))
