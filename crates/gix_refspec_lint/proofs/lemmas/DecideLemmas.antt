-- The names that decide show what a spec with a source pattern maps soundly.
use Rattle.gix_refspec_lint.proofs.Common.{append_assoc, ◌≡◌, ◌≢◌, ◌⊎◌, inl, inr, ℕ, List, [], ◌∷◌, ◌++◌, Option, None}
use Rattle.gix_refspec_lint.proofs.Common.{Some, refl, sym, ap, ◌∙◌, subst, AllByRecursion, Ref, HasName, Fits, Reading}
use Rattle.gix_refspec_lint.proofs.Common.{IsSplit, Lacks, all_join, all_right, name, MakesForward, IsRefName}
use Rattle.gix_refspec_lint.proofs.Common.{CanBeWritten, IsFree, IsDeciding, IsLongerPrefix, IsLongerSuffix, IsMost}
use Rattle.gix_refspec_lint.proofs.Common.{words_with, MakesSoundly}
use Rattle.gix_refspec_lint.proofs.lemmas.MovedLemmas.{lacks_parts, regroup, word_or_moved}
use Rattle.gix_refspec_lint.proofs.lemmas.PatternLemmas.{HasShape, PatternSpec, spec_made, spec_maps}
use Rattle.gix_refspec_lint.proofs.lemmas.WordLemmas.{Around, IsRefAround, between, common_name, within}

-- the destination has the byte in place of the word, or there is none
abbrev pub IsMovedFar : ℕ → Reading → List ℕ → List ℕ → Option (List ℕ) → Option (List ℕ) → Type 0
IsMovedFar z c prefix word d e =
    ((d ≡ None) × (e ≡ None))
    ⊎ ((f : List ℕ) × (l : List ℕ) × (d ≡ Some (f ++ (word ++ l))) × (e ≡ Some (f ++ (z ∷ l)))
    × (Lacks z prefix → ((x a b : List ℕ) → c.destination ≡ Some x → IsSplit a b x → Lacks z x) → Lacks z f))

-- the name n and the destination e have the byte in place of a word of m and d
pub record IsMoved (z : ℕ) (c : Reading) (prefix m n : List ℕ) (d e : Option (List ℕ)) : Type 0 where
  pub front : List ℕ
  pub back : List ℕ
  pub word : List ℕ
  pub was : m ≡ front ++ (word ++ back)
  pub is : n ≡ front ++ (z ∷ back)
  pub lacks : Lacks z prefix → Lacks z front
  pub far : IsMovedFar z c prefix word d e

-- a name that decides, fits a pattern, and is mapped soundly: m itself, or moved from it
pub record Decided (z : ℕ) (c : Reading) (a b prefix suffix : List ℕ) (most : ℕ) (m : List ℕ) (d : Option (List ℕ)) :
    Type 0 where
  pub source : List ℕ
  pub destination : Option (List ℕ)
  pub deciding : IsDeciding (words_with z) prefix suffix most source
  pub word : List ℕ
  pub fits : Fits a b source word
  pub sound : (few : List Ref) → HasName few source → MakesSoundly few (name source) destination c
  pub moved : ((source ≡ m) × (destination ≡ d)) ⊎ IsMoved z c prefix m source d destination

module _ (g : List Reading) (z : ℕ) (free : IsFree g z) (c : Reading) (p t : List ℕ) (spec : PatternSpec c p t) where
  abbrev around_far : HasShape c spec.far → List ℕ → List ℕ → List Around
  around_far (inl none) x y = []
  around_far (inr far) x y = record { front = far.before ++ x; back = y ++ far.after } ∷ []

  valid_far : (shape : HasShape c spec.far) (x v y : List ℕ) → CanBeWritten (spec.far (x ++ (v ++ y)))
      → AllByRecursion (IsRefAround v) (around_far shape x y)
  valid_far (inl none) x v y allowed = tt
  valid_far (inr far) x v y allowed = (rw (between far.before x v y far.after) (inl (rw far.is at allowed)), tt)

  written_far : (shape : HasShape c spec.far) (x v y : List ℕ)
      → AllByRecursion (λ t. CanBeWritten (Some (t.front ++ (v ++ t.back)))) (around_far shape x y)
      → CanBeWritten (spec.far (x ++ (v ++ y)))
  written_far (inl none) x v y all = rw (none (x ++ (v ++ y))) tt
  written_far (inr far) x v y all = rw (far.is (x ++ (v ++ y)), ← between far.before x v y far.after) all.0

  moved_far : (shape : HasShape c spec.far) (prefix x e rest y : List ℕ) → prefix ≡ p ++ x → Lacks z e
      → IsMovedFar z c prefix rest (spec.far (x ++ ((e ++ rest) ++ y))) (spec.far (x ++ ((e ++ z ∷ []) ++ y)))
  moved_far (inl none) prefix x e rest y before also = inl (none _, none _)
  moved_far (inr far) prefix x e rest y before also = inr (
    (far.before ++ x) ++ e,
    y ++ far.after,
    far.is _ ∙ ap Some (regroup far.before x e rest y far.after),
    far.is _ ∙ ap Some (regroup far.before x e (z ∷ []) y far.after),
    λ lacks others. all_join (λ k. k ≢ z) (far.before ++ x) e
        (all_join (λ k. k ≢ z) far.before x
        (lacks_parts g z free far.side _ _ (others far.side far.before far.after far.has far.split) far.split).0
        (all_right (λ k. k ≢ z) p x (subst (Lacks z) before lacks))) also,
  )

  module _ (a b prefix suffix : List ℕ) (most : ℕ) (longer : IsLongerPrefix a p prefix)
      (ends : IsLongerSuffix b t suffix) (is_most : IsMost a b p t prefix suffix most) (refs : List Ref) (m : List ℕ)
      (d : Option (List ℕ)) (v : List ℕ) (fits : Fits a b m v) (makes : MakesSoundly refs (name m) d c) where
    -- with each word it maps the name with that word soundly, if the sides are valid
    with_word : (n u w : List ℕ) → n ≡ p ++ (w ++ t) → IsDeciding (words_with z) prefix suffix most n → Fits a b n u
        → IsRefName n → CanBeWritten (spec.far w)
        → ((n ≡ m) × (spec.far w ≡ d)) ⊎ IsMoved z c prefix m n d (spec.far w) → Decided z c a b prefix suffix most m d
    with_word n u w at deciding fits named written moved = record {
      source = n;
      destination = spec.far w;
      deciding = deciding;
      word = u;
      fits = fits;
      sound = λ few has. record {
        makes = subst (λ o. MakesForward few (name o) (spec.far w) c) (sym at)
            (spec_maps c p t spec few w (subst (HasName few) at has));
        source = named;
        destination = written;
      };
      moved = moved;
    }

    pub decide : Decided z c a b prefix suffix most m d
    decide =
        let (w, source, far, there) = spec_made c p t spec refs m d makes.makes in
        let itself : IsDeciding (words_with z) prefix suffix most m → Decided z c a b prefix suffix most m d =
        λ deciding.
        with_word m v w source deciding fits makes.source (subst CanBeWritten far makes.destination)
        (inl (refl, sym far)) in
        elim (common_name (words_with z) a b p t prefix suffix most m v w longer ends is_most fits source) [
          | inr deciding ↦ itself deciding
          | inl q ↦ elim (word_or_moved g z free q.word
              (record { front = prefix; back = suffix } ∷ around_far spec.shape q.p q.q) (
                subst IsRefName q.whole makes.source,
                valid_far spec.shape q.p q.word q.q (subst CanBeWritten (far ∙ ap spec.far q.other) makes.destination),
              )) [
                | inl listed ↦ itself (inl (q.word, listed, q.whole))
                | inr h ↦
                    let u = h.ending ++ z ∷ [] in
                    let far_is : d ≡ spec.far (q.p ++ ((h.ending ++ h.rest) ++ q.q)) = far
                    ∙ ap spec.far (q.other ∙ ap (λ o. q.p ++ (o ++ q.q)) h.is) in
                    with_word (prefix ++ (u ++ suffix)) (q.x ++ (u ++ q.y)) (q.p ++ (u ++ q.q))
                    (within p t prefix suffix q.p q.q u q.front q.back) (inl (u, h.listed, refl))
                    (within a b prefix suffix q.x q.y u q.before q.after) (inl h.written.0)
                    (written_far spec.shape q.p u q.q h.written.1) (inr (record {
                      front = prefix ++ h.ending;
                      back = suffix;
                      word = h.rest;
                      was = q.whole ∙ ap (λ o. prefix ++ (o ++ suffix)) h.is ∙ simp append_assoc;
                      is = simp append_assoc;
                      lacks = λ lacks. all_join (λ k. k ≢ z) prefix h.ending lacks h.lacks;
                      far = subst (λ o. IsMovedFar z c prefix h.rest o (spec.far (q.p ++ (u ++ q.q)))) (sym far_is)
                          (moved_far spec.shape prefix q.p h.ending h.rest q.q q.front h.lacks);
                    }))
              ]
        ]
