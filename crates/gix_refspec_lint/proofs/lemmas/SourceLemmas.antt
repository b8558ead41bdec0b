-- The sources from which a spec can write a destination.
use Rattle.gix_refspec_lint.proofs.Common.{◌≡◌, inl, inr, ℕ, zero, List, [], ◌∷◌, ◌++◌, codes, Option, Some, map}
use Rattle.gix_refspec_lint.proofs.Common.{length, refl, sym, ap, ◌∙◌, subst, arith, Contains, same_Some, MatchesAs}
use Rattle.gix_refspec_lint.proofs.Common.{Ref, SideKind, pattern, full_name, object, partial, HasKind, Fits}
use Rattle.gix_refspec_lint.proofs.Common.{candidates, filled, IsAccepted, Reading, star, HasStar, IsSplit, BeginsWith}
use Rattle.gix_refspec_lint.proofs.Common.{Lacks, lacks_no_pattern, one_word, IsFilled, Source, name, id, start_of}
use Rattle.gix_refspec_lint.proofs.Common.{matches_as, one_kind, MakesForward, sides_agree, IsCompleted}
use Rattle.gix_refspec_lint.proofs.Common.{completed_destination, far_there, written_below, candidate_contained}
use Rattle.gix_refspec_lint.proofs.Common.{HasSourcePattern, mapped_there, ◌⊎◌, IsCandidate}
use Rattle.gix_refspec_lint.proofs.lemmas.PatternLemmas.{maps_pattern}
use Rattle.gix_refspec_text.proofs.lemmas.texts.TextLemmas.{Lacks-ContainsText}
use Rattle.gix_refspec_match.specs.declared.types.SourceRef.{SourceRef}

pub destination_made : (refs : List Ref) (s : Source) (d : List ℕ) (c : Reading) → MakesForward refs s (Some d) c
    → (e : List ℕ) × (word : Option (List ℕ)) × (c.destination ≡ Some e) × IsFilled (Some e) word (Some d)
destination_made refs (name n) d c makes = grind (arith, far_there)
destination_made refs (id bytes) d c makes = grind (arith, far_there)

-- a completed one without a star is written as it is
pub plain_made : (r c : Reading) (e : List ℕ) → IsCompleted r c → c.destination ≡ Some e → Lacks star e
    → (refs : List Ref) (s : Source) (d : List ℕ) → MakesForward refs s (Some d) c → d ≡ e
plain_made r c e done has lacks refs s d makes =
    let (f, word, is, (kind, of, becomes)) = destination_made refs s d c makes in
    let same : f ≡ e = same_Some _ _ (sym is ∙ has) in
    let (x, was, shape) = completed_destination r.destination c.destination e done.destination has in
    let below : BeginsWith (codes "refs/") e =
    elim shape [
      | inl one ↦ absurd (Lacks-ContainsText star e lacks (subst HasStar one.1 one.0))
      | inr none ↦
          subst (BeginsWith (codes "refs/")) none.1 (written_below x)
    ] in
    let kinds : kind ≡ full_name e = one_kind e kind (full_name e) (subst (λ x. HasKind x kind) same of)
    (refl, lacks, below) in
    same_Some _ _ (becomes ∙ ap (λ k. Some (filled k word)) kinds)

-- ---- sources without a star

pub source_unsplit : (r : Reading) (e : List ℕ) → ∥ IsAccepted r ∥₁ → r.destination ≡ Some e → Lacks star e
    → (x before after : List ℕ) → r.source ≡ Some x → ¬ (IsSplit before after x)
source_unsplit r e accepted has lacks x before after source split =
    elim ((sides_agree r accepted).both x e source has) [
      | inl both ↦ lacks_no_pattern e both.1.0 both.1.1 lacks both.1.2
      | inr none ↦ lacks_no_pattern x before after none.0 split
    ]

-- a spec takes a ref as the kind of its source says
pub taken_as : (r : Reading) (x : List ℕ) (kind : SideKind) → r.source ≡ Some x → HasKind x kind
    → (refs : List Ref) (n : List ℕ) (d : Option (List ℕ)) (makes : MakesForward refs (name n) d r)
    → MatchesAs kind makes.one.1 makes.one.4.word
taken_as r x kind source of refs n d makes = grind (arith, matches_as, same_Some)

-- what it takes fits its pattern, is its source, or is one of its candidates
pub taken_cases : (r : Reading) (refs : List Ref) (n : List ℕ) (d : Option (List ℕ))
    (makes : MakesForward refs (name n) d r)
    → ((p : List ℕ) × (t : List ℕ) × IsSplit p t makes.ends.near)
    ⊎ ((n ≡ makes.ends.near) ⊎ IsCandidate makes.ends.near n)
taken_cases r refs n d makes =
    (elim makes.one.4.takes.matches.kind as (λ kind. HasKind makes.ends.near kind
    → MatchesAs kind makes.one.1 makes.one.4.word
    → ((p : List ℕ) × (t : List ℕ) × IsSplit p t makes.ends.near)
    ⊎ ((n ≡ makes.ends.near) ⊎ IsCandidate makes.ends.near n)) [
      | pattern p t ↦ λ of holds. inl (p, t, of)
      | full_name m ↦ λ of holds. inr (inl (sym makes.one.4.name ∙ holds.1 ∙ of.0))
      | object bytes ↦ λ of holds. absurd (makes.has.no_object bytes of)
      | partial m ↦
          λ of holds. inr
          (inr (subst (IsCandidate makes.ends.near) makes.one.4.name
          (subst (λ y. IsCandidate y makes.one.1.name) of.0 holds.1)))
    ]) makes.one.4.takes.matches.of makes.one.4.takes.matches.is

-- the sources for which the side x of this kind may stand, if it is no pattern
abbrev pub AreSourcesAs : List ℕ → SideKind → List Source → Type 0
AreSourcesAs x (pattern before after) sources = Unit {0}
AreSourcesAs x (full_name n) sources = sources ≡ name x ∷ []
AreSourcesAs x (object bytes) sources = sources ≡ id bytes ∷ []
AreSourcesAs x (partial n) sources = sources ≡ map name (candidates n)

pub sources_there : (r : Reading) (x : List ℕ) → r.source ≡ Some x → (refs : List Ref) (d : Option (List ℕ))
    (kind : SideKind) (sources : List Source) → HasKind x kind
    → ((before after : List ℕ) → ¬ (IsSplit before after x)) → AreSourcesAs x kind sources → (s : Source)
    → MakesForward refs s d r → Contains sources s
sources_there r x source refs d kind sources of unsplit are (id bytes) makes =
    let kinds = one_kind x kind (object bytes) of
    (subst (λ y. HasKind y (object bytes)) (same_Some _ _ (sym makes.side ∙ source)) makes.object) in
    rw (subst (λ k. AreSourcesAs x k sources) kinds are) (zero, omega arith, refl)
sources_there r x source refs d (pattern before after) sources of unsplit are (name n) makes =
    absurd (unsplit before after of)
sources_there r x source refs d (full_name m) sources of unsplit are (name n) makes =
    rw are (
      zero,
      omega arith,
      ap name (sym of.0 ∙ sym (taken_as r x (full_name m) source of refs n d makes).1
          ∙ makes.one.4.name),
    )
sources_there r x source refs d (object bytes) sources of unsplit are (name n) makes =
    absurd (makes.has.no_object bytes
    (subst (λ y. HasKind y (object bytes)) (same_Some _ _ (sym source ∙ makes.has.near)) of))
sources_there r x source refs d (partial m) sources of unsplit are (name n) makes =
    rw are (mapped_there name (candidates m) n
    (subst (Contains (candidates m)) makes.one.4.name
    (candidate_contained m _ (taken_as r x (partial m) source of refs n d makes).1)))

pub only_pushed : (old new : List SourceRef) (s : SourceRef) (t : Source) → old ≡ [] → new ≡ old ++ s ∷ []
    → start_of s ≡ t → map start_of new ≡ t ∷ []
only_pushed old new s t none made is = ap (map start_of) (made ∙ ap (λ l. l ++ s ∷ []) none) ∙ ap (λ v. v ∷ []) is

pub none_contained : {X : Type 0} {l : List X} (x : X) → l ≡ [] → ¬ (Contains l x)
none_contained x none (k, below, is) = let long = ap length none in omega (arith, below, long)

pub pattern_there : (c : Reading) → ∥ IsAccepted c ∥₁ → (d a b : List ℕ) → c.destination ≡ Some d → IsSplit a b d
    → (prefix suffix : List ℕ) → HasSourcePattern c prefix suffix → (n w : List ℕ) → Fits a b n w
    → (refs : List Ref) (s : Source) → MakesForward refs s (Some n) c → s ≡ name (prefix ++ (w ++ suffix))
pattern_there c accepted d a b has split prefix suffix source n w fits refs s makes =
    let m = maps_pattern c accepted d a b has split refs s n makes in
    let same : m.side.text ≡ source.text = same_Some _ _ (sym m.side.has ∙ source.has) in
    let kinds : pattern m.before m.after ≡ pattern prefix suffix = one_kind source.text (pattern m.before m.after)
    (pattern prefix suffix) (subst (IsSplit m.before m.after) same m.side.split) source.split in
    let words : m.word ≡ w = one_word a b n m.word w m.fits fits in
    cc (m.source)
