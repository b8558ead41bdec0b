-- What exclusions say of a merged ref, and what its upstream is.
use Rattle.gix_refspec_remote.proofs.Common.{◌≡◌, ℕ, List, Option, None, Some, MatchOption, sym, subst, ◌∙◌, refl, inl}
use Rattle.gix_refspec_remote.proofs.Common.{inr, same_Some, slice_get, Reading, lacks_no_pattern, IsSplit, Exclusions}
use Rattle.gix_refspec_remote.proofs.Common.{AreExclusionsAt, AreExclusionsOf, ExcludeName, ExcludeNameAt, AsksFor}
use Rattle.gix_refspec_remote.proofs.Common.{Names, AsksForExcluded, HasAt, HasNo, IsExcludedAt, IsExclusion, IsText}
use Rattle.gix_refspec_remote.proofs.Common.{IsTracked, IsUntracked, IsUpstream, StoresSome, Turns, Upstream, excluded}
use Rattle.gix_refspec_remote.proofs.Common.{Fetches, not_fetched, not_stored, tracked}
use Rattle.gix_refspec_remote.proofs.lemmas.IndexLemmas.{excluded_at}
use Rattle.gix_refspec_remote.proofs.lemmas.WrittenLemmas.{name_once, word_once}

-- a source without a star isn't that of a pattern
names_no_turns : (n s : List ℕ) (r : Reading) → Names n r → ¬ (Turns n s r)
names_no_turns n s r names turns =
    let same : turns.source ≡ n = same_Some _ _ (sym turns.from ∙ names.source) in
    lacks_no_pattern n turns.makes.0 turns.makes.1 names.plain
    (subst (IsSplit turns.makes.0 turns.makes.1) same turns.makes.2)

-- a pattern stores one ref in another
turns_once : (n s t : List ℕ) (r : Reading) → Turns n s r → Turns n t r → s ≡ t
turns_once n s t r a b =
    let to : a.destination ≡ b.destination = same_Some _ _ (sym a.to ∙ b.to) in
    let from : a.source ≡ b.source = same_Some _ _ (sym a.from ∙ b.from) in
    let word = word_once b.destination n (Some a.word) (Some b.word)
    (subst (λ y. IsText y n (Some a.word)) to a.reads) b.reads in
    name_once b.source s t (Some b.word)
    (subst (IsText b.source s) word (subst (λ x. IsText x s (Some a.word)) from a.makes)) b.makes

-- the index of a negative spec that excludes what a spec is asked for, or that there is none
abbrev pub FindsExclusion : Exclusions → List ℕ → Reading → Option ℕ → Type 0
FindsExclusion es n r by = MatchOption by ((s : List ℕ) → AsksFor n s r → ¬ (ExcludeName es s))
    (λ k. (s : List ℕ) × AsksFor n s r × ExcludeNameAt es s k)

-- it is found by the merged ref, if that is the source
pub named_excluded : (es : Exclusions) (n : List ℕ) (r : Reading) → Names n r → (by : Option ℕ)
    → MatchOption by (¬ (ExcludeName es n)) (ExcludeNameAt es n) → FindsExclusion es n r by
named_excluded es n r names None none = λ s asks is. elim asks [
  | inl asked ↦ none (subst (ExcludeName es) asked.1 is)
  | inr turns ↦ names_no_turns n s r names turns
]
named_excluded es n r names (Some k) at = (n, inl (names, refl), at)

-- and otherwise by what a pattern stores there
pub turned_excluded : (es : Exclusions) (n t : List ℕ) (r : Reading) → ¬ (Names n r) → Turns n t r → (by : Option ℕ)
    → MatchOption by (¬ (ExcludeName es t)) (ExcludeNameAt es t) → FindsExclusion es n r by
turned_excluded es n t r other turned None none = λ s asks is. elim asks [
  | inl asked ↦ other asked.0
  | inr turns ↦ none (subst (ExcludeName es) (turns_once n s t r turns turned) is)
]
turned_excluded es n t r other turned (Some k) at = (t, inr turned, at)

-- if neither is so, nothing is asked for
pub nothing_excluded : (es : Exclusions) (n : List ℕ) (r : Reading) → ¬ (Names n r) → ((s : List ℕ) → ¬ (Turns n s r))
    → FindsExclusion es n r None
nothing_excluded es n r other none s asks is = elim asks [ inl asked ↦ other asked.0 | inr turns ↦ none s turns ]

module _ (g : List Reading) (es : Exclusions) (are : AreExclusionsOf g es) (each : AreExclusionsAt g es)
    (n : List ℕ) where
  -- a spec without an exclusion is asked for nothing excluded
  pub included_next : (r : Reading) → FindsExclusion es n r None → ¬ (AsksForExcluded g n r)
  included_next r none asks = none asks.0 asks.1 ((are asks.0).1 asks.2)

  -- the first one with an exclusion has that of the answer
  pub excluded_here : (k by : ℕ) (r : Reading) → slice_get g k ≡ Some r → FindsExclusion es n r (Some by)
      → HasAt g k (AsksForExcluded g n) × HasAt g k (IsExcludedAt g n by)
  excluded_here k by r at found =
      let (q, there, excludes) = each found.0 by found.2 in (
        (r, at, (found.0, found.1, excluded_at g by q found.0 there excludes)),
        (r, at, (found.0, found.1, (q, there, excludes))),
      )

module _ (g : List Reading) (n : List ℕ) where
  -- an exclusion is the answer
  pub exclusion_is : (u : Upstream) → IsExclusion g n u → IsUpstream g n u
  exclusion_is (excluded k by) is = is
  exclusion_is (tracked d k) is = absurd is
  exclusion_is (not_stored k) is = absurd is
  exclusion_is not_fetched is = absurd is

  -- without one, it is the first ref in which a spec stores the merged one
  pub tracked_is : (u : Upstream) → HasNo g (AsksForExcluded g n) → IsTracked g n u → IsUpstream g n u
  tracked_is (excluded k by) free is = absurd is
  tracked_is (tracked d k) free is = (free, is.0, is.1)
  tracked_is (not_stored k) free is = absurd is
  tracked_is not_fetched free is = absurd is

  -- and without that, the first spec that fetches it
  pub untracked_is : (u : Upstream) → HasNo g (AsksForExcluded g n) → HasNo g (StoresSome n) → IsUntracked g n u
      → IsUpstream g n u
  untracked_is (excluded k by) free none is = absurd is
  untracked_is (tracked d k) free none is = absurd is
  untracked_is (not_stored k) free none is = (free, none, is)
  untracked_is not_fetched free none is = (free, is)
