-- What a spec makes of a name before the other specs have a say. Only private functions use these definitions.
use Rattle.std.specs.Prelude.{◌≡◌, ◌≢◌, ◌++◌, ◌∷◌, ℕ, List, [], Option, None, Some, MatchOption, take}
use Rattle.std.specs.Borrow.{Bor}
use Rattle.std.specs.BTreeMap.{BTreeMap, get_by}
use Rattle.std.specs.Cmp.Lexicographic.{slice_cmp}
use Rattle.std.specs.List.{AllByRecursion, AllZip}
use Rattle.std.specs.Ordering.{nat_cmp}
use Rattle.gix_refspec_text.specs.Specs.Reading.{Reading}
use Rattle.gix_refspec_text.specs.Matching.Side.{HasKind, IsCandidate, partial}
use Rattle.gix_refspec_text.specs.Matching.Match.{Ref, IsFirstCandidate}
use Rattle.gix_refspec_match.specs.Matching.Mappings.{name}
use Rattle.gix_refspec_match.specs.Views.Mapping.{mapped_of}
use Rattle.gix_refspec_why.specs.declared.Fate.{Fate}
use Rattle.gix_refspec_why.specs.declared.Fate.TheVariants as fate
use Rattle.gix_refspec_why.specs.declared.attempts.Attempt.{Attempt}
use Rattle.gix_refspec_why.specs.declared.attempts.Attempt.TheVariants as attempt
use Rattle.gix_refspec_why.specs.declared.attempts.Makers.{Makers}
use Rattle.gix_refspec_why.specs.Matching.Why.{AreEach, ExcludesWith, IsFirstNamed, IsFirstWith, MapsTo, Misses}

-- the index of the first element of which P holds, or none
abbrev pub FirstOf : {X : Type 0} → (X → Type 0) → List X → Option ℕ → Type 0
FirstOf {X} P l found = MatchOption found (AllByRecursion (λ x. ¬ (P x)) l)
    (λ k. (x : X) × IsFirstWith P l k x)

-- all is the refs with one more at the end, of the name n
abbrev pub EndsWithName : List Ref → List ℕ → List Ref → Type 0
EndsWithName refs n all = (r : Ref) × (r.name ≡ n) × (all ≡ refs ++ r ∷ [])

-- each name has the index of the first of the refs with it, and none where no ref has it
abbrev pub NamesFirst : List Ref → BTreeMap (Bor (List ℕ)) ℕ → Type 0
NamesFirst refs firsts = (n : List ℕ) → FirstOf (λ r. r.name ≡ n) refs (get_by (λ k. slice_cmp nat_cmp n k.now) firsts)

-- the reading has a partial name as its source, this one
pub record HasPartial (r : Reading) (x : List ℕ) : Type 0 where
  pub source : r.source ≡ Some x
  pub kind : HasKind x (partial x)

-- the name n is a candidate of the source, if that is a partial name
abbrev pub AreCandidatesOf : Reading → List ℕ → Type 0
AreCandidatesOf r n = (x : List ℕ) → HasPartial r x → IsCandidate x n

-- the name n is the first candidate of the source among the refs, if that is a partial name
abbrev pub TakesFirstCandidate : List Ref → Reading → List ℕ → Type 0
TakesFirstCandidate refs r n = (x : List ℕ) → HasPartial r x → IsFirstCandidate refs x n

-- the source is a partial name, and its first candidate among the refs isn't n. The first ref with that name is at
-- index i
pub record HasEarlierCandidate (refs : List Ref) (r : Reading) (n : List ℕ) (i : ℕ) : Type 0 where
  pub x : List ℕ
  pub source : HasPartial r x
  pub other : List ℕ
  pub first : IsFirstCandidate refs x other
  pub differ : other ≢ n
  pub at : IsFirstNamed refs other i

-- the reading doesn't map the name n, for this reason
abbrev pub HasOwnFate : List Ref → Reading → List ℕ → Fate → Type 0
HasOwnFate refs r n (fate.Unmatched m) = Misses refs r n m
HasOwnFate refs r n (fate.Excludes word) = ExcludesWith r n word
HasOwnFate refs r n (fate.Excluded by) = ⊥
HasOwnFate refs r n fate.InvalidName = ⊥
HasOwnFate refs r n fate.InvalidDestination = ⊥
HasOwnFate refs r n (fate.Duplicate j) = ⊥
HasOwnFate refs r n (fate.InConflict rival) = ⊥
HasOwnFate refs r n (fate.DirectoryConflict rival) = ⊥
HasOwnFate refs r n fate.Written = ⊥

-- what the reading makes of the name n
abbrev pub IsAttempt : List Ref → Reading → List ℕ → Attempt → Type 0
IsAttempt refs r n (attempt.Stops f) = HasOwnFate refs r n f
IsAttempt refs r n (attempt.Maps m) =
    ((mapped_of m).source ≡ name n) × MapsTo refs n (mapped_of m).destination r

-- and what each of the readings does
abbrev pub AreAttempts : List Reading → List Ref → List ℕ → List Attempt → Type 0
AreAttempts g refs n attempts = AllZip (λ r a. IsAttempt refs r n a) g attempts

-- the attempt maps the name to the destination
abbrev pub AttemptsTo : Option (List ℕ) → Attempt → Type 0
AttemptsTo d (attempt.Stops f) = ⊥
AttemptsTo d (attempt.Maps m) = (mapped_of m).destination ≡ d

-- for each of the attempts that maps the name, the first of all that does so to the same destination, before it
abbrev pub FindsEarlierIn : List Attempt → List Attempt → List (Option ℕ) → Type 0
FindsEarlierIn all attempts earlier = AreEach (λ k a found. (d : Option (List ℕ)) → AttemptsTo d a
    → FirstOf (AttemptsTo d) (take k all) found) attempts earlier

-- so it is with all of them
abbrev pub FindsEarlier : List Attempt → List (Option ℕ) → Type 0
FindsEarlier attempts earlier = FindsEarlierIn attempts attempts earlier

-- the index that is kept for a destination
abbrev pub maker_of : Makers → Option (List ℕ) → Option ℕ
maker_of makers None = makers.without
maker_of makers (Some d) = get_by (λ k. slice_cmp nat_cmp d k.now) makers.by_destination

-- that of each destination is the index of the first attempt to it
abbrev pub AreMakersOf : List Attempt → Makers → Type 0
AreMakersOf attempts makers = (d : Option (List ℕ)) → FirstOf (AttemptsTo d) attempts (maker_of makers d)
