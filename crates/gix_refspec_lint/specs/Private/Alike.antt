-- Specs with the same sides, and what is known of one because of another. Only private functions use these definitions.
use Rattle.std.specs.Prelude.{◌≡◌, ◌⊎◌, ◌↔◌, ◌<◌, ℕ, Bool, false, List, Option, None, Some, get_or, max, IfSome}
use Rattle.std.specs.Prelude.{MatchBool}
use Rattle.std.specs.List.{slice_get}
use Rattle.gix_refspec_lint.specs.declared.Reason.{Reason}
use Rattle.gix_refspec_text.specs.Specs.Reading.{Reading}
use Rattle.gix_refspec_text.specs.Specs.Grammar.{IsPositive}
use Rattle.gix_refspec_text.specs.Matching.Match.{Ref}
use Rattle.gix_refspec_match.specs.Matching.Lists.{IsMadeFrom}
use Rattle.gix_refspec_match.specs.Matching.Mappings.{Source}
use Rattle.gix_refspec_lint.specs.Matching.Lint.{Example, Fetches, IsExample, IsIdleExclusion, IsNesting, Nesting}
use Rattle.gix_refspec_lint.specs.Private.Idles.{IsReasonOf}

-- ---- the same sides

-- both readings are positive, or both are negative, and they have the same sides
pub record HaveSameSides (one other : Reading) : Type 0 where
  pub sign : IsPositive one.mode ↔ IsPositive other.mode
  pub source : one.source ≡ other.source
  pub destination : one.destination ≡ other.destination

-- the reading at index p comes before the one at index k, and has the same sides
pub record IsEarlier (g : List Reading) (k p : ℕ) : Type 0 where
  pub before : p < k
  pub same : (one other : Reading) → slice_get g p ≡ Some one → slice_get g k ≡ Some other → HaveSameSides one other

-- an index that the list has for a reading is that of an earlier one with the same sides
abbrev pub AreEarlier : List Reading → List (Option ℕ) → Type 0
AreEarlier g earlier = (k : ℕ) → IfSome (get_or earlier k None) (IsEarlier g k)

-- ---- pairs of specs

-- behind index i there is an earlier index for j, and its flag is false
pub record IsKnown (earlier : List (Option ℕ)) (flags : List Bool) (i j : ℕ) : Type 0 where
  pub index : ℕ
  pub there : get_or earlier j None ≡ Some index
  pub behind : i < index
  pub flag : slice_get flags index ≡ Some false

-- P holds of no index behind i whose flag is false
abbrev pub AreFlags : (ℕ → Type 0) → ℕ → List Bool → Type 0
AreFlags P i flags = (j : ℕ) → slice_get flags j ≡ Some false → i < j → ¬ (P j)

-- the list has each index of a reading for which P holds, in order
abbrev pub AreIndexesOf : (ℕ → Type 0) → List Reading → List ℕ → Type 0
AreIndexesOf P g list = IsMadeFrom (λ j r s. (s ≡ j) × P j) 0 g list

-- each list has those for which P holds with its own index
abbrev pub AreRows : (ℕ → ℕ → Type 0) → List Reading → List (List ℕ) → Type 0
AreRows P g rows = (k : ℕ) (row : List ℕ) → slice_get rows k ≡ Some row → AreIndexesOf (P k) g row

-- there is an example of a conflict of the specs at these indexes
abbrev pub CanShow : List Reading → ℕ → ℕ → Type 0
CanShow g i j = (e : Example) × IsExample g i j e

-- there is one of a directory conflict
abbrev pub CanShowNesting : List Reading → ℕ → ℕ → Type 0
CanShowNesting g i j = (n : Nesting) × IsNesting g i j n

-- an example of a directory conflict, or there is none
abbrev pub IsFoundNesting : List Reading → ℕ → ℕ → Option Nesting → Type 0
IsFoundNesting g i j None = (n : Nesting) → ¬ (IsNesting g i j n)
IsFoundNesting g i j (Some n) = IsNesting g i j n

-- the greater index of a directory conflict
abbrev pub second_of : Nesting → ℕ
second_of n = max n.upper n.lower

-- ---- single specs

-- the spec at index k fetches nothing, whatever refs there are
abbrev pub IsDead : List Reading → ℕ → Type 0
IsDead g k = (refs : List Ref) (s : Source) (d : Option (List ℕ)) → ¬ (Fetches g refs k s d)

-- each reason is that of the spec at its index
abbrev pub AreReasons : List Reading → List Reading → List (Option Reason) → Type 0
AreReasons g cs reasons = (k : ℕ) (why : Option Reason) → slice_get reasons k ≡ Some why → (c : Reading)
    → slice_get cs k ≡ Some c → IsReasonOf g k c why

-- whether the spec at index k is negative and excludes nothing
abbrev pub TellsIdle : List Reading → List (List ℕ) → List Reading → ℕ → Bool → Type 0
TellsIdle g merges cs k b = (c : Reading) → slice_get cs k ≡ Some c
    → MatchBool b (IsIdleExclusion g merges c) (¬ (IsIdleExclusion g merges c))
