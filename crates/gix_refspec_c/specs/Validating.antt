-- What becomes of mappings that a caller gives, by the rules that the library has for those of a match.
use Rattle.std.specs.Prelude.{◌≡◌, ◌↔◌, ◌<◌, ◌==◌, ℕ, List, Bool, true, false, Option, None, Some, IsTrue, length}
use Rattle.std.specs.Prelude.{option_map}
use Rattle.std.specs.List.{AllZip, slice_get}
use Rattle.std.specs.BTreeMap.{BTreeMap, get_by}
use Rattle.std.specs.Borrow.{Bor}
use Rattle.std.specs.Ordering.{nat_cmp}
use Rattle.std.specs.Cmp.Lexicographic.{slice_cmp}
use Rattle.gix_refspec.specs.Matching.Mappings.{Mapped, Source, name, id}
use Rattle.gix_refspec.specs.Matching.Validation.{HasConflictAt, Survives}
use Rattle.gix_refspec_why.specs.Matching.Why.{IsFirstWith}
use Rattle.gix_refspec_why.specs.Private.Attempts.{FirstOf}
use Rattle.gix_refspec_c.specs.declared.failure.Failure.TheVariants as failure
use Rattle.gix_refspec_c.specs.declared.validating.Claim.{Claim}
use Rattle.gix_refspec_c.specs.declared.validating.PairIn.{PairIn}
use Rattle.gix_refspec_c.specs.declared.validating.PairVerdictOut.{PairVerdictOut}
use Rattle.gix_refspec_c.specs.Buffer.{IsWrittenTo}
use Rattle.gix_refspec_c.specs.Making.{side_given}
use Rattle.gix_refspec_c.specs.Mapping.{no_index}
use Rattle.gix_refspec_c.specs.Outcome.{number_of}

-- the source of these bytes: a name, or else an id
abbrev pub source_of : Bool → List ℕ → Source
source_of true bytes = name bytes
source_of false bytes = id bytes

-- the mapping that a caller gives
abbrev pub mapped_in : PairIn → Mapped
mapped_in p = record {
  item = None;
  source = source_of (p.source_is_id == 0) p.source.now;
  destination = side_given p.has_destination p.destination.now;
  spec = 0;
}

-- the mapping has the destination d
abbrev pub GoesTo : List ℕ → Mapped → Type 0
GoesTo d m = m.destination ≡ Some d

-- no two sources are mapped to the destination of the mapping
abbrev pub IsFree : List Mapped → Mapped → Type 0
IsFree l m = (d : List ℕ) → GoesTo d m → ¬ (HasConflictAt l d)

-- the verdict on a mapping m of the list
pub data IsVerdict (l : List Mapped) (m : Mapped) (v : PairVerdictOut) : Type 0 where
  kept : IsFree l m → Survives m → v ≡ record { verdict = 1; first = no_index } → IsVerdict l m v
  removed : IsFree l m → ¬ (Survives m) → v ≡ record { verdict = 2; first = no_index } → IsVerdict l m v
  in_conflict : (d : List ℕ) → GoesTo d m → HasConflictAt l d → (first : Mapped)
      → IsFirstWith (GoesTo d) l v.first first
      → v.verdict ≡ 3 → IsVerdict l m v

-- the verdicts on all mappings of the list, in order
abbrev pub HaveVerdicts : List Mapped → List PairVerdictOut → Type 0
HaveVerdicts l vs = AllZip (IsVerdict l) l vs

-- a destination is in conflict
abbrev pub HasConflict : List Mapped → Type 0
HasConflict l = (d : List ℕ) × HasConflictAt l d

-- the slice begins with the verdicts, and is unchanged after them
pub record AreVerdictsIn (l : List Mapped) (before after : List PairVerdictOut) : Type 0 where
  pub verdicts : List PairVerdictOut
  pub have : HaveVerdicts l verdicts
  pub write : IsWrittenTo verdicts before after (length verdicts)

-- what a validation writes, and its outcome: verdicts, and whether there is a conflict; or nothing, if there is no room
-- for them or memory ran out
pub data IsValidated (l : List Mapped) (before after : List PairVerdictOut) (outcome : ℕ) : Type 0 where
  all_free : outcome ≡ 0 → ¬ (HasConflict l) → AreVerdictsIn l before after → IsValidated l before after outcome
  some_contested : outcome ≡ number_of failure.InConflict → HasConflict l → AreVerdictsIn l before after
      → IsValidated l before after outcome
  no_room : outcome ≡ number_of failure.TooSmall → length before < length l → after ≡ before
      → IsValidated l before after outcome
  no_memory : outcome ≡ number_of failure.NoMemory → after ≡ before → IsValidated l before after outcome

-- ---- steps of the function

-- whether a destination is in conflict by what is known of it
abbrev pub is_contested : Option Claim → Bool
is_contested None = false
is_contested (Some claim) = claim.contested

-- the source of the first mapping to a destination, by what is known of that
abbrev pub claimed_source : Claim → Source
claimed_source c = source_of c.is_name c.source.now

-- that is the source of the first mapping to a destination, if there is one
abbrev pub HasFirstSource : List Mapped → Option Claim → Type 0
HasFirstSource l None = Unit {0}
HasFirstSource l (Some c) = (m : Mapped) × (slice_get l c.first ≡ Some m) × (m.source ≡ claimed_source c)

-- what is known of the destination d, if there is a mapping to it
pub record IsClaim (l : List Mapped) (d : List ℕ) (known : Option Claim) : Type 0 where
  pub first : FirstOf (GoesTo d) l (option_map (λ (c : Claim). c.first) known)
  pub source : HasFirstSource l known
  pub contested : IsTrue (is_contested known) ↔ HasConflictAt l d

-- so it is of each destination that is looked up
abbrev pub AreClaims : List Mapped → BTreeMap (Bor (List ℕ)) Claim → Type 0
AreClaims l claims = (d : List ℕ) → IsClaim l d (get_by (λ k. slice_cmp nat_cmp d k.now) claims)

-- what is told of the destination d: whether it is in conflict, and then the first mapping to it
pub record IsTold (l : List Mapped) (d : List ℕ) (known : Option Claim) : Type 0 where
  pub contested : IsTrue (is_contested known) ↔ HasConflictAt l d
  pub first : (c : Claim) → known ≡ Some c → c.contested ≡ true
      → (m : Mapped) × IsFirstWith (GoesTo d) l c.first m

-- so it is of each destination that is looked up
abbrev pub TellConflicts : List Mapped → BTreeMap (Bor (List ℕ)) Claim → Type 0
TellConflicts l conflicts = (d : List ℕ) → IsTold l d (get_by (λ k. slice_cmp nat_cmp d k.now) conflicts)

-- whether a verdict is that on a mapping in conflict
abbrev pub tells_conflict : PairVerdictOut → Bool
tells_conflict v = v.verdict == 3
