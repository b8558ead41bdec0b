-- How stale refs are found. Only private functions and `parts_of` use these definitions.
use Rattle.std.specs.Prelude.{◌≡◌, ◌⊎◌, ◌↔◌, ◌<◌, ℕ, Bool, List, [], ◌∷◌, ◌++◌, Option, None, Some, length, map}
use Rattle.std.specs.Prelude.{slice_index_or, take, bytes_eq, MatchOption}
use Rattle.std.specs.List.{AllByRecursion, Contains, slice_get}
use Rattle.std.specs.Borrow.{Bor}
use Rattle.std.specs.HashMap as hash
use Rattle.std.specs.HashMap.{HashMap}
use Rattle.bstr.specs.declared.bstr.BStr.{BStr}
use Rattle.bstr.specs.BStr.{bstr_bytes}
use Rattle.gix_refspec_plan.specs.declared.stale.Pattern.{Pattern}
use Rattle.gix_refspec_plan.specs.declared.stale.State.{State}
use Rattle.gix_refspec_plan.specs.declared.stale.State.TheVariants as state
use Rattle.gix_refspec_plan.specs.declared.stale.Writers.{Writers}
use Rattle.gix_refspec_text.specs.Texts.Bytes.{star}
use Rattle.gix_refspec_text.specs.Texts.Words.{Lacks}
use Rattle.gix_refspec_text.specs.Texts.Name.{IsSplit}
use Rattle.gix_refspec_text.specs.Specs.Reading.{Reading}
use Rattle.gix_refspec_text.specs.Specs.Grammar.{IsAccepted, IsPositive}
use Rattle.gix_refspec_text.specs.Matching.Side.{Fits, written_name_of}
use Rattle.gix_refspec_text.specs.Matching.Match.{Ref, Matches}
use Rattle.gix_refspec_match.specs.declared.exclusions.Exclusions.{Exclusions}
use Rattle.gix_refspec_match.specs.Matching.Lists.{IsMadeFrom}
use Rattle.gix_refspec_match.specs.Matching.Mappings.{Mapped, IsExcluded, IsExcludedBy}
use Rattle.gix_refspec_match.specs.Private.Kept.{AreExclusionsAt, AreExclusionsOf, ExcludeName, ExcludeNameAt}
use Rattle.gix_refspec_match.specs.Private.Kept.{IsFlagged}
use Rattle.gix_refspec_plan.specs.Matching.Stale.{IsSourceOf, IsWritable, ref_named}

-- a source without a star may stand for the ref s: it is its name, or a partial name of which s is a candidate
abbrev pub StandsFor : List ℕ → List ℕ → Type 0
StandsFor x s = Matches x (ref_named s) None

-- so may that of the reading
pub record IsNamedBy (r : Reading) (s : List ℕ) : Type 0 where
  pub source : List ℕ
  pub is : r.source ≡ Some source
  pub stands : StandsFor source s

-- the reading writes the ref n, by a destination without a star
pub record WritesName (r : Reading) (n : List ℕ) : Type 0 where
  pub positive : IsPositive r.mode
  pub destination : List ℕ
  pub has : r.destination ≡ Some destination
  pub lacks : Lacks star destination
  pub is : n ≡ written_name_of destination

-- and from the ref s
pub record WritesNameFrom (r : Reading) (n s : List ℕ) : Type 0 where
  pub writes : WritesName r n
  pub named : IsNamedBy r s

-- the ref that a reading writes so, if it writes one
abbrev pub IsWrittenBy : Reading → Option (List ℕ) → Type 0
IsWrittenBy r name = MatchOption name ((n : List ℕ) → ¬ (WritesName r n)) (WritesName r)

-- the texts before and after the star of a side; none if it has no star, or is missing
abbrev pub HasParts : Option (List ℕ) → Option (Bor (List ℕ) × Bor (List ℕ)) → Type 0
HasParts side None = (x before after : List ℕ) → side ≡ Some x → ¬ (IsSplit before after x)
HasParts side (Some parts) = (x : List ℕ) × (side ≡ Some x) × IsSplit parts.0.now parts.1.now x

-- the reading writes by the pattern, from the pattern of its source, if that is one
pub record WritesPattern (r : Reading) (p : Pattern) : Type 0 where
  pub positive : IsPositive r.mode
  pub destination : List ℕ
  pub has : r.destination ≡ Some destination
  pub split : IsSplit p.before.now p.after.now destination
  pub source : HasParts r.source p.source

-- the pattern writes n from the ref s
pub record IsPatternSource (p : Pattern) (n s : List ℕ) : Type 0 where
  pub word : List ℕ
  pub fits : Fits p.before.now p.after.now n word
  pub parts : Bor (List ℕ) × Bor (List ℕ)
  pub has : p.source ≡ Some parts
  pub is : Fits parts.0.now parts.1.now s word

-- what is known of a name
abbrev pub state_for : {X S : Type 0} → HashMap BStr X S → List ℕ → Option X
state_for m n = hash.get_by (λ k. bytes_eq n (bstr_bytes k)) m

-- what these readings say of n: none writes it by a destination without a star; one does, and only from refs that
-- aren't
-- excluded; one does from a ref that the spec at index k excludes
abbrev pub HasNameState : Exclusions → List Reading → List ℕ → Option (Option ℕ) → Type 0
HasNameState es g n None = (r : Reading) → Contains g r → ¬ (WritesName r n)
HasNameState es g n (Some None) = ((r : Reading) × Contains g r × WritesName r n)
    × ((r : Reading) (s : List ℕ) → Contains g r → WritesNameFrom r n s → ¬ (ExcludeName es s))
HasNameState es g n (Some (Some k)) = (r : Reading) × (s : List ℕ) × Contains g r × WritesNameFrom r n s
    × ExcludeNameAt es s k

-- the names and the patterns that readings write by
pub record AreWriters (es : Exclusions) (g : List Reading) (w : Writers) : Type 0 where
  pub exclusions : w.exclusions ≡ es
  pub names : (n : List ℕ) → HasNameState es g n (state_for w.names n)
  pub patterns : IsMadeFrom (λ k r p. WritesPattern r p) 0 g w.patterns.items

-- what the specs of a group write and exclude
pub record AreWritersOf (g : List Reading) (w : Writers) : Type 0 where
  pub accepted : AllByRecursion (λ r. ∥ IsAccepted r ∥₁) g
  pub excluded : AreExclusionsOf g w.exclusions
  pub excluded_at : AreExclusionsAt g w.exclusions
  pub are : AreWriters w.exclusions g w

-- one more reading, which writes n; which writes no name
abbrev pub AddsName : Reading → List ℕ → Writers → Writers → Type 0
AddsName r n old new = (g : List Reading) (es : Exclusions) → WritesName r n → AreWriters es g old
    → AreWriters es (g ++ r ∷ []) new

abbrev pub AddsPattern : Reading → Writers → Writers → Type 0
AddsPattern r old new = (g : List Reading) (es : Exclusions) → ((n : List ℕ) → ¬ (WritesName r n)) → AreWriters es g old
    → AreWriters es (g ++ r ∷ []) new

-- what one pattern says of n: it doesn't match it; it does, and the ref with the same word isn't excluded; that ref is
-- excluded by the spec at index k
abbrev pub HasPatternState : Exclusions → Pattern → List ℕ → State → Type 0
HasPatternState es p n state.Unwritable = (word : List ℕ) → ¬ (Fits p.before.now p.after.now n word)
HasPatternState es p n state.Included = ((word : List ℕ) × Fits p.before.now p.after.now n word)
    × ((s : List ℕ) → IsPatternSource p n s → ¬ (ExcludeName es s))
HasPatternState es p n (state.Excluded k) = (s : List ℕ) × IsPatternSource p n s × ExcludeNameAt es s k

-- what is known of a local ref
abbrev pub HasState : List Reading → List ℕ → State → Type 0
HasState g n state.Unwritable = ¬ (IsWritable g n)
HasState g n state.Included = IsWritable g n × ((s : List ℕ) → IsSourceOf g n s → ¬ (IsExcluded g s))
HasState g n (state.Excluded k) = (s : List ℕ) × IsSourceOf g n s
    × ((r : Reading) × (slice_get g k ≡ Some r) × IsExcludedBy s r)

-- the destinations of mappings, in order
abbrev pub AreDestinations : List Mapped → List (List ℕ) → Type 0
AreDestinations mapped names = IsMadeFrom (λ k m n. m.destination ≡ Some n) 0 mapped names

-- and then the names of refs
abbrev pub AreNames : List Mapped → List Ref → List (List ℕ) → Type 0
AreNames mapped locals names = (destinations : List (List ℕ)) × AreDestinations mapped destinations
    × (names ≡ destinations ++ map (λ r. r.name) locals)

-- one of the mappings has the destination n
abbrev pub HasDestination : List Mapped → List ℕ → Type 0
HasDestination mapped n = (m : Mapped) × Contains mapped m × (m.destination ≡ Some n)

-- the names that are destinations, or that are listed before, are flagged
abbrev pub FlagWritten : List Mapped → List (List ℕ) → List Bool → Type 0
FlagWritten mapped names flags = (k : ℕ) (d : List ℕ) → k < length names → IsFlagged flags k
    ↔ (HasDestination mapped (slice_index_or names k d) ⊎ Contains (take k names) (slice_index_or names k d))

-- the names of refs
abbrev pub ref_names : List Ref → List (List ℕ)
ref_names refs = map (λ r. r.name) refs
