-- How specs are held against one another. Only private functions use these definitions.
use Rattle.std.specs.Prelude.{◌≡◌, ◌⊎◌, ◌≤◌, ◌+◌, ℕ, List, [], ◌∷◌, ◌++◌, drop, length, map, codes, Option, None, Some}
use Rattle.std.specs.Borrow.{Bor}
use Rattle.std.specs.List.{AllZip, Contains, slice_get}
use Rattle.bstr.specs.Owned.{bstring_bytes}
use Rattle.gix_refspec_lint.specs.declared.group.Group.{Group}
use Rattle.gix_refspec_lint.specs.declared.words.Common.{Common}
use Rattle.gix_refspec_text.specs.declared.spec.RefSpecRef.{RefSpecRef}
use Rattle.gix_refspec_text.specs.Texts.Words.{BeginsWith, EndsWith}
use Rattle.gix_refspec_text.specs.Texts.Name.{IsSplit}
use Rattle.gix_refspec_text.specs.Specs.Reading.{Reading}
use Rattle.gix_refspec_text.specs.Matching.Side.{Fits}
use Rattle.gix_refspec_text.specs.Matching.Match.{Ref}
use Rattle.gix_refspec_text.specs.Views.Spec.{reading_of}
use Rattle.gix_refspec_match.specs.Matching.Mappings.{Mapped, Source}
use Rattle.gix_refspec_match.specs.Private.Kept.{AreExclusionsAt, AreExclusionsOf}
use Rattle.gix_refspec.specs.Laws.Matching.{MakesForward}
use Rattle.gix_refspec_lint.specs.Matching.Lint.{ConflictOver, Example, IsExample, IsFree, refs_of}
use Rattle.gix_refspec_plan.specs.Matching.Plan.{IsCompleted}
use Rattle.gix_refspec_plan.specs.Private.Stales.{HasParts}
use Rattle.gix_refspec_lint.specs.Private.Overlaps.{IsOverlap}

-- ---- the words to try for a star

-- what a name may lack before the free byte so that it begins `refs/`
abbrev pub endings : List (List ℕ)
endings = [] ∷ codes "/" ∷ codes "s/" ∷ codes "fs/" ∷ codes "efs/" ∷ codes "refs/" ∷ []

-- the parts of `refs/` and of `HEAD`
abbrev pub parts : List (List ℕ)
parts =
    [] ∷ codes "r" ∷ codes "re" ∷ codes "ref" ∷ codes "refs" ∷ codes "refs/" ∷ codes "e" ∷ codes "ef" ∷ codes "efs"
    ∷ codes "efs/"
    ∷ codes "f" ∷ codes "fs" ∷ codes "fs/" ∷ codes "s" ∷ codes "s/" ∷ codes "/"
    ∷ codes "H" ∷ codes "HE" ∷ codes "HEA" ∷ codes "HEAD" ∷ codes "E" ∷ codes "EA" ∷ codes "EAD" ∷ codes "A"
    ∷ codes "AD" ∷ codes "D" ∷ []

-- the words, with the free byte z
abbrev pub words_with : ℕ → List (List ℕ)
words_with z = map (λ e. e ++ z ∷ []) endings ++ parts

-- ---- what two patterns have in common

-- a pattern is told by the texts before and after its star

-- the longer of two texts, which begins with the other; which ends with it
pub record IsLongerPrefix (x y longer : List ℕ) : Type 0 where
  pub one : BeginsWith x longer
  pub other : BeginsWith y longer
  pub is : (longer ≡ x) ⊎ (longer ≡ y)

pub record IsLongerSuffix (x y longer : List ℕ) : Type 0 where
  pub one : EndsWith x longer
  pub other : EndsWith y longer
  pub is : (longer ≡ x) ⊎ (longer ≡ y)

-- what is left of prefix and suffix, where they overlap in more than that, is too short for one of the patterns
abbrev pub IsMost : List ℕ → List ℕ → List ℕ → List ℕ → List ℕ → List ℕ → ℕ → Type 0
IsMost a b c d prefix suffix most =
    (k : ℕ) → k ≤ length prefix → k ≤ length suffix → k + (length a + length b) ≤ length prefix + length suffix
    → k + (length c + length d) ≤ length prefix + length suffix → k ≤ most

-- neither text is shorter than they overlap at most
abbrev pub IsBounded : Common → Type 0
IsBounded common = (common.most ≤ length common.prefix.now) × (common.most ≤ length common.suffix.now)

-- the texts that each name begins and ends with that both patterns match, and in how many bytes they overlap in one at
-- most
pub record AreCommon (a b c d : List ℕ) (common : Common) : Type 0 where
  pub prefix : IsLongerPrefix a c common.prefix.now
  pub suffix : IsLongerSuffix b d common.suffix.now
  pub bounded : IsBounded common
  pub most : IsMost a b c d common.prefix.now common.suffix.now common.most

-- no name fits both patterns
abbrev pub AreApart : List ℕ → List ℕ → List ℕ → List ℕ → Type 0
AreApart a b c d = (n v w : List ℕ) → Fits a b n v → Fits c d n w → ⊥

-- n is a name that decides: both texts with one of the words between them, or overlapping in up to so many bytes
abbrev pub IsDeciding : List (List ℕ) → List ℕ → List ℕ → ℕ → List ℕ → Type 0
IsDeciding words prefix suffix most n =
    ((w : List ℕ) × Contains words w × (n ≡ prefix ++ (w ++ suffix)))
    ⊎ ((k : ℕ) × (k ≤ most) × IsOverlap prefix suffix k × (n ≡ prefix ++ drop k suffix))

-- ---- groups

-- the specs of a group with completed destinations, and what goes with them
pub record IsGroupOf (g : List Reading) (group : Group) : Type 0 where
  pub letter : ℕ
  pub free : IsFree g letter
  pub completed : AllZip IsCompleted g (map reading_of group.specs.now)
  pub excluded : AreExclusionsOf g group.exclusions
  pub excluded_at : AreExclusionsAt g group.exclusions
  pub words : map bstring_bytes group.words.items ≡ words_with letter

-- a pair by its source and its destination
abbrev pub pair_of : Source → Option (List ℕ) → Mapped
pair_of s d = record { item = None; source = s; destination = d; spec = 0 }

-- the list has each source from which the reading makes the destination, over any refs
abbrev pub HasSourcesOf : Reading → List ℕ → List Source → Type 0
HasSourcesOf r d sources = (refs : List Ref) (s : Source) → MakesForward refs s (Some d) r → Contains sources s

-- the reading at this index of the completed ones has a destination pattern with these texts
pub record HasPattern (group : Group) (k : ℕ) (before after : List ℕ) : Type 0 where
  pub reading : Reading
  pub at : slice_get (map reading_of group.specs.now) k ≡ Some reading
  pub destination : List ℕ
  pub has : reading.destination ≡ Some destination
  pub split : IsSplit before after destination

-- the texts before and after the stars of the destinations
abbrev pub HaveParts : List RefSpecRef → List (Option (Bor (List ℕ) × Bor (List ℕ))) → Type 0
HaveParts specs parts = AllZip (λ s p. HasParts (reading_of s).destination p) specs parts

-- the destination patterns at two indexes have these texts in common
pub record HaveCommon (group : Group) (i j : ℕ) (common : Common) : Type 0 where
  pub before : List ℕ
  pub after : List ℕ
  pub prefix : List ℕ
  pub suffix : List ℕ
  pub one : HasPattern group i before after
  pub other : HasPattern group j prefix suffix
  pub shared : AreCommon before after prefix suffix common

-- the specs don't conflict at the destination, over the refs of two sources
abbrev pub NoneAt : List Reading → ℕ → ℕ → List ℕ → Type 0
NoneAt g i j d = (s t : Source) → ¬ (ConflictOver g (refs_of s ++ refs_of t) i j s t d)

-- an example of a conflict, or there is none at the destination
abbrev pub IsFoundAt : List Reading → ℕ → ℕ → List ℕ → Option Example → Type 0
IsFoundAt g i j d None = NoneAt g i j d
IsFoundAt g i j d (Some e) = IsExample g i j e

-- or there is none at all
abbrev pub IsFound : List Reading → ℕ → ℕ → Option Example → Type 0
IsFound g i j None = (e : Example) → ¬ (IsExample g i j e)
IsFound g i j (Some e) = IsExample g i j e
