-- Why a spec does nothing, source by source, and what a negative spec excludes of another. Only private functions use
-- these
-- definitions.
use Rattle.std.specs.Prelude.{◌≡◌, ◌⊎◌, ◌<◌, ◌≤◌, ◌+◌, ℕ, List, [], ◌∷◌, ◌++◌, map, Option, None, Some}
use Rattle.std.specs.List.{AllByRecursion, Contains}
use Rattle.gix_refspec_lint.specs.declared.Reason.{Reason}
use Rattle.gix_refspec_lint.specs.declared.idle.Idleness.{Idleness}
use Rattle.gix_refspec_lint.specs.declared.idle.Idleness.TheVariants as idleness
use Rattle.gix_refspec_lint.specs.declared.idle.Others.{Others}
use Rattle.gix_refspec_lint.specs.declared.words.Common.{Common}
use Rattle.gix_refspec_text.specs.Texts.Name.{IsSplit}
use Rattle.gix_refspec_text.specs.Specs.Reading.{Reading}
use Rattle.gix_refspec_text.specs.Specs.Grammar.{IsPositive}
use Rattle.gix_refspec_text.specs.Matching.Side.{candidates}
use Rattle.gix_refspec_text.specs.Matching.Match.{Ref, HasName}
use Rattle.gix_refspec_match.specs.Matching.Mappings.{Source, IsSourceExcluded, name}
use Rattle.gix_refspec_match.specs.Matching.Missing.{LacksSource}
use Rattle.gix_refspec.specs.Laws.Matching.{MakesForward}
use Rattle.gix_refspec_lint.specs.Matching.Lint.{AreValid, ExcludesOne, Fetches, IsAlwaysExcluded, IsIdleBy, IsMerged}
use Rattle.gix_refspec_lint.specs.Matching.Lint.{Maps, MapsSoundly, NeverMaps, merged_text, refs_of}
use Rattle.gix_refspec_plan.specs.Matching.Plan.{CanBeWritten}
use Rattle.gix_refspec.specs.Matching.RefNames.{IsRefName, IsValidSource}
use Rattle.gix_refspec_plan.specs.Matching.Stale.{ref_named}
use Rattle.gix_refspec_lint.specs.Private.Lints.{AreCommon}

-- ---- one spec

-- over the refs the completed reading maps the source to the destination, and both are valid
pub record MakesSoundly (refs : List Ref) (s : Source) (d : Option (List ℕ)) (c : Reading) : Type 0 where
  pub makes : MakesForward refs s d c
  pub source : IsValidSource s
  pub destination : CanBeWritten d

-- the source of the reading is no pattern
abbrev pub HasPlainSource : Reading → Type 0
HasPlainSource r = (x before after : List ℕ) → r.source ≡ Some x → ¬ (IsSplit before after x)

-- the source of the reading is a pattern with these texts
pub record HasSourcePattern (r : Reading) (before after : List ℕ) : Type 0 where
  pub text : List ℕ
  pub has : r.source ≡ Some text
  pub split : IsSplit before after text

-- ---- negative specs

-- the negative reading excludes the source, and over some refs the completed one maps it soundly
pub record ExcludesFrom (negative c : Reading) (s : Source) : Type 0 where
  pub refs : List Ref
  pub destination : Option (List ℕ)
  pub makes : MakesSoundly refs s destination c
  pub excludes : IsSourceExcluded (negative ∷ []) s

-- it does so for some source
abbrev pub ExcludesSome : Reading → Reading → Type 0
ExcludesSome negative c = (s : Source) × ExcludesFrom negative c s

-- the source patterns of two readings have these texts in common
pub record ShareSources (r c : Reading) (common : Common) : Type 0 where
  pub before : List ℕ
  pub after : List ℕ
  pub prefix : List ℕ
  pub suffix : List ℕ
  pub one : HasSourcePattern r before after
  pub other : HasSourcePattern c prefix suffix
  pub shared : AreCommon before after prefix suffix common

-- ---- idle specs

-- the spec at this index is one of the others
abbrev pub IsOther : Others → ℕ → Type 0
IsOther others h = (others.from ≤ h) × (h < others.to)

-- the spec at index k fetches something that none of the others maps
pub record IsAtWork (g : List Reading) (others : Others) (k : ℕ) : Type 0 where
  pub refs : List Ref
  pub valid : AreValid refs
  pub source : Source
  pub destination : Option (List ℕ)
  pub fetches : Fetches g refs k source destination
  pub first : (h : ℕ) → IsOther others h → ¬ (Maps g refs h source destination)

-- the spec at index h is one of the others, and maps something that the spec at index k fetches
pub record MapsOne (g : List Reading) (others : Others) (k h : ℕ) : Type 0 where
  pub refs : List Ref
  pub valid : AreValid refs
  pub source : Source
  pub destination : Option (List ℕ)
  pub fetches : Fetches g refs k source destination
  pub other : IsOther others h
  pub maps : Maps g refs h source destination

-- one of the others maps what the spec at index k fetches to the same destinations, whatever valid refs there are
abbrev pub IsAlwaysMapped : List Reading → Others → ℕ → Type 0
IsAlwaysMapped g others k =
    (refs : List Ref) (s : Source) (d : Option (List ℕ)) → AreValid refs → Fetches g refs k s d → (h : ℕ)
    × IsOther others h × Maps g refs h s d

-- the reason explains what becomes of the mappings of the source by the spec at index k
abbrev pub Explains : List Reading → Others → ℕ → Source → Idleness → Type 0
Explains g others k s idleness.Invalid = (refs : List Ref) (d : Option (List ℕ)) → ¬ (MapsSoundly g refs k s d)
Explains g others k s (idleness.Excluded n) = (refs : List Ref) (d : Option (List ℕ)) → ¬ (Fetches g refs k s d)
Explains g others k s (idleness.Duplicate h) =
    (refs : List Ref) (d : Option (List ℕ)) → AreValid refs → Fetches g refs k s d → (i : ℕ) × IsOther others i
    × Maps g refs i s d

-- the spec that a reason names does what it says once
abbrev pub IsShown : List Reading → Others → ℕ → Idleness → Type 0
IsShown g others k idleness.Invalid = Unit {0}
IsShown g others k (idleness.Excluded n) = ExcludesOne g k n
IsShown g others k (idleness.Duplicate h) = MapsOne g others k h

-- why the spec at index k maps nothing that the others don't
abbrev pub IsIdleAs : List Reading → Others → ℕ → Idleness → Type 0
IsIdleAs g others k idleness.Invalid = NeverMaps g k
IsIdleAs g others k (idleness.Excluded n) = IsAlwaysExcluded g k × ExcludesOne g k n
IsIdleAs g others k (idleness.Duplicate h) = IsAlwaysMapped g others k × MapsOne g others k h

-- why the spec at index k does nothing with the source; or it does something
abbrev pub IsWhyAt : List Reading → Others → ℕ → Source → Option Idleness → Type 0
IsWhyAt g others k s None = IsAtWork g others k
IsWhyAt g others k s (Some why) = Explains g others k s why × IsShown g others k why

-- and with all sources
abbrev pub IsWhy : List Reading → Others → ℕ → Option Idleness → Type 0
IsWhy g others k None = IsAtWork g others k
IsWhy g others k (Some why) = IsIdleAs g others k why

-- and if the spec is negative there is no reason either
abbrev pub IsWhyBeside : List Reading → Others → ℕ → Reading → Option Idleness → Type 0
IsWhyBeside g others k c None = IsPositive c.mode → IsAtWork g others k
IsWhyBeside g others k c (Some why) = IsPositive c.mode × IsIdleAs g others k why

-- the earlier specs; and the one at index h alone
abbrev pub earlier_than : ℕ → Others
earlier_than k = record { from = 0; to = k }

abbrev pub alone_at : ℕ → Others
alone_at h = record { from = h; to = h + 1 }

-- the first of the earlier specs that covers the spec at index k alone, or none does
abbrev pub IsCovering : List Reading → ℕ → Option ℕ → Type 0
IsCovering g k None = (h : ℕ) → h < k → IsAtWork g (alone_at h) k
IsCovering g k (Some h) = (h < k) × ((why : Idleness) × IsIdleAs g (alone_at h) k why)

-- the whole reason, and none if the spec is negative
abbrev pub IsReasonOf : List Reading → ℕ → Reading → Option Reason → Type 0
IsReasonOf g k c None = IsPositive c.mode → IsAtWork g (earlier_than k) k
IsReasonOf g k c (Some why) = IsPositive c.mode × IsIdleBy g k why

-- ---- missing sources

-- these are the valid names of refs that the source of the reading matches; and a missing source is one that no ref has
pub record AreNamed (r : Reading) (names : List (List ℕ)) : Type 0 where
  pub valid : AllByRecursion IsRefName names
  pub lacks : (refs : List Ref) → AreValid refs → AllByRecursion (λ n. ¬ (HasName refs n)) names → LacksSource refs r
  pub has : (refs : List Ref) (n : List ℕ) → Contains names n → HasName refs n → ¬ (LacksSource refs r)

-- the source of the reading is never missing
abbrev pub IsNeverMissing : Reading → Type 0
IsNeverMissing r = (refs : List Ref) → ¬ (LacksSource refs r)

-- or it isn't where a ref has a certain valid name that isn't one of these
abbrev pub IsHadBeside : Reading → List (List ℕ) → Type 0
IsHadBeside r names = IsNeverMissing r
    ⊎ ((n : List ℕ) × IsRefName n × ¬ (Contains names n)
    × ((refs : List Ref) → HasName refs n → ¬ (LacksSource refs r)))

-- those of the names that are valid
pub record AreValidOf (all valid : List (List ℕ)) : Type 0 where
  pub has : (n : List ℕ) → Contains all n → IsRefName n → Contains valid n
  pub only : (n : List ℕ) → Contains valid n → Contains all n × IsRefName n

-- ---- merged refs

-- the sources are the refs that a branch may merge
pub record AreMergedRefs (merges : List (List ℕ)) (sources : List Source) : Type 0 where
  pub has : (n : List ℕ) → IsMerged merges n → Contains sources (name n)
  pub only : (s : Source) → Contains sources s → (n : List ℕ) × (s ≡ name n) × IsMerged merges n

-- now has the old sources, and the refs that one value may be
pub record AddsMergedRefs (value : List ℕ) (old now : List Source) : Type 0 where
  pub keeps : (s : Source) → Contains old s → Contains now s
  pub adds : (n : List ℕ) → Contains (candidates (merged_text value)) n → IsRefName n → Contains now (name n)
  pub only : (s : Source) → Contains now s → Contains old s
      ⊎ ((n : List ℕ) × (s ≡ name n) × Contains (candidates (merged_text value)) n × IsRefName n)

-- ---- the refs that a spec prefers to a source

-- no ref has one of the names
abbrev pub AreAbsent : List (List ℕ) → List Ref → Type 0
AreAbsent names refs = AllByRecursion (λ n. ¬ (HasName refs n)) names

-- the completed reading maps the source only where no ref has one of the names, and that is all that it needs
pub record ArePreferred (c : Reading) (s : Source) (names : List (List ℕ)) : Type 0 where
  pub absent : (refs : List Ref) (d : Option (List ℕ)) → MakesForward refs s d c → AreAbsent names refs
  pub enough : (refs few : List Ref) (d : Option (List ℕ)) → MakesForward refs s d c
      → ((n : List ℕ) → HasName (refs_of s) n → HasName few n) → AreAbsent names few → MakesForward few s d c

-- the refs with the source and these names
abbrev pub refs_with : Source → List (List ℕ) → List Ref
refs_with s names = refs_of s ++ map ref_named names

-- beside refs of these names the spec at index k maps the source as beside any, and one of the others that does so too
-- does so
-- wherever this one does
pub record AreFreeing (g : List Reading) (others : Others) (k : ℕ) (s : Source) (names : List (List ℕ)) : Type 0 where
  pub valid : AllByRecursion IsRefName names
  pub keeps : (refs : List Ref) (d : Option (List ℕ)) → Maps g refs k s d → Maps g (refs_with s names) k s d
  pub frees : (refs : List Ref) (h : ℕ) (d e : Option (List ℕ)) → AreValid refs → Maps g refs k s d → IsOther others h
      → Maps g (refs_with s names) h s e → Maps g refs h s e

-- the names that a partial source x tries before n, if that is one of its candidates
pub record AreTriedBefore (x n : List ℕ) (names : List (List ℕ)) : Type 0 where
  pub some : (earlier later : List (List ℕ)) → candidates x ≡ earlier ++ (n ∷ later) → ¬ (Contains earlier n)
      → names ≡ earlier

-- now has the old names, and those others that are valid and not kept away
pub record AreAllowed (old others away now : List (List ℕ)) : Type 0 where
  pub has_old : (n : List ℕ) → Contains old n → Contains now n
  pub has : (n : List ℕ) → Contains others n → IsRefName n → ¬ (Contains away n) → Contains now n
  pub only : (n : List ℕ) → Contains now n → Contains old n ⊎ (IsRefName n × ¬ (Contains away n))
