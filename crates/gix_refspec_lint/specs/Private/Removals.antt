-- How the local refs are found that a pruning fetch treats otherwise without a value. Only private functions use these
-- definitions.
use Rattle.std.specs.Prelude.{◌≡◌, ◌≤◌, ◌⊎◌, ℕ, List, [], ◌++◌, Option, Some, drop, map}
use Rattle.std.specs.List.{AllZip, Contains}
use Rattle.bstr.specs.Owned.{bstring_bytes}
use Rattle.gix_refspec_lint.specs.declared.removal.pruning.Lists.{Lists}
use Rattle.gix_refspec_lint.specs.declared.words.Common.{Common}
use Rattle.gix_refspec_text.specs.Texts.Name.{IsSplit}
use Rattle.gix_refspec_text.specs.Texts.Words.{Lacks}
use Rattle.gix_refspec_text.specs.Specs.Reading.{Reading}
use Rattle.gix_refspec_text.specs.Specs.Grammar.{IsPositive}
use Rattle.gix_refspec_text.specs.Matching.Match.{Ref}
use Rattle.gix_refspec_text.specs.Matching.Side.{Fits}
use Rattle.gix_refspec_text.specs.Views.Spec.{reading_of}
use Rattle.gix_refspec_match.specs.Matching.Mappings.{Source, IsExcludedBy, IsSourceExcluded}
use Rattle.gix_refspec.specs.Matching.RefNames.{IsRefName, IsValidSource}
use Rattle.gix_refspec_plan.specs.Matching.Plan.{IsCompleted}
use Rattle.gix_refspec_plan.specs.Matching.Stale.{CanWrite, CanWriteFrom}
use Rattle.gix_refspec_lint.specs.Matching.Lint.{IsFree, refs_of}
use Rattle.gix_refspec_lint.specs.Matching.Removal.{IsStaleByOne}
use Rattle.gix_refspec_lint.specs.Private.Idles.{HasSourcePattern, MakesSoundly}
use Rattle.gix_refspec_lint.specs.Private.Lints.{IsDeciding, words_with}
use Rattle.gix_refspec_lint.specs.Private.Overlaps.{IsOverlap}
use Rattle.gix_refspec_lint.specs.Private.Runs.{HasDestinationPattern}

-- l has the positive readings of g
pub record ArePositives (g l : List Reading) : Type 0 where
  pub each : (r : Reading) → Contains l r → Contains g r × IsPositive r.mode
  pub all : (r : Reading) → Contains g r → IsPositive r.mode → Contains l r

-- the completed reading maps the source soundly over some refs, and no reading of g excludes it
abbrev pub FetchesSource : List Reading → Reading → Source → Type 0
FetchesSource g c s = (refs : List Ref) × (d : Option (List ℕ)) × MakesSoundly refs s d c × ¬ (IsSourceExcluded g s)

abbrev pub FetchesSome : List Reading → Reading → Type 0
FetchesSome g c = (s : Source) × FetchesSource g c s

-- ---- the values with and without one

-- g has the readings of h, and r
pub record IsWith (g h : List Reading) (r : Reading) : Type 0 where
  pub rest : (q : Reading) → Contains h q → Contains g q
  pub one : Contains g r
  pub all : (q : Reading) → Contains g q → Contains h q ⊎ (q ≡ r)

-- the readings of all values; of those but one
abbrev pub all_of : Lists → List Reading
all_of lists = map reading_of lists.values.now

abbrev pub rest_of : Lists → List Reading
rest_of lists = map reading_of lists.rest.now

-- the values have the reading r besides the rest, and what goes with them
pub record AreLists (r : Reading) (lists : Lists) : Type 0 where
  pub letter : ℕ
  pub free : IsFree (all_of lists) letter
  pub values : IsWith (all_of lists) (rest_of lists) r
  pub others : AllZip IsCompleted (rest_of lists) (map reading_of lists.others.now)
  pub words : map bstring_bytes lists.words.now ≡ words_with letter

-- a side is missing, or has no star
abbrev pub HasNoPattern : Option (List ℕ) → Type 0
HasNoPattern side = (x before after : List ℕ) → side ≡ Some x → ¬ (IsSplit before after x)

-- the reading is positive, and its sides are patterns with these texts
pub record WritesPatterns (r : Reading) (p t a b : List ℕ) : Type 0 where
  pub positive : IsPositive r.mode
  pub source : HasSourcePattern r p t
  pub destination : HasDestinationPattern r a b

-- ---- local refs that aren't treated otherwise

-- on a remote without refs n isn't treated otherwise, if it is a ref name
abbrev pub IsSameAlone : List Reading → List Reading → List ℕ → Type 0
IsSameAlone g h n = IsRefName n → ¬ (IsStaleByOne g h [] n)

-- nor is it beside one of the sources alone
pub record IsSameAt (g h : List Reading) (n : List ℕ) (sources : List Source) : Type 0 where
  pub alone : IsSameAlone g h n
  pub beside : (s : Source) → Contains sources s → IsValidSource s → IsRefName n → ¬ (IsStaleByOne g h (refs_of s) n)

-- the local ref with the same word as the source isn't treated otherwise
abbrev pub IsSameFrom : List Reading → List Reading → List ℕ → List ℕ → List ℕ → List ℕ → List ℕ → Type 0
IsSameFrom g h p t a b source = (w : List ℕ) → Fits p t source w → IsSameAlone g h (a ++ (w ++ b))

-- nor are those with the sources in which the texts overlap
abbrev pub AreSameOverlappingFrom : List Reading → List Reading → List ℕ → List ℕ → List ℕ → List ℕ → Common → Type 0
AreSameOverlappingFrom g h p t a b common =
    (k : ℕ) → k ≤ common.most → IsOverlap common.prefix.now common.suffix.now k
    → IsSameFrom g h p t a b (common.prefix.now ++ drop k common.suffix.now)

-- nor are the local refs in which the texts overlap; the names that decide
abbrev pub AreSameOverlapping : List Reading → List Reading → Common → Type 0
AreSameOverlapping g h common =
    (k : ℕ) → k ≤ common.most → IsOverlap common.prefix.now common.suffix.now k
    → IsSameAlone g h (common.prefix.now ++ drop k common.suffix.now)

abbrev pub AreSameAmong : List Reading → List Reading → List (List ℕ) → Common → Type 0
AreSameAmong g h words common = (n : List ℕ) → IsDeciding words common.prefix.now common.suffix.now common.most n
    → IsSameAlone g h n

-- nor is any a w b that one of the rest can write, and whose source p w t the reading e excludes
abbrev pub AreSameExcluded : Lists → List ℕ → List ℕ → List ℕ → List ℕ → Reading → Type 0
AreSameExcluded lists p t a b e =
    (w : List ℕ) (other : Reading) (word : Option (List ℕ)) → IsExcludedBy (p ++ (w ++ t)) e
    → Contains (rest_of lists) other → CanWrite other (a ++ (w ++ b)) word
    → IsSameAlone (all_of lists) (rest_of lists) (a ++ (w ++ b))

-- where a w b has these texts around a word, e excludes p w t
pub record ExcludesWithin (z : ℕ) (e : Reading) (p t a b prefix suffix : List ℕ) : Type 0 where
  pub lacks : Lacks z prefix
  pub excludes : (w u : List ℕ) → Fits prefix suffix (a ++ (w ++ b)) u → IsExcludedBy (p ++ (w ++ t)) e

-- no a w b is treated otherwise that has these texts around a word, and that the other reading can write
abbrev pub AreSameWithin : Lists → List ℕ → List ℕ → List ℕ → List ℕ → Reading → Type 0
AreSameWithin lists a b prefix suffix other =
    (w u : List ℕ) (word : Option (List ℕ)) → Fits prefix suffix (a ++ (w ++ b)) u → CanWrite other (a ++ (w ++ b)) word
    → IsSameAlone (all_of lists) (rest_of lists) (a ++ (w ++ b))

-- nor is any that the reading q can write from a source which r excludes
abbrev pub AreSameWithout : Lists → Reading → Reading → Type 0
AreSameWithout lists r q = (n s : List ℕ) → CanWriteFrom q n s → IsExcludedBy s r
    → IsSameAlone (all_of lists) (rest_of lists) n
