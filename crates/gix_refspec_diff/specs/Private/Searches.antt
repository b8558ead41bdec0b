-- How remotes are looked for that show what one list alone does. Only private functions use these definitions.
use Rattle.std.specs.Prelude.{◌≡◌, ◌⊎◌, ◌↔◌, ◌<◌, ℕ, zero, Bool, List, [], ◌∷◌, ◌++◌, drop, map, option_map}
use Rattle.std.specs.Prelude.{Option, None, Some, MatchBool}
use Rattle.std.specs.List.{AllByRecursion, Contains, slice_get}
use Rattle.bstr.specs.Owned.{bstring_bytes}
use Rattle.gix_refspec_diff.specs.declared.lists.{Lists.Lists, Pairs.Pairs}
use Rattle.gix_refspec_diff.specs.declared.pairs.Pair.{Pair}
use Rattle.gix_refspec_text.specs.Specs.Reading.{Negative, Reading}
use Rattle.gix_refspec_text.specs.Specs.Grammar.{IsPositive}
use Rattle.gix_refspec_text.specs.Views.Spec.{reading_of}
use Rattle.gix_refspec_text.specs.Matching.Match.{HasName, Ref}
use Rattle.bstr.specs.BStr.{bstr_bytes}
use Rattle.gix_refspec_match.specs.Matching.Mappings.{Source, name}
use Rattle.gix_refspec_match.specs.Matching.Missing.{LacksSource}
use Rattle.gix_refspec_match.specs.Private.Kept.{IsFlagged}
use Rattle.gix_refspec_match.specs.Views.Mapping.{start_of}
use Rattle.gix_refspec.specs.Matching.RefNames.{IsRefName, IsValidSource}
use Rattle.gix_refspec_plan.specs.Matching.Plan.{CanBeWritten}
use Rattle.gix_refspec_plan.specs.Matching.Stale.{ref_named}
use Rattle.gix_refspec_lint.specs.Matching.Lint.{AreValid, IsFree, Maps, refs_of}
use Rattle.gix_refspec_lint.specs.Matching.Removal.{HasDestination}
use Rattle.gix_refspec_lint.specs.Private.Idles.{ArePreferred, HasPlainSource, HasSourcePattern}
use Rattle.gix_refspec_lint.specs.Private.Lints.{AreApart, IsDeciding, IsGroupOf, IsLongerPrefix, IsLongerSuffix}
use Rattle.gix_refspec_lint.specs.Private.Lints.{IsMost, words_with}
use Rattle.gix_refspec_lint.specs.Private.Overlaps.{AreOverlaps}
use Rattle.gix_refspec_diff.specs.Matching.Difference.{AreFetchedAlone, FetchPair, FetchesAlone, MergeAlike}
use Rattle.gix_refspec_diff.specs.Matching.Difference.{PairExample, refs_in}
use Rattle.gix_refspec_diff.specs.Views.Difference.{pair_example_of}

-- ---- values that both lists have

-- the readings have the same sides, and neither alone is negative
pub record HaveSides (b c : Reading) : Type 0 where
  pub source : b.source ≡ c.source
  pub destination : b.destination ≡ c.destination
  pub positive : IsPositive c.mode → IsPositive b.mode
  pub negative : c.mode ≡ Negative → b.mode ≡ Negative

-- the list has a reading with the sides of this one; it has one before index k
abbrev pub HasSides : List Reading → Reading → Type 0
HasSides l c = (j : ℕ) × (b : Reading) × (slice_get l j ≡ Some b) × HaveSides b c

abbrev pub HasSidesBefore : List Reading → ℕ → Reading → Type 0
HasSidesBefore l k c = (j : ℕ) × (b : Reading) × (j < k) × (slice_get l j ≡ Some b) × HaveSides b c

-- a reading of the one list is flagged exactly if the other list has its sides, or an earlier one of the one
abbrev pub AreKnown : List Reading → List Reading → List Bool → Type 0
AreKnown ones others flags = (k : ℕ) (c : Reading) → slice_get ones k ≡ Some c
    → IsFlagged flags k ↔ (HasSides others c ⊎ HasSidesBefore ones k c)

-- the list has a negative reading of the same source
abbrev pub HasExclusion : List Reading → Reading → Type 0
HasExclusion l r = (q : Reading) × Contains l q × (q.mode ≡ Negative) × (q.source ≡ r.source)

-- each negative reading of the other list is among the new ones, or the one list has it too
abbrev pub AreNewExclusions : List Reading → List Reading → List Reading → Type 0
AreNewExclusions ones others new =
    (r : Reading) → Contains others r → r.mode ≡ Negative → HasExclusion new r ⊎ HasExclusion ones r

-- the completed readings of both lists
abbrev pub ones_of : Lists → List Reading
ones_of lists = map reading_of lists.one.now.specs.now

abbrev pub others_of : Lists → List Reading
others_of lists = map reading_of lists.other.now.specs.now

-- the words to try for a star
abbrev pub words_in : Lists → List (List ℕ)
words_in lists = map bstring_bytes lists.words.now

-- the lists are groups of these readings, and what goes with them
pub record AreListsOf (g h : List Reading) (lists : Lists) : Type 0 where
  pub one : IsGroupOf g lists.one.now
  pub other : IsGroupOf h lists.other.now
  pub known : AreKnown (ones_of lists) (others_of lists) lists.is_known.now
  pub exclusions : AreNewExclusions (ones_of lists) (others_of lists) (map reading_of lists.exclusions.now)
  pub letter : ℕ
  pub free : IsFree g letter
  pub clear : IsFree h letter
  pub words : words_in lists ≡ words_with letter

-- ---- what is sought

-- over the refs no value of g before index k maps the pair, and h doesn't fetch it: it is left to the value at index k
abbrev pub IsLeft : List Reading → List Reading → List Ref → ℕ → Source → Option (List ℕ) → Type 0
IsLeft g h refs k s d = ((j : ℕ) → j < k → ¬ (Maps g refs j s d)) × ¬ (FetchPair h refs s d)

-- over refs of valid names the example shows what the value at index k fetches alone
pub record IsShownBy (g h : List Reading) (k : ℕ) (e : PairExample) : Type 0 where
  pub spec : e.spec ≡ k
  pub beside : AllByRecursion IsRefName e.beside
  pub alone : FetchesAlone g h (refs_in e) k e.source e.destination

-- it fetches none alone with this source, over no refs with valid names
abbrev pub AreNoneFrom : List Reading → List Reading → ℕ → Source → Type 0
AreNoneFrom g h k s = (refs : List Ref) (d : Option (List ℕ)) → AreValid refs → ¬ (FetchesAlone g h refs k s d)

-- nor with any
abbrev pub FetchesNone : List Reading → List Reading → ℕ → Type 0
FetchesNone g h k = (s : Source) → AreNoneFrom g h k s

-- the refs of a source and of these names
abbrev pub refs_beside : Source → List (List ℕ) → List Ref
refs_beside s names = refs_of s ++ map ref_named names

-- beside refs of these names, which are valid, the value at index k fetches alone what it does beside any, with the
-- source
pub record AreBlockers (g h : List Reading) (k : ℕ) (s : Source) (names : List (List ℕ)) : Type 0 where
  pub valid : AllByRecursion IsRefName names
  pub enough : (refs : List Ref) (d : Option (List ℕ)) → AreValid refs → FetchesAlone g h refs k s d
      → FetchesAlone g h (refs_beside s names) k s d

-- now has the old names, and the valid ones that the completed readings try before the source, without those kept away
pub record AddBlockers (specs : List Reading) (s : Source) (away old now : List (List ℕ)) : Type 0 where
  pub has_old : (n : List ℕ) → Contains old n → Contains now n
  pub only : (n : List ℕ) → Contains now n → Contains old n ⊎ (IsRefName n × ¬ (Contains away n))
  pub preferred : (c : Reading) → Contains specs c → (names : List (List ℕ)) × ArePreferred c s names
      × ((n : List ℕ) → Contains names n → IsRefName n → ¬ (Contains away n) → Contains now n)

-- ---- the sources that decide

-- those of a pattern with these texts, with each of the words
abbrev pub with_words : List ℕ → List ℕ → List (List ℕ) → List Source
with_words before after words = map (λ (w : List ℕ). name (before ++ (w ++ after))) words

-- the source in which the texts overlap in so many bytes
abbrev pub overlapping : List ℕ → List ℕ → ℕ → Source
overlapping prefix suffix k = name (prefix ++ drop k suffix)

-- the texts are what two patterns have in common, and overlap in no more bytes in a name that fits both
pub record AreTexts (p t a b prefix suffix : List ℕ) (most : ℕ) : Type 0 where
  pub prefix_is : IsLongerPrefix p a prefix
  pub suffix_is : IsLongerSuffix t b suffix
  pub most_is : IsMost p t a b prefix suffix most

-- now has the old sources, and behind them those in which the texts of two patterns overlap
pub record AddOverlaps (p t a b prefix suffix : List ℕ) (old now : List Source) : Type 0 where
  pub most : ℕ
  pub lengths : List ℕ
  pub texts : AreTexts p t a b prefix suffix most
  pub are : AreOverlaps prefix suffix most lengths
  pub all : now ≡ old ++ map (overlapping prefix suffix) lengths

-- the sources have each that decides what two patterns have in common
pub record DecideShared (words : List (List ℕ)) (p t a b : List ℕ) (sources : List Source) : Type 0 where
  pub prefix : List ℕ
  pub suffix : List ℕ
  pub most : ℕ
  pub texts : AreTexts p t a b prefix suffix most
  pub has : (n : List ℕ) → IsDeciding words prefix suffix most n → Contains sources (name n)

-- or no name fits both
abbrev pub DecideCommon : List (List ℕ) → List ℕ → List ℕ → List ℕ → List ℕ → List Source → Type 0
DecideCommon words p t a b sources = AreApart p t a b ⊎ DecideShared words p t a b sources

-- the names of a side, which has one if it is there
abbrev pub side_names : Option (List ℕ) → List (List ℕ)
side_names None = []
side_names (Some x) = x ∷ []

-- the sources decide which of those of a pattern with these texts the negative reading excludes
abbrev pub DecideExcluded : List (List ℕ) → List ℕ → List ℕ → Reading → List Source → Type 0
DecideExcluded words p t r sources =
    (HasPlainSource r × (sources ≡ map name (side_names r.source)))
    ⊎ ((a : List ℕ) × (b : List ℕ) × HasSourcePattern r a b × DecideCommon words p t a b sources)

-- none that decide so show that the value at index k fetches what h doesn't fetch
abbrev pub NoneByExclusion : List Reading → List Reading → ℕ → List (List ℕ) → List ℕ → List ℕ → Reading → Type 0
NoneByExclusion g h k words p t r = (sources : List Source) × DecideExcluded words p t r sources
    × AllByRecursion (AreNoneFrom g h k) sources

abbrev pub NoneExcluded : List Reading → List Reading → ℕ → Lists → List ℕ → List ℕ → Type 0
NoneExcluded g h k lists p t = AllByRecursion (NoneByExclusion g h k (words_in lists) p t)
    (map reading_of lists.exclusions.now)

-- the pairs that one of both lists fetches alone, and whether another source is merged
pub record ArePairsOf (g h : List Reading) (pairs : Pairs) : Type 0 where
  pub lost : AreFetchedAlone g h (map pair_example_of pairs.lost.items)
  pub gained : AreFetchedAlone h g (map pair_example_of pairs.gained.items)
  pub merges : MatchBool pairs.merges (¬ (MergeAlike g h)) (MergeAlike g h)

-- a pair as plain data
abbrev pub source_of : Pair → Source
source_of pair = start_of pair.source.now

abbrev pub destination_of : Pair → Option (List ℕ)
destination_of pair = option_map bstr_bytes pair.destination

-- neither side of it is invalid
pub record IsValidPair (pair : Pair) : Type 0 where
  pub source : IsValidSource (source_of pair)
  pub destination : CanBeWritten (destination_of pair)

-- ---- what is merged

-- the first completed reading has no star in its source
abbrev pub IsPlainFirst : List Reading → Type 0
IsPlainFirst cs = (c : Reading) × (slice_get cs zero ≡ Some c) × HasPlainSource c

-- ---- missing sources

-- where the source of the reading is missing, that of one of the readings is too
abbrev pub LacksToo : Reading → List Reading → Type 0
LacksToo r cs = (q : Reading) × Contains cs q
    × ((refs : List Ref) → AreValid refs → LacksSource refs r → LacksSource refs q)

-- refs of some valid names, none of which is one of these, have each source of the readings that isn't a pattern or id
pub record AreHadBeside (cs : List Reading) (names : List (List ℕ)) : Type 0 where
  pub others : List (List ℕ)
  pub valid : AllByRecursion IsRefName others
  pub apart : AllByRecursion (λ n. ¬ (Contains names n)) others
  pub had : (q : Reading) (refs : List Ref) → Contains cs q → ((n : List ℕ) → Contains others n → HasName refs n)
      → ¬ (LacksSource refs q)

-- ---- refs of the command line

-- l has the positive readings of g that have a destination
pub record AreTracking (g l : List Reading) : Type 0 where
  pub each : (r : Reading) → Contains l r → Contains g r × HasDestination r
  pub all : (r : Reading) → Contains g r → HasDestination r → Contains l r
