-- What is found of one value of two lists.
use Rattle.gix_refspec_diff.proofs.Common.{AllByRecursion, IsPositive, List, MatchOption, Negative, Option, Reading}
use Rattle.gix_refspec_diff.proofs.Common.{Some, Source, [], slice_get, subst, ℕ, ◌≡◌, Contains, MakesForward, Ref}
use Rattle.gix_refspec_diff.proofs.Common.{map, reading_of}
use Rattle.gix_refspec_lint.proofs.Common.{HasSourcePattern, words_with}
use Rattle.gix_refspec_match.specs.Private.Kept.{IsFlagged}
use Rattle.gix_refspec_diff.proofs.lemmas.ExampleLemmas.{found_weaker, shown_alone}
use Rattle.gix_refspec_diff.proofs.lemmas.LostLemmas.{excluded_none, known_none, named_none, negative_none, nothing_new}
use Rattle.gix_refspec_diff.proofs.lemmas.LostLemmas.{pattern_none}
use Rattle.gix_refspec_diff.specs.Matching.Difference.{IsFetchedAlone}
use Rattle.gix_refspec_diff.specs.Private.Searches.{AreListsOf, AreNoneFrom, FetchesNone, IsShownBy, NoneByExclusion}
use Rattle.gix_refspec_diff.specs.Private.Searches.{NoneExcluded, ones_of, with_words, words_in}
use Rattle.gix_refspec_diff.specs.Views.Difference.{pair_example_of}
use Rattle.gix_refspec_diff.specs.declared.PairExample.{PairExample as Found}
use Rattle.gix_refspec_diff.specs.declared.lists.Lists.{Lists}

module _ (g h : List Reading) (lists : Lists) (are : AreListsOf g h lists) (k : ℕ) (c : Reading)
    (at : slice_get (ones_of lists) k ≡ Some c) where
  pub negative_fetches : c.mode ≡ Negative → FetchesNone g h k
  negative_fetches = negative_none are.letter g h are.free are.clear _ _ are.one.completed are.other.completed _
      are.exclusions k c at

  -- without a star: it is known, and nothing is excluded besides; or none of the sources that it names shows anything
  pub known_name : IsFlagged lists.is_known.now k → map reading_of lists.exclusions.now ≡ [] → FetchesNone g h k
  known_name flagged none = nothing_new are.letter g h are.free are.clear _ _ are.one.completed are.other.completed _
      are.exclusions k c at ((are.known k c at).0 flagged) none

  pub name_found : (sources : List Source)
      → ((refs : List Ref) (s : Source) (d : Option (List ℕ)) → MakesForward refs s d c → Contains sources s)
      → (found : Option Found)
      → MatchOption found (AllByRecursion (AreNoneFrom g h k) sources)
      (λ e. IsShownBy g h k (pair_example_of e))
      → MatchOption found (FetchesNone g h k) (λ e. IsFetchedAlone g h k (pair_example_of e))
  name_found sources has = found_weaker _ _ _ _
      (named_none are.letter g h are.free are.clear _ _ are.one.completed are.other.completed _ are.exclusions k c at
      sources has)
      (λ e. shown_alone g h k (pair_example_of e))

  module _ (positive : IsPositive c.mode) (p t : List ℕ) (source : HasSourcePattern c p t) where
    none_of : NoneExcluded g h k lists p t
        → AllByRecursion (NoneByExclusion g h k (words_with are.letter) p t) (map reading_of lists.exclusions.now)
    none_of none =
        subst (λ words. AllByRecursion (NoneByExclusion g h k words p t) (map reading_of lists.exclusions.now))
        are.words none

    -- a pattern that is known
    pub known_pattern : IsFlagged lists.is_known.now k → NoneExcluded g h k lists p t → FetchesNone g h k
    known_pattern flagged none = known_none are.letter g h are.free are.clear _ _ are.one.completed are.other.completed
        _ are.exclusions k c at ((are.known k c at).0 flagged)
        (excluded_none are.letter g h are.free are.clear _ _ are.one.completed are.other.completed _ are.exclusions k c
        at positive p t source (none_of none))

    -- or any
    pub any_pattern : AllByRecursion (AreNoneFrom g h k) (with_words p t (words_in lists))
        → NoneExcluded g h k lists p t → FetchesNone g h k
    any_pattern own none = pattern_none are.letter g h are.free are.clear _ _ are.one.completed are.other.completed _
        are.exclusions k c at positive p t source (none_of none)
        (subst (λ words. AllByRecursion (AreNoneFrom g h k) (with_words p t words)) are.words own)
