-- An example for each value that fetches something alone.
use Rattle.gix_refspec_diff.proofs.Common.{AllByRecursion, BString, IsRefName, IsSourceExcluded, List, MatchOption}
use Rattle.gix_refspec_diff.proofs.Common.{None, Option, Reading, Some, Source, [], ap, arith, bstring_bytes, get_or}
use Rattle.gix_refspec_diff.proofs.Common.{length, map, map-append, name, of_element, refl, slice_get, subst, sym, take}
use Rattle.gix_refspec_diff.proofs.Common.{ℕ, ◌++◌, ◌+◌, ◌<◌, ◌∙◌, ◌∷◌, ◌≡◌}
use Rattle.gix_refspec_lint.proofs.Common.{IsExcludedBy, IsMadeFrom, MakesOf, all_join, length-take-le, made_next}
use Rattle.gix_refspec_lint.proofs.Common.{mapped_there, option_to_list, some_element, take_more}
use Rattle.gix_refspec_lint.proofs.lemmas.IndexLemmas.{excluded_at}
use Rattle.gix_refspec_diff.specs.Matching.Difference.{FetchesAlone, IsFetchedAlone, PairExample, refs_in}
use Rattle.gix_refspec_diff.proofs.lemmas.SoughtLemmas.{valid_beside}
use Rattle.gix_refspec_diff.specs.Private.Searches.{AreNoneFrom, FetchesNone, IsShownBy, refs_beside}

-- what one list fetches and the other doesn't
pub shown_alone : (g h : List Reading) (k : ℕ) (e : PairExample) → IsShownBy g h k e
    → IsFetchedAlone g h k e
shown_alone g h k e shown = record {
  spec = shown.spec;
  valid = valid_beside e.source e.beside shown.alone.one.fetches.maps.source shown.beside;
  alone = shown.alone;
}

-- what is told of an example, or of none, told otherwise
pub found_weaker : {X : Type 0} (P Q : Type 0) (R T : X → Type 0) → (P → Q) → ((e : X) → R e → T e)
    → (found : Option X) → MatchOption found P R → MatchOption found Q T
found_weaker P Q R T one other None told = one told
found_weaker P Q R T one other (Some e) told = other e told

abbrev pub IsExampleAt : List Reading → List Reading → ℕ → Reading → PairExample → Type 0
IsExampleAt g h k r e = IsFetchedAlone g h k e

-- one more value, and its example, if it has one
pub fetched_next : (g h : List Reading) (i : ℕ) (found : Option PairExample) (ys zs : List PairExample) → i < length g
    → MatchOption found (FetchesNone g h i) (IsFetchedAlone g h i) → IsMadeFrom (IsExampleAt g h) 0 (take i g) ys
    → zs ≡ ys ++ option_to_list found → IsMadeFrom (IsExampleAt g h) 0 (take (i + 1) g) zs
fetched_next g h i found ys zs below is so_far more =
    let x = some_element g i below in
    let makes = elim found as (λ f. MatchOption f (FetchesNone g h i) (IsFetchedAlone g h i)
    → MakesOf (IsExampleAt g h) i (get_or g i x) f) [
      | None ↦ λ none e alone.
          none e.source (refs_in e) e.destination alone.valid alone.alone
      | Some e ↦ λ shown. shown
    ] in
    rw (more, take_more g i x below) (made_next (IsExampleAt g h) i (take i g) (get_or g i x) ys found
    (length-take-le i g (omega (arith, below))) so_far (makes is))

-- what is excluded the list doesn't fetch
pub none_excluded : (g h : List Reading) (k : ℕ) (s : Source) (i : ℕ) (n : List ℕ) (r : Reading)
    → s ≡ name n → slice_get g i ≡ Some r → IsExcludedBy n r → AreNoneFrom g h k s
none_excluded g h k s i n r named here by refs d valid sought =
    sought.one.fetches.included (subst (IsSourceExcluded g) (sym named) (excluded_at g i r n here by))

-- one of some valid names behind others
pub valid_pushed : (names : List BString) (i : ℕ) (x : BString) (old new : List BString) (b : BString)
    → i < length names → x ≡ get_or names i x → bstring_bytes b ≡ bstring_bytes x → new ≡ old ++ b ∷ []
    → AllByRecursion IsRefName (map bstring_bytes old) → AllByRecursion IsRefName (map bstring_bytes names)
    → AllByRecursion IsRefName (map bstring_bytes new)
valid_pushed names i x old new b below at same more so_far all =
    let valid = of_element IsRefName (map bstring_bytes names) (bstring_bytes x) all
    (mapped_there bstring_bytes names x (i, below, sym at)) in
    rw (ap (map bstring_bytes) more ∙ map-append bstring_bytes old (b ∷ []))
    (all_join IsRefName (map bstring_bytes old) _ so_far (subst IsRefName (sym same) valid, tt))

-- what is sought beside the source, as an example with a copy of it
pub shown_beside : (g h : List Reading) (k : ℕ) (s t : Source) (d : Option (List ℕ))
    (names : List (List ℕ)) → t ≡ s → AllByRecursion IsRefName names → FetchesAlone g h (refs_beside s names) k s d
    → IsShownBy g h k (record { spec = k; source = t; destination = d; beside = names })
shown_beside g h k s t d names same valid alone = record {
  spec = refl;
  beside = valid;
  alone = subst (λ x. FetchesAlone g h (refs_beside x names) k x d) (sym same) alone;
}
