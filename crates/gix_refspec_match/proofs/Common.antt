-- The names that most proofs of this crate cite, passed on from one place. Declares nothing.
pub use Rattle.std.proofs.Common.{List, [], ◌∷◌, None, Some, codes, refl, ◌≡◌, ℕ, true, false, ◌++◌, Option, Less}
pub use Rattle.std.proofs.Common.{Equal, Greater, sym, ◌∙◌, arith, inl, inr, ◌≢◌, is_some, subst, ap, append-nil, ◌<◌}
pub use Rattle.std.proofs.Common.{length, map, take, drop, ◌+◌, get_or, slice_set, append_assoc, take_all, rules}
pub use Rattle.std.proofs.Common.{option_map, ◌⊎◌, ◌≤◌, ◌*◌, ◌%◌, ◌^◌, ◌↔◌, zero, suc, option_to_list, MatchOption, Bor}
pub use Rattle.std.proofs.Common.{IsTrue, Bool, zero-add, add-zero, length-append, take-append-drop, MatchBool}
pub use Rattle.std.proofs.Common.{length-drop, cond, bytes_eq, ◌-◌, Ordering, set, eqb, ◌/◌, not, bit_or, slice_get}
pub use Rattle.std.proofs.Common.{IsSome, HashMap, nat_eq, option_copied}
pub use Rattle.std.proofs.Math.Nat.{mod-eq_of_lt, div-mul-le_self}
pub use Rattle.std.proofs.Math.Pow.{shr_mono, pow-lt}
pub use Rattle.std.proofs.Math.Seq.{get_or-append_seam, take-append_seam, drop-append-add, drop-append_seam}
pub use Rattle.std.proofs.lemmas.Bool.Decides.{nat_tests, not_from_Decides, Decides-eqb, same_from_decides}
pub use Rattle.std.proofs.lemmas.Bool.{false≢true, ltb-false, MatchBool-at_true, cases_Bool, cases_eq, cases_lt, le-ltb}
pub use Rattle.std.proofs.lemmas.Bool.{eq-eqb, ne_eqb, eqb-true, not-false}
pub use Rattle.std.proofs.lemmas.Fn.{always_returns_same}
pub use Rattle.std.proofs.lemmas.Grind.{common_steps, elements}
pub use Rattle.std.proofs.lemmas.List.Kept.{AllPairs-filter}
pub use Rattle.std.proofs.lemmas.List.Quantifiers.{Any-push}
pub use Rattle.std.proofs.lemmas.List.{drop_more, get_or_at, get_or_past, map_more, set_at, length-map, get_or-set_same}
pub use Rattle.std.proofs.lemmas.List.{length-take-le, get_or_default, take_more, append_cancel_left, map-id}
pub use Rattle.std.proofs.lemmas.List.{get_or_append_left, map-append, get_or-map, length-set, nil_from_length}
pub use Rattle.std.proofs.lemmas.List.{get_or-set_other, get_or_read, get_or-take, map_push}
pub use Rattle.std.proofs.lemmas.List.Elements.{All-from_recursion, All-more, All-contains, Contains-append_left}
pub use Rattle.std.proofs.lemmas.List.Elements.{Contains-push, Contains-push_cases, pair_read, All-push}
pub use Rattle.std.proofs.lemmas.List.Elements.{Contains-get_or, All-filter, Contains-append_cases, filter_passes}
pub use Rattle.std.proofs.lemmas.List.Filters.{FiltersInPlace, FiltersInPlace-all, FiltersInPlace-more_no}
pub use Rattle.std.proofs.lemmas.List.Filters.{FiltersInPlace-more_set}
pub use Rattle.std.proofs.lemmas.List.Sorted.{All-permutation, Contains-permutation, ranks_by, sorted_far}
pub use Rattle.std.proofs.lemmas.List.Sorted.{IsNonDecreasingBy-from_sort, IsPermutation-filter_both}
pub use Rattle.std.proofs.lemmas.Nat.Bits.{bit_at_or, bit_at-pow_same, shr_and_one}
pub use Rattle.std.proofs.lemmas.Nat.{pow_below, pow_pos, div-mul-add, mod-mul-add, or_shifted, shr_split, and_mask}
pub use Rattle.std.proofs.lemmas.Nat.{leading_length}
pub use Rattle.std.proofs.lemmas.Result.{on_ok_weaker}
pub use Rattle.std.proofs.lemmas.Slice.Eq.{bytes_eq-Decides, strip_suffix_is, strip_prefix_is}
pub use Rattle.std.proofs.lemmas.Cmp.{nat_cmp_total, nat_eq_equiv, on_total, tied_back, then_total}
pub use Rattle.std.proofs.lemmas.Map.Keys.{IsDistinct-IsPermutation, IsDistinct-from_apart, apart_from_distinct}
pub use Rattle.std.proofs.lemmas.Map.Keys.{ge_from_not_lt}
pub use Rattle.std.proofs.lemmas.Option.{same_Some, MatchOption-at_none, slice_get-map, slice_get-get_or, gets}
pub use Rattle.std.proofs.lemmas.Option.{get_or_from_slice_get, slice_get_within}
pub use Rattle.std.specs.Cmp.{IsTotalOrder}
pub use Rattle.std.specs.Cmp.Lexicographic.{slice_cmp, bytes_decides, pointwise_decides, texts_ties}
pub use Rattle.std.specs.Global.{Vec}
pub use Rattle.std.specs.HashMap.{hash_map_len, IsEmpty}
pub use Rattle.std.specs.List.Sorted.{IsPermutation, IsSorted}
pub use Rattle.std.specs.List.{AllByRecursion, Contains, filter, IsDistinct}
pub use Rattle.std.specs.Map.{lookup}
pub use Rattle.std.specs.Option.{option_eq}
pub use Rattle.std.specs.Prelude.{pos}
pub use Rattle.std.specs.Vec.{vec_len}
pub use Rattle.std.specs.Ordering.{nat_cmp, bool_cmp, ordering_then, is_eq, is_lt, ordering_reverse}
pub use Rattle.bstr.specs.BStr.{bstr_bytes}
pub use Rattle.gix_refspec_text.proofs.lemmas.hits.MatchLemmas.{lacks_no_pattern, one_word, split_once}
pub use Rattle.gix_refspec_text.proofs.lemmas.hits.CandidateLemmas.{first_of_one, taken_by_first, first_once}
pub use Rattle.gix_refspec_text.proofs.lemmas.hits.CandidateLemmas.{first_candidate, some_first}
pub use Rattle.gix_refspec_text.proofs.lemmas.lists.AllLemmas.{all_weaker, all_right, all_join, all_left}
pub use Rattle.gix_refspec_text.proofs.lemmas.lists.MapLemmas.{one_more_mapped, map_next}
pub use Rattle.gix_refspec_text.proofs.lemmas.specs.AcceptedLemmas.{accepted_few}
pub use Rattle.gix_refspec_text.proofs.lemmas.texts.ComponentLemmas.{AllByRecursion-parts}
pub use Rattle.gix_refspec_text.proofs.lemmas.texts.ObjectIdLemmas.{IsIdText-unique}
pub use Rattle.gix_refspec_text.proofs.lemmas.texts.TextLemmas.{Lacks-from_absent}
pub use Rattle.gix_refspec_text.specs.Laws.Readings.{FirstCandidate}
pub use Rattle.gix_refspec_text.specs.Private.SideViews.{kind_of_side}
pub use Rattle.gix_refspec_text.specs.Specs.Grammar.{fetched, pushed, IsPositive, IsAccepted}
pub use Rattle.gix_refspec_text.specs.Specs.Reading.{Normal, Forced, Negative, Reading, Mode}
pub use Rattle.gix_refspec_text.specs.Texts.Bytes.{star}
pub use Rattle.gix_refspec_text.specs.Texts.Name.{IsSplit}
pub use Rattle.gix_refspec_text.specs.Texts.ObjectId.{IsIdText, id_bytes}
pub use Rattle.gix_refspec_text.specs.Texts.Words.{BeginsWith, Lacks}
pub use Rattle.gix_refspec_text.specs.Views.Spec.{reading_of}
pub use Rattle.gix_refspec_text.specs.declared.oid.ObjectId.{ObjectId}
pub use Rattle.gix_refspec_text.specs.declared.side.SideKind.{SideKind as DeclaredKind}
pub use Rattle.gix_refspec_text.specs.declared.side.SideKind.TheVariants.{Object, Partial}
pub use Rattle.gix_refspec_text.specs.declared.spec.RefSpecRef.{RefSpecRef}
pub use Rattle.gix_refspec_text.specs.Matching.Match.{Ref, Matches, Takes, HasName, IsFirstCandidate, MatchesAs}
pub use Rattle.gix_refspec_text.specs.Matching.Side.{pattern, object, HasKind, full_name, Excludes, the_name, partial}
pub use Rattle.gix_refspec_text.specs.Matching.Side.{by_pattern, SideKind, Fits, IsCandidate, candidates}
pub use Rattle.gix_refspec_match.proofs.lemmas.duplicates.FlagLemmas.{AreFlagged, equal_told, flags_all, flags_raised}
pub use Rattle.gix_refspec_match.proofs.lemmas.duplicates.FlagLemmas.{some_element}
pub use Rattle.gix_refspec_match.proofs.lemmas.lists.JoinLemmas.{joined_next, made_more, made_next, made_none, map_long}
pub use Rattle.gix_refspec_match.specs.Matching.Lists.{MakesOf, IsMadeFrom, IsJoinedFrom}
pub use Rattle.gix_refspec_match.specs.Matching.Missing.{AreMissing, LacksSource}
pub use Rattle.gix_refspec_match.specs.Matching.Hits.{Ends, AreForwardEnds, AreBackwardEnds, IsFilled, Hit, IsHit}
pub use Rattle.gix_refspec_match.specs.Matching.Hits.{AreSpecHits, AreHits, forward_of, backward_of, IsIdMapping}
pub use Rattle.gix_refspec_match.specs.Matching.Hits.{AreBackward, AreForward, AreKeptForward, AreKeptBackward}
pub use Rattle.gix_refspec_match.specs.Matching.Hits.{OneForward, OneBackward}
pub use Rattle.gix_refspec_match.specs.Matching.Mappings.{name, id, Mapped, IsExcludedBy, IsExcluded, IsKeptAt, IsKept}
pub use Rattle.gix_refspec_match.specs.Matching.Mappings.{Source, IsSourceExcluded, IsSamePair, HasPair}
pub use Rattle.gix_refspec_match.specs.Private.Bloom.{HasNumber, IsWhole}
pub use Rattle.gix_refspec_match.specs.Private.Part.{place_among, IsPartBehind, IsPart}
pub use Rattle.gix_refspec_match.specs.Private.Duplicates.{FlagsDuplicates, IsDuplicate, AreFirsts, AreIndexesBelow}
pub use Rattle.gix_refspec_match.specs.Private.Duplicates.{HaveSameUpper, IsSecond, index_in, AreApart, ArePlaced}
pub use Rattle.gix_refspec_match.specs.Private.Duplicates.{HaveEqualElements, IsPlaced, placed_order, AreKeysOf}
pub use Rattle.gix_refspec_match.specs.Private.Duplicates.{FindDuplicates, HasIndex, HasShared, IsKey, is_shared}
pub use Rattle.gix_refspec_match.specs.Private.EqualSpecs.{HaveSameSides, FlagsEqual, excludes, side_order, sides_order}
pub use Rattle.gix_refspec_match.specs.Private.Fills.{AddsMapped, mapping_of, Thins, IsMappedHit, hit_of}
pub use Rattle.gix_refspec_match.specs.Private.Fills.{object_mapping, hit_by, MayGo, hit_of_both}
pub use Rattle.gix_refspec_match.specs.Private.Filter.{AreWholeTails, HasTail, short_tail_number, IsWholeFilter, Passes}
pub use Rattle.gix_refspec_match.specs.Private.Hits.{AreFound, turned, hit_at, AddsFound, IsFound, AreHitsAmong}
pub use Rattle.gix_refspec_match.specs.Private.Hits.{AreSound, IsSound}
pub use Rattle.gix_refspec_match.specs.Private.Index.{ArePlacesBehind, HasNone, IsIndexFor, TakesWhole, ArePlacesTaken}
pub use Rattle.gix_refspec_match.specs.Private.Index.{Joins, name_at, IsIndexOf, IsListed, HasNamesOf, ListsFor}
pub use Rattle.gix_refspec_match.specs.Private.Index.{ArePlacesOf, HavePlaces, AddsPlace, HaveLengths, ListPrefixes}
pub use Rattle.gix_refspec_match.specs.Private.Index.{AddsWhere, IsBelowPlace, ListPartials, list_of}
pub use Rattle.gix_refspec_match.specs.Private.Kept.{ExcludeName, FitsName, index_of, AreExclusionsAt, AreExclusionsOf}
pub use Rattle.gix_refspec_match.specs.Private.Kept.{IsFlagged, Rises, ExcludeNameAt, ExcludeStart, IsUnflagged}
pub use Rattle.gix_refspec_match.specs.Private.Matchers.{AreNamed, HasNoSides, HaveSides, IsNamed, IsNameKind}
pub use Rattle.gix_refspec_match.specs.Private.Matchers.{HaveKinds, HasEnds, TakesIn, AreMatcherOf, AreMatchersOf}
pub use Rattle.gix_refspec_match.specs.Private.Matchers.{AreObjectOf, HaveOthers, AreObjectsOf}
pub use Rattle.gix_refspec_match.specs.Private.Needles.{filled_side, HasSideKind, IsFirstIn, IsFolder, IsMade}
pub use Rattle.gix_refspec_match.specs.Private.Needles.{IsMatched, MatchesListed, MatchesNamed, IsTaken, TakesEach}
pub use Rattle.gix_refspec_match.specs.Private.Needles.{word_in}
pub use Rattle.gix_refspec_match.specs.Private.Orders.{both_equal, same_options, equal_pair, pair_order, same_pair}
pub use Rattle.gix_refspec_match.specs.Private.Orders.{bytes_order, same_texts}
pub use Rattle.gix_refspec_match.specs.Views.Hashed.{source_writes, pair_writes}
pub use Rattle.gix_refspec_match.specs.Views.Mapping.{IsBorrowed, IsOwned, IsLent, IsOwnedSource, HasOwned, IsNameCopy}
pub use Rattle.gix_refspec_match.specs.Views.Mapping.{IsSourceCopy, IsDestinationCopy, IsMappingCopy, ref_of, mapped_of}
pub use Rattle.gix_refspec_match.specs.Views.Mapping.{name_bytes}
pub use Rattle.gix_refspec_match.specs.declared.bloom.Bloom.{Bloom}
pub use Rattle.gix_refspec_match.specs.Matching.Single.{IsRenamed, MapsName, MapsNameBack}
pub use Rattle.gix_refspec_match.specs.declared.bloom.NameFilter.{NameFilter}
pub use Rattle.gix_refspec_match.specs.declared.bloom.ShortTails.{ShortTails}
pub use Rattle.gix_refspec_match.specs.declared.duplicates.Placed.{Placed}
pub use Rattle.gix_refspec_match.specs.declared.exclusions.Exclusions.{Exclusions}
pub use Rattle.gix_refspec_match.specs.declared.exclusions.Pattern.{Pattern}
pub use Rattle.gix_refspec_match.specs.declared.hits.Hit.{Hit as DeclaredHit}
pub use Rattle.gix_refspec_match.specs.declared.index.Index.{Index}
pub use Rattle.gix_refspec_match.specs.declared.index.Key.{Key}
pub use Rattle.gix_refspec_match.specs.declared.index.Names.{Names}
pub use Rattle.gix_refspec_match.specs.declared.matcher.Candidates.{Candidates}
pub use Rattle.gix_refspec_match.specs.declared.matcher.Candidates.TheVariants.{All, First}
pub use Rattle.gix_refspec_match.specs.declared.matcher.Matcher.{Matcher}
pub use Rattle.gix_refspec_match.specs.declared.matcher.Matchers.{Matchers}
pub use Rattle.gix_refspec_match.specs.declared.matcher.ObjectSpec.{ObjectSpec}
pub use Rattle.gix_refspec_match.specs.declared.matcher.Sides.{Sides}
pub use Rattle.gix_refspec_match.specs.declared.types.Item.{Item}
pub use Rattle.gix_refspec_match.specs.declared.types.Mapping.{Mapping}
pub use Rattle.gix_refspec_match.specs.declared.types.NameRef.{NameRef}
