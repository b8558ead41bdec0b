-- What most proofs of this crate need: names of std, and the words of specs/ of this crate and of those below it.
pub use Rattle.std.proofs.Common.{◌≡◌, inl, inr, ℕ, zero, suc, List, [], ◌∷◌, ◌++◌, None, Some, codes, length, refl}
pub use Rattle.std.proofs.Common.{sym, ap, subst, arith, ◌≢◌, true, false, Option, map, option_map, replicate, Vec}
pub use Rattle.std.proofs.Common.{Global, ◌∙◌, Bool, ◌⊎◌, ◌<◌, get_or, IsTrue, ◌↔◌, ◌&&◌, rules, map-id, unwrap_or, ◌+◌}
pub use Rattle.std.proofs.Common.{nat_eq, option_to_list, length-append, take, append_assoc, MatchOption, drop, not}
pub use Rattle.std.proofs.Common.{◌==◌, ◌≤◌, ◌||◌, nat_le, if◌then◌else◌, ◌-◌, IsPermutation, IsSorted, Ordering, Less}
pub use Rattle.std.proofs.Common.{Equal, Greater, IsSome, bytes_eq, take_all, drop-drop, add-zero}
pub use Rattle.std.proofs.lemmas.Bool.{false≢true, and_parts, and_from, or_left, or_right, or_parts, true≢false}
pub use Rattle.std.proofs.lemmas.Bool.{eqb-true, lt-leb, lt-ltb, cases_lt, not-false, not-true}
pub use Rattle.std.proofs.lemmas.List.{get_or-map, length-map, append-nil, map-append, map_more, get_or_past}
pub use Rattle.std.proofs.lemmas.List.{length-take-le, take-append-drop, take_more, drop_more, length-drop}
pub use Rattle.std.proofs.lemmas.List.{nil_from_length, get_or_default, get_or-drop, get_or-take, take-take}
pub use Rattle.std.proofs.lemmas.List.Elements.{All-contains, All-contains_itself, All-filter, recursion_from_All}
pub use Rattle.std.proofs.lemmas.List.Elements.{All-from_recursion, Contains-get_or, Contains-append_left}
pub use Rattle.std.proofs.lemmas.List.Elements.{Contains-push, all_zip_more}
pub use Rattle.std.proofs.lemmas.Option.{same_Some, slice_get-get_or, slice_get-map, slice_get_read, slice_get_within}
pub use Rattle.std.proofs.lemmas.Option.{get_or_from_slice_get}
pub use Rattle.std.proofs.lemmas.Slice.Eq.{bytes_eq-Decides, starts_is}
pub use Rattle.std.specs.Cmp.Lexicographic.{slice_cmp, pointwise, nat_list_cmp_total}
pub use Rattle.std.specs.List.{Any, filter, Contains, slice_get, AllByRecursion, list_all, list_any, AllZip}
pub use Rattle.std.specs.List.{starts_with, join_with_byte, slice_split}
pub use Rattle.std.specs.{List.{items_where_true}, Ordering.{nat_cmp, is_lt, ordering_then, ordering_reverse}}
unfoldable pub use Rattle.std.specs.List.Sorted.{IsStrictlySortedBy}
pub use Rattle.bstr.specs.BStr.{bstr_bytes}
pub use Rattle.bstr.specs.Owned.{bstring_bytes}
pub use Rattle.bstr.specs.declared.bstr.BStr.{BStr}
pub use Rattle.bstr.specs.declared.bstring.BString.{BString}
pub use Rattle.gix_refspec_text.specs.Laws.Covering.{HasCoveringSource, IsCovering, by_prefix, by_candidates}
pub use Rattle.gix_refspec_text.specs.Matching.Match.{Ref, HasName, Matches, Takes, IsFirstCandidate, MatchesAs}
pub use Rattle.gix_refspec_text.specs.Matching.Prefix.{IsRefPrefix, to_prefix, IsAsked, IsPrefix, Expands}
pub use Rattle.gix_refspec_text.specs.Matching.Prefix.{to_candidates, of_head, IsExpansion}
pub use Rattle.gix_refspec_text.specs.Matching.Side.{pattern, partial, object, HasKind, candidates, full_name, filled}
pub use Rattle.gix_refspec_text.specs.Matching.Side.{IsCandidate, Fits, SideKind, IsId}
pub use Rattle.gix_refspec_text.specs.Specs.Grammar.{fetched, pushed, IsPositive, AreParts, Reads, fetches, IsAccepted}
pub use Rattle.gix_refspec_text.specs.Specs.Grammar.{fetches_nothing_named, fetches_colon, updates, updates_from_head}
pub use Rattle.gix_refspec_text.specs.Specs.Grammar.{fetch_excludes, pushes_plus, pushes_colon, pushes, deletes}
pub use Rattle.gix_refspec_text.specs.Specs.Grammar.{pushes_pattern, pushes_to, push_excludes, IsNameOrPattern}
pub use Rattle.gix_refspec_text.specs.Specs.Grammar.{AreAlike, named_by}
pub use Rattle.gix_refspec_text.specs.Specs.Meaning.{fetch_and_update, meaning_of, fetch_only, push_matching}
pub use Rattle.gix_refspec_text.specs.Specs.Meaning.{push_delete, printed, Meaning, fetch_exclude, meaning, sign}
pub use Rattle.gix_refspec_text.specs.Specs.Meaning.{begins_with_plus}
pub use Rattle.gix_refspec_text.specs.Specs.Reading.{Normal, Reading, Forced, Negative, Mode, side_on_remote}
pub use Rattle.gix_refspec_text.specs.Specs.Refusal.{Refusal, PatternUnbalanced, NegativeEmpty, ReferenceName}
pub use Rattle.gix_refspec_text.specs.Specs.Refusal.{IsRefused, IsOneStarred}
pub use Rattle.gix_refspec_text.specs.Texts.Bytes.{bracket, star, head, colon, slash, at, brace, dot, letter}
pub use Rattle.gix_refspec_text.specs.Texts.Name.{HasStar, IsPattern, IsName, HasSeveralStars, HasOneStar, IsSplit}
pub use Rattle.gix_refspec_text.specs.Texts.Name.{is_refused_byte, HasFault, SomeComponent}
pub use Rattle.gix_refspec_text.specs.Texts.ObjectId.{IsIdText, IsLowerText, HasIdFault, digits_of, id_bytes}
pub use Rattle.gix_refspec_text.specs.Texts.ObjectId.{is_lower_digit, lower_of}
pub use Rattle.gix_refspec_text.specs.Texts.Words.{BeginsWith, Lacks, EndsWith, ArePartsAt}
pub use Rattle.gix_refspec_text.specs.Views.Spec.{reading_of, owned_reading_of, key_of_spec}
pub use Rattle.gix_refspec_text.specs.declared.name.Error.TheVariants.{LockSuffix, RepeatedDot, Empty, EmptyComponent}
pub use Rattle.gix_refspec_text.specs.declared.name.Error.TheVariants.{StartsWithDot, EndsWithDot, ReflogPortion}
pub use Rattle.gix_refspec_text.specs.declared.name.Error.TheVariants.{Asterisk, InvalidByte}
pub use Rattle.gix_refspec_text.specs.declared.oid.Kind.TheVariants.{Sha1, Sha256}
pub use Rattle.gix_refspec_text.specs.declared.parsing.Operation.{Operation}
pub use Rattle.gix_refspec_text.specs.declared.parsing.Operation.TheVariants.{Push, Fetch}
pub use Rattle.gix_refspec_text.specs.declared.spec.RefSpecRef.{RefSpecRef}
pub use Rattle.gix_refspec_match.specs.Matching.Hits.{AreKeptForward, AreKeptBackward, AreForwardEnds, AreBackwardEnds}
pub use Rattle.gix_refspec_match.specs.Matching.Hits.{Hit, OneForward, OneBackward, KeptOnce, AreForward, AreBackward}
pub use Rattle.gix_refspec_match.specs.Matching.Hits.{Ends, IsFilled, forward_of, backward_of, IsIdMapping, AreSpecHits}
pub use Rattle.gix_refspec_match.specs.Matching.Hits.{AreHits, IsHit}
pub use Rattle.gix_refspec_match.specs.Matching.Lists.{MakesOf, IsMadeFrom, IsJoinedFrom}
pub use Rattle.gix_refspec_match.specs.Matching.Mappings.{Mapped, name, id, HasPair, IsExcluded, AreApart, IsSamePair}
pub use Rattle.gix_refspec_match.specs.Matching.Mappings.{Source, IsExcludedBy, IsSourceExcluded, IsKeptAt, IsKept}
pub use Rattle.gix_refspec_match.specs.Private.Duplicates.{FlagsDuplicates}
pub use Rattle.gix_refspec_match.specs.Private.Kept.{IsFlagged, Rises}
pub use Rattle.gix_refspec_match.specs.Private.Orders.{equal_pair, pair_order, same_pair, bytes_order, equal_texts}
pub use Rattle.gix_refspec_match.specs.Private.Orders.{same_texts, both_equal}
pub use Rattle.gix_refspec_match.specs.Views.Mapping.{name_bytes, start_of, mapped_of, ref_of, text_of_source}
pub use Rattle.gix_refspec_match.specs.Views.Mapping.{AreMappingCopies, IsNameCopy, IsSourceCopy, IsMappingCopy}
pub use Rattle.gix_refspec_match.specs.Views.Mapping.{IsDestinationCopy}
pub use Rattle.gix_refspec_match.specs.declared.matcher.Candidates.TheVariants.{First, All}
pub use Rattle.gix_refspec_match.specs.declared.types.Item.{Item}
pub use Rattle.gix_refspec_match.specs.declared.types.Mapping.{Mapping}
pub use Rattle.gix_refspec_match.specs.declared.types.NameRef.{NameRef}
pub use Rattle.gix_refspec_match.specs.declared.types.NameRef.TheVariants.{Borrowed, Owned}
pub use Rattle.gix_refspec_match.specs.declared.types.SourceRef.{SourceRef}
pub use Rattle.gix_refspec.specs.Laws.Indexes.{MakesForwardOf, MakesBackwardOf, MadeAtIndexes, RemainsExactly, TakesAt}
pub use Rattle.gix_refspec.specs.Laws.Items.{AreAskedFor, ArePart, AskedItems, TakesItem, HasTaken, HaveSamePairs}
pub use Rattle.gix_refspec.specs.Laws.Items.{FewerItems, FetchesHead, IsListed, AreListedItems, ListedItems}
pub use Rattle.gix_refspec.specs.Laws.Items.{PassesTaken, FilteredItems, is_begun, FilteredByEntries, FilteredByList}
pub use Rattle.gix_refspec.specs.Laws.Items.{AsksForNoId, HasIdDestination, HaveSameNames, NamesDecide, NamesDecideBack}
pub use Rattle.gix_refspec.specs.Laws.Matching.{EqualGroups, AreFetches, FetchTheSame, BeginsWithOne, IsCoveredBy}
pub use Rattle.gix_refspec.specs.Laws.Matching.{AreExpansions, MakesForward, MakesBackward, PairsId, KeptExactly}
pub use Rattle.gix_refspec.specs.Laws.Matching.{FirstStays, NothingExcluded, MapAlike, AreReadAgain, AsksFor, AtSpec}
pub use Rattle.gix_refspec.specs.Laws.Matching.{EachSource, Transpose, Cover, CoverTogether, FetchGroupReadsBack}
pub use Rattle.gix_refspec.specs.Laws.Matching.{IsSourceAmong, IsDestinationAmong, GoesBothWays, ReadsAgainAs}
pub use Rattle.gix_refspec.specs.Laws.Matching.{IsFirstOfPair, PairsItem, IsPaired}
pub use Rattle.gix_refspec.specs.Laws.Names.{is_plain_component, is_plain_name, PlainNames, is_special_byte}
pub use Rattle.gix_refspec.specs.Laws.Plans.{AreFixesApart, HaveSourcesByIndex, LacksIn, MappedLacks}
pub use Rattle.gix_refspec.specs.Laws.Plans.{NoControlCharacter, PlansApart, SidesLack, SourceLacks, HaveOneSource}
pub use Rattle.gix_refspec.specs.Laws.Validation.{OneValidation, IsOutcomeCopy, CopiedOutcome, ValidateAlike}
pub use Rattle.gix_refspec.specs.Matching.Asked.{HasNoList, Lists, ListsGroup, ListsSide, Serves, ListsAs}
pub use Rattle.gix_refspec.specs.Matching.RefNames.{KeepsRefNames, LeftOut, IsRefName, AreLeftOut, HaveRefNames}
pub use Rattle.gix_refspec.specs.Matching.RefNames.{IsInvalidAt, IsLeftOut, HasRefNames, IsValidDestination}
pub use Rattle.gix_refspec.specs.Matching.RefNames.{IsValidSource, StaysAmongRefs, WritesRefs, left_out_of, WritesRef}
pub use Rattle.gix_refspec.specs.Matching.Validation.{Conflict, IsValidated, IsWritable, Removed, ForwardIndexes}
pub use Rattle.gix_refspec.specs.Matching.Validation.{ItemIndexesFit, ValidatedOnce, DestinationsHaveOneSource}
pub use Rattle.gix_refspec.specs.Matching.Validation.{HaveDistinctDestinations, ForwardFits, IndexesFit, HasConflictAt}
pub use Rattle.gix_refspec.specs.Matching.Validation.{IsFirstTo, IsTextAt, IsConflict, AreConflicts, Survives}
pub use Rattle.gix_refspec.specs.Matching.Validation.{AreSurvivors, IsFix, AreFixes, ShareDestination, BackwardIndexes}
pub use Rattle.gix_refspec.specs.Private.Updates.{all_destinations, AddsConflict, AreUpdates, AreFirstUpdates}
pub use Rattle.gix_refspec.specs.Private.Updates.{AreConflicting, HasUpdate, IsRun, IsFirstAt, IsConflictOf, update_cmp}
pub use Rattle.gix_refspec.specs.Private.Updates.{updated_indexes, GoesTo}
pub use Rattle.gix_refspec.specs.Views.Group.{readings_of, is_for, is_same_operation, IsGathered, IsOutcome, Maps}
pub use Rattle.gix_refspec.specs.Views.Issue.{ForwardOutcome, mappings_of, conflict_of, conflicts_of, removed_of}
pub use Rattle.gix_refspec.specs.Views.Issue.{IsSameFix, IfConflicts, IfMemory}
pub use Rattle.gix_refspec.specs.declared.match_group.ref_names.InvalidMapping.{InvalidMapping}
pub use Rattle.gix_refspec.specs.declared.match_group.types.MatchGroup.{MatchGroup}
pub use Rattle.gix_refspec.specs.declared.match_group.types.Outcome.{Outcome}
pub use Rattle.gix_refspec.specs.declared.match_group.validate.Fix.{Fix}
pub use Rattle.gix_refspec.specs.declared.match_group.validate.Fix.TheVariants.{MappingWithPartialDestinationRemoved}
pub use Rattle.gix_refspec.specs.declared.match_group.validate.Issue.{Issue}
pub use Rattle.gix_refspec.specs.declared.match_group.validate.conflicts.Update.{Update}
pub use Rattle.gix_refspec_text.proofs.facts.CoveringFacts.{below_heads, covering, not_covering}
pub use Rattle.gix_refspec_text.proofs.facts.FaultFacts.{begins_not, no_component}
pub use Rattle.gix_refspec_text.proofs.facts.FitFacts.{blob, dev_ref, every, main_ref, no_dev, short_kind, short_no_id}
pub use Rattle.gix_refspec_text.proofs.facts.FitFacts.{tag_ref, blob_kind, split_at_end, other_byte, of_element}
pub use Rattle.gix_refspec_text.proofs.facts.FitFacts.{origin_split, short, push_is_none, below_tags, other_first}
pub use Rattle.gix_refspec_text.proofs.facts.ManualFacts.{some_none, named, other_length, Lacks-tested, none_some}
pub use Rattle.gix_refspec_text.proofs.facts.ManualFacts.{IsPattern-tested, no_sign}
pub use Rattle.gix_refspec_text.proofs.facts.ObjectIdFacts.{empty_blob, lower_of-empty_blob, IsIdText-empty_blob}
pub use Rattle.gix_refspec_text.proofs.facts.ObjectIdFacts.{HasIdFault-length}
pub use Rattle.gix_refspec_text.proofs.lemmas.hits.MatchLemmas.{has_candidates, lacks_no_pattern, one_word}
pub use Rattle.gix_refspec_text.proofs.lemmas.hits.MatchLemmas.{prefix_begins}
pub use Rattle.gix_refspec_text.proofs.lemmas.lists.AllLemmas.{all_join, all_weaker, all_left, all_right}
pub use Rattle.gix_refspec_text.proofs.lemmas.lists.EqualLemmas.{same_keys}
pub use Rattle.gix_refspec_text.proofs.lemmas.lists.MapLemmas.{each_mapped, one_more_mapped}
pub use Rattle.gix_refspec_text.proofs.lemmas.lists.OrderLemmas.{not_below_itself}
pub use Rattle.gix_refspec_text.proofs.lemmas.prefixes.PrefixLemmas.{on_any_error, one_asked}
pub use Rattle.gix_refspec_text.proofs.lemmas.specs.AcceptedLemmas.{accepted_balanced, accepted_few}
pub use Rattle.gix_refspec_text.proofs.lemmas.specs.SpecLemmas.{equal_keys, keeps_operation, printed_back, says}
pub use Rattle.gix_refspec_text.proofs.lemmas.specs.SpecLemmas.{says_for_operation}
pub use Rattle.gix_refspec_text.proofs.lemmas.texts.HeadLemmas.{IsName-head}
pub use Rattle.gix_refspec_text.proofs.lemmas.texts.ObjectIdLemmas.{IsIdText-unique, lower_of-digits, one_lower_text}
pub use Rattle.gix_refspec_text.proofs.lemmas.texts.TextLemmas.{Lacks-ContainsText, Lacks-from_absent}
pub use Rattle.gix_refspec_text.proofs.lemmas.texts.TextLemmas.{Lacks-from_indexes}
pub use Rattle.gix_refspec_match.proofs.facts.CandidateFacts.{branch_and_tag, main_tag, main_ends, main_to_x}
pub use Rattle.gix_refspec_match.proofs.facts.CandidateFacts.{takes_the_tag, x_kind, main_branch, no_tags}
pub use Rattle.gix_refspec_match.proofs.facts.CandidateFacts.{no_other_first, not_excluded, tags_excluded}
pub use Rattle.gix_refspec_match.proofs.facts.MatchFacts.{mapping, tracked, tag_to_x, branch_to_x, tag_again}
pub use Rattle.gix_refspec_match.proofs.facts.MatchFacts.{tag_to_foo, tag_alone, pairs, fetches_all_but_dev}
pub use Rattle.gix_refspec_match.proofs.facts.MatchFacts.{forward_ends, taken_by, takes_no_tag, tracks_all_but_dev}
pub use Rattle.gix_refspec_match.proofs.facts.MatchFacts.{blob_mapping, dev_excluded, main_stays, maps_all, only_dev}
pub use Rattle.gix_refspec_match.proofs.facts.MatchFacts.{tracks_all, tracks_nothing}
pub use Rattle.gix_refspec_match.proofs.lemmas.hits.HitLemmas.{backward_once, forward_once, id_once, matches_as}
pub use Rattle.gix_refspec_match.proofs.lemmas.hits.HitLemmas.{one_kind, same_side}
pub use Rattle.gix_refspec_match.proofs.lemmas.keep.KeptLemmas.{HasPair-from_place, by_pair, duplicate_at, kept_once}
pub use Rattle.gix_refspec_match.proofs.lemmas.keep.RepeatLemmas.{apart_places, some_mapping}
pub use Rattle.gix_refspec_match.proofs.lemmas.lists.JoinLemmas.{nothing_made, joined_next, map_split, map_long}
pub use Rattle.gix_refspec_match.proofs.lemmas.lists.JoinLemmas.{nothing_joined, made_more}
pub use Rattle.gix_refspec_match.proofs.lemmas.lists.SomeLemmas.{Any as AnyOf, Any-all, Any-both, Any-fact}
pub use Rattle.gix_refspec_match.proofs.lemmas.lists.SomeLemmas.{Any-from_map, Any-left, Any-map, Any-right, Any-weaker}
pub use Rattle.gix_refspec_match.proofs.lemmas.lists.SomeLemmas.{MakesOnly, any_joined, any_made, made_any, some_at}
pub use Rattle.gix_refspec_match.proofs.lemmas.lists.SomeLemmas.{some_of}

-- what follows in each of two cases follows if either holds
pub by_cases : {A B C : Type 0} → A ⊎ B → (A → C) → (B → C) → C
by_cases (inl a) first second = first a
by_cases (inr b) first second = second b
