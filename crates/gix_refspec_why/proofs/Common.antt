-- The names that most proofs cite, passed on from one place. Declares nothing.
pub use Rattle.std.proofs.Common.{Bool, Bor, IsSome, IsTrue, List, MatchBool, MatchOption, None, Option, Some, [], ap}
pub use Rattle.std.proofs.Common.{append-nil, append_assoc, arith, bytes_eq, codes, cond, drop, false, get_or, inl, inr}
pub use Rattle.std.proofs.Common.{is_some, length, length-append, map, min, option_map, refl, rules, subst, suc, sym}
pub use Rattle.std.proofs.Common.{take, take-append-drop, take_all, true, zero, ℕ, ◌++◌, ◌+◌, ◌-◌, ◌<◌, ◌↔◌, ◌∙◌, ◌∷◌}
pub use Rattle.std.proofs.Common.{◌≡◌, ◌≢◌, ◌≤◌, ◌⊎◌}
pub use Rattle.std.specs.BTreeMap.{BTreeMap, UpdatesBy, get_by}
pub use Rattle.std.specs.Cmp.Lexicographic.{slice_cmp}
pub use Rattle.std.specs.List.{AllByRecursion, AllZip, Any, Contains, slice_get}
pub use Rattle.std.specs.Ordering.{nat_cmp}
pub use Rattle.std.proofs.lemmas.Bool.{MatchBool-at_false, MatchBool-at_true, cases_eq, cases_lt, eqb-true, false≢true}
pub use Rattle.std.proofs.lemmas.List.{append_cancel_left, append_cancel_right, get_or-map, length-map, length-take-le}
pub use Rattle.std.proofs.lemmas.List.{map-append, map_more, take-append-le, take_more}
pub use Rattle.std.proofs.lemmas.List.Elements.{All-contains, All-from_recursion, Contains-append_cases}
pub use Rattle.std.proofs.lemmas.List.Elements.{Contains-append_left, Contains-append_right, Contains-get_or}
pub use Rattle.std.proofs.lemmas.List.Elements.{Contains-push, Contains-push_cases, recursion_from_All}
pub use Rattle.std.proofs.lemmas.Map.Text.{btree_map_updates_str}
pub use Rattle.std.proofs.lemmas.Option.{get_or_from_slice_get, same_Some, slice_get-get_or, slice_get-map}
pub use Rattle.std.proofs.lemmas.Option.{slice_get_read, slice_get_within}
pub use Rattle.std.proofs.lemmas.Result.{IfOk-at_ok, IfOk-weaker}
pub use Rattle.std.proofs.lemmas.Slice.Eq.{bytes_eq-Decides, starts_is, ends_is}
pub use Rattle.bstr.specs.{BStr.bstr_bytes, Owned.bstring_bytes}
pub use Rattle.gix_refspec_text.proofs.lemmas.hits.CandidateLemmas.{first_candidate, taken_by_first}
pub use Rattle.gix_refspec_text.proofs.lemmas.hits.MatchLemmas.{lacks_no_pattern, one_word}
pub use Rattle.gix_refspec_text.proofs.lemmas.lists.AllLemmas.{all_join, all_left, all_weaker}
pub use Rattle.gix_refspec_text.proofs.lemmas.specs.AcceptedLemmas.{accepted_few}
pub use Rattle.gix_refspec_text.specs.Matching.Match.{HasName, IsFirstCandidate, Matches, MatchesAs, Ref, Takes}
pub use Rattle.gix_refspec_text.specs.Matching.Side.{Excludes, Fits, HasKind, IsCandidate, SideKind, by_pattern}
pub use Rattle.gix_refspec_text.specs.Matching.Side.{candidates, filled, full_name, object, partial, pattern, the_name}
pub use Rattle.gix_refspec_text.specs.Specs.Grammar.{IsAccepted, IsPositive}
pub use Rattle.gix_refspec_text.specs.Specs.Reading.{Forced, Mode, Negative, Normal, Reading}
pub use Rattle.gix_refspec_text.specs.Texts.Bytes.{star}
pub use Rattle.gix_refspec_text.specs.Texts.Name.{HasSeveralStars, IsSplit}
pub use Rattle.gix_refspec_text.specs.Texts.Words.{BeginsWith, EndsWith, Lacks}
pub use Rattle.gix_refspec_text.specs.Views.Spec.{reading_of}
pub use Rattle.gix_refspec_text.specs.declared.spec.RefSpecRef.{RefSpecRef}
pub use Rattle.gix_refspec_match.specs.Matching.Hits.{AreForwardEnds, AreKeptForward, Ends, IsFilled}
pub use Rattle.gix_refspec_match.specs.Matching.Lists.{IsMadeFrom}
pub use Rattle.gix_refspec_match.specs.Matching.Mappings.{HasPair, IsExcluded, IsExcludedBy, IsSamePair}
pub use Rattle.gix_refspec_match.specs.Matching.Mappings.{IsSourceExcluded, Mapped, Source, id, name}
pub use Rattle.gix_refspec_match.specs.Matching.Single.{MapsName}
pub use Rattle.gix_refspec_match.specs.Private.Needles.{MatchesNamed}
pub use Rattle.gix_refspec_match.specs.Views.Mapping.{mapped_of, name_bytes, ref_of, start_of}
pub use Rattle.gix_refspec_match.specs.declared.types.Item.{Item}
pub use Rattle.gix_refspec_match.specs.declared.types.Mapping.{Mapping}
pub use Rattle.gix_refspec_match.proofs.lemmas.hits.HitLemmas.{matches_as, one_kind, one_pair}
pub use Rattle.gix_refspec_match.proofs.lemmas.hits.SingleLemmas.{maps_name}
pub use Rattle.gix_refspec_match.proofs.lemmas.keep.KeptPairLemmas.{Any-HasPair, HasPair-Any, IsOfPair}
pub use Rattle.gix_refspec_match.proofs.lemmas.lists.SomeLemmas.{some_at, some_of}
pub use Rattle.gix_refspec.proofs.lemmas.MadeLemmas.{ForwardAt, all_at, any_at, forward_all, made_at_indexes}
pub use Rattle.gix_refspec.proofs.lemmas.keep.PairMadeLemmas.{kept_exactly, one_name}
pub use Rattle.gix_refspec.specs.Laws.Indexes.{MakesForwardOf, TakesAt}
pub use Rattle.gix_refspec.specs.Laws.Matching.{AtSpec, IsPaired, MakesForward, PairsId, PairsItem}
pub use Rattle.gix_refspec.specs.Matching.RefNames.{IsRefName, IsValidSource}
pub use Rattle.gix_refspec_plan.specs.Matching.Plan.{AreNested, CanBeWritten, IsCompleted, IsSound}
pub use Rattle.gix_refspec_plan.specs.Private.Directories.{TellNestedIn}
pub use Rattle.gix_refspec_plan.specs.Private.Verdicts.{AreSoundDestinations, WritesTo}
pub use Rattle.gix_refspec_why.specs.Matching.Why.{AgreeAtEnd, AgreeAtStart, AreEach, AreEffects, ExcludesWith, HasFate}
pub use Rattle.gix_refspec_why.specs.Matching.Why.{HaveFates, HaveFatesIn, HaveRef, IsContestedBy, IsEarlierMaker}
pub use Rattle.gix_refspec_why.specs.Matching.Why.{IsExcludedWith, IsExplained, IsFetchedAt, IsFirstExclusion}
pub use Rattle.gix_refspec_why.specs.Matching.Why.{IsFirstNamed, IsFirstWith, IsKindMismatch, IsObstructedBy}
pub use Rattle.gix_refspec_why.specs.Matching.Why.{IsPatternMismatch, MapsFirst, MapsIncluded, MapsTo, MapsValidly}
pub use Rattle.gix_refspec_why.specs.Matching.Why.{Misses, by_kind, by_name, sourceless}
pub use Rattle.gix_refspec_why.specs.Private.Attempts.{AreAttempts, AreCandidatesOf, AreMakersOf, AttemptsTo}
pub use Rattle.gix_refspec_why.specs.Private.Attempts.{FindsEarlier, FindsEarlierIn, FirstOf, HasEarlierCandidate}
pub use Rattle.gix_refspec_why.specs.Private.Attempts.{HasOwnFate, HasPartial, IsAttempt, NamesFirst}
pub use Rattle.gix_refspec_why.specs.Private.Attempts.{TakesFirstCandidate, maker_of}
pub use Rattle.gix_refspec_why.specs.Private.Rivals.{AreRivalsOf, AreRivalsTo, IsAmong, IsContesting, IsGroupOf}
pub use Rattle.gix_refspec_why.specs.Private.Rivals.{IsNotFrom, IsObstructing, IsRival, IsRivalTo}
pub use Rattle.gix_refspec_why.specs.Views.Why.{effect_of}
pub use Rattle.std.proofs.Common.{All}
pub use Rattle.std.proofs.lemmas.Bool.Decides.{Decides-eqb}
pub use Rattle.std.proofs.lemmas.List.Elements.{All-more}
pub use Rattle.std.specs.Cmp.Lexicographic.{pointwise, pointwise_decides}
