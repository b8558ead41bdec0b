-- The names that most files of proofs use.
pub use Rattle.std.proofs.Common.{Bool, Bor, Global, IfSome, IsTrue, List, MatchBool, MatchOption, None, Option, Some}
pub use Rattle.std.proofs.Common.{Vec, [], ap, append-nil, append_assoc, arith, codes, drop, drop_at, false, get_or}
pub use Rattle.std.proofs.Common.{get_or-set_other, get_or-set_same, inl, inr, length, length-append, length-drop, map}
pub use Rattle.std.proofs.Common.{map-id, min, nat_eq, not, option_map, option_to_list, refl, rules, set, subst, suc}
pub use Rattle.std.proofs.Common.{sym, take, take-append-drop, take-take, take_all, take_at, true, vec_len, zero, ℕ}
pub use Rattle.std.proofs.Common.{◌*◌, ◌++◌, ◌+◌, ◌-◌, ◌<◌, ◌==◌, ◌||◌, ◌↔◌, ◌∙◌, ◌∷◌, ◌≡◌, ◌≢◌, add-one, ◌≤◌, ◌⊎◌}
pub use Rattle.std.proofs.lemmas.Bool.{MatchBool-at_false, MatchBool-at_true, cases_eq, cases_lt, eqb-false, eqb-true}
pub use Rattle.std.proofs.lemmas.Bool.{false≢true, not-true, or_parts}
pub use Rattle.std.proofs.lemmas.Bool.Decides.{Decides-eqb}
pub use Rattle.std.proofs.lemmas.Iterator.Adapters.{YieldsList-from_vec}
pub use Rattle.std.proofs.lemmas.Iterator.Consumers.{YieldsList-end, YieldsList-turn}
pub use Rattle.std.proofs.lemmas.List.{append_cancel_left, append_cancel_right, ext_get_or, get_or-drop, get_or-map}
pub use Rattle.std.proofs.lemmas.List.{get_or-take, get_or_default, length-map, length-take-le, map-append}
pub use Rattle.std.proofs.lemmas.List.{nil_from_length, take-append-le, take_more}
pub use Rattle.std.proofs.lemmas.List.Elements.{Contains-append_left, Contains-append_right, Contains-get_or}
pub use Rattle.std.proofs.lemmas.List.Elements.{Contains-push, Contains-push_cases, recursion_from_All}
pub use Rattle.std.proofs.lemmas.Option.{get_or_from_slice_get, same_Some, slice_get-get_or, slice_get-map}
pub use Rattle.std.proofs.lemmas.Option.{slice_get_read, slice_get_within}
pub use Rattle.std.proofs.lemmas.Result.{IfOk-weaker}
pub use Rattle.std.proofs.lemmas.Slice.Eq.{ends_is, slice_eq-Decides, starts_is}
pub use Rattle.std.specs.Cmp.Lexicographic.{pointwise, pointwise_decides}
pub use Rattle.std.specs.List.{AllByRecursion, AllZip, Any, Contains, ends_with}
pub use Rattle.std.specs.{List.{list_any, slice_get}, Option.is_some}
pub use Rattle.bstr.specs.{BStr.bstr_bytes, Owned.bstring_bytes, declared.bstring.BString.BString}
pub use Rattle.gix_refspec_text.proofs.facts.FitFacts.{every, heads_split, of_element, origin_split, other_byte}
pub use Rattle.gix_refspec_text.proofs.facts.FitFacts.{other_first, short_kind}
pub use Rattle.gix_refspec_text.proofs.facts.{FitFacts.{short_no_id, split_at_end}, ManualFacts.Lacks-tested}
pub use Rattle.gix_refspec_text.proofs.lemmas.hits.MatchLemmas.{lacks_no_pattern, one_word, split_once}
pub use Rattle.gix_refspec_text.proofs.lemmas.lists.AllLemmas.{all_join, all_left, all_right, all_weaker}
pub use Rattle.gix_refspec_text.proofs.lemmas.lists.LacksLemmas.{Lacks-here, first_once}
pub use Rattle.gix_refspec_text.proofs.lemmas.lists.{MapLemmas.{each_mapped, one_more_mapped}, NumberLemmas.upto}
pub use Rattle.gix_refspec_text.proofs.lemmas.specs.AcceptedLemmas.{accepted_few}
pub use Rattle.gix_refspec_text.proofs.lemmas.texts.NameLemmas.{HasFault-added, HasFault-left, IsName-from_clean}
pub use Rattle.gix_refspec_text.specs.Matching.Match.{HasName, IsFirstCandidate, Matches, MatchesAs, Ref, Takes}
pub use Rattle.gix_refspec_text.specs.Matching.Side.{Excludes, Fits, HasKind, IsCandidate, SideKind, by_pattern}
pub use Rattle.gix_refspec_text.specs.Matching.Side.{candidates, filled, full_name, object, partial, pattern, the_name}
pub use Rattle.gix_refspec_text.specs.Private.Scan.{Added, AddsFault, LeavesFault}
pub use Rattle.gix_refspec_text.specs.Specs.Grammar.{IsAccepted}
pub use Rattle.gix_refspec_text.specs.Specs.{Grammar.{IsPositive, fetched}, Reading.{Forced, Normal, Negative, Reading}}
pub use Rattle.gix_refspec_text.specs.Texts.Bytes.{brace, head, slash, star}
pub use Rattle.gix_refspec_text.specs.Texts.Name.{HasOneStar, HasStar, IsName, IsSplit, is_refused_byte}
pub use Rattle.gix_refspec_text.specs.Texts.Words.{BeginsWith, EndsWith, Lacks}
pub use Rattle.gix_refspec_text.specs.Views.Spec.{reading_of}
pub use Rattle.gix_refspec_text.specs.declared.name.Error.{Error}
pub use Rattle.gix_refspec_text.specs.declared.name.Error.TheVariants.{Asterisk, EmptyComponent, EndsWithDot}
pub use Rattle.gix_refspec_text.specs.declared.name.Error.TheVariants.{InvalidByte, LockSuffix, ReflogPortion}
pub use Rattle.gix_refspec_text.specs.declared.name.Error.TheVariants.{RepeatedDot, StartsWithDot}
pub use Rattle.gix_refspec_text.specs.declared.spec.RefSpecRef.{RefSpecRef}
pub use Rattle.gix_refspec_match.proofs.lemmas.duplicates.FlagLemmas.{some_element}
pub use Rattle.gix_refspec_match.proofs.lemmas.hits.HitLemmas.{candidate_cases, matches_as, one_kind}
pub use Rattle.gix_refspec_match.proofs.lemmas.lists.JoinLemmas.{joined_next, made_more, made_next, map_split}
pub use Rattle.gix_refspec_match.proofs.lemmas.lists.JoinLemmas.{nothing_joined, nothing_made}
pub use Rattle.gix_refspec_match.specs.Matching.Hits.{AreKeptForward, IsFilled}
pub use Rattle.gix_refspec_match.specs.Matching.Lists.{IsJoinedFrom, IsMadeFrom, MakesOf}
pub use Rattle.gix_refspec_match.specs.Matching.Mappings.{HasPair, IsExcluded, IsExcludedBy, IsSamePair}
pub use Rattle.gix_refspec_match.specs.Matching.Mappings.{IsSourceExcluded, Mapped, Source, id, name}
pub use Rattle.gix_refspec_match.specs.Views.Mapping.{mapped_of, name_bytes, ref_of, start_of}
pub use Rattle.gix_refspec_match.specs.declared.types.Mapping.{Mapping}
pub use Rattle.gix_refspec.proofs.lemmas.MadeLemmas.{all_at, each_made, map_each}
pub use Rattle.gix_refspec.proofs.lemmas.keep.FilterLemmas.{item_named, mapped_there}
pub use Rattle.gix_refspec.proofs.lemmas.keep.NameOnlyLemmas.{has_also, matches_by_name}
pub use Rattle.gix_refspec.proofs.lemmas.keep.PairMadeLemmas.{kept_exactly, one_name}
pub use Rattle.gix_refspec.proofs.lemmas.prefixes.CoverLemmas.{some_at}
pub use Rattle.gix_refspec.proofs.lemmas.specs.SideLawLemmas.{sides_agree}
pub use Rattle.gix_refspec.specs.Laws.Items.{HaveSameNames}
pub use Rattle.gix_refspec.specs.Laws.Matching.{IsPaired, MakesForward}
pub use Rattle.gix_refspec.specs.Laws.Plans.{LacksIn, SidesLack}
pub use Rattle.gix_refspec.specs.Matching.RefNames.{IsRefName, IsValidSource}
pub use Rattle.gix_refspec_plan.proofs.lemmas.plan.NameLemmas.{zip_at, zip_long, zip_more}
pub use Rattle.gix_refspec_plan.proofs.lemmas.plan.OnePlanLemmas.{none_merged, reading_once}
pub use Rattle.gix_refspec_plan.proofs.lemmas.stale.FetchedLemmas.{completed_destination, contained_pair, far_there}
pub use Rattle.gix_refspec_plan.proofs.lemmas.stale.FetchedLemmas.{named_some, some_named, written_below, written_lacks}
pub use Rattle.gix_refspec_plan.proofs.lemmas.stale.PatternLemmas.{side_cases}
pub use Rattle.gix_refspec_plan.proofs.lemmas.stale.SourceLemmas.{candidate_contained, parts_split, text_contained}
pub use Rattle.gix_refspec_plan.proofs.lemmas.stale.StateLemmas.{all_accepted}
pub use Rattle.gix_refspec_plan.proofs.lemmas.stale.ZipLemmas.{completed_excluded, same_excluded}
pub use Rattle.gix_refspec_plan.specs.Matching.Plan.{AreAsked, AreConfigured, AreUncovered, Asked, CanBeWritten}
pub use Rattle.gix_refspec_plan.specs.Matching.Plan.{HasVerdict, IsCompleted, IsPlan, IsPlanned, IsPlannedBesides}
pub use Rattle.gix_refspec_plan.specs.Matching.Plan.{IsSound, IsTracked, Planned, Wish, by_call, by_configuration}
pub use Rattle.gix_refspec_plan.specs.Matching.Plan.{by_default, nothing, tags_asked, without}
pub use Rattle.gix_refspec_plan.specs.Matching.Stale.{ref_named}
pub use Rattle.gix_refspec_plan.specs.{Private.Stales.HasParts, declared.Origin.Origin}
pub use Rattle.gix_refspec_lint.specs.Laws.Lint.{ConflictFree, ConflictsShown, ExamplesConflict, HasSound}
pub use Rattle.gix_refspec_lint.specs.Laws.Lint.{IdleExclusionLeftOut, IdleLeftOut, PlanConflictFree}
pub use Rattle.gix_refspec_lint.specs.Matching.Lint.{AreExamples, AreIdle, AreIdleExclusions}
pub use Rattle.gix_refspec_plan.specs.Matching.Plan.{IsDirectoryOf}
pub use Rattle.gix_refspec_lint.specs.Matching.Lint.{AreStorable, IsMerged, IsUnused, merged_text, specs_of, tags_spec}
pub use Rattle.gix_refspec_lint.specs.Matching.Lint.{AreValid, ConflictOver, DoesBefore, Example, Fetches}
pub use Rattle.gix_refspec_lint.specs.Matching.Lint.{IsAlwaysEarlier, IsExample, IsFree, IsIdleBy, IsIdleExclusion}
pub use Rattle.gix_refspec_lint.specs.Matching.Lint.{Maps, MapsSoundly, Unused, is_usable, refs_of}
pub use Rattle.gix_refspec_lint.specs.Private.Borders.{AreBorders, AreLongestTo, IsBorder, IsBorderAt, IsLongestAt}
pub use Rattle.gix_refspec_lint.specs.Private.Idles.{AreAbsent, AreAllowed, AreFreeing, ArePreferred, AreTriedBefore}
pub use Rattle.gix_refspec_lint.specs.Private.Idles.{ExcludesFrom, ExcludesSome, Explains, HasPlainSource}
pub use Rattle.gix_refspec_lint.specs.Private.Idles.{HasSourcePattern, IsAtWork, IsReasonOf, IsShown, IsWhy}
pub use Rattle.gix_refspec_lint.specs.Private.Idles.{MakesSoundly, ShareSources, refs_with}
pub use Rattle.gix_refspec_lint.specs.Private.Lints.{AreApart, AreCommon, HasPattern, HaveCommon, HaveParts, IsDeciding}
pub use Rattle.gix_refspec_lint.specs.Private.Lints.{IsFound, IsFoundAt, IsGroupOf, IsLongerPrefix, IsLongerSuffix}
pub use Rattle.gix_refspec_lint.specs.Private.Lints.{IsMost, NoneAt, endings, pair_of, parts, words_with}
pub use Rattle.gix_refspec_lint.specs.Private.Overlaps.{AreOverlaps, IsOverlap, power}
pub use Rattle.gix_refspec_lint.specs.Private.Runs.{ArePaired, Fails, IsExcludedAt, IsFirstOf, IsNextOf, IsNotFetched}
pub use Rattle.gix_refspec_lint.specs.Private.Runs.{IsRun, IsUnsound}
pub use Rattle.gix_refspec_lint.specs.Views.Lint.{example_of, unused_of}
pub use Rattle.gix_refspec_lint.specs.declared.Reason.{Reason}
pub use Rattle.gix_refspec_lint.specs.declared.group.Group.{Group}
pub use Rattle.gix_refspec_lint.specs.declared.runs.Of.TheVariants.{First, Second}
pub use Rattle.gix_refspec_lint.specs.declared.runs.Run.{Run}
pub use Rattle.gix_refspec_lint.specs.declared.runs.Why.{Why}
pub use Rattle.gix_refspec_lint.specs.declared.runs.Why.TheVariants.{Excluded, Invalid, Same, Unknown, Unwritable}
pub use Rattle.gix_refspec_lint.specs.declared.words.Common.{Common}
