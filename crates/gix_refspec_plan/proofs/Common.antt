-- The names that most proofs cite, passed on from one place. Declares nothing.
pub use Rattle.std.proofs.Common.{All, Bool, Bor, IsSome, IsTrue, List, MatchOption, None, Option, Some, [], ap}
pub use Rattle.std.proofs.Common.{append-nil, append_assoc, arith, bytes_eq, codes, cond, drop, drop-cons, false}
pub use Rattle.std.proofs.Common.{get_or, if◌then◌else◌, inl, inr, is_some, length, length-append, map, nat_eq}
pub use Rattle.std.proofs.Common.{option_map, option_to_list, refl, replicate, rules, set, slice_index_or, subst, suc}
pub use Rattle.std.proofs.Common.{sym, take, take-append-drop, take_all, true, unwrap_or, zero, ℕ, ◌++◌, ◌+◌, ◌-◌, ◌<◌}
pub use Rattle.std.proofs.Common.{◌==◌, ◌||◌, ◌↔◌, ◌∙◌, ◌∷◌, ◌≡◌, ◌≢◌, ◌≤◌, ◌⊎◌}
pub use Rattle.std.specs.BTreeMap.{BTreeMap, UpdatesBy, get_by, is_at}
pub use Rattle.std.specs.Cmp.Lexicographic.{bytes_decides, slice_cmp}
pub use Rattle.std.specs.List.{AllByRecursion, AllZip, Any, Contains, slice_get, starts_with}
pub use Rattle.std.specs.Map.{lookup}
pub use Rattle.std.specs.Option.{option_flatten, option_or}
pub use Rattle.std.specs.Ordering.{nat_cmp}
pub use Rattle.std.proofs.Math.Seq.{drop-append_seam, take-append-add, take-append_seam}
pub use Rattle.std.proofs.lemmas.Bool.{MatchBool-at_false, MatchBool-at_true, cases_eq, cases_lt, eqb-true, false≢true}
pub use Rattle.std.proofs.lemmas.List.{append_cancel_left, get_or-append-add, get_or-map, get_or-replicate}
pub use Rattle.std.proofs.lemmas.List.{get_or-set_other, get_or-set_same, get_or-take, get_or_append_left}
pub use Rattle.std.proofs.lemmas.List.{get_or_default, get_or_push, length-map, length-replicate, length-set}
pub use Rattle.std.proofs.lemmas.List.{length-take-le, length_push, map-append, map_more, nil_from_length, take-map}
pub use Rattle.std.proofs.lemmas.List.{take_more}
pub use Rattle.std.proofs.lemmas.List.Elements.{All-contains, All-from_recursion, All-map, All-more}
pub use Rattle.std.proofs.lemmas.List.Elements.{Contains-append_cases, Contains-append_left, Contains-append_right}
pub use Rattle.std.proofs.lemmas.List.Elements.{Contains-get_or, Contains-push, Contains-push_cases, recursion_from_All}
pub use Rattle.std.proofs.lemmas.Option.{same_Some, slice_get-map, slice_get_read}
pub use Rattle.std.proofs.lemmas.Result.{IfOk-at_ok, IfOk-weaker}
pub use Rattle.std.proofs.lemmas.Slice.Eq.{bytes_eq-Decides, starts_is}
pub use Rattle.bstr.specs.{BStr.bstr_bytes, Owned.bstring_bytes, declared.{bstr.BStr.BStr, bstring.BString.BString}}
pub use Rattle.gix_refspec_text.specs.Matching.Match.{HasName, IsFirstCandidate, Matches, MatchesAs, Ref, Takes}
pub use Rattle.gix_refspec_text.specs.Matching.Side.{Fits, HasKind, IsCandidate, SideKind, candidates, filled}
pub use Rattle.gix_refspec_text.specs.Matching.Side.{full_name, object, partial, pattern, the_name, written_name_of}
pub use Rattle.gix_refspec_text.specs.Specs.Grammar.{IsAccepted, IsPositive, fetched}
pub use Rattle.gix_refspec_text.specs.Specs.Reading.{Forced, Negative, Normal, Reading, all_tags, fetched_alone}
pub use Rattle.gix_refspec_text.specs.Specs.Reading.{with_destination}
pub use Rattle.gix_refspec_text.specs.Texts.Bytes.{head, star}
pub use Rattle.gix_refspec_text.specs.Texts.Name.{HasOneStar, HasSeveralStars, HasStar, IsName, IsSplit}
pub use Rattle.gix_refspec_text.specs.Texts.Words.{BeginsWith, Lacks}
pub use Rattle.gix_refspec_text.specs.Views.Spec.{reading_of}
pub use Rattle.gix_refspec_text.specs.declared.spec.RefSpecRef.{RefSpecRef}
pub use Rattle.gix_refspec_text.proofs.lemmas.hits.MatchLemmas.{lacks_no_pattern, one_word, split_once}
pub use Rattle.gix_refspec_text.proofs.lemmas.lists.AllLemmas.{all_join}
pub use Rattle.gix_refspec_text.proofs.lemmas.lists.LacksLemmas.{Lacks-here}
pub use Rattle.gix_refspec_text.proofs.lemmas.lists.MapLemmas.{each_mapped}
pub use Rattle.gix_refspec_text.proofs.lemmas.specs.AcceptedLemmas.{accepted_few}
pub use Rattle.gix_refspec_text.proofs.lemmas.texts.TextLemmas.{Lacks-ContainsText, Lacks-from_absent}
pub use Rattle.gix_refspec_match.specs.Matching.Hits.{AreKeptForward, IsFilled}
pub use Rattle.gix_refspec_match.specs.Matching.Lists.{IsMadeFrom, MakesOf}
pub use Rattle.gix_refspec_match.specs.Matching.Mappings.{AreApart, HasPair, IsExcluded, IsExcludedBy, IsSamePair}
pub use Rattle.gix_refspec_match.specs.Matching.Mappings.{IsSourceExcluded, Mapped, Source, id, name}
pub use Rattle.gix_refspec_match.specs.Matching.Missing.{AreMissing, LacksSource}
pub use Rattle.gix_refspec_match.specs.Private.Duplicates.{FlagsDuplicates, IsDuplicate}
pub use Rattle.gix_refspec_match.specs.Private.Kept.{AreExclusionsAt, AreExclusionsOf, ExcludeName, ExcludeNameAt}
pub use Rattle.gix_refspec_match.specs.Private.Kept.{IsFlagged}
pub use Rattle.gix_refspec_match.specs.Views.Mapping.{IsMappingCopy, mapped_of, name_bytes, ref_of, start_of}
pub use Rattle.gix_refspec_match.specs.declared.exclusions.Exclusions.{Exclusions}
pub use Rattle.gix_refspec_match.specs.declared.types.Item.{Item}
pub use Rattle.gix_refspec_match.specs.declared.types.Mapping.{Mapping}
pub use Rattle.gix_refspec_match.proofs.lemmas.duplicates.FlagLemmas.{ok_weaker, some_element}
pub use Rattle.gix_refspec_match.proofs.lemmas.hits.HitLemmas.{matches_as, one_forward, one_kind, same_side}
pub use Rattle.gix_refspec_match.proofs.lemmas.keep.KeptPairLemmas.{Any-HasPair, HasPair-Any, IsOfPair}
pub use Rattle.gix_refspec_match.proofs.lemmas.lists.JoinLemmas.{made_more, made_next, nothing_made}
pub use Rattle.gix_refspec_match.proofs.lemmas.lists.SomeLemmas.{MakesOnly, any_made, made_any, some_at, some_of}
pub use Rattle.gix_refspec.specs.Matching.RefNames.{IsRefName}
pub use Rattle.gix_refspec.proofs.lemmas.specs.SideLawLemmas.{sides_agree}
pub use Rattle.gix_refspec.proofs.lemmas.validate.RefNameLemmas.{copied_mapping, name_of_ref}
pub use Rattle.gix_refspec_plan.specs.Laws.Fetches.{AreWrittenApart, IsToBeWritten, AreWrittenOnce, CarriedOutExactly}
pub use Rattle.gix_refspec_plan.specs.Laws.Fetches.{ConflictsExactly, DoConflict, IsRequired, OnePlan, WritesOnce}
pub use Rattle.gix_refspec_plan.specs.Matching.Plan.{AreAsked, AreConfigured, AreLacking, AreMapped, AreMerges}
pub use Rattle.gix_refspec_plan.specs.Matching.Plan.{AreTaken, AreThose, AreUncovered, Asked, CanBeWritten, Covers}
pub use Rattle.gix_refspec_plan.specs.Matching.Plan.{HasOrigin, HasSecondVerdict, HasVerdict, IsCarriedOut, IsCompleted}
pub use Rattle.gix_refspec_plan.specs.Matching.Plan.{IsContested, IsNegativeReading, IsPlan, IsPlanned}
pub use Rattle.gix_refspec_plan.specs.Matching.Plan.{IsPlannedBesides, IsPositiveReading, IsSound, IsTakenAt}
pub use Rattle.gix_refspec_plan.specs.Matching.Plan.{IsTakenOver, IsTracked, IsUnwritableAt, AreNested, HaveNested}
pub use Rattle.gix_refspec_plan.specs.Matching.Plan.{IsDirectoryOf, IsObstructed, MayBeMissing, Planned, Wish}
pub use Rattle.gix_refspec_plan.specs.Matching.Plan.{tags_asked}
pub use Rattle.gix_refspec_plan.specs.Matching.Stale.{CanWrite, CanWriteFrom, CanWriteObject, Found, IsFetched}
pub use Rattle.gix_refspec_plan.specs.Matching.Stale.{IsKeptBy, IsSourceOf, IsStale, IsWritable, IsWritableFromObject}
pub use Rattle.gix_refspec_plan.specs.Matching.Stale.{ref_named}
pub use Rattle.gix_refspec_plan.specs.Private.Plans.{AreMappedBy, AreNames, AreNewDestinations, AreSoundNames}
pub use Rattle.gix_refspec_plan.specs.Private.Plans.{FlagsTaken, IsIn, origin_in}
pub use Rattle.gix_refspec_plan.specs.Private.Stales.{AddsName, AddsPattern, AreDestinations, AreWriters, AreWritersOf}
pub use Rattle.gix_refspec_plan.specs.Private.Stales.{FlagWritten, HasDestination, HasNameState, HasParts}
pub use Rattle.gix_refspec_plan.specs.Private.Stales.{HasPatternState, HasState, IsNamedBy, IsPatternSource}
pub use Rattle.gix_refspec_plan.specs.Private.Stales.{IsWrittenBy, WritesName, WritesNameFrom, WritesPattern, ref_names}
pub use Rattle.gix_refspec_plan.specs.Private.Stales.{state_for}
pub use Rattle.gix_refspec_plan.specs.Private.Verdicts.{AreFirst, AreJudged, AreMappings, AreSecond, AreVerdicts}
pub use Rattle.gix_refspec_plan.specs.Private.Verdicts.{AreSoundDestinations, CountDestinations, FlagKnown, HasTwo}
pub use Rattle.gix_refspec_plan.specs.Private.Verdicts.{IsCount, IsNestedAmong, TellContested, TellNested, WritesTo}
pub use Rattle.gix_refspec_plan.specs.Private.Verdicts.{planned_by}
pub use Rattle.gix_refspec_plan.specs.Private.Directories.{TellNestedIn}
pub use Rattle.gix_refspec_plan.specs.Views.Plan.{asked_of, planned_of, wish_of}
pub use Rattle.gix_refspec_plan.specs.Views.Stale.{found_of}
pub use Rattle.gix_refspec_plan.specs.declared.Asked.{Asked as DeclaredAsked}
pub use Rattle.gix_refspec_plan.specs.declared.Origin.{Origin}
pub use Rattle.gix_refspec_plan.specs.declared.Origin.TheVariants.{AllTags, Configured, Default, Given, Merge}
pub use Rattle.gix_refspec_plan.specs.declared.Update.{Update}
pub use Rattle.gix_refspec_plan.specs.declared.Verdict.{Verdict}
pub use Rattle.gix_refspec_plan.specs.declared.Verdict.TheVariants.{Written, LeftOut, InConflict, Overruled}
pub use Rattle.gix_refspec_plan.specs.declared.Verdict.TheVariants.{DirectoryConflict}
pub use Rattle.gix_refspec_plan.specs.declared.stale.Pattern.{Pattern}
pub use Rattle.gix_refspec_plan.specs.declared.stale.State.TheVariants.{Excluded, Included, Unwritable}
