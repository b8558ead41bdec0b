-- The words that most proofs of this crate need, passed on from one place: of std and of the specs. Declares nothing.
pub use Rattle.std.proofs.Common.{All, Bool, Bor, Contains, Decides, Equal, Err, Greater, IfSome, IsAscii, IsOk, IsSome}
pub use Rattle.std.proofs.Common.{IsTrue, IsUtf8, Less, List, MatchBool, MatchOption, MatchResult, None, Ok, OnErr}
pub use Rattle.std.proofs.Common.{OnOk, Option, Result, Some, [], add-one, ap, append-nil, append_assoc, ap₂, arith}
pub use Rattle.std.proofs.Common.{bit_and, bit_or, bytes_eq, codes, cond, count_by, drop, drop-cons, drop-drop}
pub use Rattle.std.proofs.Common.{drop_of_length-le, eq-eqb, eqb, eqb-true, false, filter, get_or, get_or-drop}
pub use Rattle.std.proofs.Common.{if◌then◌else◌, inl, inr, is_ok, is_some, le-leb, leb-true, length, length-append}
pub use Rattle.std.proofs.Common.{length-drop, ltb, ltb-true, map, nat_cmp, nat_eq, nat_le, nat_lt, ne_eqb, not}
pub use Rattle.std.proofs.Common.{option_map, refl, replicate, rules, slice_index, slice_index_or, subst, suc, sym}
pub use Rattle.std.proofs.Common.{take, take-append-drop, take_all, true, true≢false, unwrap_or, w8, zero, zero-add, ℕ}
pub use Rattle.std.proofs.Common.{◌%◌, ◌&&◌, ◌*◌, ◌++◌, ◌+◌, ◌-◌, ◌/◌, ◌<◌, ◌==◌, ◌^◌, ◌||◌, ◌↔◌, ◌∙◌, below_more, ◌∷◌}
pub use Rattle.std.proofs.Common.{◌≡◌, ◌≢◌, ◌≤◌, ◌⊎◌}
pub use Rattle.std.proofs.Math.Logic.{∥∥₁_elim, ∥∥₁_map}
pub use Rattle.std.proofs.lemmas.Bool.{MatchBool-at_false, MatchBool-at_true, agree_below_at, and_from, and_parts}
pub use Rattle.std.proofs.lemmas.Bool.{both_ways, cases_Bool, cases_eq, cases_lt, cond-false, cond-true, eqb-false}
pub use Rattle.std.proofs.lemmas.Bool.{false≢true, not-true, or_cases, or_parts}
pub use Rattle.std.proofs.lemmas.Bool.Decides.{Decides-eqb, nat_tests}
pub use Rattle.std.proofs.lemmas.Grind.{common_steps, not_there}
pub use Rattle.std.proofs.lemmas.List.{append_cancel_left, append_cancel_right, get_or-map, length-map}
pub use Rattle.std.proofs.lemmas.List.{length-replicate, length-take-le, map-append, map_more, same_from_push}
pub use Rattle.std.proofs.lemmas.List.{take-append-le, take_more}
pub use Rattle.std.proofs.lemmas.List.Elements.{All-cons, All-from_recursion, All-head, All-nil, All-tail, All-weaker}
pub use Rattle.std.proofs.lemmas.List.Sums.{AllPass-from_list_all, count_by_more_no, count_by_more_yes}
pub use Rattle.std.proofs.lemmas.List.Sums.{list_all-from_AllPass, prefix_len-le-length, prefix_len_passes}
pub use Rattle.std.proofs.lemmas.List.Sums.{sum_by-append}
pub use Rattle.std.proofs.lemmas.Option.{same_Some}
pub use Rattle.std.proofs.lemmas.Result.{IfOk-weaker, err_from_is_err_and, on_err_weaker, on_ok_weaker}
pub use Rattle.std.proofs.lemmas.Simd.{get_or-chunk, get_or-zip2, leading_from_mask_l, length-chunk, length-zip2}
pub use Rattle.std.proofs.lemmas.Simd.{mask_l-mod, trailing_mask_l, zip2_splat}
pub use Rattle.std.proofs.lemmas.Slice.Eq.{bytes_eq-Decides, ends_is, starts_is}
pub use Rattle.std.specs.Char.{is_ascii_hexdigit}
pub use Rattle.std.specs.Cmp.Lexicographic.{nat_list_cmp_total, pointwise, slice_cmp}
pub use Rattle.std.specs.List.{AllByRecursion, AllPass, SomeIndex, ends_with, join_with_byte, list_all, list_any}
pub use Rattle.std.specs.List.{prefix_len, range_with_len, slice_split, starts_with}
pub use Rattle.bstr.specs.BStr.{bstr_bytes}
pub use Rattle.bstr.specs.Owned.{bstring_bytes}
pub use Rattle.hex.specs.Hex.{encode_lower, is_hex_digit}
pub use denote.Enum.Bare.{differs_false, differs_true, same_true, sameb}
pub use lib.Lanes.{chunk, mask_l, top, zip2}
pub use Rattle.gix_refspec_text.specs.Laws.Covering.{HasCoveringSource, IsCovering, by_candidates, by_prefix}
pub use Rattle.gix_refspec_text.specs.Laws.Readings.{Candidates, EqualReadings, EqualTexts, FirstCandidate, HasOneFault}
pub use Rattle.gix_refspec_text.specs.Laws.Readings.{IdOrFault, IsPrintedBack, IsSameReason, KeepsOperation}
pub use Rattle.gix_refspec_text.specs.Laws.Readings.{NothingAgainst, OneLowerText, OnePrefix, OneRefusal, OneWord}
pub use Rattle.gix_refspec_text.specs.Laws.Readings.{PrefixBegins, ReadsOrRefused, SaysForOperation}
pub use Rattle.gix_refspec_text.specs.Matching.Match.{HasName, IsFirstCandidate, Matches, MatchesAs, Ref, Takes}
pub use Rattle.gix_refspec_text.specs.Matching.Prefix.{AppendsExpansion, Expands, HasNoPrefix, HasPrefix, IsAsked}
pub use Rattle.gix_refspec_text.specs.Matching.Prefix.{IsExpansion, IsPrefix, IsRefPrefix, below_refs, of_head, of_name}
pub use Rattle.gix_refspec_text.specs.Matching.Prefix.{of_object, of_pattern, to_candidates, to_itself, to_prefix}
pub use Rattle.gix_refspec_text.specs.Matching.Side.{Excludes, Fits, HasKind, IsCandidate, IsId, SideKind, by_pattern}
pub use Rattle.gix_refspec_text.specs.Matching.Side.{candidates, filled, full_name, object, partial, pattern, the_name}
pub use Rattle.gix_refspec_text.specs.Private.Scan.{Added, AddsFault, AreCalm, Finds, IsCalm, IsClean, IsFoundAt}
pub use Rattle.gix_refspec_text.specs.Private.Scan.{IsScanned, IsStarCount, LeavesFault, Stops, class_at, lowest_of}
pub use Rattle.gix_refspec_text.specs.Private.Scan.{one_if}
pub use Rattle.gix_refspec_text.specs.Private.Sides.{HasCheckedShape, HasParts, HasShape, IsBadSide, IsBadAt}
pub use Rattle.gix_refspec_text.specs.Private.Sides.{IsErrorAgainst, IsErrorOf, IsLook, IsReason, IsReasonAgainst}
pub use Rattle.gix_refspec_text.specs.Private.Sides.{IsStopBy, MemoryOr, destination_of, named_or_head, read_as}
pub use Rattle.gix_refspec_text.specs.Private.Sides.{refusal_at, side_of}
pub use Rattle.gix_refspec_text.specs.Specs.Grammar.{AreAlike, AreParts, IsAccepted, IsNameOrPattern, IsPositive}
pub use Rattle.gix_refspec_text.specs.Specs.Grammar.{IsSigned, IsUnsigned, LastLacksColon, LooksLikeObjectHash, Reads}
pub use Rattle.gix_refspec_text.specs.Specs.Grammar.{deletes, fetch_excludes, fetched, fetches, fetches_colon}
pub use Rattle.gix_refspec_text.specs.Specs.Grammar.{fetches_nothing_named, named_by, push_excludes, pushed, pushes}
pub use Rattle.gix_refspec_text.specs.Specs.Grammar.{pushes_colon, pushes_pattern, pushes_plus, pushes_to, updates}
pub use Rattle.gix_refspec_text.specs.Specs.Grammar.{updates_from_head, with_colon}
pub use Rattle.gix_refspec_text.specs.Specs.Meaning.{Meaning, WritesPrinted, begins_with_plus, excluded}
pub use Rattle.gix_refspec_text.specs.Specs.Meaning.{fetch_and_update, fetch_exclude, fetch_only, included, meaning}
pub use Rattle.gix_refspec_text.specs.Specs.Meaning.{meaning_of, printed, push_all_matching, push_delete, push_exclude}
pub use Rattle.gix_refspec_text.specs.Specs.Meaning.{push_matching, sign, text_of}
pub use Rattle.gix_refspec_text.specs.Specs.Order.{is_same, keys, order}
pub use Rattle.gix_refspec_text.specs.Specs.Reading.{Forced, HasSide, Mode, Negative, Normal, Reading, all_tags}
pub use Rattle.gix_refspec_text.specs.Specs.Reading.{fetched_alone, local_of, remote_of, side_on_remote}
pub use Rattle.gix_refspec_text.specs.Specs.Reading.{with_destination}
pub use Rattle.gix_refspec_text.specs.Specs.Refusal.{Empty, ExcludesNothing, ExcludesObject, HasBadDestination}
pub use Rattle.gix_refspec_text.specs.Specs.Refusal.{HasBadSource, HasNegativeDestination, IsBadName, IsBadPattern}
pub use Rattle.gix_refspec_text.specs.Specs.Refusal.{IsBadSourceFor, IsEmptyPush, IsFirstReason, IsOneStarred}
pub use Rattle.gix_refspec_text.specs.Specs.Refusal.{IsRefused, IsUnbalanced, MayNeedMemory, NeedsMemory, NegativeEmpty}
pub use Rattle.gix_refspec_text.specs.Specs.Refusal.{NegativeObjectHash, NegativeWithDestination, Never}
pub use Rattle.gix_refspec_text.specs.Specs.Refusal.{NoReasonBeforeSource, OrElse, PatternUnbalanced}
pub use Rattle.gix_refspec_text.specs.Specs.Refusal.{PatternUnsupported, PushToEmpty, PushesNowhere, ReachesMemory}
pub use Rattle.gix_refspec_text.specs.Specs.Refusal.{ReferenceName, Refusal}
pub use Rattle.gix_refspec_text.specs.Texts.Bytes.{at, brace, bracket, caret, colon, dot, head, letter, plus, slash}
pub use Rattle.gix_refspec_text.specs.Texts.Bytes.{star}
pub use Rattle.gix_refspec_text.specs.Texts.Name.{HasFault, HasOneStar, HasSeveralStars, HasStar, IsName, IsPattern}
pub use Rattle.gix_refspec_text.specs.Texts.Name.{IsSplit, ReplacesStar, SomeComponent, is_refused_byte, letter_for}
pub use Rattle.gix_refspec_text.specs.Texts.Name.{with_letters}
pub use Rattle.gix_refspec_text.specs.Texts.ObjectId.{HasIdFault, IsIdLength, IsIdText, IsLowerText, IsSpelledBy}
pub use Rattle.gix_refspec_text.specs.Texts.ObjectId.{Spells, bytes_of, digits_of, fault_name, id_bytes, is_lower_digit}
pub use Rattle.gix_refspec_text.specs.Texts.ObjectId.{lower_of}
pub use Rattle.gix_refspec_text.specs.Texts.PatternError.{IsPatternFault}
pub use Rattle.gix_refspec_text.specs.Texts.Words.{ArePartsAt, BeginsWith, ContainsText, EndsWith, Lacks}
pub use Rattle.gix_refspec_text.specs.Views.Instruction.{IsShownAs, ShowsRefusal, meaning_of_instruction, meant_for}
pub use Rattle.gix_refspec_text.specs.Views.Instruction.{mode_of}
pub use Rattle.gix_refspec_text.specs.Views.Spec.{key_of_owned, key_of_spec, owned_reading_of, reading_of}
pub use Rattle.gix_refspec_text.specs.contracts.parsing.reading.Shape.{the_type}
pub use Rattle.gix_refspec_text.specs.declared.name.Error.{Error}
pub use Rattle.gix_refspec_text.specs.declared.name.Error.TheVariants.{Asterisk, Empty, Empty as NoName, EmptyComponent}
pub use Rattle.gix_refspec_text.specs.declared.name.Error.TheVariants.{EndsWithDot, InvalidByte, LockSuffix}
pub use Rattle.gix_refspec_text.specs.declared.name.Error.TheVariants.{ReflogPortion, RepeatedDot, StartsWithDot}
pub use Rattle.gix_refspec_text.specs.declared.oid.Error.TheVariants.{Digit, Length}
pub use Rattle.gix_refspec_text.specs.declared.oid.Kind.{Kind}
pub use Rattle.gix_refspec_text.specs.declared.oid.Kind.TheVariants.{Sha1, Sha256}
pub use Rattle.gix_refspec_text.specs.declared.oid.ObjectId.{ObjectId}
pub use Rattle.gix_refspec_text.specs.declared.parsing.Operation.{Operation}
pub use Rattle.gix_refspec_text.specs.declared.parsing.Operation.TheVariants.{Fetch, Push}
pub use Rattle.gix_refspec_text.specs.declared.parsing.reading.Shape.{Shape}
pub use Rattle.gix_refspec_text.specs.declared.parsing.reading.Shape.TheVariants.{Pattern, Plain}
pub use Rattle.gix_refspec_text.specs.declared.types.Mode.{Mode as DeclaredMode}
