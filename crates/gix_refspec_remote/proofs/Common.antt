-- The names that most proofs of this crate cite, passed on from one place. Declares nothing.
pub use Rattle.std.proofs.Common.{◌≡◌, ◌++◌, ◌∷◌, [], ℕ, List, Option, None, Some, option_map, Bool, true, false, not}
pub use Rattle.std.proofs.Common.{IsTrue, MatchBool, MatchOption, ◌↔◌, arith, rules, refl, sym, ap, subst, ◌∙◌, ◌⊎◌}
pub use Rattle.std.proofs.Common.{inl, inr, codes, ◌<◌, ◌≤◌, ◌+◌, length, map, get_or, slice_get, below_more, Bor}
pub use Rattle.std.proofs.Common.{zero, suc}
pub use Rattle.std.proofs.Common.{append-nil, drop, take, take_all, length-drop, ◌-◌, ◌≢◌, IfErr, Result}
pub use Rattle.std.proofs.Math.Seq.{drop-append_seam, take-append_seam}
pub use Rattle.std.proofs.lemmas.Bool.{cases_lt, false≢true}
pub use Rattle.std.proofs.lemmas.Bool.Decides.{Decides-eqb}
pub use Rattle.std.proofs.lemmas.List.{length-append, length-map, length-take-le, take-append-drop}
pub use Rattle.std.proofs.lemmas.Option.{same_Some, slice_get-map, slice_get-get_or, slice_get_within}
pub use Rattle.std.proofs.lemmas.Result.{IfOk-weaker, IfOk-at_ok}
pub use Rattle.std.specs.Cmp.Lexicographic.{pointwise_decides}
pub use Rattle.std.proofs.lemmas.Slice.Eq.{starts_is}
pub use Rattle.bstr.specs.BStr.{bstr_bytes}
pub use Rattle.bstr.specs.Owned.{bstring_bytes}
pub use Rattle.gix_refspec_text.proofs.lemmas.hits.MatchLemmas.{lacks_no_pattern, one_word, split_once}
pub use Rattle.gix_refspec_text.proofs.lemmas.specs.AcceptedLemmas.{accepted_few}
pub use Rattle.gix_refspec_text.proofs.lemmas.texts.TextLemmas.{Lacks-ContainsText, Lacks-from_absent}
pub use Rattle.gix_refspec_text.specs.Matching.Side.{Fits}
pub use Rattle.gix_refspec_text.specs.Specs.Reading.{Reading}
pub use Rattle.gix_refspec_text.specs.Texts.Bytes.{star}
pub use Rattle.gix_refspec_text.specs.Texts.Name.{HasSeveralStars, IsSplit}
pub use Rattle.gix_refspec_text.specs.Texts.Words.{ContainsText, Lacks}
pub use Rattle.gix_refspec_text.specs.Views.Spec.{reading_of}
pub use Rattle.gix_refspec_text.specs.declared.spec.RefSpecRef.{RefSpecRef}
pub use Rattle.gix_refspec_match.specs.Matching.Mappings.{IsExcluded, IsExcludedBy}
pub use Rattle.gix_refspec_match.specs.Private.Kept.{AreExclusionsAt, AreExclusionsOf, ExcludeName, ExcludeNameAt}
pub use Rattle.gix_refspec_match.specs.Views.Mapping.{name_bytes}
pub use Rattle.gix_refspec_match.specs.declared.exclusions.Exclusions.{Exclusions}
pub use Rattle.gix_refspec_match.specs.declared.types.NameRef.{NameRef}
pub use Rattle.gix_refspec_remote.specs.Private.{AreWrittenIn, HasNoSource, IsExclusion, IsTracked, IsUntracked}
pub use Rattle.gix_refspec_remote.specs.Upstream.{AsksFor, AsksForExcluded, Fetches, HasAt, HasNo, IsExcludedAt}
pub use Rattle.gix_refspec_remote.specs.Upstream.{IsFirstAt, IsUpstream, Names, Stores, StoresSome, Turns, Upstream}
pub use Rattle.gix_refspec_remote.specs.Upstream.{excluded, not_fetched, not_stored, tracked}
pub use Rattle.gix_refspec_remote.specs.Views.{shown}
pub use Rattle.gix_refspec_remote.specs.Written.{IsText}
pub use Rattle.gix_refspec_remote.specs.declared.written.WrittenSides.{WrittenSides}
