-- The names that most files of proofs use.
pub use Rattle.gix_refspec_lint.proofs.Common.{AllByRecursion, AllZip, Any, Contains, IfOk-weaker, List, MatchBool}
pub use Rattle.gix_refspec_lint.proofs.Common.{MatchOption, MatchBool-at_false, MatchBool-at_true, None, Option, Some}
pub use Rattle.gix_refspec_lint.proofs.Common.{[], ap, append-nil, arith, false, false≢true, get_or, inl, inr, length}
pub use Rattle.gix_refspec_lint.proofs.Common.{map, map-append, refl, rules, slice_get, slice_get_within, subst, sym}
pub use Rattle.gix_refspec_lint.proofs.Common.{take, take_all, true, zero, ℕ, ◌++◌, ◌+◌, ◌<◌, ◌↔◌, ◌∙◌, ◌∷◌, ◌≡◌, ◌≢◌}
pub use Rattle.gix_refspec_lint.proofs.Common.{◌≤◌, ◌⊎◌, same_Some, option_map, of_element, bstr_bytes, bstring_bytes}
pub use Rattle.gix_refspec_lint.proofs.Common.{BString, one_more_mapped, reading_of, RefSpecRef, Ref, HasName, Reading}
pub use Rattle.gix_refspec_lint.proofs.Common.{Forced, Normal, Negative, IsPositive, IsCompleted, Source, name, id}
pub use Rattle.gix_refspec_lint.proofs.Common.{IsSourceExcluded, MakesForward, IsRefName, IsValidSource, CanBeWritten}
pub use Rattle.gix_refspec_lint.proofs.Common.{Fetches, Maps, MakesSoundly, AreValid, refs_of, ref_named, ref_of}
pub use Rattle.gix_refspec_lint.proofs.Common.{start_of, mapped_of, IsGroupOf, IsFree, AreAbsent, ArePreferred}
pub use Rattle.gix_refspec_lint.proofs.Common.{AreAllowed}
