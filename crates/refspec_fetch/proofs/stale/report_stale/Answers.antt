-- The parts of the report follow each other.
use Rattle.std.proofs.Common.{◌∙◌, Bor, List, ap, map, ℕ}
use Rattle.bstr.specs.Owned.{bstring_bytes}
use Rattle.gix_refspec.specs.Views.Group.{ref_of}
use Rattle.gix_refspec_plan.specs.Matching.Stale.{Found}
use Rattle.gix_refspec_plan.specs.Views.Stale.{found_of}
use Rattle.refspec_io.specs.Malformed.{IsBadLine, IsMalformed}
use Rattle.refspec_io.specs.Refs.{bad_bytes}
use Rattle.refspec_io.proofs.JsonLemmas.{AddsObjects-map}
use Rattle.refspec_io.proofs.ShownLemmas.{on_ok}
use Rattle.refspec_fetch.specs.Answer.{answer_of}
use Rattle.refspec_fetch.specs.Stale.{deleted_names, kept_of, kept_refs}
use Rattle.refspec_fetch.proofs.StaleLemmas.{AddsStale-of}
use Rattle.refspec_fetch.proofs.stale.report_stale.Goals as goal

pub returns-clause-reported : goal.returns-clause-reported
returns-clause-reported c =
    let a = c.args.answer.now in
    let old = c.args.report.now in
    let name = c.args.style.now.local.now in
    let locals = map ref_of a.question.local.now in
    let bad = c.in_ok-report_bad_records.ensures in
    let found = c.in_ok-found.ensures in
    let same_stale = ap (map found_of) c.as_slice.ensures.value in
    let malformed = AddsObjects-map old.form (IsBadLine name) IsMalformed bad_bytes a.question.unread.now
    old.results.items
    c.report_bad_records.new.report.results.items (λ one line is. (is.0, is.2)) bad.reported in
    let deleted = ap (map (λ (n : Bor (List ℕ)). n.now)) c.as_slice-2.ensures.value
    ∙ (found.deleted ∙ ap (λ (x : List Found). deleted_names locals x) same_stale) in
    let kept = ap (map kept_of) c.as_slice-3.ensures.value
    ∙ (found.kept ∙ (ap (λ (x : List Found). kept_refs (map bstring_bytes c.pruning.result.now) locals x) same_stale
    ∙ ap (λ (t : List (List ℕ)). kept_refs t locals (map found_of a.stale.items)) c.pruning.ensures)) in
    on_ok c.report_kept.result _ _ c.report_kept.ensures.reported
    (AddsStale-of c.args.texts.now (answer_of a) old.form c.report_bad_records.new.report.form
    c.report_deleted.new.report.form
    _ _ old.results.items _ _ _ bad.form c.in_ok-report_deleted.ensures.form deleted kept malformed
    c.in_ok-report_deleted.ensures.reported)
