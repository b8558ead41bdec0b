-- There is a lemma for each command.
use Rattle.std.proofs.Common.{List, map, subst}
use Rattle.bstr.specs.BStr.{bstr_bytes}
use Rattle.bstr.specs.Owned.{bstring_bytes}
use Rattle.bstr.specs.declared.bstr.BStr.{BStr}
use Rattle.gix_refspec.specs.Views.Spec.{reading_of}
use Rattle.gix_refspec_text.specs.declared.spec.RefSpecRef.{RefSpecRef}
use Rattle.refspec_io.proofs.ShownLemmas.{if_ok}
use Rattle.refspec_fetch.specs.Fetch.{AddsFetch}
use Rattle.refspec_fetch.specs.Report.{report_of}
use Rattle.refspec_commands.specs.declared.prefixes.report.Notation.{Notation}
use Rattle.refspec_commands.specs.Locals.{AddsWhy}
use Rattle.refspec_commands.specs.Prefetches.{AddsPrefetches}
use Rattle.refspec_commands.specs.Prefixes.{AddsAnswer, IsAnswer}
use Rattle.refspec_commands.specs.Upstreams.{AddsUpstreams}
use Rattle.refspec_commands.proofs.OutputLemmas.{AddsFound-fetch, AddsFound-prefetch, AddsFound-prefixes}
use Rattle.refspec_commands.proofs.OutputLemmas.{AddsFound-track, AddsFound-upstream, AddsFound-why}
use Rattle.refspec_commands.proofs.run.report_found.Goals as goal

pub returns-in-Plan : goal.returns-in-Plan
returns-in-Plan c = if_ok c.report_fetch.result _ _ c.report_fetch.ensures
    (λ refused fetch. AddsFound-fetch c.args.task.now.call.now.command c.args.task.now c.args.report.now
    c.report_fetch.new.report refused _ c.in-Plan.is
    (subst (λ (l : List RefSpecRef). AddsFetch c.args.task.now (map reading_of l) refused (report_of c.args.report.now)
    (report_of c.report_fetch.new.report)) c.as_slice.ensures.value fetch))

pub returns-in-Track : goal.returns-in-Track
returns-in-Track c = if_ok c.report_tracking.result _ _ c.report_tracking.ensures
    (λ refused. AddsFound-track c.args.task.now.call.now.command c.args.task.now c.args.report.now.form _ _ refused _ _
    _ c.in-Track.is)

pub returns-in-Upstream : goal.returns-in-Upstream
returns-in-Upstream c = if_ok c.report_upstreams.result _ _ c.report_upstreams.ensures
    (λ refused reported. AddsFound-upstream c.args.task.now.call.now.command c.args.task.now c.args.report.now.form _ _
    refused _ _ _ c.in-Upstream.is
    (subst (λ (l : List RefSpecRef). AddsUpstreams c.args.report.now.form
    (map bstr_bytes c.args.task.now.call.now.merges.items) refused (map reading_of l) c.args.report.now.results.items
    c.report_upstreams.new.report.results.items) c.as_slice-in-Upstream-2.ensures.value
    (subst (λ (l : List BStr). AddsUpstreams c.args.report.now.form (map bstr_bytes l) refused
    (map reading_of c.as_slice-in-Upstream-2.result.now) c.args.report.now.results.items
    c.report_upstreams.new.report.results.items) c.as_slice-in-Upstream.ensures.value reported)))

pub returns-in-Prefetch : goal.returns-in-Prefetch
returns-in-Prefetch c = if_ok c.report_prefetches.result _ _ c.report_prefetches.ensures
    (λ refused reported. AddsFound-prefetch c.args.task.now.call.now.command c.args.task.now c.args.report.now.form _ _
    refused _ _ _ c.in-Prefetch.is (
      reported.0,
      subst (λ (l : List RefSpecRef). AddsPrefetches c.args.report.now.form
          (map reading_of l) c.args.report.now.results.items c.report_prefetches.new.report.results.items)
          c.as_slice-in-Prefetch.ensures.value reported.1,
    ))

pub returns-in-Why : goal.returns-in-Why
returns-in-Why c = if_ok c.report_why.result _ _ c.report_why.ensures
    (λ refused fates. AddsFound-why c.args.task.now.call.now.command c.args.task.now c.args.report.now
    c.report_why.new.report refused _ c.in-Why.is
    (subst (λ (l : List RefSpecRef). AddsWhy c.args.task.now (map reading_of l) refused (report_of c.args.report.now)
    (report_of c.report_why.new.report)) c.as_slice-in-Why.ensures.value fates))

pub returns-in_ok-report_answer-in_default : goal.returns-in_ok-report_answer-in_default
returns-in_ok-report_answer-in_default c =
    let task = c.args.task.now in
    let old = c.args.report.now in
    let new = c.report_answer.new.report in
    let answer = c.in_ok-answer-in_default.answer in
    let beside = map bstring_bytes c.in_ok-beside-in_default.beside.items in
    AddsFound-prefixes task.call.now.command task old.form _ _ _ _ _ c.in_default.not-Plan c.in_default.not-Stale
    c.in_default.not-Track c.in_default.not-Upstream c.in_default.not-Prefetch c.in_default.not-Why (
      beside,
      c.in_ok-beside-in_default.ensures,
      (
        answer,
        subst (λ (l : List RefSpecRef). IsAnswer beside (map reading_of l) answer) c.as_slice-in_default.ensures.value
            c.in_ok-answer-in_default.ensures,
        subst (λ (n : Notation). AddsAnswer n answer old.form old.results.items new.results.items)
            c.notation_of.ensures c.in_ok-report_answer-in_default.ensures,
      ),
    )
