-- Each conflict is reported after the others.
use Rattle.std.proofs.Common.{◌∙◌, List, ap, map, refl, subst, take_all}
use Rattle.gix_refspec_plan.specs.Views.Plan.{planned_of}
use Rattle.refspec_io.specs.Json.{AddsObjects}
use Rattle.refspec_io.proofs.JsonLemmas.{AddsObjects-next, AddsObjects-start}
use Rattle.refspec_fetch.specs.declared.conflicts.Contest.{Contest}
use Rattle.refspec_fetch.specs.Conflicts.{IsConflict, contest_of}
use Rattle.refspec_fetch.proofs.ConflictLemmas.{AddsEachConflict-next, AddsEachConflict-start}
use Rattle.refspec_fetch.proofs.conflicts.report_all_conflicts.Goals as goal

pub loop-contest-init : goal.loop-contest-init
loop-contest-init c =
    record {
      form = refl;
      objects = AddsObjects-start c.args.report.now.form (IsConflict c.args.texts.now)
          c.args.report.now.results.items;
      reported = AddsEachConflict-start c.args.report.now.form c.args.texts.now
          c.args.report.now.messages.items;
    }

pub loop-contest-preserved : goal.loop-contest-preserved
loop-contest-preserved c =
    let ps = map planned_of c.args.updates.now in
    record {
      form = c.in_ok-report_conflict.ensures.form ∙ c.loop-contest.invariant.form;
      objects = AddsObjects-next c.args.report.now.form c.loop-contest.report.form (IsConflict c.args.texts.now)
          (contest_of ps) c.args.contests.now c.loop-contest.contest-index c.contest-item.result
          (contest_of ps c.contest-item.result) c.args.report.now.results.items c.loop-contest.report.results.items
          c.report_conflict.new.report.results.items c.loop-contest-test.true c.loop-contest.invariant.form
          (ap (contest_of ps) c.contest-item.is) c.loop-contest.invariant.objects
          c.in_ok-report_conflict.ensures.objects;
      reported = AddsEachConflict-next c.args.report.now.form c.loop-contest.report.form c.args.texts.now ps
          c.args.contests.now c.loop-contest.contest-index c.contest-item.result c.args.report.now.messages.items
          c.loop-contest.report.messages.items c.report_conflict.new.report.messages.items c.loop-contest-test.true
          c.contest-item.is c.loop-contest.invariant.form c.loop-contest.invariant.reported
          c.in_ok-report_conflict.ensures.reported;
    }

pub returns-clause-objects : goal.returns-clause-objects
returns-clause-objects c = subst (λ (l : List Contest). AddsObjects c.args.report.now.form (IsConflict c.args.texts.now)
    (map (contest_of (map planned_of c.args.updates.now)) l) c.args.report.now.results.items
    c.loop-contest.report.results.items)
    (take_all c.loop-contest.contest-index c.args.contests.now c.loop-contest-test.false)
    c.loop-contest.invariant.objects
