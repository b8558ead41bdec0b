-- The first of the conflicts that are found are reported, and how many more there are.
use Rattle.std.proofs.Common.{List, map, subst}
use Rattle.gix_refspec_plan.specs.Views.Plan.{planned_of}
use Rattle.refspec_io.specs.Json.{AddsObjects}
use Rattle.refspec_io.proofs.ShownLemmas.{on_ok}
use Rattle.refspec_fetch.specs.declared.conflicts.Contest.{Contest as DeclaredContest}
use Rattle.refspec_fetch.specs.Conflicts.{AddsConflictLines, AddsEachConflict, Contest, IsConflict, contest_of}
use Rattle.refspec_fetch.proofs.ConflictLemmas.{AddsConflictLines-of, AddsObjects-first, first_of, others_of}
use Rattle.refspec_fetch.proofs.conflicts.report_conflicts.Goals as goal

pub returns-clause-reported : goal.returns-clause-reported
returns-clause-reported c =
    let view = contest_of (map planned_of c.args.updates.now) in
    let f = c.args.report.now.form in
    let texts = c.args.texts.now in
    let limit = c.args.limit in
    let all = c.as_slice-all.result.now in
    let old = c.args.report.now in
    let mid = c.report_all_conflicts.new.report in
    let first = first_of view f limit all c.split_at.result.0.now c.reported_count.result
    c.reported_count.ensures.reported
    c.split_at.ensures.front in
    on_ok c.write_more.result _ _ c.write_more.ensures (λ more. record {
      contests = map view c.in_ok-contests.contests.items;
      are = c.in_ok-contests.ensures;
      messages = subst (λ (l : List DeclaredContest). AddsConflictLines limit f texts
          (map view l) old.messages.items c.write_more.new.out.items)
          c.as_slice-all.ensures.value
          (AddsConflictLines-of f texts limit (map view all) _ old.messages.items mid.messages.items
          c.write_more.new.out.items
          (others_of view f limit all c.split_at.result.1.now c.reported_count.result c.reported_count.ensures.reported
          c.split_at.ensures.back)
          (subst (λ (l : List Contest). AddsEachConflict f texts l old.messages.items mid.messages.items) first
          c.in_ok-report_all_conflicts.ensures.reported) more);
      objects = subst (λ (l : List DeclaredContest). AddsObjects f (IsConflict texts)
          (map view l) old.results.items mid.results.items)
          c.as_slice-all.ensures.value
          (AddsObjects-first f (IsConflict texts) limit (map view all) old.results.items mid.results.items
          (subst (λ (l : List Contest). AddsObjects f (IsConflict texts) l old.results.items mid.results.items) first
          c.in_ok-report_all_conflicts.ensures.objects));
    })
