-- Each role is reported after the others.
use Rattle.std.proofs.Common.{List, map, refl, subst, take_all, ◌∙◌}
use Rattle.bstr.specs.Owned.{bstring_bytes}
use Rattle.refspec_commands.specs.Each.{AddsEach}
use Rattle.refspec_commands.specs.declared.fates.roles.Role.{Role}
use Rattle.refspec_commands.specs.Locals.{IsPart, names_of, parts_from}
use Rattle.refspec_commands.proofs.EachLemmas.{AddsEach-start}
use Rattle.refspec_commands.proofs.LocalLemmas.{parts_step}
use Rattle.refspec_commands.proofs.fates.role_report.report_parts.Goals as goal

pub loop-index-init : goal.loop-index-init
loop-index-init c =
    let old = c.args.report.now in
    record {
      form = refl;
      reported = AddsEach-start (IsPart old.form c.args.parts.now.names.question.now.name.now) old.results.items;
    }

pub loop-index-preserved : goal.loop-index-preserved
loop-index-preserved c =
    let texts = map bstring_bytes c.args.parts.now.names.texts.now in
    let sources = names_of c.args.parts.now.sources.now in
    let mid = c.loop-index.report.results.items in
    let new = c.report_role.new.report.results.items in
    record {
      form = c.in_ok-report_role.ensures.form ∙ c.loop-index.invariant.form;
      reported = parts_step c.args.report.now.form c.loop-index.report.form
          c.args.parts.now.names.question.now.name.now texts sources c.args.roles.now c.loop-index.index
          _ _ c.args.report.now.results.items mid new c.loop-index-test.true refl c.loop-index.invariant.form
          c.loop-index.invariant.reported
          c.in_ok-report_role.ensures.reported;
    }

pub returns-clause-reported : goal.returns-clause-reported
returns-clause-reported c =
    let f = c.args.report.now.form in
    let name = c.args.parts.now.names.question.now.name.now in
    let texts = map bstring_bytes c.args.parts.now.names.texts.now in
    let sources = names_of c.args.parts.now.sources.now in
    subst (λ (l : List Role). AddsEach (IsPart f name) (parts_from 0 texts sources l) c.args.report.now.results.items
    c.loop-index.report.results.items) (take_all c.loop-index.index c.args.roles.now c.loop-index-test.false)
    c.loop-index.invariant.reported
