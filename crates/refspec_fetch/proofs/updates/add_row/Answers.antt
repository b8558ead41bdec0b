-- An update that isn't written adds nothing.
use Rattle.std.proofs.Common.{List, true, false, sym, subst, ◌∙◌}
use Rattle.gix_refspec_plan.specs.Matching.Plan.{Planned}
use Rattle.gix_refspec_plan.specs.Views.Plan.{planned_of}
use Rattle.refspec_io.proofs.ShownLemmas.{on_ok}
use Rattle.refspec_fetch.specs.Updates.{AddsUpdateLines}
use Rattle.refspec_fetch.proofs.UpdateLemmas.{AddsUpdateLines-one, AddsUpdateLines-start}
use Rattle.refspec_fetch.proofs.VerdictLemmas.{written-one}
use Rattle.refspec_fetch.proofs.updates.add_row.Goals as goal

pub returns-then-not-is_written : goal.returns-then-not-is_written
returns-then-not-is_written c =
    subst (λ (l : List Planned). AddsUpdateLines c.args.texts.now l c.args.out.now.items c.args.out.now.items)
    (sym (written-one (planned_of c.args.update.now) false (sym c.is_written.ensures ∙ c.if-not-is_written.true)))
    (AddsUpdateLines-start c.args.texts.now c.args.out.now.items)

pub returns : goal.returns
returns c = on_ok c.write_row.result _ _ c.write_row.ensures
    (λ write. subst
    (λ (l : List Planned). AddsUpdateLines c.args.texts.now l c.args.out.now.items c.write_row.new.out.items)
    (sym (written-one (planned_of c.args.update.now) true (sym c.is_written.ensures ∙ c.if-not-is_written.false)))
    (AddsUpdateLines-one c.args.texts.now (planned_of c.args.update.now) c.text_of-text.result.now c.args.out.now.items
    c.write_row.new.out.items c.text_of-text.ensures write))
