-- An update that isn't written adds nothing.
use Rattle.std.proofs.Common.{◌≡◌, ◌++◌, List, true, false, ap, flat_map, sym, subst, ◌∙◌}
use Rattle.std.proofs.lemmas.List.{append-nil}
use Rattle.gix_refspec_plan.specs.Matching.Plan.{Planned}
use Rattle.gix_refspec_plan.specs.Views.Plan.{planned_of}
use Rattle.refspec_io.proofs.ShownLemmas.{on_ok}
use Rattle.refspec_fetch.specs.Updates.{fields_with, update_fields}
use Rattle.refspec_fetch.proofs.UpdateLemmas.{pieces-one}
use Rattle.refspec_fetch.proofs.VerdictLemmas.{written-one}
use Rattle.refspec_fetch.proofs.updates.add_fields.Goals as goal

pub returns-then-not-is_written : goal.returns-then-not-is_written
returns-then-not-is_written c = subst (λ (l : List Planned). c.args.out.now.items ≡ c.args.out.now.items ++ flat_map
    (update_fields c.args.texts.now) l)
    (sym (written-one (planned_of c.args.update.now) false (sym c.is_written.ensures ∙ c.if-not-is_written.true)))
    (sym (append-nil c.args.out.now.items))

pub returns : goal.returns
returns c = on_ok c.write_fields.result _ _ c.write_fields.ensures
    (λ write. subst (λ (l : List Planned). c.write_fields.new.out.items ≡ c.args.out.now.items ++ flat_map
    (update_fields c.args.texts.now) l)
    (sym (written-one (planned_of c.args.update.now) true (sym c.is_written.ensures ∙ c.if-not-is_written.false)))
    (pieces-one (update_fields c.args.texts.now) (planned_of c.args.update.now) c.args.out.now.items
    c.write_fields.new.out.items (write ∙ ap (λ t. c.args.out.now.items ++ fields_with t (planned_of c.args.update.now))
    c.text_of-text.ensures)))
