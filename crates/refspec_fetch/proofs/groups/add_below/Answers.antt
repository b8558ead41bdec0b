-- An update that isn't written changes nothing.
use Rattle.std.proofs.Common.{◌≡◌, Bool, MatchBool, Some, refl, sym, subst, ◌∙◌}
use Rattle.gix_refspec_plan.specs.Views.Plan.{planned_of}
use Rattle.refspec_fetch.specs.Groups.{WritesBelow}
use Rattle.refspec_fetch.proofs.groups.add_below.Goals as goal

pub returns-then-not-is_written : goal.returns-then-not-is_written
returns-then-not-is_written c =
    let p = planned_of c.args.update.now in
    let old = c.args.out.now.items in
    let before = c.args.before.now in
    subst (λ (b : Bool). MatchBool b (WritesBelow c.args.table.now.texts.now before p old old
    × (before ≡ Some p.origin))
    ((old ≡ old) × (before ≡ before))) (sym (sym c.is_written.ensures ∙ c.if-not-is_written.true)) (refl, refl)

pub returns : goal.returns
returns c =
    let p = planned_of c.args.update.now in
    let old = c.args.out.now.items in
    let new = c.write_below.new.out.items in
    let before = c.args.before.now in
    subst (λ (b : Bool). MatchBool b (WritesBelow c.args.table.now.texts.now before p old new
    × (Some p.origin ≡ Some p.origin))
    ((new ≡ old) × (Some p.origin ≡ before))) (sym (sym c.is_written.ensures ∙ c.if-not-is_written.false))
    (c.in_ok-write_below.ensures, refl)
