-- The spec at the index decides.
use Rattle.std.proofs.Common.{◌∙◌, List, ap, arith, get_or, length, sym}
use Rattle.std.proofs.lemmas.Bool.{ltb-true}
use Rattle.gix_refspec_text.specs.declared.spec.RefSpecRef.{RefSpecRef}
use Rattle.refspec_commands.proofs.WarnedLemmas.{excludes_at}
use Rattle.refspec_commands.proofs.warnings.idle.may_exclude_at.Goals as goal

pub returns-in-Some : goal.returns-in-Some
returns-in-Some c =
    let inside = ltb-true _ _ (sym c.in-Some.ensures.lookup.0) in
    excludes_at c.args.group.now.specs.items c.args.index c.in-Some.spec.now c.may_exclude.result
    (omega (arith, inside, ap length c.deref.ensures.value))
    (c.in-Some.ensures.lookup.1 ∙ ap (λ (l : List RefSpecRef). get_or l c.args.index c.in-Some.spec.now)
    c.deref.ensures.value)
    c.may_exclude.ensures
