-- Each spec adds what is applied in its place.
use Rattle.std.proofs.Common.{[], sym, subst}
use Rattle.std.specs.List.{AllZip}
use Rattle.gix_refspec.specs.Views.Spec.{reading_of}
use Rattle.gix_refspec_text.specs.declared.spec.RefSpecRef.{RefSpecRef}
use Rattle.refspec_io.proofs.CheckedLemmas.{zip_mapped_all}
use Rattle.refspec_commands.specs.Prefetches.{IsApplied}
use Rattle.refspec_commands.proofs.EachLemmas.{zip_mapped}
use Rattle.refspec_commands.proofs.prefetches.answer.answer_to.Goals as goal

pub loop-spec-init : goal.loop-spec-init
loop-spec-init c = subst (AllZip IsApplied []) (sym c.in_ok-all.ensures.items) tt

pub loop-spec-preserved : goal.loop-spec-preserved
loop-spec-preserved c =
    let s = c.spec-item.result in
    let x = c.in_ok-applied_for.field-0 in
    zip_mapped IsApplied reading_of c.args.specs.now c.loop-spec.spec-index s c.loop-spec.all.items
    c.push.new.self.items x c.loop-spec-test.true c.loop-spec.invariant
    (subst (λ (y : RefSpecRef). IsApplied (reading_of y) x) c.spec-item.is c.in_ok-applied_for.ensures)
    c.in_ok-push.ensures.items

pub returns : goal.returns
returns c = zip_mapped_all IsApplied reading_of c.args.specs.now c.loop-spec.spec-index c.loop-spec.all.items
    c.loop-spec-test.false c.loop-spec.invariant
