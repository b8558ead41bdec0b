-- A spec is a reason if it has no list.
use Rattle.std.proofs.Common.{◌+◌, List, Vec, Global, ap, map, subst, sym, take, take_all}
use Rattle.gix_refspec.specs.Views.Spec.{reading_of}
use Rattle.gix_refspec_text.specs.declared.spec.RefSpecRef.{RefSpecRef}
use Rattle.refspec_commands.specs.Prefixes.{AreReasons}
use Rattle.refspec_commands.proofs.PrefixLemmas.{AreReasons-listed, AreReasons-without}
use Rattle.refspec_commands.proofs.prefixes.answer.reasons_among.Goals.{then-branch+in_ok-push, else-branch}
use Rattle.refspec_commands.proofs.prefixes.answer.reasons_among.Goals as goal

pub loop-spec-init : goal.loop-spec-init
loop-spec-init c = ap (map reading_of) c.new-reasons.ensures.items

pub loop-spec-preserved : goal.loop-spec-preserved
loop-spec-preserved c =
    let specs = c.args.specs.now in
    let i = c.loop-spec.spec-index in
    let so_far = λ (v : Vec RefSpecRef Global). AreReasons (map reading_of (take (i + 1) specs))
    (map reading_of v.items) in
    elim c.if-branch.branch [
      | then-branch+in_ok-push w ↦ subst so_far (sym w.reasons-is) (AreReasons-without specs i c.spec-item.result
          c.loop-spec.reasons.items w.push.new.self.items c.loop-spec-test.true c.spec-item.is
          (rw w.if-branch.true at c.in_ok-is_reason.ensures) w.in_ok-push.ensures.items c.loop-spec.invariant)
      | else-branch w ↦ subst so_far (sym w.reasons-is) (AreReasons-listed specs i c.spec-item.result
          c.loop-spec.reasons.items c.loop-spec-test.true c.spec-item.is
          (rw w.if-branch.false at c.in_ok-is_reason.ensures) c.loop-spec.invariant)
    ]

pub returns : goal.returns
returns c = subst (λ (l : List RefSpecRef). AreReasons (map reading_of l) (map reading_of c.loop-spec.reasons.items))
    (take_all c.loop-spec.spec-index c.args.specs.now c.loop-spec-test.false) c.loop-spec.invariant
