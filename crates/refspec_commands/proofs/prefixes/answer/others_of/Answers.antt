-- A spec is kept unless `takes_whole` is true of it.
use Rattle.std.proofs.Common.{◌+◌, List, Vec, Global, ap, map, subst, sym, take, take_all}
use Rattle.gix_refspec.specs.Views.Spec.{reading_of}
use Rattle.gix_refspec_text.specs.declared.spec.RefSpecRef.{RefSpecRef}
use Rattle.refspec_commands.specs.Prefixes.{AreOthers}
use Rattle.refspec_commands.proofs.PrefixLemmas.{AreOthers-other, AreOthers-whole}
use Rattle.refspec_commands.proofs.prefixes.answer.others_of.Goals.{then-not-takes_whole+in_ok-push}
use Rattle.refspec_commands.proofs.prefixes.answer.others_of.Goals.{else-not-takes_whole}
use Rattle.refspec_commands.proofs.prefixes.answer.others_of.Goals as goal

pub loop-spec-init : goal.loop-spec-init
loop-spec-init c = ap (map reading_of) c.in_ok-others.ensures.items

pub loop-spec-preserved : goal.loop-spec-preserved
loop-spec-preserved c = elim c.if-not-takes_whole.branch [
  | then-not-takes_whole+in_ok-push w ↦
      subst (λ (v : Vec RefSpecRef Global). AreOthers
      (map reading_of (take (c.loop-spec.spec-index + 1) c.args.specs.now)) (map reading_of v.items)) (sym w.others-is)
      (AreOthers-other c.args.specs.now c.loop-spec.spec-index c.spec-item.result c.loop-spec.others.items
      w.push.new.self.items c.loop-spec-test.true c.spec-item.is w.if-not-takes_whole.ensures
      w.in_ok-push.ensures.items c.loop-spec.invariant)
  | else-not-takes_whole w ↦
      subst (λ (v : Vec RefSpecRef Global). AreOthers
      (map reading_of (take (c.loop-spec.spec-index + 1) c.args.specs.now)) (map reading_of v.items)) (sym w.others-is)
      (AreOthers-whole c.args.specs.now c.loop-spec.spec-index c.spec-item.result c.loop-spec.others.items
      c.loop-spec-test.true c.spec-item.is w.if-not-takes_whole.ensures c.loop-spec.invariant)
]

pub returns : goal.returns
returns c = subst (λ (l : List RefSpecRef). AreOthers (map reading_of l) (map reading_of c.loop-spec.others.items))
    (take_all c.loop-spec.spec-index c.args.specs.now c.loop-spec-test.false) c.loop-spec.invariant
