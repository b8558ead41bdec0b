-- A spec is kept unless its destination is an id.
use Rattle.std.proofs.Common.{◌+◌, Vec, Global, ap, map, subst, sym, take}
use Rattle.gix_refspec_text.specs.declared.spec.RefSpecRef.{RefSpecRef}
use Rattle.refspec_commands.specs.Answer.{AreLeftOut}
use Rattle.refspec_commands.specs.Track.{AreByNames}
use Rattle.gix_refspec.specs.Views.Spec.{reading_of}
use Rattle.refspec_commands.proofs.AnswerLemmas.{AreLeftOut-added, AreLeftOut-all, AreLeftOut-same}
use Rattle.refspec_commands.proofs.TrackLemmas.{AreByNames-all, AreByNames-kept, AreByNames-left}
use Rattle.refspec_commands.proofs.tracking.answer.by_names.Goals.{then-has_id_destination+in_ok-push}
use Rattle.refspec_commands.proofs.tracking.answer.by_names.Goals.{else-has_id_destination+in_ok-push-2}
use Rattle.refspec_commands.proofs.tracking.answer.by_names.Goals as goal

pub loop-spec-init : goal.loop-spec-init
loop-spec-init c = record {
  kept = ap (map reading_of) c.in_ok-kept.ensures.items;
  left_out = ap (map reading_of)
      c.new-left_out.ensures.items;
}

pub loop-spec-preserved : goal.loop-spec-preserved
loop-spec-preserved c =
    let so_far = map reading_of (take (c.loop-spec.spec-index + 1) c.args.specs.now) in
    elim c.if-has_id_destination.branch [
      | then-has_id_destination+in_ok-push w ↦ record {
        kept = subst (λ (v : Vec RefSpecRef Global). AreByNames so_far (map reading_of v.items)) (sym w.kept-is)
            (AreByNames-left c.args.specs.now c.loop-spec.kept.items c.loop-spec.spec-index c.spec-item.result
            c.loop-spec-test.true c.spec-item.is (rw w.if-has_id_destination.true at c.has_id_destination.ensures)
            c.loop-spec.invariant.kept);
        left_out = subst (λ (v : Vec RefSpecRef Global). AreLeftOut so_far (map reading_of v.items)) (sym w.left_out-is)
            (AreLeftOut-added c.args.specs.now c.loop-spec.left_out.items _ c.loop-spec.spec-index
            c.spec-item.result c.loop-spec-test.true c.spec-item.is (rw w.if-has_id_destination.true at
            c.has_id_destination.ensures) w.in_ok-push.ensures.items c.loop-spec.invariant.left_out);
      }
      | else-has_id_destination+in_ok-push-2 w ↦ record {
        kept = subst (λ (v : Vec RefSpecRef Global). AreByNames so_far (map reading_of v.items)) (sym w.kept-is)
            (AreByNames-kept c.args.specs.now c.loop-spec.kept.items _ c.loop-spec.spec-index
            c.spec-item.result c.loop-spec-test.true c.spec-item.is (rw w.if-has_id_destination.false at
            c.has_id_destination.ensures) w.in_ok-push-2.ensures.items c.loop-spec.invariant.kept);
        left_out = subst (λ (v : Vec RefSpecRef Global). AreLeftOut so_far (map reading_of v.items)) (sym w.left_out-is)
            (AreLeftOut-same c.args.specs.now c.loop-spec.left_out.items c.loop-spec.spec-index c.spec-item.result
            c.loop-spec-test.true c.spec-item.is (rw w.if-has_id_destination.false at c.has_id_destination.ensures)
            c.loop-spec.invariant.left_out);
      }
    ]

pub returns : goal.returns
returns c = (
  AreByNames-all c.args.specs.now c.loop-spec.kept.items c.loop-spec.spec-index c.loop-spec-test.false
      c.loop-spec.invariant.kept,
  AreLeftOut-all c.args.specs.now c.loop-spec.left_out.items c.loop-spec.spec-index c.loop-spec-test.false
      c.loop-spec.invariant.left_out,
)
