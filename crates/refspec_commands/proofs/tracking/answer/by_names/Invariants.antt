-- each spec so far is among those by which names are looked up, or among the others
use Rattle.std.proofs.Common.{map, take}
use Rattle.gix_refspec.specs.Views.Spec.{reading_of}
use Rattle.refspec_commands.specs.Answer.{AreLeftOut}
use Rattle.refspec_commands.specs.Track.{AreByNames}
use Rattle.refspec_commands.proofs.tracking.answer.by_names.Given as goal

abbrev pub invariant-loop-spec : goal.invariant-loop-spec
invariant-loop-spec l = record {
  kept : AreByNames (map reading_of (take l.spec-index l.specs)) (map reading_of l.kept.items);
  left_out : AreLeftOut (map reading_of (take l.spec-index l.specs)) (map reading_of l.left_out.items);
}
