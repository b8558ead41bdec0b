-- others are the kept specs so far
use Rattle.std.proofs.Common.{map, take}
use Rattle.gix_refspec.specs.Views.Spec.{reading_of}
use Rattle.refspec_commands.specs.Prefixes.{AreOthers}
use Rattle.refspec_commands.proofs.prefixes.answer.others_of.Given as goal

abbrev pub invariant-loop-spec : goal.invariant-loop-spec
invariant-loop-spec l = AreOthers (map reading_of (take l.spec-index l.specs)) (map reading_of l.others.items)
