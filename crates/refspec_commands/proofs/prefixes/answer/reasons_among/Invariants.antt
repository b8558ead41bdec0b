-- the reasons so far
use Rattle.std.proofs.Common.{map, take}
use Rattle.gix_refspec.specs.Views.Spec.{reading_of}
use Rattle.refspec_commands.specs.Prefixes.{AreReasons}
use Rattle.refspec_commands.proofs.prefixes.answer.reasons_among.Given as goal

abbrev pub invariant-loop-spec : goal.invariant-loop-spec
invariant-loop-spec l = AreReasons (map reading_of (take l.spec-index l.specs)) (map reading_of l.reasons.items)
