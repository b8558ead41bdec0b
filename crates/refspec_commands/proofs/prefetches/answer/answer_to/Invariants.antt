-- what is applied in place of each spec so far
use Rattle.std.proofs.Common.{map, take}
use Rattle.std.specs.List.{AllZip}
use Rattle.gix_refspec.specs.Views.Spec.{reading_of}
use Rattle.refspec_commands.specs.Prefetches.{IsApplied}
use Rattle.refspec_commands.proofs.prefetches.answer.answer_to.Given as goal

abbrev pub invariant-loop-spec : goal.invariant-loop-spec
invariant-loop-spec l = AllZip IsApplied (map reading_of (take l.spec-index l.specs)) l.all.items
