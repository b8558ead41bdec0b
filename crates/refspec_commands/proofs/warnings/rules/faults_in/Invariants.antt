-- the warnings so far are on single specs
use Rattle.refspec_commands.specs.WarnedViews.{AreOthers}
use Rattle.refspec_commands.proofs.warnings.rules.faults_in.Given as goal

abbrev pub invariant-loop-text : goal.invariant-loop-text
invariant-loop-text l = AreOthers l.found.items
