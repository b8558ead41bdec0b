-- the warnings on the groups so far
use Rattle.std.proofs.Common.{map}
use Rattle.refspec_commands.specs.WarnedViews.{asked_at, said_of, seen_of}
use Rattle.refspec_commands.proofs.KeyLemmas.{HaveSaid}
use Rattle.refspec_commands.proofs.warnings.warnings_of.Given as goal

abbrev pub invariant-loop-key : goal.invariant-loop-key
invariant-loop-key l = HaveSaid l.form (asked_at l.beside) (map seen_of l.all) l.key-iterator
    (map said_of l.found.items)
