-- bytes were appended
use Rattle.refspec_io.specs.Shown.{Grows}
use Rattle.refspec_fetch.proofs.missing.write_names.Given as goal

abbrev pub invariant-loop-named : goal.invariant-loop-named
invariant-loop-named l = Grows l.fn.out.items l.out.items
