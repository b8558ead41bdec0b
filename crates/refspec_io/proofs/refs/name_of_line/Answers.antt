-- The digits of an id have one of two lengths.
use Rattle.refspec_io.proofs.RefLemmas.{IsNoRefLine-of, on_none}
use Rattle.refspec_io.proofs.refs.name_of_line.Goals as goal

pub returns-in-None : goal.returns-in-None
returns-in-None c = record {
  some = c.name_after-in-None.ensures.some;
  none = on_none c.name_after-in-None.result _ _ c.name_after-in-None.ensures.none
      (IsNoRefLine-of c.args.line.now c.in-None.ensures.none);
}
