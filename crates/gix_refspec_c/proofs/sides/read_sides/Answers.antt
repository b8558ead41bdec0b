-- The sides are those of the reading.
use Rattle.gix_refspec.specs.Views.Spec.{reading_of}
use Rattle.gix_refspec_c.proofs.sides.read_sides.Goals as goal

pub returns-clause-ok : goal.returns-clause-ok
returns-clause-ok c = record {
  reading = reading_of c.in_ok-spec.spec;
  reads = c.in_ok-spec.ensures.ok;
  is = c.sides_of.ensures;
}
