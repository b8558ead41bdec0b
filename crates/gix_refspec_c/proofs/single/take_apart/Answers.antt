-- The parts are those of the instruction, which is the meaning of the reading.
use Rattle.gix_refspec.specs.Views.Spec.{reading_of}
use Rattle.gix_refspec.specs.Views.Instruction.{meaning_of_instruction}
use Rattle.gix_refspec_c.proofs.single.take_apart.Goals as goal

pub returns-clause-ok : goal.returns-clause-ok
returns-clause-ok c = record {
  reading = reading_of c.in_ok-spec.spec;
  reads = c.in_ok-spec.ensures.ok;
  meaning =
      meaning_of_instruction c.instruction.result;
  means = c.instruction.ensures;
  is = c.parts_of.ensures;
}
