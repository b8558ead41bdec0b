-- An input with an output has no bad line.
use Rattle.std.proofs.Common.{List, ℕ, subst}
use Rattle.refspec_map.specs.Run.{IsOutput}
use Rattle.refspec_map.proofs.FaultLemmas.{no_bad_line}
use Rattle.refspec_map.proofs.run.run.Goals as goal

pub returns-clause-good : goal.returns-clause-good
returns-clause-good g c =
    let is = subst (λ (x : List ℕ). IsOutput c.args.command x c.in_ok-output.output.items c.in_ok-output.refusal)
    c.as_slice.ensures.value c.in_ok-output.ensures.ok in
    record {
      input = c.in_ok-input.input.items;
      read = c.in_ok-input.ensures.ok;
      good = no_bad_line c.args.command c.in_ok-input.input.items c.in_ok-output.output.items c.in_ok-output.refusal is;
    }
