-- The library makes the refspec, or tells why it doesn't.
use Rattle.std.proofs.Common.{sym, ◌∙◌}
use Rattle.std.proofs.lemmas.Result.{IfErr-weaker, IfOk-weaker}
use Rattle.gix_refspec.specs.Views.Spec.{owned_reading_of}
use Rattle.gix_refspec_remote.specs.Parts.{mode_in}
use Rattle.gix_refspec_c.specs.Making.{destination_given, out_of_memory, source_given, unmade}
use Rattle.gix_refspec_c.specs.Sides.{sides_in}
use Rattle.gix_refspec_c.proofs.MakingLemmas.{unmade_by}
use Rattle.gix_refspec_c.proofs.making.made_of.Goals as goal

pub returns-in-Err-clause-err : goal.returns-in-Err-clause-err
returns-in-Err-clause-err c =
    let sides = sides_in c.args.sides.now in
    let (small, is) = unmade_by c.args.operation (mode_in c.in-Some.sign) (source_given sides) (destination_given sides)
    c.in-Err.error c.failure_of_parts.result
    (λ other. rw (c.source_of.ensures, c.side_given.ensures) at (c.in-Err.ensures.refused other))
    c.failure_of_parts.ensures.other c.failure_of_parts.ensures.text c.failure_of_parts.ensures.memory in
    (small, unmade (mode_in c.in-Some.sign) c.in-Some.ensures is)

pub returns-clause-ok : goal.returns-clause-ok
returns-clause-ok c = IfOk-weaker c.print_owned.result _ _
    (λ text is. record {
      mode = mode_in c.in-Some.sign;
      number = c.in-Some.ensures;
      reading = owned_reading_of c.in-Ok.spec;
      made = record {
        apart = rw (c.source_of.ensures, c.side_given.ensures) at c.in-Ok.ensures.ok.0;
        reads = rw (c.source_of.ensures, c.side_given.ensures) at c.in-Ok.ensures.ok.1;
      };
      is = is;
    }) c.print_owned.ensures.ok

pub returns-clause-err : goal.returns-clause-err
returns-clause-err c = IfErr-weaker c.print_owned.result _ _
    (λ f is. (λ small. cc (sym is ∙ small), unmade (mode_in c.in-Some.sign) c.in-Some.ensures (out_of_memory is)))
    c.print_owned.ensures.err
