-- The spec of the value is printed, or there is none.
use Rattle.std.proofs.Common.{Some, sym, ◌∙◌}
use Rattle.std.proofs.lemmas.Result.{IfErr-weaker, IfOk-weaker}
use Rattle.gix_refspec_text.specs.declared.parsing.Operation.TheVariants.{Fetch}
use Rattle.gix_refspec.specs.Specs.Reading.{Forced}
use Rattle.gix_refspec.specs.Views.Spec.{owned_reading_of}
use Rattle.gix_refspec_c.specs.Making.{out_of_memory}
use Rattle.gix_refspec_c.proofs.MakingLemmas.{unmade_by}
use Rattle.gix_refspec_c.proofs.remotes.text_of.Goals as goal

pub returns-in-Ok-clause-ok : goal.returns-in-Ok-clause-ok
returns-in-Ok-clause-ok c = IfOk-weaker c.print_owned.result _ _
    (λ text is. (owned_reading_of c.in-Ok.spec, c.in-Ok.ensures.ok, is)) c.print_owned.ensures.ok

pub returns-in-Ok-clause-err : goal.returns-in-Ok-clause-err
returns-in-Ok-clause-err c =
    let (sides, has, made) = c.in-Ok.ensures.ok in
    IfErr-weaker c.print_owned.result _ _
    (λ f is. (λ small. cc (sym is ∙ small), (sides, has, out_of_memory is))) c.print_owned.ensures.err

pub returns-in-Err-clause-err : goal.returns-in-Err-clause-err
returns-in-Err-clause-err c =
    let (sides, has, none) = c.in-Err.ensures.refused in
    let (small, is) = unmade_by Fetch Forced sides.source (Some sides.destination) c.in-Err.error
    c.failure_of_parts.result none c.failure_of_parts.ensures.other c.failure_of_parts.ensures.text
    c.failure_of_parts.ensures.memory in
    (small, (sides, has, is))
