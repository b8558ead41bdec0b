-- By the command, and the option whose value is next.
use Rattle.std.proofs.Common.{inl, inr, refl}
use Rattle.std.proofs.lemmas.Result.{err_from_is_err_and}
use Rattle.refspec_request.specs.Reading.{call_of}
use Rattle.refspec_request.proofs.ArgumentLemmas.{lacks_told}
use Rattle.refspec_request.proofs.arguments.Reading.allowed_command.Goals as goal

pub returns-in-None : goal.returns-in-None
returns-in-None c = inl (refl, c.in-None.is)

pub returns-in-Some-wants : goal.returns-in-Some-wants
returns-in-Some-wants c = lacks_told (call_of c.args.self.now) c.in-Some.command c.in-Some-wants.option
    c.lacking.result c.in-Some.is c.in-Some-wants.is c.lacking.ensures

pub returns-in_err-check-in-None-wants : goal.returns-in_err-check-in-None-wants
returns-in_err-check-in-None-wants c =
    let q = err_from_is_err_and c.from_residual.result c.from_residual.ensures.1 in
    rw (q.1, q.2) (inr (inr (inr (
      c.in-Some.command,
      c.in-Some.is,
      c.in-None-wants.is,
      c.in_err-check-in-None-wants.ensures,
    ))))

pub returns-in_ok-check-in-None-wants : goal.returns-in_ok-check-in-None-wants
returns-in_ok-check-in-None-wants c = record {
  has = c.in-Some.is;
  complete = c.in-None-wants.is;
  options = c.in_ok-check-in-None-wants.ensures;
}
