-- A text of the program's own, or the request of the command.
use Rattle.std.proofs.Common.{refl, subst, sym}
use Rattle.std.proofs.lemmas.Result.{err_from_is_err_and}
use Rattle.refspec_request.specs.Arguments.{IsAllowed}
use Rattle.refspec_request.specs.Reading.{call_of}
use Rattle.refspec_request.proofs.SettingLemmas.{not_so}
use Rattle.refspec_request.proofs.arguments.Reading.finish.Goals as goal

pub returns-then-has-clause-ok : goal.returns-then-has-clause-ok
returns-then-has-clause-ok c = c.if-has.ensures.0 refl

pub returns-then-has-2-clause-ok : goal.returns-then-has-2-clause-ok
returns-then-has-2-clause-ok c = (not_so _ c.if-has.ensures, c.if-has-2.ensures.0 refl)

pub returns-then-has-3-clause-ok : goal.returns-then-has-3-clause-ok
returns-then-has-3-clause-ok c =
    (not_so _ c.if-has.ensures, not_so _ c.if-has-2.ensures, c.if-has-3.ensures.0 refl)

pub returns-in_err-command-clause-refused : goal.returns-in_err-command-clause-refused
returns-in_err-command-clause-refused c =
    let q = err_from_is_err_and c.from_residual.result c.from_residual.ensures.1 in
    rw (q.1, q.2) (
      record {
        usage = not_so _ c.if-has.ensures;
        manual = not_so _ c.if-has-2.ensures;
        version = not_so _ c.if-has-3.ensures;
      },
      c.in_err-command.ensures,
    )

pub returns-clause-ok : goal.returns-clause-ok
returns-clause-ok c =
    let allowed = c.in_ok-command.ensures in
    let made = c.request_of-request.ensures c.args.self.wants allowed.has in (
      record {
        usage = not_so _ c.if-has.ensures;
        manual = not_so _ c.if-has-2.ensures;
        version = not_so _ c.if-has-3.ensures;
      },
      subst (IsAllowed (call_of c.args.self)) (sym made.0) allowed,
      made.1,
    )
