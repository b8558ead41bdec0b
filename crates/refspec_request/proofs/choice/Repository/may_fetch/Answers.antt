use Rattle.std.proofs.Common.{inl}
use Rattle.refspec_request.proofs.choice.Repository.may_fetch.Goals as goal

-- a remote that is known
pub returns-then-knows : goal.returns-then-knows
returns-then-knows c = ((λ so. inl (c.knows.ensures.0 so)), λ may. c.if-knows.true)
