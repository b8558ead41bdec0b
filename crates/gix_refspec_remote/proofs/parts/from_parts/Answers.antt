use Rattle.gix_refspec_remote.proofs.Common.{refl}
use Rattle.gix_refspec_remote.proofs.parts.from_parts.Goals as goal

pub returns-in-Ok-clause-ok : goal.returns-in-Ok-clause-ok
returns-in-Ok-clause-ok c = (
  c.if-not-are_apart.ensures.0 refl,
  rw c.in_ok-to_owned-in-Ok.ensures.keeps (rw (c.as_bstr.ensures, c.in_ok-text.ensures) at c.in-Ok.ensures.ok),
)

pub returns : goal.returns
returns c = record {
  ok = tt;
  refused = λ other. (
    c.if-not-are_apart.ensures.0 refl,
    rw (c.as_bstr.ensures, c.in_ok-text.ensures) at (c.in-Err.ensures.refused c.in_default.not-Memory),
  );
}
