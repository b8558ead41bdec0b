-- All have one unless one has none.
use Rattle.std.proofs.Common.{List, take_all, sym, subst}
use Rattle.std.proofs.lemmas.List.Elements.{All-more}
use Rattle.std.specs.List.{All}
use Rattle.refspec_commands.specs.declared.upstreams.answer.Found.{Found}
use Rattle.refspec_commands.specs.Upstreams.{FindsUpstream}
use Rattle.refspec_commands.proofs.upstreams.answer.has_all.Goals as goal

pub returns-then-not-has_upstream : goal.returns-then-not-has_upstream
returns-then-not-has_upstream c = (
  c.loop-one.one-index,
  c.one-item.result,
  c.loop-one-test.true,
  sym c.one-item.is,
  rw c.if-not-has_upstream.true at c.has_upstream.ensures,
)

pub loop-one-preserved : goal.loop-one-preserved
loop-one-preserved c =
    let has = rw c.if-not-has_upstream.false at c.has_upstream.ensures in
    All-more FindsUpstream c.args.found.now c.loop-one.one-index c.one-item.result
    c.loop-one-test.true c.loop-one.invariant
    (subst FindsUpstream c.one-item.is has)

pub returns : goal.returns
returns c = subst (λ (l : List Found). All FindsUpstream l)
    (take_all c.loop-one.one-index c.args.found.now c.loop-one-test.false) c.loop-one.invariant
