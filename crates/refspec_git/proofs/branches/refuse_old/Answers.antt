-- The first whose remote has a file of its own.
use Rattle.std.proofs.Common.{subst, take_all}
use Rattle.std.proofs.lemmas.List.Elements.{All-more}
use Rattle.std.specs.List.{All}
use Rattle.refspec_git.specs.Branches.{HasNoOldRemote, HasOldRemote}
use Rattle.refspec_git.proofs.NamedLemmas.{HasFirst-at}
use Rattle.refspec_git.proofs.branches.refuse_old.Goals as goal

pub loop-one-preserved : goal.loop-one-preserved
loop-one-preserved c =
    All-more (HasNoOldRemote c.args.repository.now) c.args.branches.now c.loop-one.one-index _ c.loop-one-test.true
    c.loop-one.invariant c.in_default.ensures

pub returns-in-Some : goal.returns-in-Some
returns-in-Some c =
    HasFirst-at (HasNoOldRemote c.args.repository.now) (HasOldRemote c.args.repository.now c.in-Some.refusal)
    c.args.branches.now c.loop-one.one-index _ c.loop-one-test.true c.loop-one.invariant c.in-Some.ensures

pub returns : goal.returns
returns c =
    subst (All (HasNoOldRemote c.args.repository.now))
    (take_all c.loop-one.one-index c.args.branches.now c.loop-one-test.false) c.loop-one.invariant
