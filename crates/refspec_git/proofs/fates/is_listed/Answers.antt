-- The first ref that has the name.
use Rattle.std.proofs.Common.{◌≢◌, subst, take_all}
use Rattle.std.proofs.lemmas.List.Elements.{All-more}
use Rattle.std.specs.List.{All}
use Rattle.gix_refspec.specs.Views.Group.{ref_of}
use Rattle.gix_refspec_match.specs.declared.types.Item.{Item}
use Rattle.refspec_git.proofs.FateLemmas.{listed_at}
use Rattle.refspec_git.proofs.fates.is_listed.Goals as goal

pub returns-then-has_name : goal.returns-then-has_name
returns-then-has_name c = listed_at c.args.refs.now c.args.name.now c.loop-listed.listed-index _
    c.loop-listed-test.true (rw c.if-has_name.true at c.has_name.ensures)

pub loop-listed-preserved : goal.loop-listed-preserved
loop-listed-preserved c =
    All-more (λ (i : Item). (ref_of i).name ≢ c.args.name.now) c.args.refs.now c.loop-listed.listed-index _
    c.loop-listed-test.true c.loop-listed.invariant (rw c.if-has_name.false at c.has_name.ensures)

pub returns : goal.returns
returns c =
    subst (All (λ (i : Item). (ref_of i).name ≢ c.args.name.now))
    (take_all c.loop-listed.listed-index c.args.refs.now c.loop-listed-test.false) c.loop-listed.invariant
