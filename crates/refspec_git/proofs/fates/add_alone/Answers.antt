-- The spec of the ref alone is added, or none.
use Rattle.std.proofs.Common.{map}
use Rattle.gix_refspec.specs.Views.Spec.{reading_of}
use Rattle.refspec_git.proofs.FateLemmas.{alone_added, alone_left}
use Rattle.refspec_git.proofs.fates.add_alone.Goals as goal

pub returns-in_default : goal.returns-in_default
returns-in_default c = alone_left _ c.args.updates.now (map reading_of c.args.all.now.items)
    (rw c.in_default.is at c.spec_alone.ensures)

pub returns : goal.returns
returns c = alone_added _ c.args.updates.now c.args.all.now.items c.push.new.self.items c.in-Some.spec
    (rw c.in-Some.is at c.spec_alone.ensures) c.in_ok-push.ensures.items
