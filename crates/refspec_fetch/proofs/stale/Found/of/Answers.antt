-- Each ref is added to one of the parts.
use Rattle.std.proofs.Common.{map}
use Rattle.bstr.specs.Owned.{bstring_bytes}
use Rattle.gix_refspec.specs.Views.Group.{ref_of}
use Rattle.refspec_fetch.proofs.StaleLemmas.{AreParted-next}
use Rattle.refspec_fetch.proofs.stale.Found.of.Goals as goal

pub loop-one-preserved : goal.loop-one-preserved
loop-one-preserved c = AreParted-next (map bstring_bytes c.args.texts.now) (map ref_of c.args.local.now)
    c.args.stale.now c.loop-one.one-index _ c.loop-one.found c.add.new.self c.loop-one-test.true c.loop-one.invariant
    c.in_ok-add.ensures
