-- Each text adds its copy.
use Rattle.std.proofs.Common.{ap, map}
use Rattle.bstr.specs.Owned.{bstring_bytes}
use Rattle.refspec_fetch.proofs.OriginLemmas.{copies-next}
use Rattle.refspec_fetch.proofs.origins.copied.Goals as goal

pub loop-text-init : goal.loop-text-init
loop-text-init c = ap (map bstring_bytes) c.in_ok-copies.ensures.items

pub loop-text-preserved : goal.loop-text-preserved
loop-text-preserved c = copies-next c.args.texts.now c.loop-text.text-index _ c.loop-text.copies.items
    c.push.new.self.items c.in_ok-from_slice.field-0 c.loop-text-test.true c.in_ok-from_slice.ensures
    c.in_ok-push.ensures.items c.loop-text.invariant
