-- Each byte appends its escape to those of the others.
use Rattle.std.proofs.Common.{[], ◌∷◌, flat_map, refl}
use Rattle.refspec_io.specs.Shown.{escaped}
use Rattle.refspec_io.proofs.ShownLemmas.{behind, escaped-all, escaped-next}
use Rattle.refspec_io.proofs.quote.write_in_quotes.Goals as goal

pub loop-byte-init : goal.loop-byte-init
loop-byte-init c = c.in_ok-push.ensures.items

pub loop-byte-preserved : goal.loop-byte-preserved
loop-byte-preserved c = escaped-next c.args.text.now c.loop-byte.byte-index 0 _ _ _ _ c.loop-byte-test.true refl
    c.loop-byte.invariant c.in_ok-write_escaped.ensures

pub returns : goal.returns
returns c = behind _ (34 ∷ flat_map escaped c.args.text.now) _ (34 ∷ []) _
    (escaped-all c.args.text.now _ _ c.loop-byte.byte-index c.loop-byte-test.false c.loop-byte.invariant)
    c.in_ok-push-2.ensures.items
