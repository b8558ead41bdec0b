-- Each byte appends what stands for it to that of the others.
use Rattle.std.proofs.Common.{[], ◌∷◌, flat_map, refl}
use Rattle.refspec_io.proofs.ShownLemmas.{behind}
use Rattle.refspec_commands.specs.Advice.{within_quotes}
use Rattle.refspec_commands.proofs.AdviceLemmas.{quotes-all, quotes-next}
use Rattle.refspec_commands.proofs.full_names.write_in_single_quotes.Goals as goal

pub loop-byte-init : goal.loop-byte-init
loop-byte-init c = c.in_ok-push.ensures.items

pub loop-byte-preserved : goal.loop-byte-preserved
loop-byte-preserved c = quotes-next c.args.text.now c.loop-byte.byte-index 0 _ _ _ _ c.loop-byte-test.true refl
    c.loop-byte.invariant c.in_ok-write_within_quotes.ensures

pub returns : goal.returns
returns c = behind _ (39 ∷ flat_map within_quotes c.args.text.now) _ (39 ∷ []) _
    (quotes-all c.args.text.now _ _ c.loop-byte.byte-index c.loop-byte-test.false c.loop-byte.invariant)
    c.in_ok-push-2.ensures.items
