use Rattle.gix_refspec_text.proofs.{Common.arith, lemmas.texts.TextLemmas.{found_further, found_whole}}
use Rattle.gix_refspec_text.proofs.split.contains.Goals as goal

pub loop-other-preserved : goal.loop-other-preserved
loop-other-preserved c = found_further c.args.byte c.args.text.now c.loop-other.other-index c.loop-other.found
    c.loop-other-test.true c.loop-other.invariant

pub returns : goal.returns
returns c = found_whole c.args.byte c.args.text.now c.loop-other.other-index c.loop-other.found
    (omega (arith, c.loop-other-test.false)) c.loop-other.invariant
