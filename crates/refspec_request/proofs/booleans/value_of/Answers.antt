-- A value beyond the bound stays beyond it with more digits.
use Rattle.std.proofs.Common.{◌<◌, drop, arith}
use Rattle.std.specs.Str.Parse.{digits_value_after}
use Rattle.refspec_request.proofs.BooleanLemmas.{too_great}
use Rattle.refspec_request.proofs.booleans.value_of.Goals as goal

pub returns-then-value-gt-MOST : goal.returns-then-value-gt-MOST
returns-then-value-gt-MOST c = λ small.
    let far : 2147483647 < digits_value_after c.args.base c.loop-byte.value
    (drop c.loop-byte.byte-index c.args.digits.now) =
    too_great c.args.base c.loop-byte.value 2147483647 c.loop-byte.byte-index c.from.result c.in_ok-digit.digit
    c.args.digits.now
    (omega (arith, c.requires.low)) c.loop-byte-test.true c.from.ensures c.in_ok-digit.ensures.value.1
    c.if-value-gt-MOST.true in
    omega (arith, far, small.1, c.loop-byte.invariant.1)
