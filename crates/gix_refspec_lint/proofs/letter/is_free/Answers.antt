use Rattle.gix_refspec_lint.proofs.Common.{refl, sym, take_all, arith, false≢true, reading_of, each_mapped}
use Rattle.gix_refspec_lint.proofs.Common.{one_more_mapped, SidesLack}
use Rattle.gix_refspec_lint.proofs.letter.is_free.Goals as goal

pub returns-then-has_byte : goal.returns-then-has_byte
returns-then-has_byte c = (
  (λ told. absurd (false≢true told)),
  (λ free. absurd
      (c.if-has_byte.ensures (each_mapped reading_of (SidesLack c.args.byte) _ _ _ free.lacks c.loop-spec-test.true
      c.spec-item.is))),
)

pub loop-spec-preserved : goal.loop-spec-preserved
loop-spec-preserved c =
    one_more_mapped reading_of (SidesLack c.args.byte) _ _ _ c.loop-spec.invariant c.loop-spec-test.true c.spec-item.is
    c.if-has_byte.ensures

pub returns : goal.returns
returns c = (
  (λ told. record {
    byte = omega (arith, c.ranges.byte.fits);
    usable = sym c.if-not-is_usable.ensures;
    lacks =
        rw (take_all c.loop-spec.spec-index c.args.specs.now (omega arith)) at c.loop-spec.invariant;
  }),
  (λ free. refl),
)
