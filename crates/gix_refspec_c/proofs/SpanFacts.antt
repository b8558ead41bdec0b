-- Examples of the span that a caller in C gets: of each side, and if no bytes are wrong.
use Rattle.std.proofs.Common.{◌≡◌, ap, arith, refl}
use Rattle.gix_refspec_text.specs.declared.parsing.Side.{Side}
use Rattle.gix_refspec_text.specs.declared.parsing.Side.TheVariants.{Source, Destination}
use Rattle.gix_refspec_text.specs.declared.parsing.Span.{Span as Found}
use Rattle.gix_refspec_c.specs.declared.locating.Span.{Span}
use Rattle.gix_refspec_c.specs.Span.{no_span, number_of_side, shown_as}

-- three bytes of this side, from the index 5 on
abbrev pub three_bytes : Side → Found
three_bytes side = record { side = side; start = 5; len = 3 }

-- the source is 1 and the destination 2; index and length stay
pub each_side :
    (shown_as (three_bytes Source) ≡ record { side = 1; start = 5; len = 3 })
    × (shown_as (three_bytes Destination) ≡ record { side = 2; start = 5; len = 3 })
each_side = (refl, refl)

-- no wrong bytes are shown as none are
pub some_side : (side : Side) → ¬ (number_of_side side ≡ no_span.side)
some_side Source same = omega (arith, same)
some_side Destination same = omega (arith, same)

pub never_none : (found : Found) → ¬ (shown_as found ≡ no_span)
never_none found same = some_side found.side (ap (λ (shown : Span). shown.side) same)
