-- The wrong bytes of a text, as a caller in C gets them.
use Rattle.std.specs.Prelude.{◌≡◌, ◌⊎◌, ℕ, List}
use Rattle.gix_refspec_text.specs.declared.parsing.Operation.{Operation}
use Rattle.gix_refspec_text.specs.declared.parsing.Side.{Side}
use Rattle.gix_refspec_text.specs.declared.parsing.Side.TheVariants.{Source, Destination}
use Rattle.gix_refspec_text.specs.declared.parsing.Span.{Span as Found}
use Rattle.gix_refspec.specs.Specs.Span.{HasNoSpan, IsSpan}
use Rattle.gix_refspec_c.specs.declared.locating.Span.{Span}

-- the number of a side
abbrev pub number_of_side : Side → ℕ
number_of_side Source = 1
number_of_side Destination = 2

-- the span in the struct of the caller
abbrev pub shown_as : Found → Span
shown_as found = record { side = number_of_side found.side; start = found.start; len = found.len }

-- the struct of the caller if no bytes are wrong
abbrev pub no_span : Span
no_span = record { side = 0; start = 0; len = 0 }

-- the struct of the caller shows the wrong bytes of the text for the operation; if none are wrong, it is all 0
abbrev pub ShowsSpan : Operation → List ℕ → Span → Type 0
ShowsSpan op text shown =
    ((found : Found) × IsSpan op text found × (shown ≡ shown_as found)) ⊎ (HasNoSpan op text × (shown ≡ no_span))
