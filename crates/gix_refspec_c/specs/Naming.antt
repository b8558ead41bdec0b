-- What one refspec makes of one name, as a caller receives it, in the library's words.
use Rattle.std.specs.Prelude.{◌≡◌, ◌⊎◌, ℕ, List, []}
use Rattle.gix_refspec_text.specs.declared.parsing.Operation.{Operation}
use Rattle.gix_refspec.specs.Specs.Reading.{Reading}
use Rattle.gix_refspec.specs.Specs.Grammar.{Reads}
use Rattle.gix_refspec.specs.Matching.Mappings.{Mapped}
use Rattle.gix_refspec.specs.Matching.Single.{MapsName, MapsNameBack}
use Rattle.gix_refspec_c.specs.declared.failure.Failure.{Failure}
use Rattle.gix_refspec_c.specs.declared.failure.Failure.TheVariants as failure
use Rattle.gix_refspec_c.specs.declared.naming.Made.{Made}
use Rattle.gix_refspec_c.specs.Buffer.{IsTooSmall, IsWrittenTo}
use Rattle.gix_refspec_c.specs.Mapping.{destination_text, destinations, source_text}
use Rattle.gix_refspec_c.specs.Reading.{IsRefspec, IsUnread}

-- the data of an answer: whether the refspec maps the name, whether with a destination, and the name that it makes
pub record Shown : Type 0 where
  pub mapped : ℕ
  pub has_destination : ℕ
  pub name : List ℕ

-- what is shown of no mapping
abbrev pub nothing : Shown
nothing = record { mapped = 0; has_destination = 0; name = [] }

-- what is shown of a mapping from left to right, of which the refspec makes the destination
abbrev pub forward_shown : Mapped → Shown
forward_shown m =
    record { mapped = 1; has_destination = destinations m.destination; name = destination_text m.destination }

-- and of one from right to left, of which it makes the source
abbrev pub backward_shown : Mapped → Shown
backward_shown m =
    record { mapped = 1; has_destination = destinations m.destination; name = source_text m.source }

-- the answer shows the mapping of which Maps holds, or that there is none
abbrev pub Shows : (Mapped → Type 0) → (Mapped → Shown) → Shown → Type 0
Shows Maps shown s =
    ((m : Mapped) × Maps m × (s ≡ shown m)) ⊎ (((m : Mapped) → ¬ (Maps m)) × (s ≡ nothing))

-- the answer shows what a reading makes of the name from left to right
abbrev pub ShowsForward : List ℕ → Reading → Shown → Type 0
ShowsForward n r s = Shows (MapsName n r) forward_shown s

-- and from right to left
abbrev pub ShowsBackward : List ℕ → Reading → Shown → Type 0
ShowsBackward n r s = Shows (MapsNameBack n r) backward_shown s

-- the text is a refspec for the operation, and the answer is that of its reading
pub record IsAnswered (Told : Reading → Shown → Type 0) (op : Operation) (text : List ℕ) (s : Shown) : Type 0 where
  pub reading : Reading
  pub reads : Reads op text reading
  pub is : Told reading s

-- why there is no answer: the text wasn't read, or memory ran out
abbrev pub IsUnanswered : Operation → List ℕ → Failure → Type 0
IsUnanswered op text f = IsUnread op text f ⊎ ((f ≡ failure.NoMemory) × IsRefspec op text)

-- the buffer begins with the name of the answer, and the struct has the rest
pub record IsWrittenAs (s : Shown) (old new : List ℕ) (made : Made) : Type 0 where
  pub write : IsWrittenTo s.name old new made.len
  pub mapped : made.mapped ≡ s.mapped
  pub has_destination : made.has_destination ≡ s.has_destination

-- the buffer is too small for the name of the answer, and unchanged; the struct has the rest, and the required size
pub record IsNotWrittenAs (s : Shown) (old new : List ℕ) (made : Made) : Type 0 where
  pub small : IsTooSmall s.name old new made.len
  pub mapped : made.mapped ≡ s.mapped
  pub has_destination : made.has_destination ≡ s.has_destination

-- why a caller gets no name: the buffer is too small for that of an answer of which Is holds; or Why holds of the
-- failure, and buffer and struct are unchanged
abbrev pub WritesNoName : (Shown → Type 0) → (Failure → Type 0) → List ℕ → List ℕ → Made → Made → Failure → Type 0
WritesNoName Is Why old new before after f =
    ((f ≡ failure.TooSmall) × (s : Shown) × Is s × IsNotWrittenAs s old new after)
    ⊎ (Why f × (new ≡ old) × (after ≡ before))
