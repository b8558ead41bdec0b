-- For each condition of the forms a text that breaks it, with the reason to refuse it, so that it has no reading; and
-- readings that no text has.
use Rattle.gix_refspec_text.proofs.Common.{Plain, rules, ◌≡◌, [], ◌∷◌, None, Some, codes, refl, sym, ◌∙◌, inl}
use Rattle.gix_refspec_text.proofs.Common.{replicate, Operation, Push, Fetch, star, letter, caret, Normal, Forced}
use Rattle.gix_refspec_text.proofs.Common.{Negative, Reading, fetched, pushed, Reads, IsAccepted, StartsWithDot}
use Rattle.gix_refspec_text.proofs.Common.{InvalidByte, printed, NegativeWithDestination, PushToEmpty}
use Rattle.gix_refspec_text.proofs.Common.{PatternUnsupported, ReferenceName, PatternUnbalanced, NegativeEmpty}
use Rattle.gix_refspec_text.proofs.Common.{NegativeObjectHash, IsRefused, Empty}
use Rattle.gix_refspec_text.proofs.facts.ManualFacts.{full, none_some}
use Rattle.gix_refspec_text.proofs.lemmas.parsing.ReasonLemmas.{reason_against_nothing, reason_against_object}
use Rattle.gix_refspec_text.proofs.lemmas.texts.TestedLemmas.{IsName-tested}
use Rattle.gix_refspec_text.proofs.facts.RefusalFacts.{empty_push}
use Rattle.gix_refspec_text.proofs.lemmas.parsing.SideLemmas.{HasStar-pattern}
use Rattle.gix_refspec_text.proofs.lemmas.specs.AcceptedLemmas.{accepted_balanced}
use Rattle.gix_refspec_text.proofs.lemmas.specs.FormsBackLemmas.{read_back}
use Rattle.gix_refspec_text.proofs.readers.Texts.{Lacks-tested, a_pattern}
use Rattle.gix_refspec_text.proofs.readers.Readings.{at_balance, at_destination, at_source, because, a_hash}
use Rattle.gix_refspec_text.proofs.readers.Readings.{negative_with, reads, to_nothing}

-- the empty push
pub nothing_pushed : IsRefused Push [] Empty
nothing_pushed = because empty_push.0

-- in either operation `^` before a colon, and `^` and nothing, 40 digits, or a text that isn't a name
pub bad_negatives : (op : Operation) → IsRefused op (codes "^a:b") NegativeWithDestination
    × IsRefused op (codes "^:") NegativeWithDestination × IsRefused op (codes "^a:") NegativeWithDestination
    × IsRefused op (codes "^") NegativeEmpty × IsRefused op (caret ∷ replicate 40 letter) NegativeObjectHash
    × IsRefused op (codes "^a b") (ReferenceName (InvalidByte 32)) × IsRefused op (codes "^^a")
    (ReferenceName (InvalidByte 94))
bad_negatives op = search (
  rules,
  because,
  negative_with,
  at_source,
  reason_against_nothing op [] Plain refl tt,
  reason_against_object op (replicate 40 letter) Plain (full _ _),
  IsName-tested,
  a_hash,
)

-- a source that isn't a name in a fetch, whatever else the text says
pub bad_sources : IsRefused Fetch (codes "a b") (ReferenceName (InvalidByte 32)) × IsRefused Fetch (codes "main~2:x")
    (ReferenceName (InvalidByte 126))
    × IsRefused Fetch (codes ":/message:x") (ReferenceName (InvalidByte 58)) × IsRefused Fetch (codes "a*b*")
    (PatternUnsupported (codes "a*b*")) × IsRefused Fetch (codes "a/.*:x") (ReferenceName StartsWithDot)
bad_sources = search (rules, because, at_source)

pub bad_sides :
    -- a push of a source to nothing
    IsRefused Push (codes "a:") PushToEmpty × IsRefused Push (codes "+a:") PushToEmpty
    -- a push of a source alone that isn't a name, and of one with two stars to a destination
    × IsRefused Push (codes "a b") (ReferenceName (InvalidByte 32)) × IsRefused Push (codes "a*b*:c")
    (PatternUnsupported (codes "a*b*"))
    -- a destination that isn't a name, with a source and without, and one that isn't a pattern
    × IsRefused Fetch (codes "a:b c") (ReferenceName (InvalidByte 32)) × IsRefused Fetch (codes ":b c")
    (ReferenceName (InvalidByte 32))
    × IsRefused Push (codes "a:b c") (ReferenceName (InvalidByte 32)) × IsRefused Push (codes ":b c")
    (ReferenceName (InvalidByte 32))
    × IsRefused Fetch (codes "a*:b*c*") (PatternUnsupported (codes "b*c*"))
bad_sides = search (rules, because, to_nothing, at_source, at_destination)

pub unbalanced_sides :
    -- a star on only one side, also if the other is missing
    IsRefused Fetch (codes "a*:b") PatternUnbalanced × IsRefused Fetch (codes "b:a*") PatternUnbalanced
    × IsRefused Fetch (codes ":a*") PatternUnbalanced
    × IsRefused Fetch (codes "a*:") PatternUnbalanced × IsRefused Fetch (codes "+a*") PatternUnbalanced
    × IsRefused Fetch (codes "a*") PatternUnbalanced
    -- the same in a push, which may have a source alone, though
    × IsRefused Push (codes "a*:b") PatternUnbalanced × IsRefused Push (codes "b:a*") PatternUnbalanced
    × IsRefused Push (codes ":a*") PatternUnbalanced
unbalanced_sides = search (rules, because, at_balance)

-- so these texts have no reading
pub unread : (r : Reading) → ¬ (Reads Push [] r) × ¬ (Reads Push (codes "a:") r) × ¬ (Reads Fetch (codes "^") r)
    × ¬ (Reads Fetch (caret ∷ replicate 40 letter) r) × ¬ (Reads Fetch (codes ":a*") r)
    × ¬ (Reads Push (codes "b:a*") r) × ¬ (Reads Fetch (codes "main~2:x") r) × ¬ (Reads Push (codes "^a:") r)
unread r =
    let refused = bad_negatives Fetch in (
      nothing_pushed.unread r,
      bad_sides.0.unread r,
      refused.3.unread r,
      refused.4.unread r,
      unbalanced_sides.2.unread r,
      unbalanced_sides.7.unread r,
      bad_sources.1.unread r,
      (bad_negatives Push).2.unread r,
    )

no_text : (r : Reading) → printed r ≡ None → ¬ (IsAccepted r)
no_text r none (text, reads) = let back = read_back r.operation text r reads in none_some back.text (sym none ∙ back.is)

unbalanced : ¬ (IsAccepted (fetched Normal (codes "a*") (Some (codes "b"))))
unbalanced by = accepted_balanced _ (codes "a*") (codes "b") ∣ by ∣₁ refl refl
    (inl (HasStar-pattern (codes "a*") (a_pattern (codes "a*") refl), Lacks-tested star (codes "b") refl))

pub accepted :
    -- a push may lack its source, or both sides
    IsAccepted (fetched Normal (codes "main") None) × IsAccepted (pushed Forced None None)
    × IsAccepted (pushed Normal None (Some (codes "+x")))
    -- a fetch needs a source; a negative spec needs a source and has no destination; and a star is never on only one
    -- side
    × ¬ (IsAccepted (record { operation = Fetch; mode = Normal; source = None; destination = Some (codes "x") }))
    × ¬ (IsAccepted (fetched Negative (codes "a") (Some (codes "b"))))
    × ¬ (IsAccepted (pushed Negative None None)) × ¬ (IsAccepted (fetched Normal (codes "a*") (Some (codes "b"))))
accepted = (
  (codes "main", reads refl refl),
  (codes "+", reads refl refl),
  (codes ":+x", reads refl refl),
  no_text _ refl,
  no_text _ refl,
  no_text _ refl,
  unbalanced,
)
