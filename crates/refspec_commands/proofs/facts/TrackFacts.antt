-- The specs by which refs are looked up: those whose destination isn't an object id.
use Rattle.std.proofs.Common.{◌≡◌, ℕ, List, [], ◌∷◌, None, Some, inl, inr, codes, length, replicate, refl, sym, ap}
use Rattle.std.proofs.Common.{arith}
use Rattle.std.proofs.lemmas.Bool.{false≢true}
use Rattle.gix_refspec_text.proofs.facts.FitFacts.{other_byte}
use Rattle.gix_refspec.specs.Laws.Items.{HasIdDestination}
use Rattle.gix_refspec.specs.Specs.Grammar.{fetched}
use Rattle.gix_refspec.specs.Specs.Reading.{Normal, Reading}
use Rattle.gix_refspec.specs.Texts.ObjectId.{IsIdText, digits_of}
use Rattle.gix_refspec_text.specs.declared.oid.Kind.{Kind}
use Rattle.gix_refspec_text.specs.declared.oid.Kind.TheVariants.{Sha1, Sha256}
use Rattle.gix_refspec_text.proofs.facts.FitFacts.{short}
use Rattle.gix_refspec_text.proofs.facts.ManualFacts.{none_some}
use Rattle.gix_refspec_text.proofs.facts.ObjectIdFacts.{IsIdText-empty_blob, empty_blob}
use Rattle.gix_refspec.specs.Matching.Mappings.{Mapped, name}
use Rattle.refspec_commands.specs.declared.tracking.answer.Found.TheVariants as how
use Rattle.refspec_commands.specs.Answer.{AreLeftOut, IsFoundBy}
use Rattle.refspec_commands.specs.Track.{AreByNames, AreWritten, HasUnwritten, IsEachWritten, IsWritten, named}
use Rattle.std.proofs.lemmas.Option.{same_Some}

-- destinations of 40 digits and of 39
abbrev to_id : Reading
to_id = fetched Normal (codes "main") (Some (codes "e69de29bb2d1d6434b8b29ae775ad8c2e48c5391"))

abbrev to_name : Reading
to_name = fetched Normal (codes "main") (Some (codes "e69de29bb2d1d6434b8b29ae775ad8c2e48c539"))

ends_at_id : HasIdDestination to_id
ends_at_id = (codes "e69de29bb2d1d6434b8b29ae775ad8c2e48c5391", refl, (empty_blob, IsIdText-empty_blob))

-- a text of 39 digits isn't an object id
no_id : (text id : List ℕ) → length text ≡ 39 → ¬ (IsIdText text id)
no_id text id long is = by_kind is.kind is.digits
  where
    by_kind : (kind : Kind) → ¬ (length text ≡ digits_of kind)
    by_kind Sha1 same = omega (arith, same, long)
    by_kind Sha256 same = omega (arith, same, long)

ends_at_name : ¬ (HasIdDestination to_name)
ends_at_name (text, is, (id, spelled)) =
    no_id text id (sym (ap length (same_Some (codes "e69de29bb2d1d6434b8b29ae775ad8c2e48c539") text is))) spelled

nowhere : ¬ (HasIdDestination short)
nowhere (text, is, id) = none_some text is

-- a destination that is an id is out; one that is almost an id is in, and so is a spec without a destination
pub by_names : AreByNames (to_id ∷ to_name ∷ short ∷ []) (to_name ∷ short ∷ [])
by_names = inl (ends_at_id, inr (ends_at_name, (short ∷ [], inr (nowhere, ([], refl, refl)), refl)))

-- no other spec is out, and no spec with an id as its destination is in
pub not_by_names : ¬ (AreByNames (to_name ∷ []) []) × ¬ (AreByNames (short ∷ []) [])
    × ¬ (AreByNames (to_id ∷ []) (to_id ∷ [])) × ¬ (AreByNames [] (short ∷ []))
not_by_names = (left_out, also_left_out, looked_up, λ are. omega (arith, ap length are))
  where
    left_out : ¬ (AreByNames (to_name ∷ []) [])
    left_out (inl (is, none)) = ends_at_name is
    left_out (inr (is, (rest, none, same))) = omega (arith, ap length same)

    also_left_out : ¬ (AreByNames (short ∷ []) [])
    also_left_out (inl (is, none)) = nowhere is
    also_left_out (inr (is, (rest, none, same))) = omega (arith, ap length same)

    looked_up : ¬ (AreByNames (to_id ∷ []) (to_id ∷ []))
    looked_up (inl (is, none)) = omega (arith, ap length none)
    looked_up (inr (is, more)) = is ends_at_id

-- the spec to an id is left out, and no other
pub left_out : AreLeftOut (to_id ∷ to_name ∷ short ∷ []) (to_id ∷ [])
left_out = inl (ends_at_id, ([], inr (ends_at_name, inr (nowhere, refl)), refl))

pub not_left_out : ¬ (AreLeftOut (to_id ∷ []) []) × ¬ (AreLeftOut (to_name ∷ []) (to_name ∷ []))
not_left_out = (kept, out)
  where
    kept : ¬ (AreLeftOut (to_id ∷ []) [])
    kept (inl (is, (rest, none, same))) = omega (arith, ap length same)
    kept (inr (other, none)) = other ends_at_id

    out : ¬ (AreLeftOut (to_name ∷ []) (to_name ∷ []))
    out (inl (is, more)) = ends_at_name is
    out (inr (other, none)) = omega (arith, ap length none)

-- Git finds several remotes for a ref if that is more than one
pub found_by : IsFoundBy 0 how.Tracked × IsFoundBy 1 how.Tracked × IsFoundBy 2 (how.Ambiguous 2)
    × ¬ (IsFoundBy 2 how.Tracked) × ¬ (IsFoundBy 1 (how.Ambiguous 1)) × ¬ (IsFoundBy 2 (how.Ambiguous 3))
found_by = (
  omega arith,
  omega arith,
  (omega arith, refl),
  (λ few. omega (arith, few)),
  (λ many. omega (arith, many.0)),
  (λ other. omega (arith, other.1)),
)

-- a ref of which only the name is known points to the null id, and has no peeled object
pub given : ((named (codes "refs/x/a")).name ≡ codes "refs/x/a")
    × ((named (codes "refs/x/a")).target ≡ replicate 20 0) × ((named (codes "refs/x/a")).object ≡ None)
given = (refl, refl, refl)

-- ---- which refs are written

-- a mapping that writes a ref, and one without a destination
abbrev written : Mapped
written = record { item = None; source = name (codes "refs/heads/a"); destination = Some (codes "refs/x/a"); spec = 0 }

abbrev unwritten : Mapped
unwritten = record { item = None; source = name (codes "refs/x/b"); destination = None; spec = 0 }

-- the destination is written, but neither the source nor another name
pub writes : IsWritten (codes "refs/x/a") (unwritten ∷ written ∷ [])
    × ¬ (IsWritten (codes "refs/x/b") (unwritten ∷ written ∷ []))
    × ¬ (IsWritten (codes "refs/heads/a") (written ∷ []))
writes = (inr (inl refl), nothing, source)
  where
    nothing : ¬ (IsWritten (codes "refs/x/b") (unwritten ∷ written ∷ []))
    nothing (inl same) = none_some (codes "refs/x/b") same
    nothing (inr (inl same)) = other_byte 7 (codes "refs/x/a") (codes "refs/x/b") (λ byte. omega (arith, byte))
        (same_Some (codes "refs/x/a") (codes "refs/x/b") same)
    nothing (inr (inr is)) = is

    source : ¬ (IsWritten (codes "refs/heads/a") (written ∷ []))
    source (inl same) = omega (arith, ap length (same_Some (codes "refs/x/a") (codes "refs/heads/a") same))
    source (inr is) = is

-- each name must be written
pub each : IsEachWritten (codes "refs/x/a" ∷ codes "refs/x/a" ∷ []) (written ∷ []) × IsEachWritten [] []
    × ¬ (IsEachWritten (codes "refs/x/a" ∷ codes "refs/heads/a" ∷ []) (written ∷ []))
each = ((inl refl, (inl refl, tt)), tt, λ are. writes.2 are.1.0)

pub some : HasUnwritten (codes "refs/x/a" ∷ codes "refs/heads/a" ∷ []) (written ∷ [])
    × ¬ (HasUnwritten (codes "refs/x/a" ∷ []) (written ∷ []))
    × ¬ (HasUnwritten [] [])
some = (inr (inl writes.2), no, λ has. has)
  where
    no : ¬ (HasUnwritten (codes "refs/x/a" ∷ []) (written ∷ []))
    no (inl none) = none (inl refl)
    no (inr has) = has

-- the set contains the destination, and isn't empty
pub set_of : AreWritten (record { keys = record { ref_ptr = (0, 0); now = codes "refs/x/a" } ∷ [] })
    (unwritten ∷ written ∷ []) → IsWritten (codes "refs/x/a") (unwritten ∷ written ∷ [])
set_of are = (are (codes "refs/x/a")).0 refl

pub not_empty : ¬ (AreWritten (record { keys = [] }) (written ∷ []))
not_empty are = false≢true ((are (codes "refs/x/a")).1 (inl refl))
