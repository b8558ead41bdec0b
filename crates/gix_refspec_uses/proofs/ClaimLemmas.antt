-- Consequences of the laws of the library.
use Rattle.std.proofs.Common.{◌≡◌, inl, inr, ℕ, List, Some, option_map, sym, ap, ◌∙◌, subst}
use Rattle.gix_refspec_text.specs.declared.parsing.Operation.{Operation}
use Rattle.gix_refspec.specs.Specs.Reading.{Reading}
use Rattle.gix_refspec.specs.Specs.Grammar.{Reads}
use Rattle.gix_refspec.specs.Specs.Meaning.{meaning_of, text_of, printed}
use Rattle.gix_refspec.specs.Laws.Readings.{ReadsOrRefused, IsPrintedBack, EqualReadings}
use Rattle.gix_refspec_uses.specs.Claims.{IsRefspec, ReadsOnlyAs, AreEqual, IsCanonicalText}
use Rattle.std.proofs.lemmas.Option.{same_Some}

-- a reading of a text is its only one
pub reads_only : (op : Operation) (text : List ℕ) (r : Reading) → ReadsOrRefused op text → Reads op text r
    → ReadsOnlyAs op text r
reads_only op text r (inl once) reads =
    record { reads = reads; only = λ q by_q. once.only q by_q ∙ sym (once.only r reads) }
reads_only op text r (inr refusal) reads = absurd (refusal.1.unread r reads)

-- a canonical text has a reading
reads_printed : (op : Operation) (r : Reading) (c : List ℕ) (back : IsPrintedBack op r) → printed r ≡ Some c
    → Reads op c back.again.reading
reads_printed op r c back is = subst (λ (x : List ℕ). Reads op x back.again.reading)
    (same_Some back.text c (sym back.is ∙ is)) back.again.reads

-- the canonical text of a text
pub canonical_text : (op : Operation) (text c : List ℕ) (r : Reading) → Reads op text r → IsPrintedBack op r
    → printed r ≡ Some c → IsCanonicalText op text c
canonical_text op text c r reads back is = record {
  reading = r;
  reads = reads;
  is = is;
  again = back.again.reading;
  reads_again = reads_printed op r c back is;
  same = back.same;
  fixed = ap (option_map text_of) back.same ∙ is;
}

-- so has the text that a spec prints, for the operation of the spec
reads_again : (op : Operation) (r : Reading) (c : List ℕ) (back : IsPrintedBack r.operation r) → op ≡ r.operation
    → printed r ≡ Some c → Reads op c back.again.reading
reads_again op r c back same is = subst (λ (o : Operation). Reads o c back.again.reading) (sym same)
    (reads_printed r.operation r c back is)

pub printed_is_refspec : (op : Operation) (r : Reading) (c : List ℕ) → IsPrintedBack r.operation r → op ≡ r.operation
    → printed r ≡ Some c → IsRefspec op c
printed_is_refspec op r c back same is = (back.again.reading, reads_again op r c back same is)

-- and it is read as an equal spec
pub printed_is_equal : (op : Operation) (r q : Reading) (c : List ℕ) → IsPrintedBack r.operation r → op ≡ r.operation
    → printed r ≡ Some c → ReadsOnlyAs op c q → EqualReadings q r → AreEqual q r
printed_is_equal op r q c back same is reads equal =
    let again = reads.only back.again.reading (reads_again op r c back same is) in
    let meaning : meaning_of q ≡ meaning_of r = sym (ap meaning_of again) ∙ back.same in
    let both = equal.0 meaning in
    record { operation = both.0; meaning = meaning; text = both.1 }
