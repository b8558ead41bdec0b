-- A text has at most one reading.
use Rattle.gix_refspec_text.proofs.Common.{◌≡◌, ℕ, List, sym, ◌∙◌, Operation, Reading, Reads}
use Rattle.gix_refspec_text.proofs.lemmas.parsing.PartsLemmas.{parts_once}
use Rattle.gix_refspec_text.proofs.lemmas.parsing.ReadsLemmas.{fine_parts}

pub reads_once : (op : Operation) (text : List ℕ) (r q : Reading) → Reads op text r → Reads op text q → r ≡ q
reads_once op text r q by_r by_q =
    let a = fine_parts op text r by_r in
    let b = fine_parts op text q by_q in
    let same = parts_once a.0 b.0 a.1 b.1 a.2 b.2 text a.3 b.3 in
    a.5 ∙ rw (same.mode, same.source, same.destination) (sym b.5)
