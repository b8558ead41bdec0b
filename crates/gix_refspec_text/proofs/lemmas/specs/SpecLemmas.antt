-- Facts on accepted readings, without a text that has the reading at hand.
use Rattle.gix_refspec_text.proofs.Common.{refl, arith, ◌≡◌, ℕ, true, List, Option, Some, option_map, sym, ap, ◌∙◌}
use Rattle.gix_refspec_text.proofs.Common.{subst, inl, inr, nat_eq, ◌↔◌, pointwise, not_there, Operation, Reading}
use Rattle.gix_refspec_text.proofs.Common.{Reads, IsAccepted, Meaning, meaning_of, text_of, printed, keys}
use Rattle.gix_refspec_text.proofs.Common.{IsPrintedBack, KeepsOperation, SaysForOperation, EqualReadings, same_Some}
use Rattle.gix_refspec_text.proofs.lemmas.specs.FormsBackLemmas.{read_back, once_or_refused, equal_texts}
use Rattle.gix_refspec_text.proofs.lemmas.parsing.ReadsLemmas.{fine_parts}
use Rattle.gix_refspec_text.specs.Laws.Order.{same_meaning, same_keys}

pub keeps_operation : (op : Operation) (text : List ℕ) → KeepsOperation op text
keeps_operation op text r reads = ap (λ (x : Reading). x.operation) (fine_parts op text r reads).5

pub says_for_operation : (r : Reading) → SaysForOperation r
says_for_operation r m is = grind arith

-- to show that two meanings are equal, a fact may be assumed of which only the existence is known
meaning_shown : {P : Type 0} (m n : Option Meaning) → ∥ P ∥₁ → (P → m ≡ n) → m ≡ n
meaning_shown m n there shows = same_meaning m n (grind (arith, not_there, same_keys))

says_by : (r : Reading) (m : Option Meaning) → meaning_of r ≡ m → ∥ IsAccepted r ∥₁ → (n : Meaning)
    × (meaning_of r ≡ Some n)
says_by r m is accepted = grind (arith, not_there, read_back)

pub says : (r : Reading) → ∥ IsAccepted r ∥₁ → (m : Meaning) × (meaning_of r ≡ Some m)
says r accepted = says_by r (meaning_of r) refl accepted

same_by_text : (r q : Reading) → ∥ IsAccepted r ∥₁ → ∥ IsAccepted q ∥₁ → r.operation ≡ q.operation
    → printed r ≡ printed q → meaning_of r ≡ meaning_of q
same_by_text r q accepted_r accepted_q operation same = meaning_shown (meaning_of r) (meaning_of q) accepted_r
    (λ a. meaning_shown (meaning_of r) (meaning_of q) accepted_q (λ b.
    (equal_texts r.operation a.0 b.0 r q a.1 (subst (λ (op : Operation). Reads op b.0 q) (sym operation) b.1)).1 same))

same_operation : (r q : Reading) → ∥ IsAccepted r ∥₁ → meaning_of r ≡ meaning_of q → r.operation ≡ q.operation
same_operation r q accepted same = grind (arith, says, says_for_operation)

pub equal_readings : (r q : Reading) → ∥ IsAccepted r ∥₁ → ∥ IsAccepted q ∥₁ → EqualReadings r q
equal_readings r q accepted_r accepted_q = grind (arith, same_operation, same_by_text)

pub equal_keys : (m n : Option Meaning) → (pointwise (pointwise nat_eq) (keys m) (keys n) ≡ true) ↔ (m ≡ n)
equal_keys m n = (same_meaning m n, same_keys m n)

pub printed_back : (r : Reading) → ∥ IsAccepted r ∥₁ → IsPrintedBack r.operation r
printed_back r accepted =
    let said = says r accepted in
    let text = text_of said.0 in
    let is : printed r ≡ Some text = ap (option_map text_of) said.1 in
    let back = λ (a : IsAccepted r). read_back r.operation a.0 r a.1 in
    let reads = λ (a : IsAccepted r). subst (λ (x : List ℕ). Reads r.operation x (back a).again.reading)
    (same_Some (back a).text text (sym (back a).is ∙ is)) (back a).again.reads in
    elim (once_or_refused r.operation text) [
      | inr refusal ↦ absurd (not_there accepted (λ a. refusal.1.unread (back a).again.reading (reads a)))
      | inl once ↦
          let same = meaning_shown (meaning_of once.reading) (meaning_of r) accepted
          (λ a. sym (ap meaning_of (once.only (back a).again.reading (reads a))) ∙ (back a).same) in
          record { text = text; is = is; again = once; same = same }
    ]
