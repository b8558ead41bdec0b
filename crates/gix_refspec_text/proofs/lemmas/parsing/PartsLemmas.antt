-- A text has only one sign, source and destination.
use Rattle.gix_refspec_text.proofs.Common.{◌≡◌, ℕ, List, Option, arith, Mode, AreParts}
use Rattle.gix_refspec_text.proofs.lemmas.lists.LacksLemmas.{Lacks-here, last_once}

pub record SameParts (m n : Mode) (s t : List ℕ) (d e : Option (List ℕ)) : Type 0 where
  pub mode : m ≡ n
  pub source : s ≡ t
  pub destination : d ≡ e

pub parts_once : (m n : Mode) (s t : List ℕ) (d e : Option (List ℕ)) (text : List ℕ) → AreParts m s d text
    → AreParts n t e text → SameParts m n s t d e
parts_once m n s t d e text a b = search (arith, Lacks-here, last_once)
