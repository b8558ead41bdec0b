-- Keys of settings, with their sections, names and variables: examples and counterexamples.
use Rattle.std.proofs.Common.{ℕ, List, codes, get_or, refl, ap, arith}
use Rattle.gix_refspec_text.proofs.facts.ManualFacts.{Lacks-tested}
use Rattle.gix_refspec_text.proofs.lemmas.lists.LacksLemmas.{Lacks-here}
use Rattle.refspec_request.specs.Settings.{IsKey}

-- a name may contain dots, and be empty
pub keys : IsKey (codes "remote") (codes "o") (codes "fetch") (codes "remote.o.fetch")
    × IsKey (codes "remote") (codes "a.b") (codes "url") (codes "remote.a.b.url")
    × IsKey (codes "branch") (codes "") (codes "merge") (codes "branch..merge")
keys = (
  record { parts = refl; last = Lacks-tested 46 (codes "fetch") refl },
  record { parts = refl; last = Lacks-tested 46 (codes "url") refl },
  record { parts = refl; last = Lacks-tested 46 (codes "merge") refl },
)

-- but no variable contains a dot, and a key is in its own section
pub no_keys : ¬ (IsKey (codes "remote") (codes "a") (codes "b.url") (codes "remote.a.b.url"))
    × ¬ (IsKey (codes "branch") (codes "o") (codes "fetch") (codes "remote.o.fetch"))
no_keys = (
  (λ is. Lacks-here 46 (codes "b") (codes "url") is.last),
  λ is. omega (arith, ap (λ (l : List ℕ). get_or l 0 0) is.parts),
)
