use Rattle.gix_refspec_lint.proofs.Common.{◌<◌, ◌≤◌, ℕ, List, map, option_map, bstr_bytes, Reading, ref_of, start_of}
use Rattle.gix_refspec_lint.proofs.Common.{Maps, IsGroupOf}

abbrev pub invariant-loop-at : Rattle.gix_refspec_lint.proofs.idle.first_of.Given.invariant-loop-at
invariant-loop-at l =
    (g : List Reading) → IsGroupOf g l.group → (h : ℕ) → l.fn.others.from ≤ h → h < l.at → ¬
    (Maps g (map ref_of l.items) h (start_of l.source) (option_map bstr_bytes l.destination))
