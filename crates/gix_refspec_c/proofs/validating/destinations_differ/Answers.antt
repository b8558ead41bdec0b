-- Without duplicates among the destinations there is no conflict.
use Rattle.std.proofs.Common.{◌≡◌, length, sym, ◌∙◌, arith}
use Rattle.std.proofs.lemmas.Bool.{eqb-true}
use Rattle.gix_refspec.proofs.lemmas.validate.FirstLemmas.{none_contested}
use Rattle.gix_refspec_c.proofs.validating.destinations_differ.Goals as goal

pub returns : goal.returns
returns c is_so =
    let flags = c.in_ok-flags.flags in
    let none : length flags.items ≡ 0 =
    (let empty = eqb-true _ _ (sym c.is_empty.ensures ∙ is_so) in omega (arith, empty, flags.ok.0, flags.ok.1)) in
    none_contested _ c.as_slice.result.now flags.items (rw (← c.as_slice.ensures.value) at c.in_ok-destinations.ensures)
    c.in_ok-flags.ensures.ok none
