use Rattle.gix_refspec_lint.proofs.Common.{None, map, ref_of, reading_of, sym}
use Rattle.gix_refspec_lint.proofs.lemmas.RemovalLemmas.{stale_none, stale_some}
use Rattle.gix_refspec_match.specs.declared.types.Item.{Item}
use Rattle.gix_refspec_lint.proofs.removal.pruning.is_stale.Goals as goal

pub returns-in-None : goal.returns-in-None
returns-in-None c =
    let item : Item = record { full_ref_name = c.new.result; target = c.args.target; object = None } in
    rw c.new.ensures at (stale_none (map reading_of c.args.specs.now) (map ref_of c.args.remote.now)
    (ref_of item) c.in_ok-found.found.items (rw c.as_slice.ensures at c.in_ok-found.ensures)
    (sym (rw c.deref.ensures.value at c.in-None.ensures.value)))

pub returns : goal.returns
returns c =
    let item : Item = record { full_ref_name = c.new.result; target = c.args.target; object = None } in
    rw c.new.ensures at (stale_some (map reading_of c.args.specs.now) (map ref_of c.args.remote.now)
    (ref_of item) c.in_ok-found.found.items c.in-Some.stale.now (rw c.as_slice.ensures at c.in_ok-found.ensures)
    (sym (rw c.deref.ensures.value at c.in-Some.ensures.value)) c.is_none.result c.is_none.ensures)
