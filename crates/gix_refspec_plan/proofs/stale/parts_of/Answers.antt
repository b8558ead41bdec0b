-- The only star splits a side.
use Rattle.gix_refspec_plan.proofs.Common.{◌≡◌, Some, option_map, sym, ap, ◌∙◌, bstr_bytes}
use Rattle.gix_refspec_plan.proofs.lemmas.stale.SourceLemmas.{parts_split}

pub returns-in-Some : Rattle.gix_refspec_plan.proofs.stale.parts_of.Goals.returns-in-Some
returns-in-Some c =
    let is : option_map bstr_bytes c.args.side ≡ Some c.as_bytes.result.now = ap (option_map bstr_bytes) c.in-Some.is
    ∙ ap Some (sym c.as_bytes.ensures) in
    rw is (parts_split c.as_bytes.result.now c.split_at_first_star.result (c.requires c.as_bytes.result.now is)
    c.split_at_first_star.ensures)
