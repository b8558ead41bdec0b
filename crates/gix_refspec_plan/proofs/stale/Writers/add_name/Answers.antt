-- The map has the name, with a spec that excludes a ref from which one of the readings writes it.
use Rattle.gix_refspec_plan.proofs.Common.{Some, cond, bytes_eq, refl, ap, ◌∙◌, ℕ, Option, option_flatten, option_or}
use Rattle.gix_refspec_plan.proofs.Common.{bstr_bytes, reading_of, state_for}
use Rattle.gix_refspec_plan.proofs.lemmas.stale.PatternLemmas.{adds_name}

pub returns : Rattle.gix_refspec_plan.proofs.stale.Writers.add_name.Goals.returns
returns c =
    let n = bstr_bytes c.args.name in
    let old = c.args.self.now in
    let excluded = c.in_ok-excluded.excluded in
    let either = c.or.ensures ∙ ap (λ (x : Option ℕ). option_or x excluded)
    (c.flatten-earlier.ensures ∙ ap option_flatten (c.copied.ensures ∙ c.get.ensures.value)) in
    adds_name (reading_of c.args.spec.now) old _ refl n excluded refl c.in_ok-excluded.ensures
    (λ m. c.in_ok-insert.ensures.updates.0 (record { bytes = record { ref_ptr = (0, 0); now = m } })
    ∙ ap (λ (x : Option ℕ). cond (bytes_eq n m) (Some x) (state_for old.names m)) either)
