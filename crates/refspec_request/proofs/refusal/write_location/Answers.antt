-- The origin as it is shown, and the key.
use Rattle.std.proofs.Common.{ℕ, List, ◌∷◌, OnOk, codes, subst}
use Rattle.refspec_request.specs.Refusals.{Writes, about, quoted}
use Rattle.refspec_request.proofs.refusal.write_location.Goals as goal

pub returns : goal.returns
returns c = subst
    (λ (z : List ℕ). OnOk c.write_key.result
    (Writes (quoted z ∷ about (codes ": ") c.args.key.now (codes ": ")) c.args.out.now.items c.write_key.new.out.items))
    c.shown_origin.ensures c.write_key.ensures
