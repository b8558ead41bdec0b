-- The part is stripped, then the dot.
use Rattle.std.proofs.Common.{◌∷◌, [], None, Some}
use Rattle.std.proofs.lemmas.Bool.Decides.{Decides-eqb}
use Rattle.std.proofs.lemmas.Slice.Eq.{strip_prefix_is}
use Rattle.refspec_request.proofs.SettingLemmas.{part_stripped}
use Rattle.refspec_request.proofs.settings.strip_part.Goals as goal

pub returns-in_err-rest : goal.returns-in_err-rest
returns-in_err-rest c =
    rw c.from_residual.ensures (λ rest. strip_prefix_is Decides-eqb c.args.text.now c.args.part.now None
    c.in_err-rest.ensures.cases (46 ∷ rest))

pub returns : goal.returns
returns c = let a = c.in_ok-rest.ensures.cases in let b = c.strip_prefix-2.ensures.cases in part_stripped
    c.args.text.now c.args.part.now c.in_ok-rest.rest c.strip_prefix-2.result
    (strip_prefix_is Decides-eqb c.args.text.now c.args.part.now (Some c.in_ok-rest.rest) c.in_ok-rest.ensures.cases)
    (strip_prefix_is Decides-eqb c.in_ok-rest.rest.now (46 ∷ []) c.strip_prefix-2.result c.strip_prefix-2.ensures.cases)
