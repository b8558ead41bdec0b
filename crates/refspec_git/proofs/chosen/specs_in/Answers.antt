-- The specs are those that were chosen.
use Rattle.std.proofs.Common.{◌∙◌, Bor, List, ap, map, ℕ}
use Rattle.std.proofs.lemmas.Result.{IfOk-weaker}
use Rattle.gix_refspec_text.specs.declared.parsing.Operation.{Operation}
use Rattle.refspec_git.specs.Chosen.{operation_for, spec_texts}
use Rattle.refspec_git.proofs.chosen.specs_in.Goals as goal

abbrev now : Bor (List ℕ) → List ℕ
now s = s.now

pub returns : goal.returns
returns c =
    let op = operation_for c.args.request.now.push in
    IfOk-weaker c.texts_for.result _ _
    (λ texts is. is ∙ (ap (λ (o : Operation). spec_texts o (map now c.as_slice.result.now)) c.operation_for.ensures
    ∙ ap (λ (l : List (Bor (List ℕ))). spec_texts op (map now l)) c.as_slice.ensures.value)) c.texts_for.ensures
