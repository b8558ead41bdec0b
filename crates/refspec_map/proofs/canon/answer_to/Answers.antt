-- The reading of the line is that of its text; an error other than `Memory` is a reason of the grammar.
use Rattle.std.proofs.Common.{◌≡◌, List, ℕ, subst, sym, ◌∙◌}
use Rattle.std.proofs.lemmas.Bool.{false≢true}
use Rattle.gix_refspec.specs.Specs.Grammar.{Reads}
use Rattle.gix_refspec.specs.Specs.Refusal.{IsRefused}
use Rattle.gix_refspec.specs.Views.Spec.{reading_of}
use Rattle.gix_refspec.specs.Views.Instruction.{ShowsRefusal}
use Rattle.gix_refspec_text.specs.declared.parsing.Error.TheVariants as error
use Rattle.refspec_map.proofs.FaultLemmas.{reason_shown}
use Rattle.refspec_map.proofs.canon.answer_to.Goals as goal
use Rattle.refspec_map.proofs.canon.answer_to.Goals.{in-Memory, in_default}

pub returns-in-Ok-clause-ok : goal.returns-in-Ok-clause-ok
returns-in-Ok-clause-ok c = subst (λ (x : List ℕ). Reads c.args.operation x (reading_of c.in-Ok.spec)) c.new.ensures
    c.in-Ok.ensures.ok

pub returns-else-matches-clause-ok : goal.returns-else-matches-clause-ok
returns-else-matches-clause-ok c =
    let other : (c.in-Err.error ≡ error.Memory → ⊥) =
    elim c.match-matches.branch [
      | in-Memory w ↦ λ same. false≢true (sym c.if-matches.false ∙ w.matches-is)
      | in_default w ↦ w.in_default.not-Memory
    ] in
    let told = subst (λ (x : List ℕ). ShowsRefusal (IsRefused c.args.operation x) c.in-Err.error) c.new.ensures
    (c.in-Err.ensures.refused other) in
    (told.0, told.2, c.reason.ensures ∙ reason_shown _ told.0 told.1)
