-- The reading of the text is that of its bytes; an error other than `Memory` is a reason.
use Rattle.std.proofs.Common.{◌≡◌, List, ℕ, refl, subst, sym, ◌∙◌}
use Rattle.std.proofs.lemmas.Bool.{false≢true}
use Rattle.gix_refspec.specs.Specs.Grammar.{Reads}
use Rattle.gix_refspec.specs.Specs.Refusal.{IsRefused}
use Rattle.gix_refspec.specs.Views.Spec.{reading_of}
use Rattle.gix_refspec.specs.Views.Instruction.{ShowsRefusal}
use Rattle.gix_refspec_text.specs.declared.parsing.Error.TheVariants as error
use Rattle.refspec_io.proofs.checked.check.Goals.{in-Memory, in_default}
use Rattle.refspec_io.proofs.checked.check.Goals as goal

pub returns-in-Ok : goal.returns-in-Ok
returns-in-Ok c = (
  refl,
  subst (λ (x : List ℕ). Reads c.args.text.operation x (reading_of c.in-Ok.spec)) c.new.ensures
      c.in-Ok.ensures.ok,
)

pub returns-else-matches : goal.returns-else-matches
returns-else-matches c =
    let other : (c.in-Err.error ≡ error.Memory → ⊥) =
    elim c.match-matches.branch [
      | in-Memory w ↦ λ same. false≢true (sym c.if-matches.false ∙ w.matches-is)
      | in_default w ↦ w.in_default.not-Memory
    ] in (
      refl,
      subst (λ (x : List ℕ). ShowsRefusal (IsRefused c.args.text.operation x) c.in-Err.error) c.new.ensures
          (c.in-Err.ensures.refused other),
    )
