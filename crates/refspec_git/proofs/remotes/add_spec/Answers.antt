-- The value is a spec, or refused for another reason than memory.
use Rattle.std.proofs.Common.{◌≡◌, ◌∙◌, ◌∷◌, [], List, ℕ, inl, inr, refl, subst, sym, ap, map}
use Rattle.std.proofs.lemmas.Bool.{false≢true}
use Rattle.std.proofs.lemmas.List.{map-append}
use Rattle.gix_refspec.specs.Specs.Grammar.{Reads}
use Rattle.gix_refspec.specs.Specs.Refusal.{IsRefused}
use Rattle.gix_refspec.specs.Views.Spec.{reading_of}
use Rattle.gix_refspec.specs.Views.Instruction.{ShowsRefusal}
use Rattle.gix_refspec_text.specs.declared.parsing.Error.TheVariants as error
use Rattle.gix_refspec_text.specs.declared.parsing.Operation.TheVariants as operation
use Rattle.refspec_git.proofs.remotes.add_spec.Goals.{in-Memory, in_default}
use Rattle.refspec_git.proofs.remotes.add_spec.Goals as goal

pub returns-in_ok-push-in-Ok : goal.returns-in_ok-push-in-Ok
returns-in_ok-push-in-Ok c = inl (
  reading_of c.in-Ok.spec,
  subst (λ (x : List ℕ). Reads operation.Fetch x (reading_of c.in-Ok.spec)) c.text_of.ensures c.in-Ok.ensures.ok,
  ap (map reading_of) c.in_ok-push-in-Ok.ensures.items
      ∙ map-append reading_of c.args.specs.now.items (c.in-Ok.spec ∷ []),
)

pub returns-else-matches : goal.returns-else-matches
returns-else-matches c =
    let other : (c.in-Err.error ≡ error.Memory → ⊥) =
    elim c.match-matches.branch [
      | in-Memory w ↦ λ same. false≢true (sym c.if-matches.false ∙ w.matches-is)
      | in_default w ↦ w.in_default.not-Memory
    ] in
    inr (
      (
        c.in-Err.error,
        subst (λ (x : List ℕ). ShowsRefusal (IsRefused operation.Fetch x) c.in-Err.error) c.text_of.ensures
            (c.in-Err.ensures.refused other),
      ),
      refl,
    )
