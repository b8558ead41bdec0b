-- A text is refused, or there is a warning, or neither.
use Rattle.std.proofs.Common.{arith, ap, inl, inr, length, refl, sym, ◌∙◌}
use Rattle.std.proofs.lemmas.Bool.{eqb-false, eqb-true}
use Rattle.std.proofs.lemmas.List.{nil_from_length}
use Rattle.refspec_commands.proofs.checking.Answer.strict_status.Goals as goal

pub returns-then-is_empty : goal.returns-then-is_empty
returns-then-is_empty c =
    let warnings = c.args.self.now.warnings in
    let zero = eqb-true _ _ (sym c.is_empty.ensures ∙ c.if-is_empty.true) in
    let none = nil_from_length warnings.items (omega (arith, zero, warnings.ok.0, warnings.ok.1)) in
    elim c.status.ensures [
      | inl (one, bad) ↦ inl (one, inl bad)
      | inr (zero, good) ↦ inr (zero, good, none)
    ]

pub returns-else-is_empty : goal.returns-else-is_empty
returns-else-is_empty c =
    let warnings = c.args.self.now.warnings in
    let some = eqb-false _ _ (sym c.is_empty.ensures ∙ c.if-is_empty.false) in
    inl (refl, inr (λ none. omega (arith, some, ap length none, warnings.ok.0, warnings.ok.1)))
