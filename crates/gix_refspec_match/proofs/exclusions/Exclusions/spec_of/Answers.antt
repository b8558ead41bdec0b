use Rattle.gix_refspec_match.proofs.Common.{None, ◌≡◌, ℕ, Option, is_some, ap, sym, ◌∙◌, false≢true, nil_from_length}
use Rattle.gix_refspec_match.proofs.Common.{lookup, bytes_eq, Key, arith, inl, inr, take_all, common_steps, All-more}
use Rattle.gix_refspec_match.proofs.Common.{MatchOption-at_none, FitsName}
use Rattle.gix_refspec_match.proofs.exclusions.Exclusions.spec_of.Goals as goal

pub loop-pattern-preserved : goal.loop-pattern-preserved
loop-pattern-preserved c =
    let none : c.word_between.result ≡ None = grind (arith, common_steps) in
    let unfit = MatchOption-at_none _ _ none c.word_between.ensures in
    All-more (λ p. ¬ (FitsName p c.args.name.now)) c.deref-pattern-items.result.now _ _ c.loop-pattern-test.true
    c.loop-pattern.invariant (λ (word, fits). unfit word fits)

pub returns : goal.returns
returns c excluded = elim excluded [
  | inl named ↦ elim c.if-not-is_empty.branch [
    | goal.then-not-is_empty+in_default w ↦ false≢true (ap (λ (o : Option ℕ). is_some o) w.in_default.ensures.value
        ∙ named)
    | goal.else-not-is_empty w ↦
        let empty = nil_from_length c.args.self.now.names.entries (c.is_empty.ensures.0 w.if-not-is_empty.false) in
        false≢true (ap (λ l. is_some (lookup (λ (k : Key). bytes_eq c.args.name.now k.name.now) l)) (sym empty) ∙ named)
  ]
  | inr (k, p, below, read, fits) ↦
      (rw (take_all _ _ c.loop-pattern-test.false, c.deref-pattern-items.ensures.value) at c.loop-pattern.invariant) k p
      below (rw read fits)
]
