-- A value is unchanged if one is.
use Rattle.std.proofs.Common.{List, take_all, subst, sym, ◌∙◌}
use Rattle.std.proofs.lemmas.List.Elements.{All-more}
use Rattle.std.specs.List.{All}
use Rattle.refspec_commands.specs.declared.renames.answer.Value.{Value}
use Rattle.refspec_commands.specs.Renames.{IsUnchanged}
use Rattle.refspec_commands.proofs.RemoteLemmas.{some_none}
use Rattle.refspec_commands.proofs.renames.answer.has_unchanged.Goals as goal

pub returns-in-None : goal.returns-in-None
returns-in-None c = (
  c.loop-value.value-index,
  c.value-item.result,
  c.loop-value-test.true,
  sym c.value-item.is,
  c.in-None.is,
)

pub loop-value-preserved : goal.loop-value-preserved
loop-value-preserved c = All-more (λ (v : Value). ¬ (IsUnchanged v)) c.args.values.now c.loop-value.value-index
    c.value-item.result c.loop-value-test.true c.loop-value.invariant
    (subst (λ (v : Value). ¬ (IsUnchanged v)) c.value-item.is (λ none. some_none (sym c.in-Some.is ∙ none)))

pub returns : goal.returns
returns c = subst (λ (l : List Value). All (λ v. ¬ (IsUnchanged v)) l)
    (take_all c.loop-value.value-index c.args.values.now c.loop-value-test.false) c.loop-value.invariant
