-- Each letter adds an option, or none has it.
use Rattle.std.proofs.Common.{◌∙◌, inr, refl, subst, sym, take_all}
use Rattle.std.proofs.lemmas.List.Elements.{Contains-get_or}
use Rattle.refspec_request.proofs.ArgumentLemmas.{AddsLetters, letters_more, no_letters}
use Rattle.refspec_request.proofs.arguments.add_letters.Goals as goal

pub loop-letter-init : goal.loop-letter-init
loop-letter-init c = no_letters c.args.switches.now.items

pub loop-letter-preserved : goal.loop-letter-preserved
loop-letter-preserved c = letters_more c.args.letters.now c.loop-letter.letter-index _ c.in-Some.switch _ _ _
    c.loop-letter-test.true c.loop-letter.invariant (sym c.switch_lettered.ensures ∙ c.in-Some.is)
    c.in_ok-push-in-Some.ensures.items

pub returns-in-None-clause-refused : goal.returns-in-None-clause-refused
returns-in-None-clause-refused c = inr (
  refl,
  _,
  Contains-get_or c.args.letters.now c.loop-letter.letter-index _ c.loop-letter-test.true,
  sym c.switch_lettered.ensures ∙ c.in-None.is,
)

pub returns-clause-ok : goal.returns-clause-ok
returns-clause-ok c = subst (λ l. AddsLetters l c.args.switches.now.items c.loop-letter.switches.items)
    (take_all c.loop-letter.letter-index c.args.letters.now c.loop-letter-test.false) c.loop-letter.invariant
