-- A ref is written exactly if the set contains its name.
use Rattle.std.proofs.Common.{arith, sym, ◌∙◌}
use Rattle.std.proofs.lemmas.Bool.{false≢true}
use Rattle.refspec_commands.proofs.AnswerLemmas.{IsFound-by}
use Rattle.refspec_commands.proofs.tracking.answer.found_of.Goals as goal

pub returns-then-not-contains : goal.returns-then-not-contains
returns-then-not-contains c = λ ts are few is. false≢true (c.if-not-contains.ensures ∙ (are c.args.name.now).1 is)

pub returns : goal.returns
returns c = λ ts are few. IsFound-by ts c.args.name.now c.count_in.result c.found_by.result ((are c.args.name.now).0
    (sym c.if-not-contains.ensures)) (omega (arith, few, c.count_in.ensures)) c.found_by.ensures
