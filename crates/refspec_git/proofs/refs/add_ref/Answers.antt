-- A line without a space has no ref.
use Rattle.refspec_git.proofs.RefLemmas.{refs_more, refs_same}
use Rattle.refspec_git.proofs.refs.add_ref.Goals as goal

pub returns-in_default : goal.returns-in_default
returns-in_default c = λ lines are. refs_same lines c.args.line.now c.args.existing.now c.in_default.ensures are

pub returns : goal.returns
returns c = λ lines are.
    refs_more lines c.args.line.now c.in-Some.name c.in-Some.target c.args.existing.now c.insert.new.self
    c.in-Some.ensures.0
    c.in-Some.ensures.1 c.in_ok-insert.ensures.updates are
