-- There are none, or those on the texts.
use Rattle.std.proofs.Common.{ap, map}
use Rattle.refspec_commands.specs.WarnedViews.{asked_at, said_of, seen_of}
use Rattle.refspec_commands.proofs.KeyLemmas.{WarnsIf-none, WarnsIf-said}
use Rattle.refspec_commands.proofs.checking.warnings_on.Goals as goal

pub returns-then-question : goal.returns-then-question
returns-then-question c =
    let q = c.args.question.now in
    WarnsIf-said q.warns q.form (asked_at q.beside) (map seen_of c.args.checked.now) c.warnings_of.result
    c.if-question.true
    c.warnings_of.ensures

pub returns : goal.returns
returns c =
    let q = c.args.question.now in
    WarnsIf-none q.warns q.form (asked_at q.beside) (map seen_of c.args.checked.now) _ c.if-question.false
    (ap (map said_of) c.new.ensures.items)
