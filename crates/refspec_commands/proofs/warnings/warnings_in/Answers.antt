-- There are none if a text is refused.
use Rattle.std.proofs.Common.{ap, map}
use Rattle.refspec_io.proofs.ShownLemmas.{if_ok}
use Rattle.refspec_commands.specs.WarnedViews.{asked_of, said_of}
use Rattle.refspec_commands.proofs.WarnedLemmas.{AreSaidOf-bad, AreSaidOf-good}
use Rattle.refspec_commands.proofs.warnings.warnings_in.Goals as goal

pub returns : goal.returns
returns c seen json is = if_ok c.warnings_on.result _ _ (c.warnings_on.ensures json) (λ found. AreSaidOf-good
    (asked_of c.args.beside.now) seen c.args.group.now (map said_of found.items) is c.if-group.false)

pub returns-then-group : goal.returns-then-group
returns-then-group c seen json is = AreSaidOf-bad (asked_of c.args.beside.now) seen c.args.group.now _ is
    c.if-group.true
    (ap (map said_of) c.new.ensures.items)
