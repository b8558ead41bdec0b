-- Behind the command, or as the command.
use Rattle.std.proofs.Common.{◌∙◌, Some, inr, map, refl, sym}
use Rattle.refspec_request.proofs.ArgumentLemmas.{argument_more, command_more}
use Rattle.refspec_request.proofs.arguments.Texts.add.Goals as goal

pub returns-in_ok-push-in-Some-clause-ok : goal.returns-in_ok-push-in-Some-clause-ok
returns-in_ok-push-in-Some-clause-ok c = λ texts are.
    argument_more texts c.args.argument c.args.self.now.command c.args.self.now.command c.in-Some.field-0
    c.args.self.now.arguments.items c.push.new.self.items c.in-Some.is refl c.in_ok-push-in-Some.ensures.items are

pub returns-in-None-command_named-clause-refused : goal.returns-in-None-command_named-clause-refused
returns-in-None-command_named-clause-refused c =
    inr (refl, c.in-None.is, sym c.command_named.ensures ∙ c.in-None-command_named.is)

pub returns-in-Some-command_named-clause-ok : goal.returns-in-Some-command_named-clause-ok
returns-in-Some-command_named-clause-ok c = λ texts are.
    command_more texts c.args.argument.now c.args.self.now.command
    (Some c.in-Some-command_named.command) c.in-Some-command_named.command
    (map (λ a. a.now) c.args.self.now.arguments.items) c.in-None.is refl
    (sym c.in-Some-command_named.is ∙ c.command_named.ensures) are
