-- The value of the option that is taken.
use Rattle.std.proofs.Common.{refl}
use Rattle.refspec_request.proofs.ArgumentLemmas.{refmap_set, remote_set}
use Rattle.refspec_request.proofs.arguments.Options.set_value.Goals as goal

pub returns-in-Remote : goal.returns-in-Remote
returns-in-Remote c = remote_set c.args.option c.args.self.now _ c.args.value c.in-Remote.is refl refl refl

pub returns-in_ok-push-in-Refmap : goal.returns-in_ok-push-in-Refmap
returns-in_ok-push-in-Refmap c = refmap_set c.args.option c.args.self.now _ c.args.value c.in-Refmap.is refl refl
    c.in_ok-push-in-Refmap.ensures.items
