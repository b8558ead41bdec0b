-- A good text adds its spec, a bad one is noted.
use Rattle.std.proofs.Common.{refl}
use Rattle.refspec_commands.proofs.SeenLemmas.{IsGroup-bad, IsGroup-good}
use Rattle.refspec_commands.proofs.warnings.group.Group.add.Goals as goal

pub returns-in_ok-push-in-Good-2 : goal.returns-in_ok-push-in-Good-2
returns-in_ok-push-in-Good-2 c seen is =
    rw c.in-Good.is (IsGroup-good seen c.args.self.now _ c.in-Good.text c.in-Good.spec is
    c.in_ok-push-in-Good.ensures.items c.in_ok-push-in-Good-2.ensures.items refl)

pub returns-in-Bad : goal.returns-in-Bad
returns-in-Bad c seen is =
    rw c.in-Bad.is (IsGroup-bad seen c.args.self.now _ c.in-Bad.text c.in-Bad.error is refl refl refl)
