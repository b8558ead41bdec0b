-- The remote of the branch, or the one that is located.
use Rattle.std.proofs.Common.{inl, sym}
use Rattle.refspec_request.proofs.RemoteLemmas.{default_by}
use Rattle.refspec_request.proofs.remotes.default_remote.Goals as goal

pub returns-in-Some : goal.returns-in-Some
returns-in-Some c = inl (sym c.in-Some.ensures)

pub returns-in-None : goal.returns-in-None
returns-in-None c = default_by c.args.settings.now c.args.branch.now c.args.files.now c.located_remote.result
    (sym c.in-None.ensures) c.located_remote.ensures
