-- A default remote is fetched from.
use Rattle.refspec_git.proofs.CallLemmas.{one_default}
use Rattle.refspec_git.proofs.call.fetches_nothing.Goals as goal

pub returns-in-Some : goal.returns-in-Some
returns-in-Some c = λ nothing.
    let r = c.args.repository.now in
    one_default r.settings.now r.branch.now r.old.now c.in-Some.field-0.now c.in-Some.ensures nothing.1
