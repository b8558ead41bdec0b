-- A key has one variable.
use Rattle.std.proofs.Common.{codes}
use Rattle.std.proofs.lemmas.Bool.{false≢true}
use Rattle.refspec_request.proofs.SettingLemmas.{key_once}
use Rattle.refspec_git.proofs.upstreams.fetched_by.Goals as goal

pub returns-else-is_fetch : goal.returns-else-is_fetch
returns-else-is_fetch c = λ name is. false≢true (c.if-is_fetch.ensures.1
    (key_once (codes "remote") c.args.setting.now.key.now c.in-Some.name.now c.in-Some.variable.now name (codes "fetch")
    c.in-Some.ensures is).1)
