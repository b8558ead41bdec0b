use Rattle.gix_refspec_remote.proofs.Common.{IfOk-weaker, bstr_bytes}
use Rattle.gix_refspec_remote.proofs.lemmas.RemotesLemmas.{forced_reading}
use Rattle.gix_refspec_remote.proofs.remotes.forced.Goals as goal

pub returns-clause-ok : goal.returns-clause-ok
returns-clause-ok c = IfOk-weaker c.from_parts.result _ _
    (λ spec has. forced_reading (bstr_bytes c.args.source) (bstr_bytes c.args.destination) _ _ c.requires.source
    c.requires.destination has.0 has.1) c.from_parts.ensures.ok
