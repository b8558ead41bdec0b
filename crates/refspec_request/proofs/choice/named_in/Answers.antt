-- The first argument names the remote, or is a spec.
use Rattle.refspec_request.proofs.ChoiceLemmas.{named_first, spec_first}
use Rattle.refspec_request.proofs.choice.named_in.Goals as goal

pub returns-then-branch-clause-ok : goal.returns-then-branch-clause-ok
returns-then-branch-clause-ok c = named_first c.args.request.now.dashes c.args.repository.now c.args.request.now.remote
    c.args.request.now.arguments.items c.as_slice-arguments.result.now _ _ c.in-None.is
    c.as_slice-arguments.ensures.value c.in-len1-up.len_at_least c.in_ok-is_remote-in-len1-up.ensures c.if-branch.true

pub returns-else-branch-clause-ok : goal.returns-else-branch-clause-ok
returns-else-branch-clause-ok c = spec_first c.args.request.now.dashes c.args.repository.now c.args.request.now.remote
    c.args.request.now.arguments.items c.as_slice-arguments.result.now _ _ c.in-None.is
    c.as_slice-arguments.ensures.value c.in-len1-up.len_at_least c.in_ok-is_remote-in-len1-up.ensures c.if-branch.false
