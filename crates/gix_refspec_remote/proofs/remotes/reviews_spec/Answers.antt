use Rattle.gix_refspec_remote.proofs.Common.{◌++◌, ◌∙◌, ap, codes}
use Rattle.gix_refspec_remote.proofs.lemmas.RemotesLemmas.{refused_alike}
use Rattle.gix_refspec_remote.proofs.remotes.reviews_spec.Goals as goal

pub returns-in_ok-destination-in-PullRequests-clause-refused :
    goal.returns-in_ok-destination-in-PullRequests-clause-refused
returns-in_ok-destination-in-PullRequests-clause-refused c =
    let destination = c.as_bstr.ensures ∙ c.in_ok-destination-in-PullRequests.ensures
    ∙ ap (λ y. codes "refs/remotes/" ++ (y ++ codes "/pr/*")) c.as_bytes.ensures in
    rw c.in-PullRequests.is
    (refused_alike c.forced.result _ _ _ _ c.new.ensures destination c.forced.ensures.refused)

pub returns-in_ok-destination-in-MergeRequests-clause-refused :
    goal.returns-in_ok-destination-in-MergeRequests-clause-refused
returns-in_ok-destination-in-MergeRequests-clause-refused c =
    let destination = c.as_bstr-in-MergeRequests.ensures ∙ c.in_ok-destination-in-MergeRequests.ensures
    ∙ ap (λ y. codes "refs/remotes/" ++ (y ++ codes "/merge-requests/*")) c.as_bytes-in-MergeRequests.ensures in
    rw c.in-MergeRequests.is
    (refused_alike c.forced-in-MergeRequests.result _ _ _ _ c.new-source.ensures destination
    c.forced-in-MergeRequests.ensures.refused)
