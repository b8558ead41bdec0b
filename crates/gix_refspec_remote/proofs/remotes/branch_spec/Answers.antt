use Rattle.gix_refspec_remote.proofs.Common.{◌++◌, ◌∙◌, ap, append-nil, bstr_bytes, codes}
use Rattle.gix_refspec_remote.proofs.lemmas.RemotesLemmas.{refused_alike}
use Rattle.gix_refspec_remote.proofs.remotes.branch_spec.Goals as goal

pub returns-in_ok-destination-in-Tracking-clause-refused : goal.returns-in_ok-destination-in-Tracking-clause-refused
returns-in_ok-destination-in-Tracking-clause-refused c =
    let source = c.as_bstr-in-Tracking.ensures ∙ c.in_ok-source-in-Tracking.ensures
    ∙ ap (λ y. codes "refs/heads/" ++ y) (append-nil _ ∙ c.as_bytes.ensures) in
    let below = c.as_bytes-in-Tracking-3.ensures ∙ c.as_bstr.ensures ∙ c.in_ok-below-in-Tracking.ensures
    ∙ ap (λ y. y ++ (codes "/" ++ c.as_bytes-in-Tracking-2.result.now)) c.as_bytes-in-Tracking.ensures
    ∙ ap (λ y. bstr_bytes c.in-Tracking.remote ++ (codes "/" ++ y)) c.as_bytes-in-Tracking-2.ensures in
    let destination = c.as_bstr-in-Tracking-2.ensures ∙ c.in_ok-destination-in-Tracking.ensures
    ∙ ap (λ y. codes "refs/remotes/" ++ y) (append-nil _ ∙ below) in
    rw c.in-Tracking.is (refused_alike c.forced.result _ _ _ _ source destination c.forced.ensures.refused)
