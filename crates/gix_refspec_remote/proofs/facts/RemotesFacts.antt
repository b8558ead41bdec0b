-- Examples of the specs of remotes: what `git remote add` of Git 2.39.5 writes, and what fetches reviews from GitHub
-- and GitLab.
use Rattle.gix_refspec_remote.proofs.Common.{◌≡◌, ◌++◌, Option, List, ℕ, Some, codes, refl, ap, bstr_bytes}
use Rattle.gix_refspec_remote.specs.Remotes.{branch_destination, branch_source, reviews_destination, reviews_source}
use Rattle.gix_refspec_remote.specs.declared.remotes.Reviews.TheVariants as reviews
use Rattle.gix_refspec_remote.specs.declared.remotes.Storage.{Storage}
use Rattle.gix_refspec_remote.specs.declared.remotes.Storage.TheVariants as storage
use Rattle.gix_refspec_remote.specs.declared.remotes.Reviews.{Reviews}
use Rattle.bstr.specs.declared.bstr.BStr.{BStr}
use Rattle.gix_refspec_text.specs.Specs.Grammar.{fetched}
use Rattle.gix_refspec_text.specs.Specs.Meaning.{printed}
use Rattle.gix_refspec_text.specs.Specs.Reading.{Forced}

-- the text for a branch
abbrev of_branch : Storage → List ℕ → Option (List ℕ)
of_branch where_to branch = printed
    (fetched Forced (branch_source where_to branch) (Some (branch_destination where_to branch)))

-- the text for reviews
abbrev of_reviews : Reviews → Option (List ℕ)
of_reviews host = printed (fetched Forced (reviews_source host) (Some (reviews_destination host (codes "o"))))

pub tracked : (o : BStr) → bstr_bytes o ≡ codes "o"
    → of_branch (storage.Tracking o) (codes "*") ≡ Some (codes "+refs/heads/*:refs/remotes/o/*")
tracked o is = ap (λ x. printed
    (fetched Forced (codes "refs/heads/*") (Some (codes "refs/remotes/" ++ (x ++ codes "/*"))))) is

pub mirrored : of_branch storage.Mirror (codes "*") ≡ Some (codes "+refs/*:refs/*")
mirrored = refl

pub reviewed : (of_reviews reviews.PullRequests ≡ Some (codes "+refs/pull/*/head:refs/remotes/o/pr/*"))
    × (of_reviews reviews.MergeRequests ≡ Some (codes "+refs/merge-requests/*/head:refs/remotes/o/merge-requests/*"))
reviewed = (refl, refl)
