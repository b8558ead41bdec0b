-- The sides of the fetch specs of `git remote add` and `git remote set-branches`, by git-remote(1); and of those for
-- reviews, as GitHub and GitLab name their refs.
use Rattle.std.specs.Prelude.{ℕ, List, ◌++◌, codes}
use Rattle.bstr.specs.BStr.{bstr_bytes}
use Rattle.gix_refspec_remote.specs.declared.remotes.Storage.{Storage}
use Rattle.gix_refspec_remote.specs.declared.remotes.Storage.TheVariants as storage
use Rattle.gix_refspec_remote.specs.declared.remotes.Reviews.{Reviews}
use Rattle.gix_refspec_remote.specs.declared.remotes.Reviews.TheVariants as reviews

-- what is fetched for a branch
abbrev pub branch_source : Storage → List ℕ → List ℕ
branch_source (storage.Tracking remote) branch = codes "refs/heads/" ++ branch
branch_source storage.Mirror branch = codes "refs/" ++ branch

-- where it is stored
abbrev pub branch_destination : Storage → List ℕ → List ℕ
branch_destination (storage.Tracking remote) branch =
    codes "refs/remotes/" ++ (bstr_bytes remote ++ (codes "/" ++ branch))
branch_destination storage.Mirror branch = codes "refs/" ++ branch

-- what is fetched for reviews
abbrev pub reviews_source : Reviews → List ℕ
reviews_source reviews.PullRequests = codes "refs/pull/*/head"
reviews_source reviews.MergeRequests = codes "refs/merge-requests/*/head"

-- where they are stored
abbrev pub reviews_destination : Reviews → List ℕ → List ℕ
reviews_destination reviews.PullRequests remote = codes "refs/remotes/" ++ (remote ++ codes "/pr/*")
reviews_destination reviews.MergeRequests remote = codes "refs/remotes/" ++ (remote ++ codes "/merge-requests/*")
