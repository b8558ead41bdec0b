-- Examples of the values of remotes: their numbers, and the sides of those of a mirror and of reviews.
use Rattle.std.proofs.Common.{◌≡◌, ◌++◌, codes, refl}
use Rattle.bstr.specs.BStr.{bstr_bytes}
use Rattle.bstr.specs.declared.bstr.BStr.{BStr}
use Rattle.gix_refspec_c.specs.declared.remotes.Value.TheVariants as value
use Rattle.gix_refspec_c.specs.Values.{HasValueSides, ValueSides, value_code}

-- branches are 1, a mirror is 2, and reviews are 3 and 4
pub each_number : (value_code value.Branch ≡ 1) × (value_code value.Mirror ≡ 2) × (value_code value.PullRequests ≡ 3)
    × (value_code value.MergeRequests ≡ 4)
each_number = (refl, refl, refl, refl)

-- all branches are stored in the folder of the remote
pub all_branches : (origin : BStr) → bstr_bytes origin ≡ codes "origin"
    → HasValueSides value.Branch (codes "origin") (codes "*") (record {
      source = codes "refs/heads/*";
      destination = codes "refs/remotes/" ++ (bstr_bytes origin ++ codes "/*");
    })
all_branches origin is = (origin, is, refl, refl)

-- a mirror stores refs under their own names, whatever the remote is called
pub mirrored_branch : HasValueSides value.Mirror (codes "origin") (codes "heads/a")
    (record { source = codes "refs/heads/a"; destination = codes "refs/heads/a" })
mirrored_branch = (refl, refl)

-- pull requests aren't stored among the branches, and no branch counts
pub pull_requests : HasValueSides value.PullRequests (codes "up") (codes "main")
    (record { source = codes "refs/pull/*/head"; destination = codes "refs/remotes/up/pr/*" })
pull_requests = (refl, refl)

pub no_other_source : (sides : ValueSides) → HasValueSides value.PullRequests (codes "up") (codes "main") sides
    → sides.source ≡ codes "refs/pull/*/head"
no_other_source sides has = has.0
