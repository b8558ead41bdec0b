-- Examples of what a caller gets of an upstream.
use Rattle.std.proofs.Common.{◌≡◌, [], codes, refl}
use Rattle.gix_refspec_remote.specs.Upstream.{tracked, excluded, not_stored, not_fetched}
use Rattle.gix_refspec_c.specs.Mapping.{no_index}
use Rattle.gix_refspec_c.specs.Upstreams.{shown_as}

-- a ref is tracked by the spec at the index 2
pub tracked_ref : shown_as (tracked (codes "refs/x") 2)
    ≡ record { kind = 1; spec = 2; excluded_by = no_index; name = codes "refs/x" }
tracked_ref = refl

-- without a ref there is no name: the spec at 2 is asked for what that at 3 excludes, or stores nothing, or there is
-- none
pub no_ref : (shown_as (excluded 2 3) ≡ record { kind = 2; spec = 2; excluded_by = 3; name = [] })
    × (shown_as (not_stored 2) ≡ record { kind = 3; spec = 2; excluded_by = no_index; name = [] })
    × (shown_as not_fetched ≡ record { kind = 4; spec = no_index; excluded_by = no_index; name = [] })
no_ref = (refl, refl, refl)
