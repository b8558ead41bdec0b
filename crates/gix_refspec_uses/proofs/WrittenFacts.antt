-- Which updates of a plan are fetched.
use Rattle.std.proofs.Common.{◌≡◌, false, true, refl}
use Rattle.gix_refspec.specs.declared.match_group.ref_names.InvalidSide.TheVariants as side
use Rattle.gix_refspec_plan.specs.declared.Verdict.TheVariants as verdict
use Rattle.gix_refspec_uses.specs.Planned.{has_written}

-- those that are written, and no others
pub written : (has_written verdict.Written ≡ true) × (has_written verdict.InConflict ≡ false)
    × (has_written verdict.Overruled ≡ false) × (has_written (verdict.LeftOut side.Both) ≡ false)
written = (refl, refl, refl, refl)
