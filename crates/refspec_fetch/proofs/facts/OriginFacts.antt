-- Where the specs of a plan come from, as lines and records say it.
use Rattle.std.proofs.Common.{◌≡◌, [], codes, refl}
use Rattle.gix_refspec_plan.specs.declared.Origin.TheVariants as origin
use Rattle.refspec_fetch.specs.Origins.{note_of, origin_name}

pub names : (origin_name (origin.Given 0) ≡ codes "given") × (origin_name (origin.Configured 0) ≡ codes "configured")
    × (origin_name (origin.Merge 0) ≡ codes "merge") × (origin_name origin.Default ≡ codes "default")
    × (origin_name origin.AllTags ≡ codes "tags")
names = (refl, refl, refl, refl, refl)

-- nothing is said of a given spec
pub notes : (note_of (origin.Given 0) ≡ []) × (note_of (origin.Configured 1) ≡ codes " (configured)")
    × (note_of (origin.Merge 0) ≡ codes " (merge)")
    × (note_of origin.Default ≡ codes " (default)") × (note_of origin.AllTags ≡ codes " (tags)")
notes = (refl, refl, refl, refl, refl)
