-- Examples of the modes and sides that a caller in C gets.
use Rattle.std.proofs.Common.{◌≡◌, Some, None, codes, [], refl}
use Rattle.gix_refspec.specs.Specs.Reading.{Normal, Forced, Negative}
use Rattle.gix_refspec_c.specs.Sides.{mode_code, presence, side_text}

-- no sign is 1, `+` is 2 and `^` is 3
pub each_mode : (mode_code Normal ≡ 1) × (mode_code Forced ≡ 2) × (mode_code Negative ≡ 3)
each_mode = (refl, refl, refl)

-- a present side is shown as it is
pub present_side : (presence (Some (codes "a")) ≡ 1) × (side_text (Some (codes "a")) ≡ codes "a")
present_side = (refl, refl)

-- a missing side is empty, and isn't shown as present
pub missing_side : (presence None ≡ 0) × (side_text None ≡ [])
missing_side = (refl, refl)
