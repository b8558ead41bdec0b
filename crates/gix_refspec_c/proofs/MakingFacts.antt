-- Examples of sides that a caller gives: present for any number but 0, and of a mode for 1, 2 and 3.
use Rattle.std.proofs.Common.{◌≡◌, ℕ, [], Some, None, codes, refl, arith}
use Rattle.gix_refspec.specs.Specs.Reading.{Mode, Normal, Forced, Negative}
use Rattle.gix_refspec_c.specs.Making.{IsNoMode, destination_given, source_given}
use Rattle.gix_refspec_c.specs.Sides.{SidesShown, mode_code}

abbrev pub two_sides : ℕ → SidesShown
two_sides present = record {
  mode = 1;
  has_source = present;
  has_destination = present;
  source = codes "a";
  destination = codes "b";
}

-- a missing source is written as an empty one, and a missing destination isn't
pub missing_sides : (source_given (two_sides 0) ≡ []) × (destination_given (two_sides 0) ≡ None)
missing_sides = (refl, refl)

-- a side is there for 1, and for any other number
pub present_sides : (source_given (two_sides 1) ≡ codes "a") × (destination_given (two_sides 1) ≡ Some (codes "b"))
    × (source_given (two_sides 7) ≡ codes "a") × (destination_given (two_sides 7) ≡ Some (codes "b"))
present_sides = (refl, refl, refl, refl)

-- the first number after those of the modes is that of none, and so is 0
pub unknown_modes : IsNoMode 0 × IsNoMode 4
unknown_modes = (before, after)
  where
    before : (mode : Mode) → ¬ (0 ≡ mode_code mode)
    before Normal same = omega (arith, same)
    before Forced same = omega (arith, same)
    before Negative same = omega (arith, same)

    after : (mode : Mode) → ¬ (4 ≡ mode_code mode)
    after Normal same = omega (arith, same)
    after Forced same = omega (arith, same)
    after Negative same = omega (arith, same)

pub known_mode : ¬ (IsNoMode 3)
known_mode none = none Negative refl
