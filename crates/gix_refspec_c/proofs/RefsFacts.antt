-- Examples of the targets of refs: known, unknown, and read.
use Rattle.std.proofs.Common.{◌≡◌, true, false, List, ℕ, [], codes, replicate, refl, ap, ◌∙◌}
use Rattle.gix_refspec.specs.Specs.Reading.{Reading}
use Rattle.gix_refspec.specs.Matching.Match.{Ref}
use Rattle.gix_refspec_c.specs.declared.matching.Direction.TheVariants.{Forward}
use Rattle.gix_refspec_c.specs.Refs.{HasTargets, IsRefOf, RefText, is_known, no_ref_text, or_null}

abbrev pub ref_to : List ℕ → RefText
ref_to digits = record { name = codes "refs/heads/a"; target = digits; object = [] }

-- a target without digits isn't known
pub known_targets : (is_known (ref_to []) ≡ false) × (is_known (ref_to (codes "1")) ≡ true)
known_targets = (refl, refl)

-- it is read as the null id of SHA-1
pub null_target : (r : Ref) → IsRefOf no_ref_text r → r.target ≡ replicate 20 0
null_target r is = is.target.2 ∙ ap or_null is.target.1

-- from left to right no target has to be known
pub forward_needs_none : (g : List Reading) (texts : List RefText) → HasTargets Forward g texts
forward_needs_none g texts = tt
