-- The exit status of `check`, and what it lists.
use Rattle.std.proofs.Common.{◌≡◌, [], ◌∷◌, None, Some, false, refl, true}
use Rattle.refspec_json.specs.declared.specs.SpecKind.TheVariants as kind
use Rattle.refspec_request.specs.declared.refusal.Refusal.TheVariants as refusal
use Rattle.refspec_git.specs.Checking.{greatest, kind_of}

-- the greatest status counts, whichever refusal has it
pub statuses : (greatest 1 [] ≡ 1) × (greatest 0 (refusal.OtherRefused ∷ []) ≡ 1)
    × (greatest 0 (refusal.OtherRefused ∷ (refusal.NoDefault ∷ [])) ≡ 2)
    × (greatest 0 (refusal.NoDefault ∷ (refusal.OtherRefused ∷ [])) ≡ 2)
statuses = (refl, refl, refl, refl)

-- good texts are listed only if a call asks for them
pub kinds : (kind_of true ≡ Some kind.Good) × (kind_of false ≡ None)
kinds = (refl, refl)
