-- What the arguments of `git refspec check` choose.
use Rattle.std.proofs.Common.{◌≡◌, Some, arith, codes, false, inl, inr, refl, true}
use Rattle.gix_refspec_text.proofs.readers.Texts.{differ}
use Rattle.gix_refspec_text.specs.declared.parsing.Operation.TheVariants as operation
use Rattle.refspec_git.specs.Chosen.{HoldsSpecs, IsNoSpecAt, IsSpecAt, operation_for}

-- behind `--` an argument is a spec, and before it none
pub dashes : IsSpecAt (Some 1) 1 (codes "a") × IsNoSpecAt (Some 1) 0 (codes "a")
dashes = (omega arith, omega arith)

-- specs of a push, or of a fetch
pub operations : (operation_for true ≡ operation.Push) × (operation_for false ≡ operation.Fetch)
operations = (refl, refl)

-- values for a fetch or a push are values of a remote, and its URLs for a push are none
pub values : HoldsSpecs (codes "fetch") × HoldsSpecs (codes "push") × ¬ (HoldsSpecs (codes "pushurl"))
values = (
  inl refl,
  inr refl,
  no_specs,
)
  where
    no_specs : ¬ (HoldsSpecs (codes "pushurl"))
    no_specs (inl is) = differ (codes "pushurl") (codes "fetch") refl is
    no_specs (inr is) = differ (codes "pushurl") (codes "push") refl is
