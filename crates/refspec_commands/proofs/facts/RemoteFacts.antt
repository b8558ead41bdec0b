-- What is reported of prefetches and of renamed values.
use Rattle.std.proofs.Common.{[], ◌∷◌, ◌++◌, None, Some, ap, arith, codes, inl, length, refl}
use Rattle.refspec_io.specs.declared.call.Form.TheVariants as form
use Rattle.refspec_commands.specs.Prefetches as prefetch
use Rattle.refspec_commands.specs.Renames as rename

-- what is applied, and nothing of a spec that is ignored
pub applied : prefetch.IsReport form.Zeros (codes "s") (Some (codes "p")) (codes "p" ++ 0 ∷ [])
    × prefetch.IsReport form.Zeros (codes "s") None []
    × prefetch.IsReport form.Lines (codes "s") (Some (codes "p")) (codes "p" ++ 10 ∷ [])
    × prefetch.IsReport form.Lines (codes "s") None []
applied = (refl, refl, (codes "p", [], inl refl, refl, refl), refl)

pub not_applied : ¬ (prefetch.IsReport form.Zeros (codes "s") None (codes "s" ++ 0 ∷ []))
not_applied is = omega (arith, ap length is)

-- the value after the renaming, and an unchanged one as it is
pub renamed : rename.IsReport form.Zeros (codes "t") (Some (codes "r")) (codes "r" ++ 0 ∷ [])
    × rename.IsReport form.Zeros (codes "t") None (codes "t" ++ 0 ∷ [])
    × rename.IsReport form.Lines (codes "t") None (codes "t" ++ 10 ∷ [])
renamed = (refl, refl, (codes "t", [], inl refl, refl, refl))

pub not_renamed : ¬ (rename.IsReport form.Zeros (codes "t") None [])
not_renamed is = omega (arith, ap length is)
