-- Rows with a remote and without.
use Rattle.std.proofs.Common.{◌≡◌, [], ◌∷◌, ◌++◌, None, Some, ap, arith, codes, length, refl, ◌∙◌}
use Rattle.std.proofs.lemmas.List.{length-append}
use Rattle.gix_refspec.specs.Matching.Mappings.{Mapped, name}
use Rattle.refspec_io.specs.declared.call.Form.TheVariants as form
use Rattle.refspec_commands.specs.Rows.{AddsRows, IsRow, Shown}

-- a mapping, as a row of a call that names no remote, and as one of the remote `o`
abbrev written : Mapped
written = record { item = Some 0; source = name (codes "b"); destination = Some (codes "c"); spec = 0 }

abbrev alone : Shown
alone = record { remote = None; mapping = written; text = codes "b:c" }

abbrev of_remote : Shown
of_remote = record { remote = Some (codes "o"); mapping = written; text = codes "b:c" }

-- the field of the remote comes first
pub fields : IsRow form.Zeros of_remote (codes "o" ++ 0 ∷ (codes "c" ++ 0 ∷ (codes "b" ++ 0 ∷ (codes "b:c" ++ 0 ∷ []))))
    × IsRow form.Zeros alone (codes "c" ++ 0 ∷ (codes "b" ++ 0 ∷ (codes "b:c" ++ 0 ∷ [])))
fields = (refl, refl)

pub not_fields : ¬ (IsRow form.Zeros of_remote (codes "c" ++ 0 ∷ (codes "b" ++ 0 ∷ (codes "b:c" ++ 0 ∷ []))))
not_fields is = omega (arith, ap length is)

-- rows are in order, and all there
pub rows : AddsRows form.Zeros (alone ∷ []) (codes "a") (codes "ac" ++ 0 ∷ (codes "b" ++ 0 ∷ (codes "b:c" ++ 0 ∷ [])))
rows = (
  codes "c" ++ 0 ∷ (codes "b" ++ 0 ∷ (codes "b:c" ++ 0 ∷ [])),
  (
    codes "c" ++ 0 ∷
        (codes "b" ++ 0 ∷ (codes "b:c" ++ 0 ∷ [])),
    [],
    refl,
    refl,
    refl,
  ),
  refl,
)

pub not_rows : ¬ (AddsRows form.Zeros (alone ∷ []) [] [])
not_rows (lines, (one, rest, is, none, all), same) =
    let nothing : [] ≡ lines = same in
    omega (arith, ap length is, ap length all ∙ length-append one rest, ap length nothing)
