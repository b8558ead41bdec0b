-- What is reported of a local ref.
use Rattle.std.proofs.Common.{◌≡◌, [], ◌∷◌, ◌++◌, None, Some, ap, arith, codes, length, refl}
use Rattle.gix_refspec_why.specs.declared.Mismatch.TheVariants as mismatch
use Rattle.gix_refspec_why.specs.declared.Fate.TheVariants as fate
use Rattle.refspec_io.specs.declared.call.Form.TheVariants as form
use Rattle.refspec_commands.specs.declared.fates.question.Known.TheVariants as known
use Rattle.refspec_commands.specs.declared.fates.roles.Role.TheVariants as role
use Rattle.refspec_commands.specs.Locals.{IsLacked, IsPart, Part, Writes, parts_from, role_word}

-- a spec that writes the local ref, and one that is for another name
abbrev writes : Part
writes = record { text = codes "a:b"; source = Some (codes "a"); word = codes "fetched" }

abbrev other : Part
other = record { text = codes "c:d"; source = None; word = codes "other_name" }

-- the spec, what becomes of the ref, and the source
pub fields : IsPart form.Zeros (codes "b") writes
    (codes "a:b" ++ 0 ∷ (codes "fetched" ++ 0 ∷ (codes "a" ++ 0 ∷ [])))
    × IsPart form.Zeros (codes "b") other (codes "c:d" ++ 0 ∷ (codes "other_name" ++ 0 ∷ (0 ∷ [])))
fields = (refl, refl)

pub not_fields : ¬ (IsPart form.Zeros (codes "b") writes
    (codes "a:b" ++ 0 ∷ (codes "a" ++ 0 ∷ (codes "fetched" ++ 0 ∷ (0 ∷ [])))))
not_fields is = omega (arith, ap length is)

pub nothing : parts_from 0 [] [] [] ≡ []
nothing = refl

-- a ref is lacked only if the refs of the remote are known
pub lacked : IsLacked known.Listed None × ¬ (IsLacked known.Assumed None)
lacked = (refl, λ is. is)

-- an object is written, and what the remote lacks isn't
pub written : Writes role.Object × ¬ (Writes (role.Missing 0)) × ¬ (Writes role.NoDestination)
written = (tt, (λ is. is), λ is. is)

pub words : (role_word (role.Missing 0) ≡ codes "missing") × (role_word role.NoDestination ≡ codes "no_destination")
    × (role_word (role.Unmatched mismatch.OtherName) ≡ codes "other_name")
words = (refl, refl, refl)
