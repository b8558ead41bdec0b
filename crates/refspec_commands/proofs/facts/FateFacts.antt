-- What is reported of the fates of a ref.
use Rattle.std.proofs.Common.{◌≡◌, [], ◌∷◌, ◌++◌, None, Some, true, false, ap, arith, codes, length, refl}
use Rattle.gix_refspec_why.specs.declared.Fate.TheVariants as fate
use Rattle.gix_refspec_why.specs.declared.Mismatch.TheVariants as mismatch
use Rattle.refspec_io.specs.declared.call.Form.TheVariants as form
use Rattle.refspec_commands.specs.declared.fates.question.Known.TheVariants as known
use Rattle.refspec_commands.specs.Fates.{IsVerdict, Verdict, WritesNone, WritesSome, known_by, verdicts_from}

-- a spec that stores the ref, and one that is for another name
abbrev stores : Verdict
stores = record { text = codes "a:b"; effect = record { destination = Some (codes "b"); fate = fate.Written } }

abbrev other : Verdict
other = record {
  text = codes "c";
  effect = record { destination = None; fate = fate.Unmatched mismatch.OtherName };
}

-- the spec, what becomes of the ref, and the destination
pub fields : IsVerdict form.Zeros (codes "a") stores
    (codes "a:b" ++ 0 ∷ (codes "fetched" ++ 0 ∷ (codes "b" ++ 0 ∷ [])))
    × IsVerdict form.Zeros (codes "a") other (codes "c" ++ 0 ∷ (codes "other_name" ++ 0 ∷ (0 ∷ [])))
fields = (refl, refl)

pub not_fields : ¬ (IsVerdict form.Zeros (codes "a") stores
    (codes "a:b" ++ 0 ∷ (codes "b" ++ 0 ∷ (codes "fetched" ++ 0 ∷ (0 ∷ [])))))
not_fields is = omega (arith, ap length is)

-- no spec fetches the ref if there is none
pub none : WritesNone [] × ¬ (WritesSome [])
none = ((λ k x below at. absurd (omega (arith, below))), λ some. omega (arith, some.2))

pub nothing : verdicts_from 0 [] [] ≡ []
nothing = refl

-- the refs are known if they are read
pub known_refs : (known_by true ≡ known.Listed) × (known_by false ≡ known.Assumed)
known_refs = (refl, refl)
