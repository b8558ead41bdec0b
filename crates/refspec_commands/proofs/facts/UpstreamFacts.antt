-- Upstreams in rows, and branches without one.
use Rattle.std.proofs.Common.{◌≡◌, ℕ, Bor, List, [], ◌∷◌, ◌++◌, None, Some, ap, arith, codes, length, refl}
use Rattle.gix_refspec_remote.specs.Upstream.{tracked, excluded, not_stored, not_fetched}
use Rattle.refspec_io.specs.declared.call.Form.TheVariants as form
use Rattle.refspec_commands.specs.declared.upstreams.question.Setup.TheVariants as setup
use Rattle.refspec_commands.specs.Upstreams.{HasUpstream, IsReport, IsRow, IsTextAt, Tracking, spec_named}

-- the spec that an upstream is due to; for an excluded ref that is the negative one
pub named : (spec_named (tracked (codes "u") 1) ≡ Some 1) × (spec_named (excluded 0 2) ≡ Some 2)
    × (spec_named (not_stored 3) ≡ Some 3) × (spec_named not_fetched ≡ None)
named = (refl, refl, refl, refl)

-- without a spec there is no text
pub text : IsTextAt [] None [] × ¬ (IsTextAt [] None (codes "a"))
text = (refl, λ is. omega (arith, ap length is))

pub has : HasUpstream setup.Remote (tracked (codes "u") 0) × ¬ (HasUpstream setup.Remote (excluded 0 1))
    × ¬ (HasUpstream setup.Remote (not_stored 0)) × ¬ (HasUpstream setup.Remote not_fetched)
has = (tt, λ x. x, λ x. x, λ x. x)

-- one that is merged from here always has one, and one that is merged from nowhere none
pub here : ((name : Bor (List ℕ)) → HasUpstream (setup.Here name) (excluded 0 1)
    × HasUpstream (setup.Here name) not_fetched)
    × ¬ (HasUpstream setup.NoRemote not_fetched) × ¬ (HasUpstream setup.NoMerge not_fetched)
here = (λ name. (tt, tt), λ x. x, λ x. x)

-- an upstream of a branch without a name, and of the branch `b`
abbrev alone : Tracking
alone = record { branch = None; name = codes "u"; merged = codes "m"; text = Some (codes "m:u") }

abbrev of_branch : Tracking
of_branch = record { branch = Some (codes "b"); name = codes "u"; merged = codes "m"; text = Some (codes "m:u") }

-- a ref of this repository that a branch merges
abbrev unstored : Tracking
unstored = record { branch = Some (codes "b"); name = codes "m"; merged = codes "m"; text = None }

-- the field of the branch comes first
pub row : IsRow form.Zeros alone (codes "u" ++ 0 ∷ (codes "m" ++ 0 ∷ (codes "m:u" ++ 0 ∷ [])))
    × IsRow form.Zeros of_branch (codes "b" ++ 0 ∷ (codes "u" ++ 0 ∷ (codes "m" ++ 0 ∷ (codes "m:u" ++ 0 ∷ []))))
row = (refl, refl)

-- without a spec its field is empty
pub without_spec : IsRow form.Zeros unstored (codes "b" ++ 0 ∷ (codes "m" ++ 0 ∷ (codes "m" ++ 0 ∷ (0 ∷ []))))
without_spec = refl

pub not_row : ¬ (IsRow form.Zeros of_branch (codes "u" ++ 0 ∷ (codes "m" ++ 0 ∷ (codes "m:u" ++ 0 ∷ []))))
not_row is = omega (arith, ap length is)

-- what is found is a row, and a lack is nothing but in JSON
pub reported : IsReport form.Zeros setup.Remote None (codes "m") (tracked (codes "u") 0) (codes "m:u")
    (codes "u" ++ 0 ∷ (codes "m" ++ 0 ∷ (codes "m:u" ++ 0 ∷ [])))
    × IsReport form.Zeros setup.Remote None (codes "m") (excluded 0 1) (codes "^m") []
    × IsReport form.Lines setup.Remote None (codes "m") (not_stored 0) (codes "m") []
    × IsReport form.Lines setup.NoRemote None (codes "m") not_fetched [] []
reported = (refl, refl, refl, refl)

pub not_reported :
    ¬ (IsReport form.Zeros setup.Remote None (codes "m") (excluded 0 1) (codes "^m") (codes "^m" ++ 0 ∷ []))
not_reported is = omega (arith, ap length is)
