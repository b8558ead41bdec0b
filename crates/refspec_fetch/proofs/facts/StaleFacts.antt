-- Local refs that a fetch deletes or keeps, and how they are written.
use Rattle.std.proofs.Common.{◌≡◌, ℕ, List, [], ◌∷◌, ◌++◌, None, Some, inl, codes, length, refl, ap, arith}
use Rattle.gix_refspec.specs.Matching.Match.{Ref}
use Rattle.gix_refspec_plan.specs.Matching.Stale.{Found}
use Rattle.refspec_io.specs.declared.call.Form.TheVariants as form
use Rattle.refspec_fetch.specs.declared.question.Subject.TheVariants as subject
use Rattle.refspec_fetch.specs.Stale.{AddsDeleted, AreHeaded, deleted_names, kept_refs, name_fields}

abbrev local_ref : List ℕ → Ref
local_ref name = record { name = name; target = []; object = None }

abbrev locals : List Ref
locals = local_ref (codes "refs/x/a") ∷ local_ref (codes "refs/x/b") ∷ local_ref (codes "refs/x/c") ∷ []

-- the last and the first are deleted, and the second spec keeps the one between
abbrev found : List Found
found = record { item = 2; kept_by = None } ∷ record { item = 1; kept_by = Some 1 } ∷ record {
  item = 0;
  kept_by =
      None;
} ∷ []

pub parted : (deleted_names locals found ≡ codes "refs/x/c" ∷ codes "refs/x/a" ∷ [])
    × (kept_refs (codes "refs/*:refs/x/*" ∷ codes "^refs/b" ∷ []) locals found ≡ record {
      name = codes "refs/x/b";
      spec = codes "^refs/b";
    } ∷ [])
parted = (refl, refl)

-- a heading stands above names, and nowhere else
pub headed : AreHeaded (codes "a" ∷ []) (codes "(stale)\n  a\n") × AreHeaded [] []
headed = ((codes "  a\n", (codes "a", [], inl refl, refl, refl), refl), refl)

pub no_heading : ¬ (AreHeaded [] (codes "(stale)\n")) × ¬ (AreHeaded (codes "a" ∷ []) (codes "  a\n"))
    × ¬ (AreHeaded (codes "a" ∷ []) [])
no_heading = (
  (λ is. omega (arith, ap length is)),
  (λ is. omega (arith, ap length is.2)),
  λ is. omega (arith, ap length is.2),
)

-- four fields, of which the second is the name
pub fields : name_fields (codes "ab") ≡ 0 ∷ 97 ∷ 98 ∷ 0 ∷ 0 ∷ 115 ∷ 116 ∷ 97 ∷ 108 ∷ 101 ∷ 0 ∷ []
fields = refl

-- the name alone, if there is nothing else among the results
pub alone : AddsDeleted subject.Stale form.Zeros (codes "ab" ∷ []) (codes "x") (codes "x" ++ (97 ∷ 98 ∷ 0 ∷ []))
    × AddsDeleted subject.Stale form.Lines (codes "ab" ∷ []) (codes "x") (codes "xab\n")
alone = (refl, (codes "ab\n", (codes "ab", [], inl refl, refl, refl), refl))

-- behind updates a heading stands above it, or it has four fields
pub behind : AddsDeleted subject.Both form.Zeros (codes "ab" ∷ []) (codes "x") (codes "x" ++ name_fields (codes "ab"))
    × AddsDeleted subject.Both form.Lines (codes "a" ∷ []) (codes "x") (codes "x(stale)\n  a\n")
    × ¬ (AddsDeleted subject.Both form.Zeros (codes "ab" ∷ []) [] (97 ∷ 98 ∷ 0 ∷ []))
behind = (refl, (codes "(stale)\n  a\n", headed.0, refl), λ is. omega (arith, ap length is))
