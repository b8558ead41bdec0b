-- Laws of the plan of a fetch, for a caller that carries it out. They follow from the definition in Plan, and add no
-- rule.
use Rattle.std.specs.Prelude.{◌≡◌, ◌≢◌, ◌⊎◌, ◌↔◌, ℕ, List, [], ◌∷◌, Some}
use Rattle.std.specs.List.{AllByRecursion, Contains}
use Rattle.gix_refspec_plan.specs.declared.Origin.{Origin}
use Rattle.gix_refspec_plan.specs.declared.Verdict.TheVariants as verdict
use Rattle.gix_refspec_text.specs.Texts.Bytes.{head}
use Rattle.gix_refspec_text.specs.Specs.Reading.{Reading, fetched_alone}
use Rattle.gix_refspec_text.specs.Matching.Match.{Ref}
use Rattle.gix_refspec_match.specs.Matching.Missing.{LacksSource}
use Rattle.gix_refspec_plan.specs.Matching.Plan.{AreNested, IsCarriedOut, IsPlan, Planned, Wish}

-- a wish and the refs of a remote have one plan, at most
abbrev pub OnePlan : Wish → List Ref → Type 0
OnePlan wish refs = (p q : List Planned) (missing others : List Origin) → IsPlan wish refs p missing
    → IsPlan wish refs q others → (p ≡ q) × (missing ≡ others)

-- ---- what is written

-- if both updates are written, it is to different refs, and neither is a directory of the other
abbrev pub AreWrittenApart : Planned → Planned → Type 0
AreWrittenApart p q = p.verdict ≡ verdict.Written → q.verdict ≡ verdict.Written → (d : List ℕ) (e : List ℕ)
    → p.destination ≡ Some d → q.destination ≡ Some e → (d ≢ e) × ¬ (AreNested d e)

-- so it is of any two of the updates
abbrev pub AreWrittenOnce : List Planned → Type 0
AreWrittenOnce [] = Unit {0}
AreWrittenOnce (p ∷ l) = AllByRecursion (AreWrittenApart p) l × AreWrittenOnce l

-- no plan writes a ref twice, nor two of which one is a directory of the other
abbrev pub WritesOnce : Wish → List Ref → Type 0
WritesOnce wish refs = (planned : List Planned) (missing : List Origin) → IsPlan wish refs planned missing
    → AreWrittenOnce planned

-- ---- conflicts

-- the update is written unless another one is in its way: it is neither left out nor overruled
abbrev pub IsToBeWritten : Planned → Type 0
IsToBeWritten p = (p.verdict ≡ verdict.Written)
    ⊎ ((p.verdict ≡ verdict.InConflict) ⊎ (p.verdict ≡ verdict.DirectoryConflict))

-- both updates are to be written, from different sources to the same destination
pub record DoConflict (p q : Planned) : Type 0 where
  pub one : IsToBeWritten p
  pub other : IsToBeWritten q
  pub destination : List ℕ
  pub one_to : p.destination ≡ Some destination
  pub other_to : q.destination ≡ Some destination
  pub differ : p.source ≢ q.source

-- an update of a plan is in conflict exactly if it conflicts with another one
abbrev pub ConflictsExactly : Wish → List Ref → Type 0
ConflictsExactly wish refs = (planned : List Planned) (missing : List Origin) → IsPlan wish refs planned missing
    → AllByRecursion (λ p. (p.verdict ≡ verdict.InConflict) ↔ ((q : Planned) × Contains planned q × DoConflict p q))
    planned

-- ---- whether anything is written

-- the remote has to have the source of the spec: of a given one, or without any of a configured one; with neither, and
-- no
-- merged ref, of `HEAD`
pub data IsRequired (wish : Wish) (r : Reading) : Type 0 where
  by_call : Contains wish.given r → IsRequired wish r
  by_configuration : wish.given ≡ [] → Contains wish.configured r → IsRequired wish r
  by_default : wish.given ≡ [] → wish.configured ≡ [] → wish.merges ≡ [] → r ≡ fetched_alone head → IsRequired wish r

-- a plan is carried out exactly if no such source is missing, and no two updates conflict
abbrev pub CarriedOutExactly : Wish → List Ref → Type 0
CarriedOutExactly wish refs = (planned : List Planned) (missing : List Origin) → IsPlan wish refs planned missing
    → IsCarriedOut planned missing ↔ (((r : Reading) → IsRequired wish r → ¬ (LacksSource refs r))
    × ((p q : Planned) → Contains planned p → Contains planned q → ¬ (DoConflict p q)))
