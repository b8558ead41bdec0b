-- Examples of the definitions of the laws on fetches, and what a caller concludes from these laws.
use Rattle.gix_refspec_plan.proofs.Common.{inl, inr, false, List, [], ◌∷◌, codes, refl, arith, head, Reading}
use Rattle.gix_refspec_plan.proofs.Common.{fetched_alone, Ref, IsCarriedOut, IsPlan, Planned, Wish, AreWrittenOnce}
use Rattle.gix_refspec_plan.proofs.Common.{CarriedOutExactly, DirectoryConflict, IsToBeWritten, ConflictsExactly}
use Rattle.gix_refspec_plan.proofs.Common.{DoConflict, IsRequired, OnePlan, WritesOnce, Origin, Verdict, Given, Written}
use Rattle.gix_refspec_plan.proofs.Common.{InConflict, Overruled}
use Rattle.gix_refspec_plan.proofs.facts.ExampleLemmas.{every, main_lacking, one_in}
use Rattle.gix_refspec_plan.proofs.facts.{ExampleLemmas.{short, update}, PlanFacts.{bx, directories, from_a, to_y}}

abbrev from_b : Verdict → Planned
from_b v = update bx 1 (Given 1) v

opposed : {v w : Verdict} → IsToBeWritten (from_a v) → IsToBeWritten (from_b w) → DoConflict (from_a v) (from_b w)
opposed one other = record {
  one = one;
  other = other;
  destination = _;
  one_to = refl;
  other_to = refl;
  differ =
      λ same. grind arith;
}

-- only what is written counts, and what has a destination; two sources conflict, but not a source with itself, nor with
-- what is overruled;
-- a name isn't written beside one in its directory, but beside one that only begins with it, and a conflict is one
-- beside a nested update too
pub once : AreWrittenOnce (from_a Written ∷ from_b Overruled ∷ [])
    × ¬ (AreWrittenOnce (from_a Written ∷ from_b Written ∷ []))
    × ¬ (AreWrittenOnce (from_a Written ∷ update to_y 1 (Given 1) Written ∷ []))
    × AreWrittenOnce (from_a Written ∷ update to_y 1 (Given 1) DirectoryConflict ∷ [])
    × DoConflict (from_a InConflict) (from_b DirectoryConflict)
    × DoConflict (from_a InConflict) (from_b Written) × ¬ (DoConflict (from_a Written) (from_a Written))
    × ¬ (DoConflict (from_a Written) (from_b Overruled))
once = (
  (((λ written other d e to also. absurd (cc (other))), tt), (tt, tt)),
  (λ apart. (apart.0.0 refl refl (codes "refs/x") (codes "refs/x") refl refl).0 refl),
  (λ apart. (apart.0.0 refl refl (codes "refs/x") (codes "refs/x/y") refl refl).1 directories.5),
  (((λ written other d e to also. absurd (cc (other))), tt), (tt, tt)),
  opposed (inr (inl refl)) (inr (inr refl)),
  opposed (inr (inl refl)) (inl refl),
  (λ both. both.differ refl),
  (λ both. grind arith),
)

-- by the laws a wish that writes nothing doesn't write a ref too; no plan writes a ref twice; no update is in conflict
-- alone, and of
-- two sources with one destination none is written; nor does a conflict let anything be written
pub by_laws : (wish : Wish) (refs : List Ref) (missing : List Origin)
    → (OnePlan wish refs → IsPlan wish refs [] missing → ¬ (IsPlan wish refs (from_a Written ∷ []) missing))
    × (WritesOnce wish refs → ¬ (IsPlan wish refs (from_a Written ∷ from_b Written ∷ []) missing))
    × (ConflictsExactly wish refs → ¬ (IsPlan wish refs (from_a InConflict ∷ []) missing)
    × ¬ (IsPlan wish refs (from_b Written ∷ from_a InConflict ∷ []) missing))
    × (CarriedOutExactly wish refs → IsPlan wish refs (from_a InConflict ∷ from_b InConflict ∷ []) missing
    → ¬ (IsCarriedOut (from_a InConflict ∷ from_b InConflict ∷ []) missing))
by_laws wish refs missing = (
  (λ law plan other. cc ((law _ _ missing missing plan other).0)),
  (λ law plan. once.1 (law _ missing plan)),
  (λ law. (
    (λ plan. let (q, has, both) = (law _ missing plan).0.0 refl in grind (arith, one_in)),
    (λ plan. cc ((law _ missing plan).0.1 (
      _,
      (1, omega arith, refl),
      record {
        one = inl refl;
        other = inr (inl refl);
        destination = _;
        one_to = refl;
        other_to = refl;
        differ = λ same. grind arith;
      },
    ))),
  )),
  (λ law plan carried. ((law _ missing plan).0 carried).1 _ _ (0, omega arith, refl) (1, omega arith, refl)
      (opposed (inr (inl refl)) (inr (inl refl)))),
)

-- `git fetch origin main`, and `git fetch` with a merged ref
abbrev fetch_main : Wish
fetch_main = record { given = short ∷ []; configured = every ∷ []; merges = []; tags = false }

abbrev fetch_merged : Wish
fetch_merged = record { given = []; configured = []; merges = codes "refs/heads/main" ∷ []; tags = false }

-- a source of the call has to be there, and none of the configuration beside it; without a spec `HEAD`, unless a ref is
-- merged
pub required : IsRequired fetch_main short × ¬ (IsRequired fetch_main every)
    × IsRequired (record { given = []; configured = []; merges = []; tags = false }) (fetched_alone head)
    × ((r : Reading) → ¬ (IsRequired fetch_merged r))
required = (
  IsRequired.by_call (0, omega arith, refl),
  (λ by. grind (arith, one_in)),
  IsRequired.by_default refl refl refl refl,
  λ r by. grind arith,
)

-- by the law nothing is written if the remote has no refs, but a merged ref may be missing
pub missing : (CarriedOutExactly fetch_main [] → (planned : List Planned) (missing : List Origin)
    → IsPlan fetch_main [] planned missing → ¬ (IsCarriedOut planned missing))
    × (CarriedOutExactly fetch_merged [] → (missing : List Origin) → IsPlan fetch_merged [] [] missing
    → IsCarriedOut [] missing)
missing = (
  (λ law planned missing plan carried. ((law planned missing plan).0 carried).0 short required.0 main_lacking),
  (λ law missing plan. (law [] missing plan).1 ((λ r by. absurd (required.3 r by)), λ p q has. grind arith)),
)
