-- Examples of the definitions of the laws on plans, and what a caller concludes from these laws.
use Rattle.gix_refspec.proofs.Common.{◌<◌, empty_blob, lower_of-empty_blob, branch_to_x, mapping, tag_alone, tag_to_x}
use Rattle.gix_refspec.proofs.Common.{◌≢◌, ℕ, List, [], ◌∷◌, None, Some, codes, refl, subst, arith, AllByRecursion}
use Rattle.gix_refspec.proofs.Common.{Fetch, Lacks, Reading, Reads, printed, Ref, id, Mapped, AreKeptForward, Removed}
use Rattle.gix_refspec.proofs.Common.{IsValidated, AreFixesApart, HaveSourcesByIndex, LacksIn, MappedLacks}
use Rattle.gix_refspec.proofs.Common.{NoControlCharacter, PlansApart, SidesLack}
use Rattle.gix_refspec.proofs.{Common.{SourceLacks, rules}, facts.ValidationFacts.foo_fix}

-- different sources have different items or different specs, and fixes are apart unless they are equal
pub starts : HaveSourcesByIndex (tag_to_x ∷ branch_to_x ∷ [])
    × ¬ (HaveSourcesByIndex (tag_alone ∷ mapping 0 (codes "refs/heads/a") None 1 ∷ []))
    × AreFixesApart (foo_fix ∷ []) × ¬ (AreFixesApart (foo_fix ∷ foo_fix ∷ []))
starts = (search rules, (λ have. search rules), (tt, tt), λ apart. apart.0.0 refl)

-- by the law there is no duplicate mapping or fix, and no two sources have the same indexes
pub none_twice : PlansApart → (g : List Reading) (items : List Ref) (l rest : List Mapped) (out : List Removed)
    → AreKeptForward g items l
    → ¬ (IsValidated g l (tag_to_x ∷ tag_to_x ∷ []) out) × ¬ (IsValidated g l rest (foo_fix ∷ foo_fix ∷ []))
    × ¬ (IsValidated g l (tag_alone ∷ mapping 0 (codes "refs/heads/a") None 1 ∷ []) out)
none_twice law g items l rest out kept = (
  (λ valid. (law g items l _ out kept valid).pairs.0.0 (search rules)),
  (λ valid. starts.3 (law g items l rest _ kept valid).fixed),
  λ valid. starts.1 (law g items l _ out kept valid).starts,
)

-- a mapping lacks a byte that neither side contains. An id contains its digits in lower case
pub lacks : MappedLacks 10 tag_to_x × MappedLacks 10 tag_alone × ¬ (MappedLacks 10 (mapping 0 (codes "a\nb") None 0))
    × ¬ (MappedLacks 10 (mapping 0 (codes "a") (Some (codes "b\n")) 0))
    × SourceLacks 69 (id empty_blob) × ¬ (SourceLacks 101 (id empty_blob))
lacks = (
  search rules,
  search rules,
  (λ lack. lack.0.1.0 refl),
  (λ lack. lack.1.1.0 refl),
  rw lower_of-empty_blob (search rules),
  λ lack. (subst (Lacks 101) lower_of-empty_blob lack).0 refl,
)

-- by the law no source of a fetch contains a newline, no canonical text a tab, and neither 31, the last byte that is
-- covered, and no mapping contains one if no name does
pub none_read : NoControlCharacter
    → ((text : List ℕ) (r : Reading) → Reads Fetch text r → (r.source ≢ Some (codes "a\nb"))
    × (printed r ≢ Some (codes "a\tb")) × (r.source ≢ Some (97 ∷ 31 ∷ [])) × (printed r ≢ Some (97 ∷ 31 ∷ [])))
    × ((g : List Reading) (items : List Ref)
    → (AllByRecursion (SidesLack 10) g → AllByRecursion (λ r. Lacks 10 r.name) items
    → ¬ (AreKeptForward g items (mapping 0 (codes "a\nb") None 0 ∷ [])))
    × (AllByRecursion (SidesLack 31) g → AllByRecursion (λ r. Lacks 31 r.name) items
    → ¬ (AreKeptForward g items (mapping 0 (97 ∷ 31 ∷ []) None 0 ∷ []))))
none_read law = (
  (λ text r reads. let sides = λ (b : ℕ) (below : b < 32). (law.sides b text r below reads).0 in (
    (λ same. (subst (LacksIn 10) same (sides 10 (omega arith))).1.0 refl),
    (λ same. (law.texts 9 text r _ (omega arith) reads same).1.0 refl),
    (λ same. (subst (LacksIn 31) same (sides 31 (omega arith))).1.0 refl),
    λ same. (law.texts 31 text r _ (omega arith) reads same).1.0 refl,
  )),
  λ g items. (
    (λ sides names kept. lacks.2 (law.mapped 10 g items _ (omega arith) sides names kept).0),
    λ sides names kept. (law.mapped 31 g items _ (omega arith) sides names kept).0.0.1.0 refl,
  ),
)
