-- What a caller of a run concludes from the laws on plans and on faults of specs.
use Rattle.std.proofs.Common.{sym, ◌≡◌, ℕ, List, [], ◌∷◌, ◌++◌, Option, Some, codes, length, get_or, map, refl, ap}
use Rattle.std.proofs.Common.{subst, arith, ◌∙◌, length-append}
use Rattle.std.specs.Io.KnownBytes.{Appends}
use Rattle.gix_refspec_text.specs.declared.parsing.Error.TheVariants.{Memory}
use Rattle.gix_refspec.specs.Specs.Reading.{Reading}
use Rattle.gix_refspec.specs.Matching.Match.{Ref}
use Rattle.gix_refspec.specs.Matching.Mappings.{Mapped}
use Rattle.gix_refspec.specs.Matching.Validation.{HaveDistinctDestinations}
use Rattle.gix_refspec.specs.Texts.Words.{Lacks}
use Rattle.std.specs.List.{AllByRecursion}
use Rattle.std.proofs.lemmas.List.{append_cancel_right}
use Rattle.refspec_map.specs.Input.{newline}
use Rattle.refspec_map.specs.declared.command.Command.{Command}
use Rattle.refspec_map.specs.declared.fault.Fault.TheVariants as fault
use Rattle.refspec_map.specs.Matching.{map_line}
use Rattle.refspec_map.specs.Plan.{AreDistinct, IsOneLine, WritesOnce}
use Rattle.refspec_map.specs.Run.{Explains, PlanOnce, SpecIsRefused}
use Rattle.refspec_map.proofs.MatchFacts.{head_planned}

-- distinct lines may have a common prefix; duplicates need not be neighbors
pub distinct : AreDistinct (codes "a" ∷ codes "b" ∷ codes "ab" ∷ [])
    × ¬ (AreDistinct (codes "a" ∷ codes "b" ∷ codes "a" ∷ []))
distinct = (
  (
    (
      (λ same. let first : 98 ≡ 97 = ap (λ (x : List ℕ). get_or x 0 0) same in omega (arith, first)),
      ((λ same. let size : 2 ≡ 1 = ap length same in omega (arith, size)), tt),
    ),
    (((λ same. let size : 2 ≡ 1 = ap length same in omega (arith, size)), tt), (tt, tt)),
  ),
  λ apart. apart.0.1.0 refl,
)

-- a line ends with its only newline
pub one_line : IsOneLine (codes "ab\n") × ¬ (IsOneLine (codes "a\nb\n")) × ¬ (IsOneLine (codes "a"))
one_line = (
  (codes "ab", ((λ same. omega (arith, same)), ((λ same. omega (arith, same)), tt)), refl),
  two_lines,
  no_end,
)
  where
    two_lines : ¬ (IsOneLine (codes "a\nb\n"))
    two_lines (line, lacks, is) =
        (subst (Lacks newline) (append_cancel_right line (codes "a\nb") (newline ∷ []) (sym is)) lacks).1.0 refl

    no_end : ¬ (IsOneLine (codes "a"))
    no_end ([], lacks, is) = let first : 97 ≡ 10 = ap (λ (x : List ℕ). get_or x 0 0) is in omega (arith, first)
    no_end (c ∷ line, lacks, is) = let size = ap length is ∙ length-append (c ∷ line) (newline ∷ []) in omega
        (arith, size)

-- by the law no two written mappings have the same destination
pub no_destination_twice : (g : List Reading) (items : List Ref) (output : List ℕ) (w : WritesOnce g items output)
    (m n : Mapped) (d : List ℕ) → m.destination ≡ Some d → n.destination ≡ Some d → ¬ (w.rest ≡ m ∷ n ∷ [])
no_destination_twice g items output w m n d to also is = (subst HaveDistinctDestinations is w.apart).0.0 (d, to, also)

-- nor is the line of a mapping or of a fix duplicated
pub no_mapping_twice : (g : List Reading) (items : List Ref) (output : List ℕ) (w : WritesOnce g items output)
    (m : Mapped) → ¬ (w.rest ≡ m ∷ m ∷ [])
no_mapping_twice g items output w m is =
    (subst (λ (ms : List Mapped). AreDistinct (map map_line ms ++ w.fixed)) is w.once).0.0 refl

pub no_fix_twice : (g : List Reading) (items : List Ref) (output : List ℕ) (w : WritesOnce g items output)
    (line : List ℕ) → w.rest ≡ [] → ¬ (w.fixed ≡ line ∷ line ∷ [])
no_fix_twice g items output w line none is =
    (subst AreDistinct is (subst (λ (ms : List Mapped). AreDistinct (map map_line ms ++ w.fixed)) none w.once)).0.0 refl

-- nor is a line written without its newline
pub no_open_line : (g : List Reading) (items : List Ref) (output : List ℕ) (w : WritesOnce g items output) → w.rest ≡ []
    → ¬ (w.fixed ≡ codes "a" ∷ [])
no_open_line g items output w none is =
    one_line.2 (subst (AllByRecursion IsOneLine) is
    (subst (λ (ms : List Mapped). AllByRecursion IsOneLine (map map_line ms ++ w.fixed)) none w.whole)).0

-- the law applies to the plan that maps `HEAD`
pub head_once : PlanOnce → (g : List Reading) × (items : List Ref) × (output : List ℕ)
    × Appends (Some []) (Some (codes "map\t0\t0\tHEAD\n")) output × WritesOnce g items output
head_once law = let (input, output, read, written, matching) = law _ _ _ _ head_planned in
    (_, _, output, written, matching.is)

-- by the law the error in the fault of a spec is never `Memory`
pub no_memory_told : SpecIsRefused → (c : Command) (old new : Option (List ℕ)) (number : ℕ)
    → ¬ (Explains c old new (fault.Spec number Memory))
no_memory_told law c old new number told = (law c old new number Memory told).0 refl
