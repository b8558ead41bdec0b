-- When a run ends with a fault, and what was written before it, at examples on both sides of a border, so
-- that a wrong rule in specs/ doesn't check.
use Rattle.std.proofs.Common.{◌≡◌, ◌≢◌, ◌⊎◌, inl, inr, ℕ, ◌+◌, List, [], ◌∷◌, ◌++◌, Option, None, Some, length, get_or}
use Rattle.std.proofs.Common.{codes, refl, sym, ap, ◌∙◌, subst, length-append, arith}
use Rattle.std.proofs.lemmas.Bool.{eqb-false}
use Rattle.std.proofs.lemmas.List.{append-nil}
use Rattle.gix_refspec_text.specs.declared.parsing.Error.TheVariants as error
use Rattle.gix_refspec.specs.Texts.Bytes.{head}
use Rattle.gix_refspec.specs.Specs.Reading.{Normal}
use Rattle.gix_refspec.specs.Specs.Grammar.{fetched}
use Rattle.gix_refspec.specs.Specs.Refusal.{NegativeEmpty}
use Rattle.gix_refspec.specs.Laws.Reasons.{ReasonRefuses}
use Rattle.gix_refspec_text.specs.declared.parsing.Operation.TheVariants.{Fetch}
use Rattle.refspec_map.specs.declared.command.Command.{Command}
use Rattle.refspec_map.specs.declared.command.Command.TheVariants as command
use Rattle.refspec_map.specs.declared.fault.Fault.{Fault}
use Rattle.refspec_map.specs.declared.fault.Fault.TheVariants as fault
use Rattle.refspec_map.specs.Input.{newline, AreLines, ReadsToEnd}
use Rattle.refspec_map.specs.Line.{IsMalformed, reading, Gives, IsFaultOf, IsFirstFault}
use Rattle.refspec_map.specs.Run.{Explains, IsGood, Leaves}
use Rattle.refspec_map.proofs.FaultLemmas.{no_fault}
use Rattle.refspec_map.proofs.LineLemmas.{malformed}
use Rattle.refspec_map.proofs.FormFacts.{no_spec_first, no_ref_first, no_tag_first}
use Rattle.refspec_map.proofs.LineFacts.{Lacks-tested, lines_once, too_long, not_too_long}
use Rattle.refspec_map.proofs.RunFacts.{nothing_reads, caret_refused}

-- ---- the first bad line

-- an input whose second line is malformed
abbrev two : List ℕ
two = codes "spec \nmain\n"

-- `main` begins with no keyword of a line
not_spec : (text : List ℕ) → codes "main" ≢ codes "spec " ++ text
not_spec = no_spec_first 109 _ (eqb-false 109 115 refl)

main_malformed : IsMalformed (codes "main")
main_malformed = malformed (codes "main") not_spec (no_ref_first 109 _ (eqb-false 109 114 refl))
    (no_tag_first 109 _ (eqb-false 109 116 refl))

spec_gives : Gives (codes "spec ") (reading (fetched Normal head None))
spec_gives = ([], refl, nothing_reads)

two_split : AreLines (codes "spec " ∷ codes "main" ∷ []) two
two_split = (
  Lacks-tested newline (codes "spec ") refl,
  inl (codes "main\n", refl, (Lacks-tested newline (codes "main") refl, inl ([], refl, refl))),
)

second_bad : IsFirstFault two (fault.Line 2)
second_bad = (
  2,
  codes "main",
  record {
    before = codes "spec " ∷ [];
    after = [];
    entries = reading (fetched Normal head None) ∷ [];
    split =
        two_split;
    good = (spec_gives, tt);
    counted = refl;
  },
  (refl, main_malformed),
)

-- `main` isn't the line of a spec, so its fault is that it is malformed
main_fault : (number : ℕ) (f : Fault) → number ≡ 2 → IsFaultOf number (codes "main") f → f ≡ fault.Line 2
main_fault number (fault.Line n) second bad = ap (λ k. fault.Line k) (bad.0 ∙ second)
main_fault number (fault.Spec n error) second bad = absurd (not_spec bad.0 bad.2)
main_fault number fault.TooLong second bad = absurd bad
main_fault number fault.Read second bad = absurd bad
main_fault number fault.Memory second bad = absurd bad
main_fault number fault.Write second bad = absurd bad

fault_at : (before : List (List ℕ)) (line : List ℕ) (after : List (List ℕ)) (number : ℕ) (f : Fault)
    → before ++ (line ∷ after) ≡ codes "spec " ∷ codes "main" ∷ [] → number ≡ length before + 1
    → IsFaultOf number line f → f ≡ fault.Line 2
fault_at [] line after number f same counted bad =
    let first : line ≡ codes "spec " = ap (λ (ls : List (List ℕ)). get_or ls 0 []) same in
    absurd (no_fault (codes "spec ") (reading (fetched Normal head None)) number f spec_gives
    (subst (λ (l : List ℕ). IsFaultOf number l f) first bad))
fault_at (b ∷ []) line after number f same counted bad =
    let second : line ≡ codes "main" = ap (λ (ls : List (List ℕ)). get_or ls 1 []) same in
    main_fault number f counted (subst (λ (l : List ℕ). IsFaultOf number l f) second bad)
fault_at (b ∷ c ∷ before) line after number f same counted bad =
    absurd (omega (arith, ap length same, length-append before (line ∷ after)))

only_second_bad : (f : Fault) → IsFirstFault two f → f ≡ fault.Line 2
only_second_bad f (number, line, reached, bad) =
    fault_at reached.before line reached.after number f
    (lines_once (reached.before ++ (line ∷ reached.after)) (codes "spec " ∷ codes "main" ∷ []) two reached.split
    two_split) reached.counted bad

-- the input that was read to its end is what the reader had
read_whole : (x rest input : List ℕ) → ReadsToEnd (Some x) (Some rest) input → input ≡ x
read_whole x rest input read = sym (read.taken ∙ (ap (λ y. input ++ y) read.ended ∙ append-nil input))

two_read : ReadsToEnd (Some two) (Some []) two
two_read = record { taken = refl; ended = refl; within = omega arith }

-- a matching command reports the second line
pub second_line_reported : Explains command.Lhs (Some two) (Some []) (fault.Line 2)
second_line_reported = (two, two_read, second_bad)

-- the number of a malformed line
abbrev number_of : Fault → ℕ
number_of (fault.Line n) = n
number_of _ = 0

-- and no other line
pub no_other_line_reported : (rest : List ℕ) (n : ℕ) → Explains command.Plan (Some two) (Some rest) (fault.Line n)
    → n ≡ 2
no_other_line_reported rest n (input, read, bad) =
    ap number_of (only_second_bad (fault.Line n)
    (subst (λ (x : List ℕ). IsFirstFault x (fault.Line n)) (read_whole two rest input read) bad))

-- a canon command never reports a line
pub no_line_reported : (old new : Option (List ℕ)) (n : ℕ) → ¬ (Explains command.CanonFetch old new (fault.Line n))
no_line_reported old new n (input, read, bad) = bad

-- a refused spec is reported with the number of its line and the reason
pub refusal_reported : ReasonRefuses Fetch (codes "^") → Explains command.Rhs (Some (codes "spec ^\n")) (Some [])
    (fault.Spec 1 error.NegativeEmpty)
refusal_reported law = (
  codes "spec ^\n",
  record { taken = refl; ended = refl; within = omega arith },
  (
    1,
    codes "spec ^",
    record {
      before = [];
      after = [];
      entries = [];
      split =
          (Lacks-tested newline (codes "spec ^") refl, inl ([], refl, refl));
      good = tt;
      counted = refl;
    },
    (codes "^", refl, refl, (NegativeEmpty, refl, caret_refused law)),
  ),
)

-- to a matching command this input is bad, and to a canon command it is good
pub two_not_good : (rest : List ℕ) → ¬ (IsGood command.Rhs (Some two) (Some rest))
two_not_good rest is =
    is.good (fault.Line 2)
    (subst (λ (x : List ℕ). IsFirstFault x (fault.Line 2)) (sym (read_whole two rest is.input is.read)) second_bad)

pub two_good : IsGood command.CanonPush (Some two) (Some [])
two_good = record { input = two; read = two_read; good = λ f bad. bad }

-- ---- the other faults

-- an input of more than 1,048,576 bytes is too long, whatever the command
pub length_reported : (c : Command) (x : List ℕ) → length x ≡ 1048577 → Explains c (Some x) (Some []) fault.TooLong
length_reported c x long = too_long x long

pub length_not_reported : (c : Command) (x rest : List ℕ) → length x ≡ 1048576
    → ¬ (Explains c (Some x) (Some rest) fault.TooLong)
length_not_reported c x rest long = not_too_long x rest long

-- before a fault nothing was written, unless a write failed
pub nothing_written : (before after : List ℕ) (f : Fault) → Leaves (Some before) (Some after) f → (f ≡ fault.Write)
    ⊎ (after ≡ before)
nothing_written before after fault.Write left = inl refl
nothing_written before after fault.TooLong left = inr left
nothing_written before after fault.Read left = inr left
nothing_written before after (fault.Line n) left = inr left
nothing_written before after (fault.Spec n e) left = inr left
nothing_written before after fault.Memory left = inr left

-- a writer that failed may have taken a part of the output
pub part_written : Leaves (Some []) (Some (codes "ok")) fault.Write
part_written = tt
