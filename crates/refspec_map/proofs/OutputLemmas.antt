-- The lines of an input, and the answers to them, one after another.
use Rattle.std.proofs.Common.{◌≡◌, ◌≢◌, ◌⊎◌, inl, inr, ℕ, Bool, true, false, ◌||◌, List, [], ◌∷◌, ◌++◌, flat_map}
use Rattle.std.proofs.Common.{length, refl, sym, ap, ◌∙◌, subst, append_assoc, length-append, arith}
use Rattle.std.specs.List.{AllZip}
use Rattle.gix_refspec_text.specs.declared.parsing.Operation.{Operation}
use Rattle.std.proofs.lemmas.List.{append-nil}
use Rattle.gix_refspec.specs.Texts.Words.{Lacks}
use Rattle.gix_refspec.specs.Views.Spec.{reading_of}
use Rattle.refspec_map.specs.Input.{newline, AreLines, IsFirstLine}
use Rattle.refspec_map.specs.declared.output.Answer.{Answer as Made}
use Rattle.refspec_map.specs.declared.output.Answer.TheVariants as made
use Rattle.refspec_map.specs.Output.{Answer, accepted, refused, IsAnswer, answer_line, is_refused, any_refused, IsCanon}
use Rattle.refspec_map.specs.Output.{IsAnsweredBy, AppendsLine, is_refusal}

-- the answer to a line was appended to the old output, and refusal says whether it is refused
record AppendsAnswer (op : Operation) (line old new : List ℕ) (refusal : Bool) : Type 0 where
  answer : Answer
  is : IsAnswer op line answer
  append : new ≡ old ++ answer_line answer
  tells : refusal ≡ is_refused answer

-- any answers to the lines of the rest complete the output so far
abbrev pub Completes : Operation → List ℕ → List ℕ → Bool → List ℕ → Type 0
Completes op input output refusal rest =
    (lines : List (List ℕ)) (answers : List Answer) → AreLines lines rest → AllZip (IsAnswer op) lines answers
    → IsCanon op input (output ++ flat_map answer_line answers) (refusal || any_refused answers)

-- the empty text contains no newline
nothing_ends : (line rest : List ℕ) → [] ≡ line ++ (newline ∷ rest) → ⊥
nothing_ends line rest same = omega (arith, ap length same, length-append line (newline ∷ rest))

-- nor does it have a line
not_of_nothing : (line : List ℕ) (lines : List (List ℕ))
    → ((rest : List ℕ) × ([] ≡ line ++ (newline ∷ rest)) × AreLines lines rest)
    ⊎ ((line ≢ []) × (lines ≡ []) × ([] ≡ line)) → ⊥
not_of_nothing line lines (inl split) = nothing_ends line split.0 split.1
not_of_nothing line lines (inr split) = split.0 (sym split.2)

-- the empty text has no lines
pub no_lines : (lines : List (List ℕ)) → AreLines lines [] → lines ≡ []
no_lines [] split = refl
no_lines (line ∷ lines) split = absurd (not_of_nothing line lines split.1)

lines_more_by : (text line rest : List ℕ) (lines : List (List ℕ)) → text ≢ [] → Lacks newline line → AreLines lines rest
    → ((text ≡ line ++ (newline ∷ rest)) ⊎ ((text ≡ line) × (rest ≡ []))) → (all : List (List ℕ)) × AreLines all text
    × (all ≡ line ∷ lines)
lines_more_by text line rest lines full lacks split (inl ended) =
    (line ∷ lines, (lacks, inl (rest, ended, split)), refl)
lines_more_by text line rest lines full lacks split (inr last) =
    let none = no_lines lines (subst (AreLines lines) last.1 split) in
    (line ∷ lines, (lacks, inr (λ empty. full (last.0 ∙ empty), none, last.0)), refl)

-- whether some line is refused, the next one included
or_more : (a b c d : Bool) → c ≡ b → (a || (b || d)) ≡ ((a || c) || d)
or_more true b c d same = refl
or_more false b c d same = ap (λ x. x || d) (sym same)

-- the first line and the lines of the rest are those of the text
pub lines_more : (text line rest : List ℕ) (lines : List (List ℕ)) → text ≢ [] → IsFirstLine text line rest
    → AreLines lines rest → (all : List (List ℕ)) × AreLines all text × (all ≡ line ∷ lines)
lines_more text line rest lines full first split = lines_more_by text line rest lines full first.0 split first.1

-- the program's answer, whose line was appended, is an answer by the specs
answer_appended : (op : Operation) (line old new : List ℕ) (m : Made) → IsAnsweredBy op line m → AppendsLine m old new
    → AppendsAnswer op line old new (is_refusal m)
answer_appended op line old new (made.Accepted s) is append =
    record { answer = accepted append.0; is = (reading_of s, is, append.1); append = append.2; tells = refl }
answer_appended op line old new (made.Refused name) is append =
    record { answer = refused is.0; is = is.1; append = append is.0 is.2; tells = refl }

-- the answer to the next line was appended
Completes-answer : (op : Operation) (input old new text line rest : List ℕ) (before refusal : Bool) → text ≢ []
    → IsFirstLine text line rest → AppendsAnswer op line old new refusal → Completes op input old before text
    → Completes op input new (before || refusal) rest
Completes-answer op input old new text line rest before refusal full first append completes lines answers split told =
    let lines_of_text = lines_more text line rest lines full first split in
    let whole = completes lines_of_text.0 (append.answer ∷ answers) lines_of_text.1
    (subst (λ (ls : List (List ℕ)). AllZip (IsAnswer op) ls (append.answer ∷ answers)) (sym lines_of_text.2)
    (append.is, told)) in
    let output : old ++ (answer_line append.answer ++ flat_map answer_line answers) ≡ new ++ flat_map answer_line
    answers =
    sym (append_assoc old (answer_line append.answer) (flat_map answer_line answers))
    ∙ ap (λ x. x ++ flat_map answer_line answers) (sym append.append) in
    let tells : (before || (is_refused append.answer || any_refused answers))
    ≡ ((before || refusal) || any_refused answers) =
    or_more before (is_refused append.answer) refusal (any_refused answers) append.tells in
    subst (λ (x : List ℕ). IsCanon op input x ((before || refusal) || any_refused answers)) output
    (subst (λ (b : Bool). IsCanon op input (old ++ (answer_line append.answer ++ flat_map answer_line answers)) b) tells
    whole)

-- the program's answer to the next line was appended
pub Completes-line : (op : Operation) (input old new text line rest : List ℕ) (before refusal : Bool) (m : Made)
    → text ≢ [] → IsFirstLine text line rest → IsAnsweredBy op line m → AppendsLine m old new → refusal ≡ is_refusal m
    → Completes op input old before text → Completes op input new (before || refusal) rest
Completes-line op input old new text line rest before refusal m full first is append tells completes =
    subst (λ (b : Bool). Completes op input new (before || b) rest) (sym tells)
    (Completes-answer op input old new text line rest before (is_refusal m) full first
    (answer_appended op line old new m is append) completes)

-- the empty rest has no refusal
pub or_false : (b : Bool) → (b || false) ≡ b
or_false true = refl
or_false false = refl

-- at the end the output is complete
pub Completes-end : (op : Operation) (input output : List ℕ) (refusal : Bool) (rest : List ℕ) → rest ≡ []
    → Completes op input output refusal rest → IsCanon op input output refusal
Completes-end op input output refusal rest empty completes =
    let whole = completes [] [] empty tt in
    subst (λ (x : List ℕ). IsCanon op input x refusal) (append-nil output)
    (subst (λ (b : Bool). IsCanon op input (output ++ []) b) (or_false refusal) whole)
