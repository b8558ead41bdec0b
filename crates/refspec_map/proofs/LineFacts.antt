-- The definitions on lines and on the limit, at inputs on both sides of a border, so that a wrong rule in specs/
-- doesn't check.
use Rattle.std.proofs.Common.{◌≡◌, inl, inr, ℕ, ◌≤◌, ◌<◌, ◌==◌, true, false, ◌||◌, List, [], ◌∷◌, Some, length, codes}
use Rattle.std.proofs.Common.{refl, sym, ap, ◌∙◌, subst, length-append, arith}
use Rattle.std.specs.List.{list_any}
use Rattle.std.proofs.lemmas.Bool.{eqb-false, true≢false}
use Rattle.std.proofs.lemmas.List.{append-nil}
use Rattle.gix_refspec.specs.Texts.Words.{Lacks}
use Rattle.refspec_map.specs.Input.{newline, AreLines, ReadsToEnd, IsTooLong}
use Rattle.refspec_map.proofs.OutputLemmas.{no_lines}
use Rattle.gix_refspec_text.proofs.lemmas.lists.LacksLemmas.{Lacks-here, first_once}

-- a text whose bytes are all tested for a byte, and differ from it, lacks the byte
pub Lacks-tested : (b : ℕ) (x : List ℕ) → list_any (λ c. c == b) x ≡ false → Lacks b x
Lacks-tested b [] none = tt
Lacks-tested b (c ∷ x) none = elim (c == b) as (λ v. (c == b) ≡ v → (v || list_any (λ c. c == b) x) ≡ false
    → Lacks b (c ∷ x)) [
      | true ↦ λ same found. absurd (true≢false found)
      | false ↦ λ other later. (eqb-false c b other, Lacks-tested b x later)
    ] refl none

-- ---- lines

-- an input has one list of lines
pub lines_once : (ls ms : List (List ℕ)) (input : List ℕ) → AreLines ls input → AreLines ms input → ls ≡ ms
lines_once [] ms input split other = sym (no_lines ms (subst (AreLines ms) split other))
lines_once (l ∷ ls) [] input split other = no_lines (l ∷ ls) (subst (AreLines (l ∷ ls)) other split)
lines_once (l ∷ ls) (m ∷ ms) input (in_l, inl (rest, here, more)) (in_m, inl (after, there, later)) =
    let once = first_once newline l m rest after in_l in_m (sym here ∙ there) in
    let same = lines_once ls ms after (subst (AreLines ls) once.1 more) later in
    ap (λ x. x ∷ ls) once.0 ∙ ap (λ xs. m ∷ xs) same
lines_once (l ∷ ls) (m ∷ ms) input (in_l, inl (rest, here, more)) (in_m, inr (some, last, there)) =
    absurd (Lacks-here newline l rest (subst (Lacks newline) (sym there ∙ here) in_m))
lines_once (l ∷ ls) (m ∷ ms) input (in_l, inr (some, last, here)) (in_m, inl (rest, there, more)) =
    absurd (Lacks-here newline m rest (subst (Lacks newline) (sym here ∙ there) in_l))
lines_once (l ∷ ls) (m ∷ ms) input (in_l, inr (some, last, here)) (in_m, inr (full, end, there)) =
    ap (λ x. x ∷ ls) (sym here ∙ there) ∙ ap (λ xs. m ∷ xs) (last ∙ sym end)

-- the empty input has no lines, and a newline alone has one empty line
pub no_line : AreLines [] [] × AreLines ([] ∷ []) (codes "\n")
no_line = (refl, (tt, inl ([], refl, refl)))

-- a carriage return belongs to its line, and the last line may lack its newline
pub two_lines : AreLines (codes "a\r" ∷ codes "b" ∷ []) (codes "a\r\nb")
two_lines = (
  Lacks-tested newline (codes "a\r") refl,
  inl (codes "b", refl, (Lacks-tested newline (codes "b") refl, inr (λ none. cc, refl, refl))),
)

-- a newline at the end doesn't begin another line
pub no_line_more : (lines : List (List ℕ)) → AreLines lines (codes "a\n") → lines ≡ codes "a" ∷ []
no_line_more lines split = lines_once lines (codes "a" ∷ []) (codes "a\n") split (
  Lacks-tested newline (codes "a") refl,
  inl ([], refl, refl),
)

-- ---- the limit of an input

-- an input of 1,048,576 bytes is within the limit
pub at_the_limit : (x : List ℕ) → length x ≡ 1048576 → ReadsToEnd (Some x) (Some []) x
at_the_limit x long = record { taken = sym (append-nil x); ended = refl; within = omega (arith, long) }

pub not_too_long : (x rest : List ℕ) → length x ≡ 1048576 → ¬ (IsTooLong (Some x) (Some rest))
not_too_long x rest long (input, taken, over) =
    let past : 1048576 < length input = over in
    omega (arith, long, ap length taken, length-append input rest, past)

-- and an input of one byte more isn't
pub past_the_limit : (x rest input : List ℕ) → length x ≡ 1048577 → ¬ (ReadsToEnd (Some x) (Some rest) input)
past_the_limit x rest input long read =
    let within : length input ≤ 1048576 = read.within in
    omega (arith, long, ap length read.taken, length-append input rest, ap length read.ended, within)

pub too_long : (x : List ℕ) → length x ≡ 1048577 → IsTooLong (Some x) (Some [])
too_long x long = (x, sym (append-nil x), omega (arith, long))
