-- A text in single quotes, byte by byte; whether a text is printable; and pieces in order.
use Rattle.std.proofs.Common.{◌≡◌, ◌≤◌, ◌<◌, ◌+◌, ℕ, List, [], ◌∷◌, ◌++◌, flat_map, get_or, length, take, take_all}
use Rattle.std.proofs.Common.{◌&&◌, Bool, true, false, refl, sym, ap, ◌∙◌}
use Rattle.std.proofs.lemmas.Grind.{flat_map-append}
use Rattle.std.proofs.lemmas.List.{append-nil, take_more}
use Rattle.std.proofs.lemmas.Str.{IsUtf8-from_is_utf8, is_utf8-from_IsUtf8}
use Rattle.std.specs.List.{list_all}
use Rattle.std.specs.Str.{IsUtf8, chars, is_utf8}
use Rattle.refspec_io.proofs.ShownLemmas.{behind}
use Rattle.refspec_commands.specs.Advice.{is_printable, is_shown, within_quotes}

-- one more byte in quotes
pub quotes-next : (text : List ℕ) (i d b : ℕ) (old mid new : List ℕ) → i < length text → b ≡ get_or text i d
    → mid ≡ old ++ (39 ∷ flat_map within_quotes (take i text)) → new ≡ mid ++ within_quotes b
    → new ≡ old ++ (39 ∷ flat_map within_quotes (take (i + 1) text))
quotes-next text i d b old mid new below is before write =
    let step : flat_map within_quotes (take (i + 1) text) ≡ flat_map within_quotes (take i text) ++ within_quotes b =
    ap (flat_map within_quotes) (take_more text i d below)
    ∙ (flat_map-append within_quotes (take i text) (get_or text i d ∷ [])
    ∙ (ap (λ l. flat_map within_quotes (take i text) ++ l) (append-nil (within_quotes (get_or text i d)))
    ∙ ap (λ x. flat_map within_quotes (take i text) ++ within_quotes x) (sym is))) in
    behind old (39 ∷ flat_map within_quotes (take i text)) mid (within_quotes b) new before write
    ∙ ap (λ l. old ++ (39 ∷ l)) (sym step)

-- all bytes
pub quotes-all : (text old new : List ℕ) (i : ℕ) → length text ≤ i
    → new ≡ old ++ (39 ∷ flat_map within_quotes (take i text)) → new ≡ old ++ (39 ∷ flat_map within_quotes text)
quotes-all text old new i long so_far = so_far ∙ ap (λ (l : List ℕ). old ++ (39 ∷ flat_map within_quotes l))
    (take_all i text long)

-- a text that is UTF-8 is printable if none of its characters is a control character, and another isn't
pub printable-utf8 : (text shown : List ℕ) (r : Bool) → shown ≡ text → IsUtf8 text
    → r ≡ list_all is_shown (chars shown) → r ≡ is_printable text
printable-utf8 text shown r same utf8 is = is ∙ (ap (λ x. list_all is_shown (chars x)) same
    ∙ sym (ap (λ b. b && list_all is_shown (chars text)) (is_utf8-from_IsUtf8 text utf8)))

unprintable : (text : List ℕ) (b : Bool) → is_utf8 text ≡ b → ¬ (IsUtf8 text)
    → false ≡ (b && list_all is_shown (chars text))
unprintable text true is none = absurd (none (IsUtf8-from_is_utf8 text is))
unprintable text false is none = refl

pub printable-other : (text : List ℕ) → ¬ (IsUtf8 text) → false ≡ is_printable text
printable-other text none = unprintable text (is_utf8 text) refl none

-- four pieces, appended in order; the last is equal to what was appended
pub four_pieces : (old a one b two c three d x new : List ℕ) → one ≡ old ++ a → two ≡ one ++ b → three ≡ two ++ c
    → x ≡ d → new ≡ three ++ x → new ≡ old ++ (a ++ (b ++ (c ++ d)))
four_pieces old a one b two c three d x new first second third same last =
    behind old a one (b ++ (c ++ d)) new first (behind one b two (c ++ d) new second
    (behind two c three d new third (last ∙ ap (λ l. three ++ l) same)))
