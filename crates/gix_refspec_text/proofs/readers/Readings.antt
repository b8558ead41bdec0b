-- What a text reads as, and why it is refused, computed for texts whose names pass a test of each byte, so that
-- examples need no witnesses.
use Rattle.gix_refspec_text.proofs.Common.{◌≡◌, ◌≢◌, ℕ, Bool, true, false, not, ◌==◌, ◌&&◌, nat_le, if◌then◌else◌, List}
use Rattle.gix_refspec_text.proofs.Common.{[], ◌∷◌, Option, None, Some, length, refl, sym, subst, unwrap_or, arith}
use Rattle.gix_refspec_text.proofs.Common.{list_any, list_all, true≢false, false≢true, eqb-false, eqb-true, and_parts}
use Rattle.gix_refspec_text.proofs.Common.{and_from, leb-true, le-leb, is_ascii_hexdigit, Refusal, ◌∙◌, IsRefused}
use Rattle.gix_refspec_text.proofs.Common.{AllPass-from_list_all, list_all-from_AllPass, Operation, Push, Fetch, Plain}
use Rattle.gix_refspec_text.proofs.Common.{Pattern, slash, star, plus, caret, colon, Mode, Normal, Forced, Negative}
use Rattle.gix_refspec_text.proofs.Common.{codes, ap, bytes_eq, bytes_eq-Decides, Reading, Reads, IsSigned, AreParts}
use Rattle.gix_refspec_text.proofs.Common.{with_colon, LastLacksColon, LooksLikeObjectHash, named_by, named_or_head}
use Rattle.gix_refspec_text.proofs.Common.{side_of, fetched, pushed, HasShape, or_cases, HasCheckedShape}
use Rattle.gix_refspec_text.proofs.Common.{NoReasonBeforeSource, HasBadDestination, HasBadSource, Never, IsFirstReason}
use Rattle.gix_refspec_text.proofs.Common.{PatternUnbalanced, IsBadSourceFor, Shape, is_some, IsPositive}
use Rattle.gix_refspec_text.proofs.Common.{NegativeWithDestination, PushToEmpty}
use Rattle.gix_refspec_text.proofs.lemmas.parsing.ReadOnceLemmas.{reads_once}
use Rattle.gix_refspec_text.proofs.lemmas.texts.TestedLemmas.{IsName-tested, is_suspect}
use Rattle.gix_refspec_text.proofs.readers.Texts.{Lacks-tested, differ, a_pattern, faulty, is_bad, pattern_fault}
use Rattle.gix_refspec_text.proofs.readers.Texts.{several, is_empty, is_pattern, not_true}
use Rattle.gix_refspec_text.proofs.lemmas.parsing.ReadsLemmas.{fetch_reads, negative_reads, push_alone_reads}
use Rattle.gix_refspec_text.proofs.lemmas.parsing.ReadsLemmas.{push_reads, refused}
use Rattle.gix_refspec_text.proofs.lemmas.parsing.ReasonLemmas.{alone_fine, bad_destination, fetch_source_fine}
use Rattle.gix_refspec_text.proofs.lemmas.parsing.ReasonLemmas.{no_negative, push_source_fine, reason_at_destination}
use Rattle.gix_refspec_text.proofs.lemmas.parsing.ReasonLemmas.{reason_at_source, unbalanced_fetch, unbalanced_push}

-- the sign of a text, and what follows it
abbrev pub sign_of : List ℕ → Mode
sign_of [] = Normal
sign_of (b ∷ x) = if b == plus then Forced else if b == caret then Negative else Normal

abbrev unsigned : List ℕ → List ℕ
unsigned [] = []
unsigned (b ∷ x) = if b == plus then x else if b == caret then x else b ∷ x

signed : (text : List ℕ) → IsSigned (sign_of text) text (unsigned text)
signed text = grind (arith, eqb-true, eqb-false)

-- a text up to its last colon, and what follows that
abbrev cut_at : ℕ → Bool → List ℕ × Option (List ℕ) → List ℕ × Option (List ℕ)
cut_at b p (s, Some d) = (b ∷ s, Some d)
cut_at b true (s, None) = ([], Some s)
cut_at b false (s, None) = (b ∷ s, None)

abbrev cut : List ℕ → List ℕ × Option (List ℕ)
cut [] = ([], None)
cut (b ∷ x) = cut_at b (b == colon) (cut x)

is_cut : (x : List ℕ) → (with_colon (cut x).0 (cut x).1 ≡ x) × LastLacksColon (cut x).0 (cut x).1
is_cut [] = (refl, tt)
is_cut (b ∷ x) = grind (arith, eqb-true, eqb-false, is_cut x)

-- the words of a text
abbrev pub words : List ℕ → List ℕ × Option (List ℕ)
words text = cut (unsigned text)

pub parts_of : (text : List ℕ) → AreParts (sign_of text) (words text).0 (words text).1 text
parts_of text = let both = is_cut (unsigned text) in record {
  signed = subst (IsSigned (sign_of text) text) (sym both.0)
      (signed text);
  last = both.1;
}

-- the shape of a word, if it has one, and the other one
abbrev shape_of : List ℕ → Shape
shape_of x = if is_pattern x then Pattern else Plain

abbrev other : Shape → Shape
other Plain = Pattern
other Pattern = Plain

-- whether a word has a shape, and whether it has it as the source of a push to a destination
abbrev fits : Shape → List ℕ → Bool
fits Plain [] = true
fits Plain (b ∷ x) = not (is_suspect slash (b ∷ x))
fits Pattern x = is_pattern x

fit : (x : List ℕ) (k : Shape) → fits k x ≡ true → HasCheckedShape x k
fit x k so = grind (arith, IsName-tested, a_pattern, not_true)

abbrev starred : Shape → List ℕ → Bool
starred Plain x = not (list_any (λ c. c == star) x)
starred Pattern x = is_pattern x

star_fit : (x : List ℕ) (k : Shape) → starred k x ≡ true → HasShape x k
star_fit x k so = grind (arith, Lacks-tested, a_pattern, not_true)

-- whether it looks like an id
abbrev is_hash : List ℕ → Bool
is_hash x = nat_le 40 (length x) && list_all is_ascii_hexdigit x

pub a_hash : (x : List ℕ) → is_hash x ≡ true → LooksLikeObjectHash x
a_hash x so = grind (arith, and_parts, leb-true, AllPass-from_list_all)

pub no_hash : (x : List ℕ) → is_hash x ≡ false → ¬ (LooksLikeObjectHash x)
no_hash x none hash =
    true≢false (sym (and_from (nat_le 40 (length x)) (list_all is_ascii_hexdigit x) (le-leb 40 (length x) hash.long)
    (list_all-from_AllPass is_ascii_hexdigit x hash.digits)) ∙ none)

not_empty : (s : List ℕ) → not (is_empty s) ≡ true → s ≢ []
not_empty s so same = grind (arith, false≢true)

-- whether no reason before those of the source applies, and then whether the source and, without `^`, the destination
-- are fine
abbrev calm : Operation → Mode → List ℕ → Option (List ℕ) → Bool
calm op Negative s d = not (is_some d)
calm Push Normal [] None = false
calm Push m (b ∷ s) (Some []) = false
calm op m s d = true

abbrev begins : Operation → List ℕ → Option (List ℕ) → Bool
begins Push s (Some d) = starred (shape_of s) s
begins op s d = fits (shape_of s) s

abbrev ends : Operation → Shape → Option (List ℕ) → Bool
ends Push k None = true
ends op k d = fits k (unwrap_or d [])

-- whether the parts have a reading, and that reading
abbrev readable : Operation → Mode → List ℕ → Option (List ℕ) → Bool
readable op Negative s d = not (is_some d) && (not (is_empty s) && (not (is_hash s) && fits (shape_of s) s))
readable op m s d = calm op m s d && (begins op s d && ends op (shape_of s) d)

abbrev made : Operation → Mode → List ℕ → Option (List ℕ) → Reading
made op Negative s d = record { operation = op; mode = Negative; source = side_of (named_by s); destination = None }
made Fetch m s d = fetched m (named_or_head s) (side_of (unwrap_or d []))
made Push m s d = pushed m (side_of (named_by s)) (side_of (unwrap_or d []))

reads_parts : (op : Operation) (m : Mode) (s : List ℕ) (d : Option (List ℕ)) (text : List ℕ) → AreParts m s d text
    → readable op m s d ≡ true → Reads op text (made op m s d)
reads_parts op Negative s None text parts so =
    let fine = and_parts _ _ (and_parts _ _ so).1 in
    negative_reads op s (shape_of s) text (not_empty s (and_parts _ _ so).0) (fit s _ fine.1)
    (no_hash s (not_true _ fine.0)) parts
reads_parts op Negative s (Some d) text parts so = absurd (false≢true so)
reads_parts Fetch m s d text parts so = let both = and_parts _ _ so in fetch_reads m s d (shape_of s) text tt
    (fit s _ both.0) (fit _ _ both.1) parts
reads_parts Push Normal [] None text parts so = absurd (false≢true so)
reads_parts Push Forced [] None text parts so = push_alone_reads Forced [] Plain text tt (λ empty normal. cc) tt parts
reads_parts Push m (b ∷ s) None text parts so =
    push_alone_reads m (b ∷ s) (shape_of (b ∷ s)) text tt (λ empty normal. cc)
    (fit (b ∷ s) (shape_of (b ∷ s)) (and_parts _ _ so).0) parts
reads_parts Push m (b ∷ s) (Some []) text parts so = absurd (false≢true so)
reads_parts Push m s (Some d) text parts so =
    let both = and_parts _ _ so in
    push_reads m s d (shape_of s) text tt (λ some empty. grind arith) (star_fit s (shape_of s) both.0)
    (fit d (shape_of s) both.1) parts

-- the same of a text
abbrev pub is_read : Operation → List ℕ → Bool
is_read op text = readable op (sign_of text) (words text).0 (words text).1

abbrev pub read_by : Operation → List ℕ → Reading
read_by op text = made op (sign_of text) (words text).0 (words text).1

pub reads : {op : Operation} {text : List ℕ} {r : Reading} → is_read op text ≡ true → read_by op text ≡ r
    → Reads op text r
reads {op} {text} {r} so is = subst (Reads op text) is (reads_parts op (sign_of text) (words text).0 (words text).1 text
    (parts_of text) so)

-- and none with other sides
abbrev sides : Reading → List ℕ
sides r = with_colon (unwrap_or r.destination (codes ":")) r.source

pub no_other : {op : Operation} {text : List ℕ} {r : Reading} → is_read op text ≡ true
    → bytes_eq (sides (read_by op text)) (sides r) ≡ false → ¬ (Reads op text r)
no_other {op} {text} {r} so other also = differ _ _ other (ap sides (reads_once op text _ r (reads so refl) also))

-- a text is refused for the first reason to refuse its parts
pub because : {op : Operation} {text : List ℕ} {e : Refusal} → IsFirstReason op (sign_of text) (words text).0
    (words text).1 e → IsRefused op text e
because {op} {text} {e} first = refused op (sign_of text) (words text).0 (words text).1 text e (parts_of text) first

pub reaches : (op : Operation) (m : Mode) (s : List ℕ) (d : Option (List ℕ)) → calm op m s d ≡ true
    → NoReasonBeforeSource op m s d
reaches op m s d so = grind (arith, false≢true)

-- whether a source has to be a name if it isn't a pattern
abbrev need_names : Operation → Option (List ℕ) → Bool
need_names op None = true
need_names Push (Some d) = false
need_names Fetch (Some d) = true

pub bad_for : (op : Operation) (d : Option (List ℕ)) (s : List ℕ) (e : Refusal) → is_bad (need_names op d) s e ≡ true
    → IsBadSourceFor op d s e
bad_for op d s e so = grind (
  arith,
  and_parts,
  or_cases,
  several,
  bytes_eq-Decides,
  Lacks-tested,
  not_true,
  faulty,
  pattern_fault,
  false≢true,
)

fine_source : (op : Operation) (s : List ℕ) (d : Option (List ℕ)) → begins op s d ≡ true → Never (HasBadSource op s d)
fine_source Push s (Some d) so = push_source_fine s d _ (star_fit s _ so)
fine_source Push s None so = alone_fine Push s _ (fit s _ so)
fine_source Fetch s d so = fetch_source_fine s d _ (fit s _ so)

-- the first reason is of the source, of the destination, or of the balance between them
pub at_source : (op : Operation) (m : Mode) (s : List ℕ) (d : Option (List ℕ)) (e : Refusal)
    → (calm op m s d && (not (is_empty s) && is_bad (need_names op d) s e)) ≡ true → IsFirstReason op m s d e
at_source op m s d e so =
    let bad = and_parts _ _ (and_parts _ _ so).1 in
    reason_at_source op m s d e (reaches op m s d (and_parts _ _ so).0)
    (record { source = not_empty s bad.0; refusal = bad_for op d s e bad.1 })

pub bad_end : (d : List ℕ) (e : Refusal) → (not (is_empty d) && is_bad true d e) ≡ true → HasBadDestination (Some d) e
bad_end d e so = let bad = and_parts _ _ so in bad_destination (Some d) e
    (not_empty d bad.0, bad_for Fetch None d e bad.1)

pub at_destination : (op : Operation) (m : Mode) (s d : List ℕ) (e : Refusal)
    → (calm op m s (Some d) && (begins op s (Some d) && (not (is_empty d) && is_bad true d e))) ≡ true
    → IsFirstReason op m s (Some d) e
at_destination op m s d e so =
    let sides = and_parts _ _ (and_parts _ _ so).1 in
    reason_at_destination op m s (Some d) e (reaches op m s (Some d) (and_parts _ _ so).0)
    (fine_source op s (Some d) sides.0) (bad_end d e sides.1)

abbrev uneven : Operation → Mode → List ℕ → Option (List ℕ) → Bool
uneven op Negative s d = false
uneven Push m s None = false
uneven op m s d = calm op m s d && (begins op s d && ends op (other (shape_of s)) d)

pub at_balance : (op : Operation) (m : Mode) (s : List ℕ) (d : Option (List ℕ)) → uneven op m s d ≡ true
    → IsFirstReason op m s d PatternUnbalanced
at_balance op Negative s d so = absurd (false≢true so)
at_balance Push m s None so = absurd (false≢true so)
at_balance Push m (b ∷ s) (Some []) so = absurd (false≢true so)
at_balance Push m s (Some d) so =
    let both = and_parts _ _ so in
    unbalanced_push m s d (shape_of s) (other (shape_of s)) tt (λ some empty. grind arith)
    (star_fit s (shape_of s) both.0) (fit d (other (shape_of s)) both.1) (λ same. grind arith)
at_balance Fetch m s d so = let both = and_parts _ _ so in unbalanced_fetch m s d (shape_of s) (other (shape_of s)) tt
    (fit s (shape_of s) both.0) (fit (unwrap_or d []) (other (shape_of s)) both.1) (λ same. grind arith)

-- or an earlier one
pub negative_with : (op : Operation) (s d : List ℕ) → IsFirstReason op Negative s (Some d) NegativeWithDestination
negative_with op s d = search arith

pub to_nothing : (m : Mode) (b : ℕ) (s : List ℕ) → IsPositive m → IsFirstReason Push m (b ∷ s) (Some []) PushToEmpty
to_nothing m b s pos = grind (arith, no_negative)
