-- The texts of ids: which texts they are, that each is the text of only one id, and that decoding finds it.
use Rattle.hex.proofs.HexLemmas.{decode_of-digits, decode_sized-twice, IsAscii-encode_with, IsOk-decode_sized}
use Rattle.hex.proofs.HexLemmas.{decode_of-ok, decode_of-same, decode_pairs-ok, decode_sized-encode_lower}
use Rattle.hex.proofs.HexLemmas.{length-encode_with}
use Rattle.hex.specs.Hex.{digit_or_error, ◌>>=◌, IsBytes, decode_of, decode_pairs, decode_sized, encode_with}
use Rattle.hex.specs.Hex.{hex_digit_value, is_hex_digit, lower_digits}
use Rattle.hex.specs.declared.error.FromHexError.{FromHexError}
use Rattle.hex.proofs.Pairs.{cons_byte, decode_pairs-ok_pair, decode_sized-pairs}
use Rattle.gix_refspec_text.proofs.Common.{rules, [], nat_tests, ◌≡◌, ℕ, zero, suc, ◌+◌, ◌*◌, ◌/◌, ◌%◌, ◌<◌, Bool, List}
use Rattle.gix_refspec_text.proofs.Common.{◌∷◌, length, slice_index, take, nat_lt, ◌⊎◌, inl, inr, Option, Some, true}
use Rattle.gix_refspec_text.proofs.Common.{false, Result, Ok, Err, refl, sym, ap, ◌∙◌, subst, arith, ◌++◌, drop, IsOk}
use Rattle.gix_refspec_text.proofs.Common.{MatchBool, MatchResult, AllPass, SomeIndex, list_all, IsUtf8, false≢true}
use Rattle.gix_refspec_text.proofs.Common.{cases_Bool, cases_eq, ltb-true, length-take-le, take-append-le, take_all}
use Rattle.gix_refspec_text.proofs.Common.{All-cons, All-head, All-nil, All-tail, All-weaker, AllPass-from_list_all}
use Rattle.gix_refspec_text.proofs.Common.{Digit, Length, Kind, Sha1, Sha256, HasIdFault, IsIdLength, IsIdText}
use Rattle.gix_refspec_text.proofs.Common.{IsLowerText, IsSpelledBy, Spells, bytes_of, digits_of, is_lower_digit}
use Rattle.gix_refspec_text.proofs.Common.{lower_of, IsId, HasOneFault, IdOrFault, OneLowerText, list_all-from_AllPass}
use Rattle.std.{specs.Result.is_err, proofs.lemmas.Str.IsUtf8-from_ascii, proofs.lemmas.Str.Ascii.IsAscii-from_all}
use Rattle.gix_refspec_text.specs.declared.oid.Error.{Error}

pub digits_of-twice : (kind : Kind) → digits_of kind ≡ 2 * bytes_of kind
digits_of-twice kind = grind arith

Spells-tail : (a b x : ℕ) (t i : List ℕ) → Spells (a ∷ b ∷ t) (x ∷ i) → Spells t i
Spells-tail a b x t i spelled k below =
    let low : 2 * suc k + 1 ≡ suc (suc (2 * k + 1)) = omega arith in
    let high : 2 * suc k ≡ suc (suc (2 * k)) = omega arith in
    rw (low, high) at (spelled (suc k) (omega arith))

Spells-cons : (a b x : ℕ) (t i : List ℕ) → IsSpelledBy x a b → Spells t i → Spells (a ∷ b ∷ t) (x ∷ i)
Spells-cons a b x t i first rest k below = search (arith, rules)

pub decode_pairs-spelled : (n : ℕ) (t i : List ℕ) → length t ≡ 2 * length i → Spells t i → decode_pairs n t ≡ Ok i
unfolding decode_pairs
decode_pairs-spelled n [] [] twice spelled = refl
decode_pairs-spelled n (a ∷ b ∷ t) (x ∷ i) twice spelled =
    let s = spelled 0 (omega arith) in
    decode_pairs-ok_pair n a b x t (rw (s.high_read, s.low_read) (ap Ok (let v = s.value in omega arith)))
    ∙ ap (cons_byte x) (decode_pairs-spelled (n + 2) t i (omega arith) (Spells-tail a b x t i spelled))
decode_pairs-spelled n t i twice spelled = absurd (omega arith)

pair_taken : (a b n : ℕ) (u v : Option ℕ) (q : Result (List ℕ) FromHexError) (i : List ℕ)
    → ((digit_or_error a n u >>= (λ (h : ℕ). digit_or_error b (n + 1) v >>= (λ (l : ℕ). Ok (h * 16 + l)))) >>=
    (λ (x : ℕ). q >>= (λ (r : List ℕ). Ok (x ∷ r)))) ≡ Ok i
    → (h : ℕ) × (l : ℕ) × (r : List ℕ) × (u ≡ Some h) × (v ≡ Some l) × (q ≡ Ok r) × (i ≡ (h * 16 + l) ∷ r)
pair_taken a b n u v q i is = grind arith

decoded_spells : (n : ℕ) (t i : List ℕ) → decode_pairs n t ≡ Ok i → Spells t i
unfolding decode_pairs
decoded_spells n [] i decoded = λ k below. let none : i ≡ [] = cc in absurd (omega (arith, ap length none, below))
decoded_spells n (a ∷ []) i decoded = absurd (cc)
decoded_spells n (a ∷ b ∷ t) i decoded =
    let (h, l, r, high, low, rest, is) = pair_taken a b n (hex_digit_value a) (hex_digit_value b)
    (decode_pairs (n + 2) t) i decoded in
    rw is (Spells-cons a b (h * 16 + l) t r
    (record { high_value = h; low_value = l; high_read = high; low_read = low; value = omega arith })
    (decoded_spells (n + 2) t r rest))

pub Spells-decode_pairs : (t i : List ℕ) → decode_pairs 0 t ≡ Ok i → Spells t i
Spells-decode_pairs t i decoded = decoded_spells 0 t i decoded

decoded_pairs : (kind : Kind) (t i : List ℕ) → length t ≡ digits_of kind → decode_sized t (bytes_of kind) ≡ Ok i
    → decode_pairs 0 t ≡ Ok i
decoded_pairs kind t i digits decoded = let two = digits_of-twice kind in sym
    (decode_sized-pairs t (bytes_of kind) (omega arith) (omega arith)) ∙ decoded

decoded_long : (kind : Kind) (t i : List ℕ) → length t ≡ digits_of kind → decode_sized t (bytes_of kind) ≡ Ok i
    → length i ≡ bytes_of kind
decoded_long kind t i digits decoded =
    omega (arith, digits_of-twice kind, (decode_pairs-ok 0 t i (decoded_pairs kind t i digits decoded)).1)

pub IsIdText-decoded : (kind : Kind) (t i : List ℕ) → length t ≡ digits_of kind → decode_sized t (bytes_of kind) ≡ Ok i
    → IsIdText t i
IsIdText-decoded kind t i digits decoded = search (arith, decoded_long, Spells-decode_pairs, decoded_pairs)

pub decode_of-IsIdText : (t i : List ℕ) → IsIdText t i → decode_of t ≡ Ok i
decode_of-IsIdText t i text = search (arith, digits_of-twice, decode_pairs-spelled)

pub IsIdText-unique : (t i j : List ℕ) → IsIdText t i → IsIdText t j → i ≡ j
IsIdText-unique t i j first second = decode_of-same t i j (decode_of-IsIdText t i first) (decode_of-IsIdText t j second)

pub AllPass-IsIdText : (t i : List ℕ) → IsIdText t i → AllPass is_hex_digit t
AllPass-IsIdText t i text = (decode_of-ok t i (decode_of-IsIdText t i text)).1

pub IsIdText-digits : (t : List ℕ) → IsIdLength (length t) → AllPass is_hex_digit t → (i : List ℕ) × IsIdText t i
IsIdText-digits t (kind, digits) all =
    let two = digits_of-twice kind in
    let made = decode_of-digits t (omega arith) all in
    (made.0, IsIdText-decoded kind t made.0 digits (decode_sized-twice t (bytes_of kind) (omega arith) ∙ made.1))

pub IsIdText-sound : (t i : List ℕ) (e : Error) → IsIdText t i → HasIdFault t e → ⊥
IsIdText-sound t i (Length len) text (same, other) = other (text.kind, text.digits)
IsIdText-sound t i Digit text (len, index) = cc (sym index.2 ∙ AllPass-IsIdText t i text index.0 0 index.1)

has_one_fault : (t : List ℕ) (e : Error) → HasIdFault t e → HasOneFault t
has_one_fault t e fault = record {
  fault = e;
  has = fault;
  only = λ f other. grind arith;
  unread =
      λ i x. IsIdText-sound t i e x fault;
}

digits_or_not : (t : List ℕ) → AllPass is_hex_digit t ⊎ SomeIndex t (λ k. is_hex_digit (slice_index t k) ≡ false)
digits_or_not [] = inl (All-nil (λ c. is_hex_digit c ≡ true))
digits_or_not (c ∷ t) = elim (cases_Bool (is_hex_digit c)) [
  | inr other ↦ inr (0, omega arith, other)
  | inl digit ↦ elim (digits_or_not t) [
    | inl digits ↦ inl (All-cons (λ c. is_hex_digit c ≡ true) c t digit digits)
    | inr (k, below, other) ↦ inr (suc k, omega (arith, below), other)
  ]
]

pub no_kind : (n : ℕ) → (n ≡ 40 → ⊥) → (n ≡ 64 → ⊥) → ¬ (IsIdLength n)
no_kind n other another h = grind arith

length_or_not : (n : ℕ) → IsIdLength n ⊎ ¬ (IsIdLength n)
length_or_not n = elim (cases_eq n 40) [
  | inl same ↦ inl (Sha1, same)
  | inr other ↦
      elim (cases_eq n 64) [ inl same ↦ inl (Sha256, same) | inr another ↦ inr (no_kind n other another) ]
]

pub id_or_fault : (t : List ℕ) → IdOrFault t
id_or_fault t = elim (length_or_not (length t)) [
  | inr other ↦ inr (has_one_fault t (Length (length t)) (refl, other))
  | inl len ↦ elim (digits_or_not t) [
    | inl digits ↦
        let (id, text) = IsIdText-digits t len digits in
        inl (record {
          id = id;
          text = text;
          only = λ j other. IsIdText-unique t j id other text;
          sound =
              λ e. IsIdText-sound t id e text;
        })
    | inr index ↦ inr (has_one_fault t Digit (len, index))
  ]
]

-- a text as long as an id spells one exactly if all its bytes are digits
pub IsId-by_digits : (t : List ℕ) (digits : Bool) → IsIdLength (length t) → digits ≡ list_all is_hex_digit t
    → MatchBool digits (IsId t) (¬ (IsId t))
IsId-by_digits t true size same = IsIdText-digits t size (AllPass-from_list_all is_hex_digit t (sym same))
IsId-by_digits t false size same =
    λ id. false≢true (same ∙ list_all-from_AllPass is_hex_digit t (AllPass-IsIdText t id.0 id.1))

length-room : (kind : Kind) (buffer : List ℕ) → length buffer ≡ 32
    → length (take (bytes_of kind) buffer) ≡ bytes_of kind
length-room kind buffer room = length-take-le (bytes_of kind) buffer (grind arith)

-- so it reads the id, or finds that some byte isn't a digit
reads : (kind : Kind) (t room new : List ℕ) (n : ℕ) (failed : Bool) → n ≡ bytes_of kind → length t ≡ digits_of kind
    → MatchBool failed (¬ (IsOk (decode_sized t (bytes_of kind)))) (decode_sized t (bytes_of kind) ≡ Ok new)
    → MatchBool failed (HasIdFault t Digit) (IsIdText t (take (bytes_of kind) (new ++ drop n room)))
reads kind t room new n true size digits refused =
    elim (digits_or_not t) [
      | inl all ↦ absurd
          (refused ((IsOk-decode_sized t (bytes_of kind)).1 ((let two = digits_of-twice kind in omega arith), all)))
      | inr index ↦ ((kind, digits), index)
    ]
reads kind t room new n false size digits made =
    let long : length new ≡ bytes_of kind = decoded_long kind t new digits made in
    let whole = take-append-le (bytes_of kind) new (drop n room) (omega arith) ∙ take_all (bytes_of kind) new
    (omega arith) in
    subst (IsIdText t) (sym whole) (IsIdText-decoded kind t new digits made)

pub read_id : (kind : Kind) (t room new : List ℕ) (n : ℕ) (r : Result (Unit {0}) FromHexError) → n ≡ bytes_of kind
    → length room ≡ 32 → length t ≡ digits_of kind → MatchResult (decode_sized t (length (take n room)))
    (λ bytes. (r ≡ Ok tt) × (new ≡ bytes)) (λ e. r ≡ Err e) → MatchBool (is_err r) (HasIdFault t Digit)
    (IsIdText t (take (bytes_of kind) (new ++ drop n room)))
read_id kind t room new n r size fits digits told = search (arith, length-room, reads)

pub IsUtf8-lower_of : (i : List ℕ) → IsUtf8 (lower_of i)
IsUtf8-lower_of i =
    let small = All-weaker (λ c. nat_lt c 128 ≡ true) (λ c. c < 128) (λ c h. ltb-true c 128 h) lower_digits
    (AllPass-from_list_all (λ c. nat_lt c 128) lower_digits refl) in
    IsUtf8-from_ascii (lower_of i) (IsAscii-encode_with lower_digits i (IsAscii-from_all lower_digits small))

-- a digit is in lower case, as `AllPass is_lower_digit` says it
abbrev is_lower : ℕ → Type 0
is_lower c = is_lower_digit c ≡ true

AllPass-encode_with : (p : ℕ → Bool) (digits i : List ℕ) → ((d : ℕ) → d < 16 → p (slice_index digits d) ≡ true)
    → IsBytes i → AllPass p (encode_with digits i)
unfolding encode_with
AllPass-encode_with p digits [] each fits = All-nil (λ c. p c ≡ true)
AllPass-encode_with p digits (b ∷ i) each fits =
    let byte : b < 256 = fits 0 in
    let rest = AllPass-encode_with p digits i each (λ k. fits (suc k)) in
    let low = All-cons (λ c. p c ≡ true) (slice_index digits (b % 16)) (encode_with digits i)
    (each (b % 16) (omega arith)) rest in
    All-cons (λ c. p c ≡ true) (slice_index digits (b / 16)) (slice_index digits (b % 16) ∷ encode_with digits i)
    (each (b / 16) (omega arith)) low

pub IsLowerText-lower_of : (kind : Kind) (i : List ℕ) → length i ≡ bytes_of kind → IsBytes i
    → IsLowerText (lower_of i) i
IsLowerText-lower_of kind i size fits =
    let digits : length (lower_of i) ≡ digits_of kind =
    omega (arith, digits_of-twice kind, length-encode_with lower_digits i) in
    let lower = AllPass-encode_with is_lower_digit lower_digits i
    (λ d below. AllPass-from_list_all is_lower_digit lower_digits refl d 0 below) fits in
    (IsIdText-decoded kind (lower_of i) i digits (decode_sized-encode_lower i (bytes_of kind) size fits), lower)

lower_digit : (c v : ℕ) → is_lower_digit c ≡ true → hex_digit_value c ≡ Some v → slice_index lower_digits v ≡ c
lower_digit c v lower read = grind (arith, nat_tests)

lower_text : (t i : List ℕ) → length t ≡ 2 * length i → AllPass is_lower_digit t → Spells t i → t ≡ lower_of i
unfolding encode_with
lower_text [] [] size lower spelled = refl
lower_text (a ∷ b ∷ t) (x ∷ i) size lower spelled =
    let s = spelled 0 (omega arith) in
    let small : s.low_value < 16 = (let read = s.low_read in grind arith) in
    let high : x / 16 ≡ s.high_value = omega (arith, s.value, small) in
    let low : x % 16 ≡ s.low_value = omega (arith, s.value, small) in
    let tail = All-tail is_lower a (b ∷ t) lower in
    let rest = lower_text t i (omega arith) (All-tail is_lower b t tail) (Spells-tail a b x t i spelled) in
    let first = lower_digit a s.high_value (All-head is_lower a (b ∷ t) lower) s.high_read in
    cc (first, lower_digit b s.low_value (All-head is_lower b t tail) s.low_read, rest, high, low)
lower_text t i size lower spelled = absurd (omega arith)

pub lower_of-digits : (t i : List ℕ) → IsIdText t i → AllPass is_lower_digit (lower_of i)
lower_of-digits t i text =
    (IsLowerText-lower_of text.kind i text.bytes (decode_of-ok t i (decode_of-IsIdText t i text)).3).1

IsBytes-take : (n : ℕ) (x : List ℕ) → IsBytes x → IsBytes (take n x)
IsBytes-take zero x fits k = omega arith
IsBytes-take (suc n) [] fits k = omega arith
IsBytes-take (suc n) (b ∷ x) fits zero = fits 0
IsBytes-take (suc n) (b ∷ x) fits (suc k) = IsBytes-take n x (λ j. fits (suc j)) k

pub one_lower_text : (kind : Kind) (buffer : List ℕ) → length buffer ≡ 32 → IsBytes buffer
    → OneLowerText (take (bytes_of kind) buffer)
one_lower_text kind buffer room fits =
    let i = take (bytes_of kind) buffer in
    let lower = IsLowerText-lower_of kind i (length-room kind buffer room) (IsBytes-take (bytes_of kind) buffer fits) in
    record {
      lower = lower;
      only =
          λ t is. lower_text t i (omega (arith, digits_of-twice is.0.kind, is.0.digits, is.0.bytes)) is.1 is.0.spelled;
    }
