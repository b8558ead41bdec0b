-- Object ids, which gitglossary(7) calls object names, and the texts that spell them. A text has 40 digits (SHA-1) or
-- 64 (SHA-256), and is read in either case and printed in lower case: this project's own rule, after what Git accepts
-- and prints.
use Rattle.std.specs.Prelude.{◌≡◌, ℕ, ◌+◌, ◌*◌, nat_le, ◌&&◌, ◌||◌, Bool, false, List, length, take, slice_index, codes}
use Rattle.std.specs.Prelude.{Some}
use Rattle.std.specs.List.{AllPass, EachIndex, SomeIndex}
use Rattle.hex.specs.Hex.{encode_lower, hex_digit_value, is_hex_digit}
use Rattle.gix_refspec_text.specs.declared.oid.Error.{Error}
use Rattle.gix_refspec_text.specs.declared.oid.Error.TheVariants.{Digit, Length}
use Rattle.gix_refspec_text.specs.declared.oid.Kind.{Kind}
use Rattle.gix_refspec_text.specs.declared.oid.Kind.TheVariants.{Sha1, Sha256}
use Rattle.gix_refspec_text.specs.declared.oid.ObjectId.{ObjectId}

-- how many bytes an id of the kind has
abbrev pub bytes_of : Kind → ℕ
bytes_of Sha1 = 20
bytes_of Sha256 = 32

-- how many digits spell an id of the kind
abbrev pub digits_of : Kind → ℕ
digits_of Sha1 = 40
digits_of Sha256 = 64

-- the bytes of an id
abbrev pub id_bytes : ObjectId → List ℕ
id_bytes id = take (bytes_of id.kind) id.buffer

-- n digits spell an id of some kind
abbrev pub IsIdLength : ℕ → Type 0
IsIdLength n = (kind : Kind) × (n ≡ digits_of kind)

-- two digits of either case spell the byte b, as `e6` and `E6` spell 230
pub record IsSpelledBy (b high low : ℕ) : Type 0 where
  pub high_value : ℕ
  pub low_value : ℕ
  pub high_read : hex_digit_value high ≡ Some high_value
  pub low_read : hex_digit_value low ≡ Some low_value
  pub value : b ≡ 16 * high_value + low_value

-- the digits of t spell the bytes of i, two for each
abbrev pub Spells : List ℕ → List ℕ → Type 0
Spells t i = EachIndex i (λ k. IsSpelledBy (slice_index i k) (slice_index t (2 * k)) (slice_index t (2 * k + 1)))

-- t is the text of the id with the bytes i, in digits of either case
pub record IsIdText (t i : List ℕ) : Type 0 where
  pub kind : Kind
  pub digits : length t ≡ digits_of kind
  pub bytes : length i ≡ bytes_of kind
  pub spelled : Spells t i

-- why t is not the text of an id
abbrev pub HasIdFault : List ℕ → Error → Type 0
HasIdFault t (Length len) = (len ≡ length t) × ¬ (IsIdLength (length t))
HasIdFault t Digit = IsIdLength (length t) × SomeIndex t (λ k. is_hex_digit (slice_index t k) ≡ false)

-- a digit of `0` to `9` or `a` to `f`
abbrev pub is_lower_digit : ℕ → Bool
is_lower_digit c = nat_le 48 c && nat_le c 57 || nat_le 97 c && nat_le c 102

-- t is the text of the id with the bytes i, in lower case
abbrev pub IsLowerText : List ℕ → List ℕ → Type 0
IsLowerText t i = IsIdText t i × AllPass is_lower_digit t

-- the lower-case text of the id with the bytes i
abbrev pub lower_of : List ℕ → List ℕ
lower_of i = encode_lower i

-- the name of a fault, as it is printed
abbrev pub fault_name : Error → List ℕ
fault_name (Length len) = codes "Length"
fault_name Digit = codes "Digit"
