-- The definitions of ids, at the ids that git hash-object prints for the empty blob, and at other lengths.
use Rattle.gix_refspec_text.proofs.Common.{map, fault_name, rules, ◌==◌, ◌||◌, false, or_parts, eqb-false, ◌≡◌, ℕ, ◌+◌}
use Rattle.gix_refspec_text.proofs.Common.{◌*◌, List, [], ◌∷◌, Some, codes, refl, arith, filter, range_with_len}
use Rattle.gix_refspec_text.proofs.Common.{false≢true, AllPass-from_list_all, Digit, Length, Sha1, Sha256, id_bytes}
use Rattle.gix_refspec_text.proofs.Common.{is_lower_digit, IsSpelledBy, Spells, IsIdText, IsLowerText, IsIdLength}
use Rattle.gix_refspec_text.proofs.Common.{HasIdFault, lower_of}
use Rattle.hex.{specs.Hex.hex_digit_value, proofs.OnLiterals.hex_on_literals}
use Rattle.gix_refspec_text.proofs.lemmas.texts.ObjectIdLemmas.{IsIdText-decoded, IsIdText-sound, Spells-decode_pairs}
use Rattle.gix_refspec_text.proofs.lemmas.texts.ObjectIdLemmas.{digits_of-twice, no_kind}

-- the bytes of the id under SHA-1
abbrev pub empty_blob : List ℕ
empty_blob = 0xe6 ∷ 0x9d ∷ 0xe2 ∷ 0x9b ∷ 0xb2 ∷ 0xd1 ∷ 0xd6 ∷ 0x43 ∷ 0x4b ∷ 0x8b ∷ 0x29 ∷ 0xae ∷ 0x77 ∷ 0x5a ∷ 0xd8
    ∷ 0xc2 ∷ 0xe4 ∷ 0x8c ∷ 0x53 ∷ 0x91 ∷ []

-- the bytes of the id under SHA-256
abbrev empty_blob_sha256 : List ℕ
empty_blob_sha256 = 0x47 ∷ 0x3a ∷ 0x0f ∷ 0x4c ∷ 0x3b ∷ 0xe8 ∷ 0xa9 ∷ 0x36 ∷ 0x81 ∷ 0xa2 ∷ 0x67 ∷ 0xe3 ∷ 0xb1 ∷ 0xe9
    ∷ 0xa7 ∷ 0xdc ∷ 0xda ∷ 0x11 ∷ 0x85 ∷ 0x43 ∷ 0x6f ∷ 0xe1 ∷ 0x41 ∷ 0xf7 ∷ 0x74 ∷ 0x91 ∷ 0x20 ∷ 0xa3 ∷ 0x03 ∷ 0x72
    ∷ 0x18 ∷ 0x13 ∷ []

pub IsIdText-empty_blob : IsIdText (codes "e69de29bb2d1d6434b8b29ae775ad8c2e48c5391") empty_blob
unfolding hex_on_literals
IsIdText-empty_blob = IsIdText-decoded Sha1 (codes "e69de29bb2d1d6434b8b29ae775ad8c2e48c5391") empty_blob refl refl

pub IsIdText-others : IsIdText (codes "E69DE29BB2D1D6434B8B29AE775AD8C2E48C5391") empty_blob
    × IsIdText (codes "473a0f4c3be8a93681a267e3b1e9a7dcda1185436fe141f7749120a303721813") empty_blob_sha256
unfolding hex_on_literals
IsIdText-others = search (rules, IsIdText-decoded Sha1, IsIdText-decoded Sha256)

pub lower_of-empty_blob : lower_of empty_blob ≡ codes "e69de29bb2d1d6434b8b29ae775ad8c2e48c5391"
unfolding hex_on_literals
lower_of-empty_blob = refl

-- of a buffer with 32 bytes, a SHA-1 has the first 20, and a SHA-256 has all
pub bytes_in_front : (id_bytes (record { kind = Sha1; buffer = range_with_len 100 32 }) ≡ range_with_len 100 20)
    × (id_bytes (record { kind = Sha256; buffer = range_with_len 100 32 }) ≡ range_with_len 100 32)
bytes_in_front = (refl, refl)

no_length : (n : ℕ) → (n == 40 || n == 64) ≡ false → ¬ (IsIdLength n)
no_length n none = let both = or_parts (n == 40) (n == 64) none in no_kind n (eqb-false n 40 both.0)
    (eqb-false n 64 both.1)

-- an id has 40 digits or 64, and not 39, 41, 32 or 20
pub lengths : IsIdLength 40 × IsIdLength 64 × ¬ (IsIdLength 39) × ¬ (IsIdLength 41) × ¬ (IsIdLength 32)
    × ¬ (IsIdLength 20)
lengths = search (arith, no_length)

-- digits with these values spell one byte
spelled_value : (b c d high low : ℕ) → hex_digit_value c ≡ Some high → hex_digit_value d ≡ Some low → IsSpelledBy b c d
    → b ≡ 16 * high + low
spelled_value b c d high low high_read low_read by = search (arith)

spelled_by : {b c d : ℕ} (high low : ℕ) → hex_digit_value c ≡ Some high → hex_digit_value d ≡ Some low
    → b ≡ 16 * high + low → IsSpelledBy b c d
spelled_by high low high_read low_read value = record {
  high_value = high;
  low_value = low;
  high_read = high_read;
  low_read = low_read;
  value = value;
}

pub spelled :
    -- `e6`, `E6` and `eE` spell a byte each, `6e` spells another, and `g6` and `6g` don't spell any
    IsSpelledBy 230 101 54 × IsSpelledBy 230 69 54 × IsSpelledBy 238 101 69 × ¬ (IsSpelledBy 230 54 101)
    × ((b : ℕ) → ¬ (IsSpelledBy b 103 54) × ¬ (IsSpelledBy b 54 103))
    -- the digits of each byte are at its index, also those of the last one
    × Spells (codes "e69d") (0xe6 ∷ 0x9d ∷ []) × ¬ (Spells (codes "e69d") (0xe6 ∷ 0x9e ∷ []))
    × ¬ (Spells (codes "e69d") (0x9d ∷ 0xe6 ∷ []))
unfolding hex_on_literals
spelled = (
  spelled_by 14 6 refl refl refl,
  spelled_by 14 6 refl refl refl,
  spelled_by 14 14 refl refl refl,
  (λ by. omega (arith, spelled_value 230 54 101 6 14 refl refl by)),
  (λ b. ((λ by. let none = by.high_read in cc), (λ by. let none = by.low_read in cc))),
  Spells-decode_pairs (codes "e69d") (0xe6 ∷ 0x9d ∷ []) refl,
  (λ spells. omega (arith, spelled_value 0x9e 57 100 9 13 refl refl (spells 1 (omega arith)))),
  (λ spells. omega (arith, spelled_value 0x9d 101 54 14 6 refl refl (spells 0 (omega arith)))),
)

-- a text doesn't spell another id, and digits of another length don't spell any
pub other_texts : ¬ (IsIdText (codes "e69de29bb2d1d6434b8b29ae775ad8c2e48c5390") empty_blob)
    × ((i : List ℕ) → ¬ (IsIdText (codes "e69de2") i))
    × ¬ (IsIdText (codes "e69de29bb2d1d6434b8b29ae775ad8c2e48c5391") [])
other_texts = (
  (λ t. omega (arith, spelled_value 0x91 57 48 9 0 refl refl (t.spelled 19 (omega arith)))),
  (λ i t. no_length 6 refl (t.kind, t.digits)),
  λ t. no_length 0 refl (t.kind, omega (arith, digits_of-twice t.kind, t.bytes)),
)

pub lower_digits :
    -- of the 256 bytes, the digits in lower case
    (filter is_lower_digit (range_with_len 0 256) ≡ codes "0123456789abcdef")
    -- an id has a text in lower case, and its text in upper case isn't one
    × IsLowerText (codes "e69de29bb2d1d6434b8b29ae775ad8c2e48c5391") empty_blob
    × ¬ (IsLowerText (codes "E69DE29BB2D1D6434B8B29AE775AD8C2E48C5391") empty_blob)
lower_digits = (
  refl,
  (
    IsIdText-empty_blob,
    AllPass-from_list_all is_lower_digit (codes "e69de29bb2d1d6434b8b29ae775ad8c2e48c5391")
        refl,
  ),
  λ lower. false≢true (lower.1 0 0 (omega arith)),
)

-- a fault of the length holds the length of the text, and a text of 40 digits doesn't have it; the faults by their
-- names, without the length
pub HasIdFault-length : HasIdFault (codes "e69de2") (Length 6) × ¬ (HasIdFault (codes "e69de2") (Length 5))
    × ¬ (HasIdFault (codes "e69de29bb2d1d6434b8b29ae775ad8c2e48c5391") (Length 40))
    × (map fault_name (Length 6 ∷ Length 39 ∷ Digit ∷ []) ≡ codes "Length" ∷ codes "Length" ∷ codes "Digit" ∷ [])
HasIdFault-length = ((refl, no_length 6 refl), (λ fault. omega (arith, fault.0)), (λ fault. fault.1 (Sha1, refl)), refl)

-- the first byte or the last one may not be a digit; a wrong length is reported first
pub HasIdFault-digit : HasIdFault (codes "g69de29bb2d1d6434b8b29ae775ad8c2e48c5391") Digit
    × HasIdFault (codes "e69de29bb2d1d6434b8b29ae775ad8c2e48c539/") Digit
    × ¬ (HasIdFault (codes "e69de29bb2d1d6434b8b29ae775ad8c2e48c5391") Digit) × ¬ (HasIdFault (codes "g69de2") Digit)
HasIdFault-digit = (
  ((Sha1, refl), (0, omega arith, refl)),
  ((Sha1, refl), (39, omega arith, refl)),
  IsIdText-sound _ empty_blob Digit IsIdText-empty_blob,
  λ fault. no_length 6 refl fault.0,
)
