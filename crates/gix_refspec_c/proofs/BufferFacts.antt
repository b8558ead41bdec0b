-- Examples of the definitions on buffers: with exactly the required size, and with one element less.
use Rattle.std.proofs.Common.{◌≡◌, ◌⊎◌, inl, inr, ℕ, ◌<◌, ◌≤◌, List, [], ◌∷◌, codes, refl, arith}
use Rattle.gix_refspec_c.specs.declared.listing.MappingOut.{MappingOut}
use Rattle.gix_refspec_c.specs.Buffer.{IsWrittenTo, IsTooSmall}
use Rattle.gix_refspec_c.specs.Mapping.{IsNotWritten, IsWritten, Room}

-- ---- one buffer

-- an answer of three bytes fits into three, and leaves the last of four unchanged
pub exact_room : IsWrittenTo (codes "abc") (codes "xyz") (codes "abc") 3 × IsWrittenTo (codes "abc") (codes "wxyz")
    (codes "abcz") 3
exact_room = (
  record { fits = omega arith; write = refl; describes = refl },
  record { fits = omega arith; write = refl; describes = refl },
)

-- an empty answer fits into an empty buffer
pub no_room_needed : IsWrittenTo {X = ℕ} [] [] [] 0
no_room_needed = record { fits = omega arith; write = refl; describes = refl }

-- it doesn't fit into two, whatever they are afterwards
pub one_byte_less : (new : List ℕ) (len : ℕ) → ¬ (IsWrittenTo (codes "abc") (codes "xy") new len)
one_byte_less new len holds = let fits : 3 ≤ 2 = holds.fits in omega (arith, fits)

-- two are too small, and the length is that of the answer
pub small_by_one : IsTooSmall (codes "abc") (codes "xy") (codes "xy") 3
small_by_one = record { long = omega arith; same = refl; describes = refl }

pub small_describes : (len : ℕ) → IsTooSmall (codes "abc") (codes "xy") (codes "xy") len → len ≡ 3
small_describes len small = small.describes

-- three bytes aren't too small
pub exact_is_enough : (new : List ℕ) (len : ℕ) → ¬ (IsTooSmall (codes "abc") (codes "xyz") new len)
exact_is_enough new len small = let long : 3 < 3 = small.long in omega (arith, long)

-- ---- two slices

abbrev pub room : List MappingOut → List ℕ → ℕ → ℕ → Room
room mappings buffer count len = record { mappings = mappings; buffer = buffer; count = count; len = len }

-- one struct and two bytes fit into a slice of one and a buffer of two
pub exact_lists : (m old : MappingOut) (count len : ℕ) → IsWritten (m ∷ []) (codes "ab")
    (room (old ∷ []) (codes "xy") count len) (room (m ∷ []) (codes "ab") 1 2)
exact_lists m old count len = record {
  fits = omega arith;
  text_fits = omega arith;
  mappings = refl;
  buffer = refl;
  count = refl;
  len = refl;
}

-- they don't if the slice or the buffer is one shorter
pub no_struct_less : (m : MappingOut) (count len : ℕ) (after : Room)
    → ¬ (IsWritten (m ∷ []) (codes "ab") (room [] (codes "xy") count len) after)
no_struct_less m count len after write = let fits : 1 ≤ 0 = write.fits in omega (arith, fits)

pub no_byte_less : (m old : MappingOut) (count len : ℕ) (after : Room)
    → ¬ (IsWritten (m ∷ []) (codes "ab") (room (old ∷ []) (codes "x") count len) after)
no_byte_less m old count len after write = let fits : 2 ≤ 1 = write.text_fits in omega (arith, fits)

-- either is then too small, and the counts are the required sizes
pub small_list : (m : MappingOut) (count len : ℕ) → IsNotWritten (m ∷ []) (codes "ab") (room [] (codes "xy") count len)
    (room [] (codes "xy") 1 2)
small_list m count len = record { small = inl (omega arith); mappings = refl; buffer = refl; count = refl; len = refl }

pub small_buffer : (m old : MappingOut) (count len : ℕ) → IsNotWritten (m ∷ []) (codes "ab")
    (room (old ∷ []) (codes "x") count len) (room (old ∷ []) (codes "x") 1 2)
small_buffer m old count len = record {
  small = inr (omega arith);
  mappings = refl;
  buffer = refl;
  count = refl;
  len =
      refl;
}

-- and slices of exactly these sizes aren't
pub exact_lists_are_enough : (m old : MappingOut) (count len : ℕ) (after : Room)
    → ¬ (IsNotWritten (m ∷ []) (codes "ab") (room (old ∷ []) (codes "xy") count len) after)
exact_lists_are_enough m old count len after write = past write.small
  where
    past : (1 < 1) ⊎ (2 < 2) → ⊥
    past (inl long) = omega (arith, long)
    past (inr long) = omega (arith, long)
