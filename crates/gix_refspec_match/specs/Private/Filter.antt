-- The filter before the look-ups of names. Only private functions cite these words.
use Rattle.std.specs.Prelude.{◌≡◌, ◌⊎◌, ◌≤◌, ◌-◌, ◌*◌, ◌/◌, ◌%◌, ◌^◌, ℕ, nat_lt, if◌then◌else◌, true, List, codes, drop}
use Rattle.std.specs.Prelude.{length}
use Rattle.std.specs.Int.{from_le_bytes, w32, w64}
use Rattle.gix_refspec_match.specs.declared.bloom.TheConstants.{MIXER}
use Rattle.gix_refspec_match.specs.declared.bloom.NameFilter.{NameFilter}
use Rattle.gix_refspec_match.specs.declared.bloom.ShortTails.{ShortTails}
use Rattle.gix_refspec_match.specs.Private.Bloom.{HasNumber, IsWhole}
use Rattle.gix_refspec_match.specs.Private.Kept.{name_hash}

-- the number of the last eight bytes of a name. Shorter names have 0
abbrev pub tail_number : List ℕ → ℕ
tail_number n = if nat_lt (length n) 8 then 0 else (from_le_bytes w64 (drop (length n - 8) n) * MIXER % 2 ^ 64) / 2 ^ 32

-- each of the Bloom filters is whole
pub record IsWholeFilter (f : NameFilter) : Type 0 where
  pub lengths : IsWhole f.lengths
  pub tails : IsWhole f.tails
  pub hashes : IsWhole f.hashes

-- the length, the last bytes and the hash of the name are there
pub record Passes (f : NameFilter) (n : List ℕ) : Type 0 where
  pub size : HasNumber f.lengths (length n)
  pub tail : HasNumber f.tails (tail_number n)
  pub hash : HasNumber f.hashes (name_hash n)

-- the number of the last four bytes of a name. Shorter names have 0
abbrev pub short_tail_number : List ℕ → ℕ
short_tail_number n = if nat_lt (length n) 4 then 0 else (from_le_bytes w32 (drop (length n - 4) n) * MIXER % 2 ^ 64) /
    2 ^ 32

-- the last four bytes of the partial name are there, or it is known that some are shorter
abbrev pub HasTail : ShortTails → List ℕ → Type 0
HasTail t x = (t.any ≡ true) ⊎ ((4 ≤ length x) × HasNumber t.tails (short_tail_number x))

-- the Bloom filter is whole, and `HEAD` is there
pub record AreWholeTails (t : ShortTails) : Type 0 where
  pub tails : IsWhole t.tails
  pub head : HasNumber t.tails (short_tail_number (codes "HEAD"))
