-- A Bloom filter. Only private functions cite these words.
use Rattle.std.specs.Prelude.{◌≡◌, ◌<◌, ◌/◌, ◌%◌, ◌^◌, ℕ, length, slice_index_or}
use Rattle.std.specs.Int.{bit_at}
use Rattle.gix_refspec_match.specs.declared.bloom.Bloom.{Bloom}

-- there is a word for each number of so many bits
pub record IsWhole (b : Bloom) : Type 0 where
  pub few : b.bits < 64
  pub all : length b.words.items ≡ 2 ^ b.bits

-- the bit of the number is set
abbrev pub HasNumber : Bloom → ℕ → Type 0
HasNumber b k = bit_at (slice_index_or b.words.items (k % 2 ^ b.bits) 0) (k / 2 ^ b.bits % 64) ≡ 1
