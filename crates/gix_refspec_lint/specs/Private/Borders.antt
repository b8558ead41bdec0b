-- The borders of a text: the words, shorter than it, that it both begins and ends with. Only private functions use
-- these
-- definitions.
use Rattle.std.specs.Prelude.{◌≡◌, ℕ, ◌+◌, ◌-◌, ◌<◌, ◌≤◌, List, length, take, slice_index}
use Rattle.std.specs.List.{AllByRecursion, Contains}
use Rattle.gix_refspec_text.specs.Texts.Words.{EndsWith}

-- the text begins and ends with the same k bytes, and is longer
pub record IsBorder (text : List ℕ) (k : ℕ) : Type 0 where
  pub some : 0 < k
  pub shorter : k < length text
  pub same : EndsWith (take k text) text

-- the lengths of all borders
pub record AreBorders (text lengths : List ℕ) : Type 0 where
  pub each : AllByRecursion (IsBorder text) lengths
  pub all : (k : ℕ) → IsBorder text k → Contains lengths k

-- ---- the table of longest borders, where 0 stands for none

-- the first len bytes of the text end with its first k, and are more
pub record IsBorderAt (text : List ℕ) (len k : ℕ) : Type 0 where
  pub shorter : k < len
  pub repeats : (i : ℕ) → i < k → slice_index text i ≡ slice_index text (len - k + i)

-- they end with no more of its first bytes
pub record IsLongestAt (text : List ℕ) (len k : ℕ) : Type 0 where
  pub is_border : IsBorderAt text len k
  pub longest : (other : ℕ) → k < other → ¬ (IsBorderAt text len other)

-- entry len of the table is the longest border of the first len bytes, for each len up to last
abbrev pub AreLongestTo : List ℕ → List ℕ → ℕ → Type 0
AreLongestTo text table last = (len : ℕ) → 0 < len → len ≤ last → IsLongestAt text len (slice_index table len)
