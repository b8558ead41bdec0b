-- Where the first wrong word of a name is, by the index at which its fault is found. Only private functions cite this.
use Rattle.std.specs.Prelude.{◌+◌, ◌-◌, ℕ, min}
use Rattle.gix_refspec_text.specs.declared.name.Error.{Error}
use Rattle.gix_refspec_text.specs.declared.name.Error.TheVariants.{LockSuffix, Asterisk, InvalidByte}

-- the index at which the word with a fault begins, if a pass over the text finds the fault at the index k
abbrev pub word_begins : Error → ℕ → ℕ
word_begins LockSuffix k = k - 5
word_begins Asterisk k = k
word_begins (InvalidByte b) k = k
word_begins _ k = k - 1

-- the index after that word, in a text of n bytes
abbrev pub word_ends : Error → ℕ → ℕ → ℕ
word_ends LockSuffix n k = k
word_ends _ n k = min n (k + 1)
