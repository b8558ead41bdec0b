-- The sentence that explains an outcome: that of the library, if it has one.
use Rattle.std.specs.Prelude.{ℕ, List, [], ◌∷◌, ◌++◌, codes}
use Rattle.gix_refspec_text.specs.declared.name.Error.TheVariants as of_name
use Rattle.gix_refspec_text.specs.declared.parsing.Error.TheVariants as of_text
use Rattle.gix_refspec.specs.Specs.Explained.{explained, name_explained}
use Rattle.gix_refspec_c.specs.declared.failure.Failure.{Failure}
use Rattle.gix_refspec_c.specs.declared.failure.Failure.TheVariants as failure

-- a sentence and a NUL
abbrev pub ended : List ℕ → List ℕ
ended sentence = sentence ++ (0 ∷ [])

-- the version of the library, as include/gix_refspec.h has it
abbrev pub version : List ℕ
version = codes "0.3.0"

-- the sentence for a call without a failure
abbrev pub well : List ℕ
well = codes "The call has its answer."

-- the sentence for a failure
abbrev pub said : Failure → List ℕ
said failure.Empty = explained of_text.Empty
said failure.NegativeWithDestination = explained of_text.NegativeWithDestination
said failure.NegativeEmpty = explained of_text.NegativeEmpty
said failure.NegativeObjectHash = explained of_text.NegativeObjectHash
said failure.PushToEmpty = explained of_text.PushToEmpty
said failure.PatternUnsupported = codes "A side of a refspec must not have more than one `*`."
said failure.PatternUnbalanced = explained of_text.PatternUnbalanced
said failure.NameEmpty = name_explained of_name.Empty
said failure.NameEmptyComponent = name_explained of_name.EmptyComponent
said failure.NameStartsWithDot = name_explained of_name.StartsWithDot
said failure.NameLockSuffix = name_explained of_name.LockSuffix
said failure.NameEndsWithDot = name_explained of_name.EndsWithDot
said failure.NameRepeatedDot = name_explained of_name.RepeatedDot
said failure.NameReflogPortion = name_explained of_name.ReflogPortion
said failure.NameAsterisk = name_explained of_name.Asterisk
said failure.NameInvalidByte = name_explained (of_name.InvalidByte 0)
said failure.NoList = codes "Only a request for all refs is safe."
said failure.TooSmall = codes "The buffer has no room for the answer."
said failure.NoMemory = codes "Memory ran out."
said failure.NoOperation = codes "There is no such operation, direction, kind, mode or outcome."
said failure.NeedsIds = codes "A destination is an object id, and names alone don't tell which refs have it."
said failure.InConflict = codes "Several refs would be written to one destination."
said failure.MissingSource = codes "The remote lacks the source of a refspec."
said failure.InvalidId = codes "An object id has 40 or 64 hexadecimal digits."
said failure.OtherParts = codes "The source begins with a sign, or the last part has a colon in it."
