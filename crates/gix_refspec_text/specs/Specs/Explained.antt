-- The sentence that explains each fault to a user of Git, and the name of each reason for a refusal.
use Rattle.std.specs.Prelude.{ℕ, List, codes}
use Rattle.gix_refspec_text.specs.declared.name.Error.{Error as NameError}
use Rattle.gix_refspec_text.specs.declared.name.Error.TheVariants as of_name
use Rattle.gix_refspec_text.specs.declared.oid.Error.{Error as IdError}
use Rattle.gix_refspec_text.specs.declared.oid.Error.TheVariants as of_id
use Rattle.gix_refspec_text.specs.declared.parsing.Error.{Error}
use Rattle.gix_refspec_text.specs.declared.parsing.Error.TheVariants as of_text

-- what is wrong with a name
abbrev pub name_explained : NameError → List ℕ
name_explained of_name.Empty = codes "A ref name must not be empty."
name_explained of_name.EmptyComponent =
    codes "A ref name must not begin or end with a slash, or have two slashes in a row."
name_explained of_name.StartsWithDot = codes "No part of a ref name between slashes may begin with a dot."
name_explained of_name.LockSuffix = codes "No part of a ref name between slashes may end with `.lock`."
name_explained of_name.EndsWithDot = codes "A ref name must not end with a dot."
name_explained of_name.RepeatedDot = codes "A ref name must not have two dots in a row."
name_explained of_name.ReflogPortion = codes "A ref name must not have `@{` in it."
name_explained of_name.Asterisk = codes "A ref name must not have a `*` in it."
name_explained (of_name.InvalidByte b) =
    codes "A ref name must not have a control character, a space or one of ~ ^ : ? [ \\ in it."

-- what is wrong with an id
abbrev pub id_explained : IdError → List ℕ
id_explained (of_id.Length len) = codes "An object id has 40 or 64 hexadecimal digits."
id_explained of_id.Digit = codes "An object id has no characters but 0 to 9, a to f and A to F."

-- what is wrong with a refspec
abbrev pub explained : Error → List ℕ
explained of_text.Empty = codes "A refspec for a push must not be empty."
explained of_text.NegativeWithDestination = codes "A refspec that begins with `^` must not have a destination."
explained of_text.NegativeEmpty = codes "A refspec that begins with `^` needs a source after the `^`."
explained of_text.NegativeObjectHash = codes "A refspec that begins with `^` must not have an object id as its source."
explained of_text.NegativePartialName =
    codes "A refspec that begins with `^` needs a full name, which begins with `refs/`."
explained of_text.NegativeGlobPattern = codes "A refspec that begins with `^` must not have a pattern."
explained of_text.InvalidFetchDestination = codes "The destination of a fetch must be the name of a ref."
explained of_text.PushToEmpty = codes "A push needs a destination after the colon."
explained (of_text.PatternUnsupported pattern) = codes "A side of a refspec must not have more than one `*`."
explained of_text.PatternUnbalanced = codes "Either both sides of a refspec have a `*`, or neither has."
explained (of_text.ReferenceName fault) = name_explained fault
explained of_text.Memory = codes "There was not enough memory to read the refspec."

-- the name of the reason, without what its variant holds
abbrev pub reason_name : Error → List ℕ
reason_name of_text.Empty = codes "Empty"
reason_name of_text.NegativeWithDestination = codes "NegativeWithDestination"
reason_name of_text.NegativeEmpty = codes "NegativeEmpty"
reason_name of_text.NegativeObjectHash = codes "NegativeObjectHash"
reason_name of_text.NegativePartialName = codes "NegativePartialName"
reason_name of_text.NegativeGlobPattern = codes "NegativeGlobPattern"
reason_name of_text.InvalidFetchDestination = codes "InvalidFetchDestination"
reason_name of_text.PushToEmpty = codes "PushToEmpty"
reason_name (of_text.PatternUnsupported pattern) = codes "PatternUnsupported"
reason_name of_text.PatternUnbalanced = codes "PatternUnbalanced"
reason_name (of_text.ReferenceName fault) = codes "ReferenceName"
reason_name of_text.Memory = codes "Memory"
