-- The bytes with a meaning in ref names and refspecs, and the name `HEAD`.
use Rattle.std.specs.Prelude.{ℕ, List, codes}

-- `/`
abbrev pub slash : ℕ
slash = 47

-- `*`
abbrev pub star : ℕ
star = 42

-- `a`, which replaces a star
abbrev pub letter : ℕ
letter = 97

-- `+`
abbrev pub plus : ℕ
plus = 43

-- `^`
abbrev pub caret : ℕ
caret = 94

-- `:`
abbrev pub colon : ℕ
colon = 58

-- `@`
abbrev pub at : ℕ
at = 64

-- `]`
abbrev pub bracket : ℕ
bracket = 93

-- `.`
abbrev pub dot : ℕ
dot = 46

-- `{`
abbrev pub brace : ℕ
brace = 123

-- `HEAD`
abbrev pub head : List ℕ
head = codes "HEAD"
