-- Booleans of Git's configuration, by git-config(1): words in any case, and integers. An integer is read as by
-- strtoimax(3), and a
-- unit may follow it.
use Rattle.std.specs.Prelude.{◌≡◌, ℕ, ◌-◌, ◌*◌, ◌<◌, ◌≤◌, ◌⊎◌, Bool, cond, ◌&&◌, ◌||◌, ◌==◌, nat_lt, List, [], ◌∷◌}
use Rattle.std.specs.Prelude.{map, take, drop, length, slice_index, codes}
use Rattle.std.specs.Char.{to_ascii_lowercase}
use Rattle.std.specs.Str.Parse.{IsNumeral, digits_value}
use Rattle.refspec_request.specs.Settings.{IsKeyWhere}
use Rattle.refspec_request.specs.declared.booleans.Boolean.{Boolean}
use Rattle.refspec_request.specs.declared.booleans.Boolean.TheVariants.{True, False, Bad}

-- white space, by isspace(3): the space, and from tab to carriage return
abbrev pub is_blank : ℕ → Bool
is_blank b = (b == 32) || (nat_lt 8 b && nat_lt b 14)

-- a text from its first byte that isn't white space
abbrev pub after_blanks : List ℕ → List ℕ
after_blanks [] = []
after_blanks (b ∷ rest) = cond (is_blank b) (after_blanks rest) (b ∷ rest)

-- a text behind its sign, if it begins with one
abbrev pub after_sign : List ℕ → List ℕ
after_sign text = drop (cond ((slice_index text 0 == 43) || (slice_index text 0 == 45)) 1 0) text

-- what a unit stands for: k, m and g, in either case; 1 if a byte is none
abbrev pub factor_at : ℕ → ℕ
factor_at b =
    cond ((b == 107) || (b == 75)) 1024 (cond ((b == 109) || (b == 77)) 1048576
    (cond ((b == 103) || (b == 71)) 1073741824 1))

-- the unit at the end of a number, and the number without it
abbrev pub factor_of : List ℕ → ℕ
factor_of number = factor_at (slice_index number (length number - 1))

abbrev pub without_unit : List ℕ → List ℕ
without_unit number = take (length number - cond (factor_of number == 1) 0 1) number

-- whether a number begins with 0x, in either case
abbrev pub is_hex : List ℕ → Bool
is_hex number = (slice_index number 0 == 48) && ((slice_index number 1 == 120) || (slice_index number 1 == 88))

-- its base, and its digits
abbrev pub base_of : List ℕ → ℕ
base_of number = cond (is_hex number) 16 (cond (slice_index number 0 == 48) 8 10)

abbrev pub marked : List ℕ → List ℕ
marked number = drop (cond (is_hex number) 2 0) number

-- digits in a base are a number that fits 32 bits with its unit, whatever its sign
pub record IsInteger (text : List ℕ) (n : ℕ) : Type 0 where
  pub digits : let number = without_unit (after_sign (after_blanks text)) in IsNumeral (base_of number) (marked number)
  pub value : let number = without_unit (after_sign (after_blanks text)) in
      n ≡ digits_value (base_of number) (marked number) * factor_of (after_sign (after_blanks text))
  pub fits : n ≤ 2147483647

-- the words for true
abbrev pub IsYes : List ℕ → Type 0
IsYes text = let lower = map to_ascii_lowercase text in (lower ≡ codes "true") ⊎ (lower ≡ codes "yes")
    ⊎ (lower ≡ codes "on")

-- the words for false, and the empty text
abbrev pub IsNo : List ℕ → Type 0
IsNo text = let lower = map to_ascii_lowercase text in
    (text ≡ []) ⊎ (lower ≡ codes "false") ⊎ (lower ≡ codes "no") ⊎ (lower ≡ codes "off")

abbrev pub IsTruth : List ℕ → Type 0
IsTruth text = IsYes text ⊎ ((n : ℕ) × (0 < n) × IsInteger text n)

abbrev pub IsFalsehood : List ℕ → Type 0
IsFalsehood text = IsNo text ⊎ IsInteger text 0

-- what a text says
abbrev pub Means : List ℕ → Boolean → Type 0
Means text True = IsTruth text
Means text False = IsFalsehood text
Means text Bad = ¬ (IsTruth text) × ¬ (IsFalsehood text)

-- the variables of a remote that Git reads as booleans when it reads the configuration of remotes: git-config(1) has
-- prune,
-- pruneTags, mirror, skipDefaultUpdate and skipFetchAll below remote.<name>. Git prints variables in lower case
abbrev pub IsRemoteBoolean : List ℕ → Type 0
IsRemoteBoolean variable = (variable ≡ codes "prune") ⊎ (variable ≡ codes "prunetags") ⊎ (variable ≡ codes "mirror")
    ⊎ (variable ≡ codes "skipdefaultupdate") ⊎ (variable ≡ codes "skipfetchall")

-- the key is one of these, of any remote
abbrev pub IsBooleanOfRemotes : List ℕ → Type 0
IsBooleanOfRemotes key = IsKeyWhere (codes "remote") (λ name variable. IsRemoteBoolean variable) key

-- the booleans of git-config(1) that each fetch reads: fetch.prune and fetch.pruneTags
abbrev pub IsBooleanOfFetches : List ℕ → Type 0
IsBooleanOfFetches key = (key ≡ codes "fetch.prune") ⊎ (key ≡ codes "fetch.prunetags")
