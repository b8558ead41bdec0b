-- Texts that are booleans, and texts that are not, by git-config(1) and strtoimax(3): each was tried with Git.
use Rattle.std.proofs.Common.{ℕ, ◌∷◌, [], codes, arith, rules}
use Rattle.refspec_request.specs.Booleans.{IsInteger, IsNo, IsYes}

-- words in any case
pub words : IsYes (codes "true") × IsYes (codes "YES") × IsYes (codes "oN") × IsNo (codes "False") × IsNo (codes "no")
    × IsNo (codes "OFF") × IsNo []
words = search rules

-- but no other ones
pub no_words : ¬ (IsYes (codes "tru")) × ¬ (IsYes (codes "true ")) × ¬ (IsYes []) × ¬ (IsNo (codes "n"))
    × ¬ (IsNo (codes " ")) × ¬ (IsYes (codes "off")) × ¬ (IsNo (codes "on"))
no_words = search rules

-- an integer in each base, with white space and a sign before it and a unit behind it; up to 31 bits
pub integers : IsInteger (codes "10") 10 × IsInteger (codes "-1") 1 × IsInteger (codes " +2k") 2048
    × IsInteger (codes "0x1F") 31
    × IsInteger (codes "0X1K") 1024 × IsInteger (codes "010") 8 × IsInteger (codes "1M") 1048576
    × IsInteger (codes "1g") 1073741824
    × IsInteger (9 ∷ 49 ∷ []) 1 × IsInteger (codes "2147483647") 2147483647 × IsInteger (codes "0") 0
    × IsInteger (codes "-0k") 0
integers = search (rules, arith)

-- no digit of the base, no digits, two signs, white space elsewhere, two units, and 32 bits
pub no_integers : (n : ℕ) → ¬ (IsInteger (codes "08") n) × ¬ (IsInteger (codes "0x") n) × ¬ (IsInteger (codes "k") n)
    × ¬ (IsInteger [] n)
    × ¬ (IsInteger (codes "+-1") n) × ¬ (IsInteger (codes "- 1") n) × ¬ (IsInteger (codes "1 ") n)
    × ¬ (IsInteger (codes "1kk") n) × ¬ (IsInteger (codes "1t") n)
    × ¬ (IsInteger (codes "2147483648") n) × ¬ (IsInteger (codes "2g") n) × ¬ (IsInteger (codes "maybe") n)
no_integers n = search (rules, arith)
