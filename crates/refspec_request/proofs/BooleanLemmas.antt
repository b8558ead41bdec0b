-- Steps over white space and over digits.
use Rattle.std.proofs.Common.{◌≡◌, ℕ, ◌+◌, ◌*◌, ◌<◌, ◌≤◌, List, [], ◌∷◌, length, get_or, drop, suc, sym, subst, arith}
use Rattle.std.proofs.Common.{mul-le-mul_right, mul_comm, lt_of_lt_of_le}
use Rattle.std.proofs.Math.Seq.{drop-cons}
use Rattle.std.specs.Char.{digit_value}
use Rattle.std.specs.Str.Parse.{digits_value_after}

-- one digit more makes no number less
grows-once : (base n d : ℕ) → 1 ≤ base → n ≤ n * base + d
grows-once base n d low = let k : 1 * n ≤ base * n = mul-le-mul_right n low in omega (arith, mul_comm n base)

-- nor do more digits
digits_value_after-grows : (base n : ℕ) (digits : List ℕ) → 1 ≤ base → n ≤ digits_value_after base n digits
digits_value_after-grows base n [] low = omega arith
digits_value_after-grows base n (d ∷ digits) low =
    let once : n ≤ n * base + digit_value d = grows-once base n (digit_value d) low in
    let more : n * base + digit_value d ≤ digits_value_after base (n * base + digit_value d) digits =
    digits_value_after-grows base (n * base + digit_value d) digits low in
    omega arith

-- a value that is too great with the next digit is so with all that follow
pub too_great : (base value most i byte digit : ℕ) (digits : List ℕ) → 1 ≤ base → i < length digits → byte
    ≡ get_or digits i 0
    → digit ≡ digit_value byte → most < value * base + digit → most < digits_value_after base value (drop i digits)
too_great base value most i byte digit digits low below is_byte is_digit great =
    let next : ℕ = value * base + digit_value byte in
    let so : most < next = subst (λ d. most < value * base + d) is_digit great in
    let more : next ≤ digits_value_after base next (drop (suc i) digits) =
    digits_value_after-grows base next (drop (suc i) digits) low in
    rw (drop-cons digits i 0 below) (rw (sym is_byte) (lt_of_lt_of_le so more))
