-- How many of many things are reported: at most 20, or all. This project's own rule.
use Rattle.std.specs.Prelude.{ℕ, zero, suc, ◌-◌, Bool, true, nat_lt, List, [], ◌++◌, decimal, codes}
use Rattle.refspec_io.specs.declared.call.Form.{Form}
use Rattle.refspec_io.specs.declared.call.Form.TheVariants as form
use Rattle.refspec_io.specs.declared.call.Limit.{Limit}
use Rattle.refspec_io.specs.declared.call.Limit.TheVariants as limit

-- how many of n are within a limit: all, or at most 20
abbrev pub few : Limit → ℕ → ℕ
few limit.All n = n
few limit.Twenty n = n - (n - 20)

-- how many of n are reported in a form: in JSON all
abbrev pub reported_count : Form → Limit → ℕ → ℕ
reported_count form.Json l n = n
reported_count form.Lines l n = few l n
reported_count form.Zeros l n = few l n

-- whether the one at index k is within a limit
abbrev pub is_within : Limit → ℕ → Bool
is_within limit.All k = true
is_within limit.Twenty k = nat_lt k 20

-- whether the one at index k is reported in a form: in JSON each is
abbrev pub is_reported : Form → Limit → ℕ → Bool
is_reported form.Json l k = true
is_reported form.Lines l k = is_within l k
is_reported form.Zeros l k = is_within l k

-- the line that says how many more there are; nothing for 0
abbrev pub more_line : List ℕ → ℕ → List ℕ
more_line what zero = []
more_line what (suc n) = what ++ (decimal (suc n) ++ codes " more; `--all` lists them\n")
