-- How many are reported, and the line on more.
use Rattle.std.proofs.Common.{◌≡◌, true, false, [], ◌++◌, codes, decimal, refl}
use Rattle.refspec_io.specs.declared.call.Form.TheVariants as form
use Rattle.refspec_io.specs.declared.call.Limit.TheVariants as limit
use Rattle.refspec_io.specs.Counts.{few, is_reported, is_within, more_line, reported_count}

-- twenty, or all; in JSON all
pub counts : (few limit.Twenty 20 ≡ 20) × (few limit.Twenty 21 ≡ 20) × (few limit.All 21 ≡ 21)
    × (reported_count form.Lines limit.Twenty 21 ≡ 20) × (reported_count form.Zeros limit.Twenty 21 ≡ 20)
    × (reported_count form.Json limit.Twenty 21 ≡ 21)
counts = (refl, refl, refl, refl, refl, refl)

-- the twentieth is the last one within the limit
pub within : (is_within limit.Twenty 19 ≡ true) × (is_within limit.Twenty 20 ≡ false) × (is_within limit.All 20 ≡ true)
within = (refl, refl, refl)

-- in JSON those behind it are reported too
pub reported : (is_reported form.Lines limit.Twenty 20 ≡ false) × (is_reported form.Zeros limit.Twenty 20 ≡ false)
    × (is_reported form.Lines limit.All 20 ≡ true) × (is_reported form.Json limit.Twenty 20 ≡ true)
reported = (refl, refl, refl, refl)

-- none, or thirteen more
pub more : (more_line (codes "conflict: ") 0 ≡ [])
    × (more_line (codes "conflict: ") 13 ≡ codes "conflict: " ++ (decimal 13 ++ codes " more; `--all` lists them\n"))
more = (refl, refl)
