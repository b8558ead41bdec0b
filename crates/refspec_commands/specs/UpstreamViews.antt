-- The rows of the report on upstreams as plain data, for contracts of private functions.
use Rattle.std.specs.Prelude.{ℕ, List, option_map}
use Rattle.refspec_io.specs.declared.call.Form.{Form}
use Rattle.refspec_commands.specs.declared.upstreams.advice.Lack.{Lack}
use Rattle.refspec_commands.specs.declared.upstreams.report.Row.{Row}
use Rattle.refspec_commands.specs.Upstreams.{IsLack, IsOther, Tracking}

-- a row
abbrev pub tracking_of : Row → Tracking
tracking_of r = record {
  branch = option_map (λ n. n.now) r.branch;
  name = r.name.now;
  merged = r.merged.now;
  text = option_map (λ t. t.now) r.text;
}

-- what the results have for a branch without an upstream
abbrev pub IsLackOf : Form → Lack → List ℕ → Type 0
IsLackOf f l line =
    IsLack f (option_map (λ n. n.now) l.merged.now.branch) l.merged.now.name.now (option_map (λ n. n.now) l.spec) line

-- what they have where no spec stores the merged ref
abbrev pub IsOtherOf : Form → Lack → List ℕ → Type 0
IsOtherOf f l line = IsOther f l.merged.now.setup (option_map (λ n. n.now) l.merged.now.branch) l.merged.now.name.now
    (option_map (λ n. n.now) l.spec) line
