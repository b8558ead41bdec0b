-- Those that aren't reported are more.
use Rattle.std.proofs.Common.{◌≡◌, ◌-◌, ◌++◌, ℕ, OnOk, subst}
use Rattle.refspec_io.specs.Counts.{more_line}
use Rattle.refspec_io.proofs.counts.Tally.write_more.Goals as goal

pub returns : goal.returns
returns c = subst
    (λ (k : ℕ). OnOk c.write_more.result
    (c.write_more.new.out.items ≡ c.args.out.now.items ++ more_line c.args.what.now (c.args.self.now.count - k)))
    c.reported_count-reported.ensures.reported c.write_more.ensures
