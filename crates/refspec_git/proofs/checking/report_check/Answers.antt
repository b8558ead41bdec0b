-- What is found is counted.
use Rattle.std.proofs.Common.{◌≡◌, ◌∙◌, ◌+◌, ◌-◌, ◌^◌, ap, arith, length, min, subst, ℕ}
use Rattle.refspec_git.specs.Checking.{PrintsFound}
use Rattle.refspec_git.proofs.checking.report_check.Goals as goal

pub returns-clause-ok : goal.returns-clause-ok
returns-clause-ok g c =
    let w = g.M.Machine.world c.args.machine.now in
    let chosen = c.in_ok-chosen.chosen in
    let found = c.in_ok-found.found in
    let many : c.len.result + c.len-2.result ≡ length found.values.items + length chosen.specs.items =
    omega (
      arith,
      c.len.ensures,
      c.len-2.ensures,
      found.values.ok.0,
      found.values.ok.1,
      chosen.specs.ok.0,
      chosen.specs.ok.1,
    ) in
    record {
      chosen = chosen;
      found = found;
      chooses = c.in_ok-chosen.ensures.ok;
      finds = c.in_ok-found.ensures;
      prints = subst (λ (n : ℕ). PrintsFound w c.args.request.now found n c.in_ok-output.output)
          (c.saturating_add-count.ensures ∙ ap (λ (n : ℕ). min n (2 ^ 64 - 1)) many) c.in_ok-output.ensures;
    }
