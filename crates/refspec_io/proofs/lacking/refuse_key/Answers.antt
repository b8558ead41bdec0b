-- Only in JSON an object is appended to the results.
use Rattle.std.proofs.Common.{refl, subst, sym}
use Rattle.refspec_io.specs.declared.call.Form.{Form}
use Rattle.refspec_io.specs.Shown.{KeepsResults}
use Rattle.refspec_io.proofs.ShownLemmas.{KeepsResults-same, on_ok}
use Rattle.refspec_io.proofs.lacking.refuse_key.Goals as goal

pub returns-then-not-lacks_value : goal.returns-then-not-lacks_value
returns-then-not-lacks_value c =
    record { form = refl; kept = KeepsResults-same c.args.report.now.form c.args.report.now.results.items }

pub returns-in-Json : goal.returns-in-Json
returns-in-Json c = on_ok c.write_object.result _ _ c.write_object.ensures (λ kept. record {
  form = refl;
  kept = subst (λ (x : Form). KeepsResults x c.args.report.now.results.items c.write_object.new.out.items)
      (sym c.in-Json.is) kept;
})
