-- The text is a name that is shown, or in JSON a member of an object.
use Rattle.std.proofs.Common.{ℕ, List, [], ◌∷◌, subst, sym}
use Rattle.bstr.specs.Owned.{bstring_bytes}
use Rattle.refspec_io.specs.declared.call.Form.{Form}
use Rattle.refspec_io.specs.Shown.{AddsNames}
use Rattle.refspec_io.proofs.ShownLemmas.{on_ok}
use Rattle.refspec_commands.specs.Canon.{AddsCanonicalName}
use Rattle.refspec_commands.proofs.CanonLemmas.{AddsCanonicalName-shown}
use Rattle.refspec_commands.proofs.specs.report_canonical.Goals as goal

pub returns-in-Json-clause-reported : goal.returns-in-Json-clause-reported
returns-in-Json-clause-reported c =
    let name = bstring_bytes c.in_ok-canonical.canonical in
    on_ok c.write_spec.result _ _ c.write_spec.ensures
    (λ write. (
      name,
      c.in_ok-canonical.ensures,
      subst (λ (f : Form). AddsCanonicalName f c.args.text.now name c.args.report.now.results.items
          c.write_spec.new.out.items) (sym c.in-Json.is) write,
    ))

pub returns-clause-reported : goal.returns-clause-reported
returns-clause-reported c =
    let name = bstring_bytes c.in_ok-canonical.canonical in
    on_ok c.write_name.result _ _ c.write_name.ensures.reported
    (λ reported. (
      name,
      c.in_ok-canonical.ensures,
      AddsCanonicalName-shown c.args.report.now.form c.args.text.now
          name c.args.report.now.results.items c.write_name.new.self.results.items c.in-Lines.is
          (subst (λ (x : List ℕ). AddsNames c.args.report.now.form [] (x ∷ []) c.args.report.now.results.items
          c.write_name.new.self.results.items) c.as_bytes.ensures reported),
    ))
