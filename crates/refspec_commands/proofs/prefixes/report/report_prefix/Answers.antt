-- In lines and records the prefix is a name that is shown.
use Rattle.std.proofs.Common.{[], ◌∷◌, ◌++◌, ap, codes, sym, ◌∙◌}
use Rattle.refspec_io.proofs.ShownLemmas.{on_ok}
use Rattle.refspec_commands.specs.declared.prefixes.report.Notation.{Notation}
use Rattle.refspec_commands.specs.Prefixes.{argument, request}
use Rattle.refspec_commands.proofs.PrefixLemmas.{AddsRequests-named}
use Rattle.refspec_commands.proofs.prefixes.report.report_prefix.Goals as goal

pub returns-in-Pattern-clause-reported : goal.returns-in-Pattern-clause-reported
returns-in-Pattern-clause-reported c =
    let p = c.args.prefix.now in
    let same = ap (λ (n : Notation). request n p) (sym c.in-Pattern.is) in
    let name = c.as_slice-in-Pattern.ensures.value ∙ (c.in_ok-push.ensures.items
    ∙ (ap (λ l. l ++ 42 ∷ []) c.in_ok-pattern.ensures.items ∙ same)) in
    on_ok c.write_name.result _ _ c.write_name.ensures.reported
    (AddsRequests-named c.args.notation c.args.report.now.form p
    [] c.as_slice-in-Pattern.result.now c.args.report.now.results.items c.write_name.new.self.results.items
    c.in-Lines.is
    (ap argument (sym c.in-Pattern.is)) name)

pub returns-clause-reported : goal.returns-clause-reported
returns-clause-reported c =
    let p = c.args.prefix.now in
    on_ok c.write_name-in-Argument.result _ _ c.write_name-in-Argument.ensures.reported
    (AddsRequests-named c.args.notation
    c.args.report.now.form p (codes "ref-prefix ") p c.args.report.now.results.items
    c.write_name-in-Argument.new.self.results.items c.in-Lines.is (ap argument (sym c.in-Argument.is))
    (ap (λ (n : Notation). request n p) (sym c.in-Argument.is)))
