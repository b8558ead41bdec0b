-- The members of the part are those of the role.
use Rattle.std.proofs.Common.{map, subst}
use Rattle.bstr.specs.Owned.{bstring_bytes}
use Rattle.refspec_io.proofs.ShownLemmas.{on_ok}
use Rattle.refspec_commands.specs.Each.{AddsOne}
use Rattle.refspec_commands.specs.Locals.{IsPart, Part, names_of}
use Rattle.refspec_commands.proofs.LocalLemmas.{part_same}
use Rattle.refspec_commands.proofs.fates.role_report.report_role.Goals as goal

pub returns-clause-reported : goal.returns-clause-reported
returns-clause-reported c =
    let parts = c.args.parts.now in
    let old = c.args.report.now in
    on_ok c.report_part.result _ _ c.report_part.ensures.reported
    (subst (λ (p : Part). AddsOne (IsPart old.form parts.names.question.now.name.now) p old.results.items
    c.report_part.new.report.results.items)
    (part_same (map bstring_bytes parts.names.texts.now) (names_of parts.sources.now) c.args.index c.args.role.now _ _ _
    c.text_at.ensures c.source_in.ensures c.word_on.ensures))
