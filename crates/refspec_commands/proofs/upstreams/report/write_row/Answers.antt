-- There is a function for each form.
use Rattle.std.proofs.Common.{OnOk, sym, subst}
use Rattle.refspec_io.specs.declared.call.Form.{Form}
use Rattle.refspec_commands.specs.Each.{AddsOne}
use Rattle.refspec_commands.specs.Upstreams.{IsRow}
use Rattle.refspec_commands.specs.UpstreamViews.{tracking_of}
use Rattle.refspec_commands.proofs.upstreams.report.write_row.Goals as goal

pub returns-in-Lines : goal.returns-in-Lines
returns-in-Lines c = subst (λ (f : Form). OnOk c.write_line.result (AddsOne (IsRow f) (tracking_of c.args.row.now)
    c.args.out.now.items c.write_line.new.out.items)) (sym c.in-Lines.is) c.write_line.ensures

pub returns-in-Zeros : goal.returns-in-Zeros
returns-in-Zeros c = subst (λ (f : Form). OnOk c.write_record.result (AddsOne (IsRow f) (tracking_of c.args.row.now)
    c.args.out.now.items c.write_record.new.out.items)) (sym c.in-Zeros.is) c.write_record.ensures

pub returns-in-Json : goal.returns-in-Json
returns-in-Json c = subst (λ (f : Form). OnOk c.write_object.result (AddsOne (IsRow f) (tracking_of c.args.row.now)
    c.args.out.now.items c.write_object.new.out.items)) (sym c.in-Json.is) c.write_object.ensures
