-- The members of the object are the location and the bytes of the record.
use Rattle.std.proofs.Common.{subst, sym, ◌∙◌}
use Rattle.refspec_io.specs.Messages.{IsLocation}
use Rattle.refspec_io.specs.Refs.{bad_bytes}
use Rattle.refspec_io.specs.declared.call.Form.TheVariants as form
use Rattle.refspec_io.proofs.MalformedLemmas.{malformed_line-of}
use Rattle.refspec_io.proofs.ShownLemmas.{on_ok}
use Rattle.refspec_io.proofs.malformed.write_malformed.Goals as goal

pub returns : goal.returns
returns c =
    let at = subst (IsLocation form.Json c.args.location.now) (sym c.as_str.ensures.value) c.in_ok-location.ensures in
    on_ok c.write_line.result _ _ c.write_line.ensures
    (malformed_line-of c.args.location.now (bad_bytes c.args.bad.now) c.as_str.result.now c.as_str-2.result.now
    c.why_malformed.result.0.now c.why_malformed.result.1.now c.args.out.now.items c.write_line.new.out.items at
    (c.as_str-2.ensures.value ∙ c.in_ok-text.ensures))
