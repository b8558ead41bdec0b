-- Each member is that of the value.
use Rattle.std.proofs.Common.{Some, ap, option_map, sym, ◌∙◌}
use Rattle.bstr.specs.Owned.{bstring_bytes}
use Rattle.refspec_io.proofs.ShownLemmas.{on_ok}
use Rattle.refspec_commands.proofs.RemoteLemmas.{renamed_object-of, unchanged_object-of}
use Rattle.refspec_commands.proofs.renames.report.write_object.Goals as goal

pub returns-in-Some : goal.returns-in-Some
returns-in-Some c = on_ok c.write_line.result _ _ c.write_line.ensures
    (renamed_object-of c.args.value.now c.as_bytes.result.now c.as_str.result.now c.as_str-in-Some.result.now
    c.args.out.now.items c.write_line.new.out.items
    (ap (option_map bstring_bytes) c.in-Some.is ∙ ap Some (sym c.as_bytes.ensures))
    (c.as_str.ensures.value ∙ c.in_ok-shown.ensures) (c.as_str-in-Some.ensures.value ∙ c.in_ok-renamed-in-Some.ensures))

pub returns : goal.returns
returns c = on_ok c.write_line-in-None.result _ _ c.write_line-in-None.ensures
    (unchanged_object-of c.args.value.now c.as_str-in-None.result.now c.as_str-in-None-2.result.now
    c.args.out.now.items c.write_line-in-None.new.out.items (ap (option_map bstring_bytes) c.in-None.is)
    (c.as_str-in-None.ensures.value ∙ c.in_ok-shown.ensures))
