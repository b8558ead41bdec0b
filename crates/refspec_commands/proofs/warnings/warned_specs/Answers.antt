-- Each text adds its object.
use Rattle.std.proofs.Common.{[], map}
use Rattle.gix_refspec_text.specs.declared.parsing.Operation.TheVariants as operation
use Rattle.refspec_json.specs.Views.{warned_texts}
use Rattle.refspec_io.specs.declared.texts.Location.TheVariants as location
use Rattle.refspec_io.specs.declared.texts.Text.{Text}
use Rattle.refspec_io.specs.Texts.{given_of}
use Rattle.refspec_commands.specs.Warned.{IsWarned}
use Rattle.refspec_io.proofs.CheckedLemmas.{zip_mapped_all}
use Rattle.refspec_commands.proofs.WarnedLemmas.{zip_mapped_or}
use Rattle.refspec_commands.proofs.warnings.warned_specs.Goals as goal

abbrev none : Text
none = record {
  location = location.Argument 0;
  operation = operation.Push;
  bytes = record { ref_ptr = (0, 0); now = [] };
}

pub loop-text-preserved : goal.loop-text-preserved
loop-text-preserved c = zip_mapped_or IsWarned given_of warned_texts c.args.texts.now c.loop-text.text-index none
    c.loop-text.specs.items c.push.new.self.items _ c.loop-text-test.true c.loop-text.invariant
    (record { location = c.in_ok-shown_location.ensures; text = c.in_ok-text_of.ensures }) c.in_ok-push.ensures.items

pub returns : goal.returns
returns c = zip_mapped_all IsWarned given_of c.args.texts.now c.loop-text.text-index
    (map warned_texts c.loop-text.specs.items) c.loop-text-test.false c.loop-text.invariant
