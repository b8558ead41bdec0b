use Rattle.std.proofs.Common.{◌≡◌, false, arith, map}
use Rattle.std.proofs.lemmas.Grind.{common_steps}
use Rattle.serde_json.specs.View.{view}
use Rattle.serde_json.specs.Written.{has_float}
use Rattle.refspec_json.specs.Views.{warned_texts}
use Rattle.refspec_json.proofs.ConflictLemmas.{no_float-warning}
use Rattle.refspec_json.proofs.warnings.Warning.write_line.Goals as goal

-- the object has no float, so its text is known
pub returns : goal.returns
returns c =
    let whole : has_float (view c.in_ok-object.field-0) ≡ false =
    rw c.in_ok-object.ensures (no_float-warning c.args.self.now.name.now c.args.self.now.location.now
    (map warned_texts c.args.self.now.specs.now) c.args.self.now.message.now c.args.self.now.advice.now) in
    grind (arith, common_steps)
