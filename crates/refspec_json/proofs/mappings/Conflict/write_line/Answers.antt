use Rattle.std.proofs.Common.{◌≡◌, false, arith, map}
use Rattle.std.proofs.lemmas.Grind.{common_steps}
use Rattle.serde_json.specs.View.{view}
use Rattle.serde_json.specs.Written.{has_float}
use Rattle.refspec_json.specs.Views.{claim_texts}
use Rattle.refspec_json.proofs.ConflictLemmas.{no_float-conflict}
use Rattle.refspec_json.proofs.mappings.Conflict.write_line.Goals as goal

-- the object has no float, so its text is known
pub returns : goal.returns
returns c =
    let whole : has_float (view c.in_ok-object.field-0) ≡ false =
    rw c.in_ok-object.ensures
    (no_float-conflict c.args.self.now.destination.now (map claim_texts c.args.self.now.sources.now)) in
    grind (arith, common_steps)
