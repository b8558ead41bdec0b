use Rattle.std.proofs.Common.{◌≡◌, false, arith, map, string_bytes}
use Rattle.std.proofs.lemmas.Grind.{common_steps}
use Rattle.serde_json.specs.View.{view}
use Rattle.serde_json.specs.Written.{has_float}
use Rattle.refspec_json.proofs.ConflictLemmas.{no_float-missing}
use Rattle.refspec_json.proofs.refs.Missing.write_line.Goals as goal

-- the object has no float, so its text is known
pub returns : goal.returns
returns c =
    let whole : has_float (view c.in_ok-object.field-0) ≡ false =
    rw c.in_ok-object.ensures
    (no_float-missing c.args.self.now.spec.now c.args.self.now.origin.now c.args.self.now.message.now
    (map string_bytes c.args.self.now.names.now) c.args.self.now.more) in
    grind (arith, common_steps)
