-- The names follow the command and the format.
use Rattle.std.proofs.Common.{[], ◌++◌, ◌∙◌, ap, map, append_assoc}
use Rattle.refspec_request.specs.Calls.{in_lines, refs_arguments}
use Rattle.refspec_request.proofs.ask.write_refs.Goals as goal

pub returns : goal.returns
returns c = c.in_ok-write_names.ensures
    ∙ (ap (λ z. z ++ in_lines (map (λ name. name.items) c.args.names.now)) c.in_ok-write_format.ensures
    ∙ append_assoc c.args.out.now.items (in_lines (refs_arguments []))
    (in_lines (map (λ name. name.items) c.args.names.now)))
