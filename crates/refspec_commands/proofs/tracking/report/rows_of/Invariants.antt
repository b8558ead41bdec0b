-- the rows of the remotes so far
use Rattle.std.proofs.Common.{◌≡◌, flat_map, map, take}
use Rattle.refspec_commands.specs.Answer.{rows_in}
use Rattle.refspec_commands.specs.Rows.{shown_row}
use Rattle.refspec_commands.proofs.tracking.report.rows_of.Given as goal

abbrev pub invariant-loop-remote : goal.invariant-loop-remote
invariant-loop-remote l = map shown_row l.rows.items ≡ flat_map rows_in (take l.remote-index l.remotes)
