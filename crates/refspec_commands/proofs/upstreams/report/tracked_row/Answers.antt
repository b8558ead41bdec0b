use Rattle.std.proofs.Common.{Some, ap, refl}
use Rattle.refspec_commands.proofs.UpstreamLemmas.{tracking_same}
use Rattle.refspec_commands.proofs.upstreams.report.tracked_row.Goals as goal

pub returns : goal.returns
returns c = tracking_same _ _ _ _ _ _ refl (ap Some c.as_bytes-text.ensures)
