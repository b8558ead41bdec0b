-- the records so far are these settings, and maybe the origin of the next one
use Rattle.refspec_io.proofs.SettingLemmas.{PairsSoFar}
use Rattle.refspec_io.proofs.settings.settings_of.Given as goal

abbrev pub invariant-loop-record : goal.invariant-loop-record
invariant-loop-record l = PairsSoFar l.record-items l.record-index l.origin l.settings.items
