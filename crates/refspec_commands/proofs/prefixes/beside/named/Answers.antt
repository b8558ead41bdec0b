-- The entries of one more name come after those so far.
use Rattle.std.proofs.Common.{ap, sym, subst, take, take_all, List, map}
use Rattle.refspec_commands.proofs.PrefixLemmas.{AreNamed-next}
use Rattle.refspec_commands.proofs.prefixes.beside.named.Goals as goal

pub loop-name-preserved : goal.loop-name-preserved
loop-name-preserved c =
    AreNamed-next c.args.names.now c.loop-name.name-index _ c.as_bytes.result.now c.loop-name.list.items
    c.in_ok-entries.entries.items c.append.new.self.items c.loop-name-test.true c.as_bytes.ensures
    c.in_ok-append.ensures.items c.in_ok-entries.ensures c.loop-name.invariant
