use Rattle.gix_refspec_diff.proofs.Common.{arith, length}
use Rattle.gix_refspec_diff.proofs.lemmas.ListLemmas.{flags_begin, flags_next, known_by}
use Rattle.gix_refspec_diff.proofs.lists.known_in.Goals as goal

pub loop-index-init : goal.loop-index-init
loop-index-init c = flags_begin c.in_ok-flags.flags.items _ (length c.args.other.now) c.in_ok-known.ensures.items

pub loop-index-preserved : goal.loop-index-preserved
loop-index-preserved c =
    flags_next c.in_ok-flags.flags.items c.loop-index.known.items _ (length c.args.other.now) c.loop-index.index _
    c.in_ok-push.ensures.items (rw c.as_slice-in-loop-index.ensures.value at c.is_flagged.ensures)
    c.loop-index.invariant

pub returns : goal.returns
returns c =
    known_by c.in_ok-both.both.items c.args.one.now c.args.other.now c.in_ok-flags.flags.items c.loop-index.known.items
    c.loop-index.index c.in_ok-both.ensures (rw c.as_slice.ensures.value at c.in_ok-flags.ensures.ok)
    (omega (
      arith,
      c.loop-index-test.false,
      c.len-index-end.ensures,
      c.in_ok-both.both.ok.0,
      c.in_ok-both.both.ok.1,
    )) c.loop-index.invariant
