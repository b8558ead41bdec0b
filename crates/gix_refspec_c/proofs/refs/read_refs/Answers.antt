-- The ids of the refs are read one after another, to the first ref with a bad one.
use Rattle.std.proofs.Common.{inr}
use Rattle.gix_refspec_c.specs.Refs.{IsRefOf, known_ref, no_ref_text, ref_text}
use Rattle.gix_refspec_c.proofs.GroupLemmas.{one_more}
use Rattle.gix_refspec_c.proofs.RefsLemmas.{ref_unread}
use Rattle.gix_refspec_c.proofs.refs.read_refs.Goals as goal

pub returns-in-Err-clause-err : goal.returns-in-Err-clause-err
returns-in-Err-clause-err c = inr (
  c.in-Err.ensures.err.0,
  ref_unread c.args.refs.now c.loop-one.one-index _ c.loop-one-test.true c.in-Err.ensures.err.1,
)

pub loop-one-preserved : goal.loop-one-preserved
loop-one-preserved c = one_more IsRefOf ref_text known_ref c.args.refs.now c.loop-one.one-index _ no_ref_text
    c.loop-one.known.items c.push.new.self.items c.in-Ok.read c.loop-one-test.true c.in-Ok.ensures.ok
    c.in-Ok-push.ensures.items c.loop-one.invariant
