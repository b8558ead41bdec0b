-- The specs are read one after another, to the first that isn't.
use Rattle.std.proofs.Common.{inr}
use Rattle.gix_refspec.specs.Views.Spec.{reading_of}
use Rattle.gix_refspec_c.specs.Refs.{ReadsAs, no_spec_text, spec_text}
use Rattle.gix_refspec_c.proofs.GroupLemmas.{one_more}
use Rattle.gix_refspec_c.proofs.RefsLemmas.{spec_unread}
use Rattle.gix_refspec_c.proofs.refs.read_specs.Goals as goal

pub returns-in-Err-clause-err : goal.returns-in-Err-clause-err
returns-in-Err-clause-err c = inr (spec_unread c.args.specs.now c.loop-spec.spec-index _ c.loop-spec.group.specs.items
    c.in-Err.failure c.loop-spec-test.true c.in-Err.ensures.err c.loop-spec.invariant)

pub loop-spec-preserved : goal.loop-spec-preserved
loop-spec-preserved c = one_more ReadsAs spec_text reading_of c.args.specs.now c.loop-spec.spec-index _ no_spec_text
    c.loop-spec.group.specs.items c.add.new.group.specs.items c.in-Ok.read c.loop-spec-test.true c.in-Ok.ensures.ok
    c.in_ok-add.ensures.ok c.loop-spec.invariant
