-- The fields of each name are after the others.
use Rattle.std.proofs.Common.{refl}
use Rattle.refspec_fetch.specs.Stale.{name_fields}
use Rattle.refspec_fetch.proofs.StaleLemmas.{name_fields-of, names-next}
use Rattle.refspec_fetch.proofs.stale.write_records.Goals as goal

pub loop-name-preserved : goal.loop-name-preserved
loop-name-preserved c = names-next name_fields c.args.names.now c.loop-name.name-index _ _ c.args.out.now.items
    c.loop-name.out.items _ c.loop-name-test.true refl c.loop-name.invariant
    (name_fields-of _ c.loop-name.out.items _ _ _ c.in_ok-push.ensures.items c.in_ok-extend_from_slice.ensures.items
    c.in_ok-extend_from_slice-2.ensures.items)
