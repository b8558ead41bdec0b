-- The lines are those of the destination, of the claims, and advice.
use Rattle.std.proofs.Common.{◌≡◌, ap, map, rules}
use Rattle.gix_refspec_plan.specs.Views.Plan.{planned_of}
use Rattle.refspec_io.proofs.ShownLemmas.{on_ok}
use Rattle.refspec_fetch.specs.Conflicts.{contest_of, those_at}
use Rattle.refspec_fetch.proofs.ConflictLemmas.{WritesConflict-of}
use Rattle.refspec_fetch.proofs.conflicts.write_conflict.Goals as goal

pub returns : goal.returns
returns c =
    let ps = map planned_of c.args.updates.now in
    let conflict = contest_of ps c.args.contest.now in
    let name : c.as_bytes.result.now ≡ conflict.destination = search rules in
    on_ok c.write_advice.result _ _ c.write_advice.ensures
    (λ grows. WritesConflict-of c.args.texts.now conflict c.as_bytes.result.now (those_at ps c.as_slice.result.now)
    c.args.out.now.items c.extend_from_slice.new.self.items c.write_in_message.new.out.items
    c.extend_from_slice-2.new.self.items c.write_claims.new.out.items c.write_advice.new.out.items name
    (ap (those_at ps) c.as_slice.ensures.value) c.in_ok-extend_from_slice.ensures.items
    c.in_ok-write_in_message.ensures c.in_ok-extend_from_slice-2.ensures.items c.in_ok-write_claims.ensures grows)
