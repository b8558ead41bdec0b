-- The sizes are those of the entries, and they are written if there is room.
use Rattle.std.proofs.Common.{◌<◌, ◌⊎◌, inl, inr, arith, length, refl}
use Rattle.gix_refspec_c.specs.Kept.{entries_of}
use Rattle.gix_refspec_c.proofs.KeptLemmas.{has_all, no_room_for}
use Rattle.gix_refspec_c.proofs.kept.write_kept.Goals.{then-mappings-count-via-then-mappings-count}
use Rattle.gix_refspec_c.proofs.kept.write_kept.Goals.{then-mappings-count-via-else-mappings-count+then-buffer-len}
use Rattle.gix_refspec_c.proofs.kept.write_kept.Goals as goal

pub returns-then-mappings-count-clause-err : goal.returns-then-mappings-count-clause-err
returns-then-mappings-count-clause-err c =
    let small : (length c.args.mappings.now < c.count.result) ⊎ (length c.args.buffer.now < c.in-Some.texts_len) =
    elim c.then-mappings-count.branch [
      | then-mappings-count-via-then-mappings-count w ↦ inl w.if-mappings-count.true
      | then-mappings-count-via-else-mappings-count+then-buffer-len w ↦ inr w.if-buffer-len.true
    ] in
    inl (refl, no_room_for (entries_of c.args.kept.now) _ _ refl refl c.count.ensures c.in-Some.ensures small)

pub returns-clause-ok : goal.returns-clause-ok
returns-clause-ok c =
    has_all (entries_of c.args.kept.now) _ _ c.fill.ensures (omega (arith, c.if-mappings-count.false, c.count.ensures))
    (omega (arith, c.if-buffer-len.false, c.in-Some.ensures)) c.count.ensures c.in-Some.ensures
