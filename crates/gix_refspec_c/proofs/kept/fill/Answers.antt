-- Each mapping is written after those before it, and there is room for it.
use Rattle.std.proofs.Common.{◌≡◌, ◌≤◌, ◌+◌, ◌<◌, [], ◌∷◌, ◌++◌, length, take, refl, sym, ap, ◌∙◌, arith}
use Rattle.std.proofs.lemmas.List.{length-take-le, take_more}
use Rattle.gix_refspec_c.specs.Kept.{entries_of, entry_in, no_entry, text_in}
use Rattle.gix_refspec_c.proofs.KeptLemmas.{described_with, ends_more, fills_more, room_for_next}
use Rattle.gix_refspec_c.proofs.kept.fill.Goals as goal

pub write_at-made_at-requires : goal.write_at-made_at-requires
write_at-made_at-requires c =
    let room = room_for_next (entries_of c.args.kept.now) c.loop-index.index c.loop-index.at
    (entry_in c.piece-piece.result) c.args.mappings.now c.loop-index.mappings c.args.buffer.now c.loop-index.buffer
    (omega (arith, c.loop-index-test.true, c.count-index-end.ensures)) c.loop-index.invariant.0 c.piece-piece.ensures
    c.loop-index.invariant.1 c.requires.count c.requires.len in
    let left : (c.loop-index.at + length (text_in c.piece-piece.result.id)) + length (text_in c.piece-piece.result.made)
    ≤ length c.loop-index.buffer = room.1 in
    omega (arith, left)

pub write_at-end-requires : goal.write_at-end-requires
write_at-end-requires c =
    let room = room_for_next (entries_of c.args.kept.now) c.loop-index.index c.loop-index.at
    (entry_in c.piece-piece.result) c.args.mappings.now c.loop-index.mappings c.args.buffer.now c.loop-index.buffer
    (omega (arith, c.loop-index-test.true, c.count-index-end.ensures)) c.loop-index.invariant.0 c.piece-piece.ensures
    c.loop-index.invariant.1 c.requires.count c.requires.len in
    let left : (c.loop-index.at + length (text_in c.piece-piece.result.id)) + length (text_in c.piece-piece.result.made)
    ≤ length c.loop-index.buffer = room.1 in
    omega (arith, left, c.write_at-made_at.ensures.end, c.write_at-made_at.auto.buffer)

pub loop-index-preserved : goal.loop-index-preserved
loop-index-preserved c =
    let es = entries_of c.args.kept.now in
    let k = c.loop-index.index in
    let at = c.loop-index.at in
    let piece = c.piece-piece.result in
    let e = entry_in piece in
    let below : k < length es = omega (arith, c.loop-index-test.true, c.count-index-end.ensures) in
    let more : take (k + 1) es ≡ take k es ++ e ∷ [] =
    take_more es k no_entry below ∙ ap (λ x. take k es ++ x ∷ []) (sym c.piece-piece.ensures) in
    let described = described_with piece.numbers (text_in piece.id) (text_in piece.made) at c.len.result
    c.write_at-made_at.result c.len-in-loop-index.result c.len.ensures c.write_at-made_at.ensures.end
    c.len-in-loop-index.ensures c.struct_of.result c.struct_of.ensures in (
      ends_more (take k es) (take (k + 1) es) e at c.write_at-made_at.result c.write_at-end.result more
          c.loop-index.invariant.0 c.write_at-made_at.ensures.end c.write_at-end.ensures.end,
      fills_more (take k es) (take (k + 1) es) e c.args.mappings.now c.loop-index.mappings _ c.args.buffer.now
          c.loop-index.buffer c.write_at-made_at.new.buffer c.write_at-end.new.buffer k at c.write_at-made_at.result
          c.struct_of.result c.loop-index.invariant.1 more (sym (length-take-le k es (omega (arith, below))))
          (omega (arith, below, c.requires.count)) c.loop-index.invariant.0 c.write_at-made_at.ensures.end described
          c.write_at-made_at.ensures.written c.write_at-end.ensures.written refl,
    )
