-- Each of the four bytes of white space is searched for.
use Rattle.std.proofs.Common.{length, ◌≤◌, arith}
use Rattle.gix_refspec_text.proofs.lemmas.texts.TextLemmas.{found_further, found_whole}
use Rattle.gix_refspec_text.proofs.lemmas.lists.EmptyLemmas.{full_from_test}
use Rattle.refspec_io.proofs.RefLemmas.{one_word_if}
use Rattle.refspec_io.proofs.refs.is_one_word.Goals as goal

pub loop-byte-preserved : goal.loop-byte-preserved
loop-byte-preserved c =
    let text = c.args.text.now in
    let l = c.loop-byte in
    let below = c.loop-byte-test.true in (
      found_further 10 text l.byte-index l.has_newline below l.invariant.0,
      found_further 13 text l.byte-index l.has_return below l.invariant.1,
      found_further 9 text l.byte-index l.has_tab below l.invariant.2,
      found_further 32 text l.byte-index l.has_gap below l.invariant.3,
    )

pub returns : goal.returns
returns c =
    let text = c.args.text.now in
    let l = c.loop-byte in
    let past = c.loop-byte-test.false in
    let whole : length text ≤ l.byte-index = omega arith in
    one_word_if text l.has_newline l.has_return l.has_tab l.has_gap (full_from_test text c.if-is_empty.ensures)
    (found_whole 10 text l.byte-index l.has_newline whole l.invariant.0)
    (found_whole 13 text l.byte-index l.has_return whole l.invariant.1)
    (found_whole 9 text l.byte-index l.has_tab whole l.invariant.2)
    (found_whole 32 text l.byte-index l.has_gap whole l.invariant.3)
