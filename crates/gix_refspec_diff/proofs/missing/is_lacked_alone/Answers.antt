use Rattle.gix_refspec_diff.proofs.Common.{MatchBool-at_false, MatchBool-at_true, arith, bstring_bytes, map}
use Rattle.gix_refspec_diff.proofs.Common.{reading_of}
use Rattle.gix_refspec_lint.proofs.Common.{length-map}
use Rattle.gix_refspec_lint.proofs.lemmas.IndexLemmas.{read_at}
use Rattle.gix_refspec_diff.proofs.lemmas.AlikeLemmas.{there_at}
use Rattle.gix_refspec_diff.proofs.lemmas.LackLemmas.{known_unlacked, lacked_by, lacked_earlier, lacked_too, unlacked}
use Rattle.gix_refspec_diff.proofs.missing.is_lacked_alone.Goals as goal

pub returns-then-is_flagged : goal.returns-then-is_flagged
returns-then-is_flagged c =
    let g = map reading_of c.args.one.now in
    let (r, at) = there_at g c.args.index
    (omega (arith, c.requires.within, length-map c.args.one.now reading_of)) in
    known_unlacked g (map reading_of c.args.other.now) c.args.index r at
    ((c.requires.known c.args.index r at).0 (c.is_flagged.ensures.0 c.if-is_flagged.true))

pub returns-in_default : goal.returns-in_default
returns-in_default c =
    unlacked (map reading_of c.args.one.now) (map reading_of c.args.other.now) c.args.index _
    (read_at c.args.one.now c.args.index c.index-one-index.result c.requires.within c.index-one-index.is)
    (rw c.in_default.is at c.in_ok-names.ensures)

pub returns-then-branch : goal.returns-then-branch
returns-then-branch c =
    lacked_earlier c.args.one.now (map reading_of c.args.other.now) c.args.index _
    (read_at c.args.one.now c.args.index c.index-one-index.result c.requires.within c.index-one-index.is)
    (MatchBool-at_true _ _ c.if-branch.true
    (c.in_ok-lacks_any.ensures (reading_of c.index-one-index.result)
    (rw c.as_slice.ensures.value (rw c.in-Some.is at c.in_ok-names.ensures))))

pub returns-then-branch-2 : goal.returns-then-branch-2
returns-then-branch-2 c =
    lacked_too (map reading_of c.args.one.now) (map reading_of c.args.other.now) c.args.index _
    (read_at c.args.one.now c.args.index c.index-one-index.result c.requires.within c.index-one-index.is)
    (MatchBool-at_true _ _ c.if-branch-2.true
    (c.in_ok-lacks_any-2.ensures (reading_of c.index-one-index.result)
    (rw c.as_slice-2.ensures.value (rw c.in-Some.is at c.in_ok-names.ensures))))

pub returns : goal.returns
returns c =
    let named = rw c.in-Some.is at c.in_ok-names.ensures in
    lacked_by c.args.one.now (map reading_of c.args.other.now) c.args.index _
    (read_at c.args.one.now c.args.index c.index-one-index.result c.requires.within c.index-one-index.is)
    (map bstring_bytes c.in-Some.names.items) named
    (rw c.as_slice.ensures.value at
    (MatchBool-at_false _ _ c.if-branch.false
    (c.in_ok-lacks_any.ensures (reading_of c.index-one-index.result) (rw c.as_slice.ensures.value named))))
    (rw c.as_slice-2.ensures.value at
    (MatchBool-at_false _ _ c.if-branch-2.false
    (c.in_ok-lacks_any-2.ensures (reading_of c.index-one-index.result) (rw c.as_slice-2.ensures.value named))))
