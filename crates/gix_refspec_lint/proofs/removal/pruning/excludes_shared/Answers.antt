use Rattle.gix_refspec_lint.proofs.Common.{ℕ, List, ◌++◌, map, take_all, arith, subst, AllByRecursion, one_more_mapped}
use Rattle.gix_refspec_lint.proofs.Common.{bstring_bytes, IfOk-weaker, MatchBool-at_false}
use Rattle.gix_refspec_lint.proofs.lemmas.{ExcludedLemmas.{all_without, apart_without}, RemovalLemmas.told_else}
use Rattle.gix_refspec_lint.specs.Private.Removals.{IsSameFrom, all_of, rest_of}
use Rattle.gix_refspec_lint.proofs.removal.pruning.excludes_shared.Goals as goal

pub returns-in_default : goal.returns-in_default
returns-in_default c r are negative source q inside writes = apart_without c.args.lists.now r are negative q _ _ _ _
    writes inside _ _ source c.in_default.ensures

pub loop-word-preserved : goal.loop-word-preserved
loop-word-preserved c =
    one_more_mapped bstring_bytes
    (λ w. IsSameFrom (all_of c.args.lists.now) (rest_of c.args.lists.now) c.args.near.0.now c.args.near.1.now
    c.args.far.0.now c.args.far.1.now (c.in-Some.taken.prefix.now ++ (w ++ c.in-Some.taken.suffix.now)))
    c.args.lists.now.words.now c.loop-word.word-index c.word-item.result c.loop-word.invariant c.loop-word-test.true
    c.word-item.is
    (rw (c.as_bytes.ensures, c.as_bstr.ensures, c.in_ok-source.ensures) at
    (MatchBool-at_false _ _ c.if-branch.false c.in_ok-differs_from.ensures))

pub returns : goal.returns
returns c r are negative source q inside writes =
    let lists = c.args.lists.now in
    let taken = c.in-Some.taken in
    let P : List ℕ → Type 0 = λ w. IsSameFrom (all_of lists) (rest_of lists) c.args.near.0.now c.args.near.1.now
    c.args.far.0.now c.args.far.1.now (taken.prefix.now ++ (w ++ taken.suffix.now)) in
    let tried : AllByRecursion P (map bstring_bytes lists.words.now) =
    rw (take_all c.loop-word.word-index lists.words.now (omega arith)) at c.loop-word.invariant in
    IfOk-weaker c.differs_overlapping_from.result _ _
    (λ does. told_else _ _ _ does
    (all_without lists r are negative q _ _ _ _ writes inside _ _ source taken c.in-Some.ensures
    (subst (AllByRecursion P) are.words tried))) c.differs_overlapping_from.ensures
