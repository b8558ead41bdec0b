use Rattle.gix_refspec_diff.proofs.Common.{None, Some, append-nil, ap, arith, length, map, map-append, sym, take_all}
use Rattle.gix_refspec_diff.proofs.Common.{◌<◌, ◌∙◌}
use Rattle.gix_refspec_lint.proofs.lemmas.FoundLemmas.{group_long}
use Rattle.gix_refspec_diff.proofs.lemmas.ExampleLemmas.{fetched_next}
use Rattle.gix_refspec_diff.specs.Views.Difference.{pair_example_of}
use Rattle.gix_refspec_diff.proofs.pairs.fetched_alone.Goals.{in-Some+in_ok-push, in_default}
use Rattle.gix_refspec_diff.proofs.pairs.fetched_alone.Goals as goal

pub loop-index-preserved : goal.loop-index-preserved
loop-index-preserved c g h are =
    let i = c.loop-index.index in
    let old = c.loop-index.found.items in
    let below : i < length g = omega (arith, c.loop-index-test.true, group_long g c.args.lists.now.one.now are.one) in
    elim c.match-branch-2.branch [
      | in-Some+in_ok-push w ↦ rw w.found-is
          (fetched_next g h i (Some (pair_example_of w.in-Some.example)) (map pair_example_of old) _ below
          (rw w.in-Some.is at (c.in_ok-example.ensures g h are)) (c.loop-index.invariant g h are)
          (ap (map pair_example_of) w.in_ok-push.ensures.items ∙ map-append pair_example_of old _))
      | in_default w ↦ rw w.found-is (fetched_next g h i None (map pair_example_of old) _ below
          (rw w.in_default.is at (c.in_ok-example.ensures g h are)) (c.loop-index.invariant g h are)
          (sym (append-nil (map pair_example_of old))))
    ]

pub returns : goal.returns
returns c g h are =
    rw (take_all c.loop-index.index g
    (omega (arith, c.loop-index-test.false, group_long g c.args.lists.now.one.now are.one))) at
    (c.loop-index.invariant g h are)
