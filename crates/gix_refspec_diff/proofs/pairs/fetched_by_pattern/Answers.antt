use Rattle.gix_refspec_diff.proofs.Common.{IfOk-weaker}
use Rattle.gix_refspec_diff.proofs.lemmas.ExampleLemmas.{found_weaker, shown_alone}
use Rattle.gix_refspec_diff.proofs.lemmas.SearchLemmas.{any_pattern, known_pattern}
use Rattle.gix_refspec_diff.proofs.pairs.fetched_by_pattern.Goals as goal

pub returns-then-is_flagged : goal.returns-then-is_flagged
returns-then-is_flagged c g h r are at positive source =
    IfOk-weaker c.fetched_where_excluded.result _ _
    (found_weaker _ _ _ _
    (known_pattern g h c.args.lists.now are c.args.index r at positive c.args.texts.0.now c.args.texts.1.now source
    (c.is_flagged.ensures.0 c.if-is_flagged.true))
    (λ e. shown_alone g h c.args.index _)) (c.fetched_where_excluded.ensures g h are)

pub returns-in-None : goal.returns-in-None
returns-in-None c g h r are at positive source =
    IfOk-weaker c.fetched_where_excluded-in-None.result _ _
    (found_weaker _ _ _ _
    (any_pattern g h c.args.lists.now are c.args.index r at positive c.args.texts.0.now c.args.texts.1.now source
    (rw c.in_ok-sources.ensures at (rw c.in-None.is at (c.in_ok-example_among.ensures g h are))))
    (λ e. shown_alone g h c.args.index _)) (c.fetched_where_excluded-in-None.ensures g h are)

pub returns-in-Some : goal.returns-in-Some
returns-in-Some c g h r are at positive source =
    shown_alone g h c.args.index _ (rw c.in-Some.is at (c.in_ok-example_among.ensures g h are))
