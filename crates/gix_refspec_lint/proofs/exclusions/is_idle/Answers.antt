-- A positive spec isn't idle so, and a negative one only if it excludes nothing.
use Rattle.gix_refspec_lint.proofs.Common.{map, reading_of, start_of, MatchBool-at_false, MatchBool-at_true}
use Rattle.gix_refspec_lint.proofs.lemmas.LeftOutLemmas.{idle_told, merged_told, none_told}
use Rattle.gix_refspec_lint.proofs.exclusions.is_idle.Goals as goal

pub returns-then-excludes_merged : goal.returns-then-excludes_merged
returns-then-excludes_merged c g merges is are idle =
    let (n, merged, by) = merged_told merges (map start_of c.args.merged.now) (reading_of c.args.spec.now) are
    (MatchBool-at_true _ _ c.if-excludes_merged.true c.excludes_merged.ensures) in
    idle.merged n merged by

pub returns : goal.returns
returns c g merges is are =
    idle_told g (map reading_of c.args.group.now.specs.now) merges is.completed
    (reading_of c.args.spec.now) c.if-not-is_negative.ensures
    (none_told merges (map start_of c.args.merged.now) (reading_of c.args.spec.now) are
    (MatchBool-at_false _ _ c.if-excludes_merged.false c.excludes_merged.ensures)) _
    (c.in_ok-excludes.ensures g is)
