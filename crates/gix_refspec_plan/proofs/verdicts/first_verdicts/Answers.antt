use Rattle.gix_refspec_plan.proofs.Common.{[], ◌++◌, map, mapped_of, Contains-append_left, HasVerdict}
use Rattle.gix_refspec_plan.proofs.lemmas.plan.JudgeLemmas.{has_mapping, none_counted, only_verdict}
use Rattle.gix_refspec_plan.proofs.lemmas.plan.NameLemmas.{zip_step}
use Rattle.gix_refspec_plan.proofs.verdicts.first_verdicts.Goals as goal

pub loop-mapping-preserved : goal.loop-mapping-preserved
loop-mapping-preserved c seconds tells =
    let ms = c.args.mappings.now in
    let i = c.loop-mapping.mapping-index in
    let m = c.mapping-item.result in
    let all = map mapped_of ms ++ seconds in
    let has = has_mapping ms i m c.loop-mapping-test.true c.mapping-item.is in
    let judged =
    c.verdict_on.ensures [] (map mapped_of ms) all (none_counted c.new-nothing.result c.new-nothing.ensures.empty)
    c.in_ok-contested.ensures tells c.requires has
    (Contains-append_left (map mapped_of ms) seconds (mapped_of m) has) in
    rw c.in_ok-push.ensures.items
    (zip_step (HasVerdict (map mapped_of ms) all) mapped_of ms i m _ _ c.loop-mapping-test.true c.mapping-item.is
    (c.loop-mapping.invariant seconds tells) (only_verdict _ all _ _ judged))
