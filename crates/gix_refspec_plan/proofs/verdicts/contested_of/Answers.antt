-- Where the destinations differ nothing is contested.
use Rattle.gix_refspec_plan.proofs.Common.{mapped_of, map, IfOk-weaker}
use Rattle.gix_refspec_plan.proofs.lemmas.plan.JudgeLemmas.{counted_contested, none_contested}
use Rattle.gix_refspec_plan.proofs.verdicts.contested_of.Goals as goal

pub returns-then-branch : goal.returns-then-branch
returns-then-branch c = none_contested (map mapped_of c.args.mappings.now) c.new.result c.requires
    (c.in_ok-destinations_differ.ensures c.if-branch.true) c.new.ensures.empty

pub returns : goal.returns
returns c = IfOk-weaker c.counts_of.result _ _ (counted_contested (map mapped_of c.args.mappings.now))
    c.counts_of.ensures
