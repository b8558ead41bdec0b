-- Where the destinations differ there is no conflict.
use Rattle.std.proofs.Common.{map}
use Rattle.std.proofs.lemmas.Result.{IfOk-weaker}
use Rattle.gix_refspec_c.specs.Validating.{mapped_in}
use Rattle.gix_refspec_c.proofs.ValidatingLemmas.{claims_tell, none_tell}
use Rattle.gix_refspec_c.proofs.validating.conflicts_of.Goals as goal

pub returns-then-branch : goal.returns-then-branch
returns-then-branch c = none_tell (map mapped_in c.args.pairs.now) c.new.result
    (c.in_ok-destinations_differ.ensures c.if-branch.true) c.new.ensures.empty

pub returns : goal.returns
returns c = IfOk-weaker c.claims_of.result _ _ (claims_tell (map mapped_in c.args.pairs.now)) c.claims_of.ensures
