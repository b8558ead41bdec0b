-- The copies of the elements of a slice are in order.
use Rattle.std.proofs.lemmas.Result.{IfOk-weaker}
use Rattle.std.proofs.lemmas.Iterator.{YieldsList-from_slice}
use Rattle.std.proofs.lemmas.Iterator.Consumers.{YieldsList-from_copied}
use Rattle.gix_refspec.proofs.lemmas.hits.GatherLemmas.{gathered}
use Rattle.gix_refspec_uses.proofs.gather.pushes_among.Goals as goal

pub returns : goal.returns
returns c = IfOk-weaker c.from_push_specs.result _ _
    (gathered c.args.specs.now (λ it made. YieldsList-from_copied (YieldsList-from_slice c.args.specs.now (cc))))
    c.from_push_specs.ensures
