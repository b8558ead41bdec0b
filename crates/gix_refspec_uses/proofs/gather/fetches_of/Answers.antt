-- A vector yields its elements in order.
use Rattle.std.proofs.Common.{◌∙◌}
use Rattle.std.proofs.lemmas.Result.{IfOk-weaker}
use Rattle.std.proofs.lemmas.Iterator.Adapters.{YieldsList-from_vec}
use Rattle.gix_refspec.proofs.lemmas.hits.GatherLemmas.{gathered}
use Rattle.gix_refspec_uses.proofs.gather.fetches_of.Goals as goal

pub returns : goal.returns
returns c = IfOk-weaker c.from_fetch_specs.result _ _
    (gathered c.args.specs.items (λ it made. YieldsList-from_vec {s = it} _ made.0 (made.1 ∙ c.args.specs.ok.0)))
    c.from_fetch_specs.ensures
