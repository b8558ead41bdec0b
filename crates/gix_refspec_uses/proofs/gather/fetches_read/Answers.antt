-- The specs among the results are in order.
use Rattle.std.proofs.Common.{refl, rules}
use borrow.Author.Tests.{tests}
use Rattle.std.specs.Result.{result_ok}
use Rattle.std.proofs.lemmas.Result.{IfOk-weaker}
use Rattle.std.proofs.lemmas.Iterator.{YieldsList-from_slice}
use Rattle.std.proofs.lemmas.Iterator.Consumers.{YieldsList-from_filter_map}
use Rattle.gix_refspec.proofs.lemmas.hits.GatherLemmas.{gathered}
use Rattle.gix_refspec_uses.specs.Claims.{specs_read}
use Rattle.gix_refspec_uses.proofs.gather.fetches_read.Goals as goal

pub returns : goal.returns
returns c =
    IfOk-weaker c.from_fetch_specs.result _ _
    (gathered (specs_read c.args.answers.now)
    (λ it made. YieldsList-from_filter_map _ result_ok (YieldsList-from_slice c.args.answers.now (cc)) refl
    (λ x r q k. search (rules, tests)))) c.from_fetch_specs.ensures
