-- The words between spaces, without the empty ones.
use Rattle.std.proofs.Common.{◌==◌, length, not, rules, tests}
use Rattle.std.proofs.lemmas.Iterator.Consumers.{YieldsList-at, YieldsList-from_filter, count_from_yields_List}
use Rattle.std.proofs.lemmas.Iterator.Splits.{YieldsList-from_slice_split}
use Rattle.refspec_request.specs.Remotes.{is_between}
use Rattle.refspec_request.proofs.remotes.count_listed.Goals as goal

pub returns : goal.returns
returns c = count_from_yields_List c.filter.result c.count.result c.count.ensures.ran
    (YieldsList-from_filter _ (λ word. not (length word == 0))
    (YieldsList-at c.filter.ensures.source
    (YieldsList-from_slice_split _ is_between c.args.text.now c.split.ensures.rest c.split.ensures.done
    c.split.ensures.closure (λ x r q k. search (rules, tests)))) c.filter.ensures.closure
    (λ x r q k. search (rules, tests)))
