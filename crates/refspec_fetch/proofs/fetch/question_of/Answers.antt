-- The first specs are given, and the others configured.
use Rattle.std.proofs.Common.{◌∙◌, Bool, List, ap, map, ℕ}
use Rattle.bstr.specs.BStr.{bstr_bytes}
use Rattle.bstr.specs.declared.bstr.BStr.{BStr}
use Rattle.gix_refspec.specs.Specs.Reading.{Reading}
use Rattle.refspec_fetch.proofs.FetchLemmas.{first_specs, made-same, other_specs}
use Rattle.refspec_fetch.proofs.fetch.question_of.Goals as goal

pub returns-clause-wish : goal.returns-clause-wish
returns-clause-wish c =
    let task = c.args.task.now in
    let specs = c.args.specs.now in
    made-same _ _ _ _ _ _ _ _ (first_specs task.given specs c.split_at.result.0.now c.min.result c.min.ensures
    c.split_at.ensures.front)
    (other_specs task.given specs c.split_at.result.1.now c.min.result c.min.ensures c.split_at.ensures.back)
    (ap (map bstr_bytes) c.as_slice.ensures.value) c.tags_of.ensures
