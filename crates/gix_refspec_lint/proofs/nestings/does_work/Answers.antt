-- Beside no others a spec that does nothing fetches nothing.
use Rattle.gix_refspec_lint.proofs.Common.{Some, ap, not, ◌∙◌, get_or, reading_of, some_element}
use Rattle.gix_refspec_lint.proofs.lemmas.IndexLemmas.{reading_at}
use Rattle.gix_refspec_lint.proofs.lemmas.NestFoundLemmas.{dead_spec}
use Rattle.gix_refspec_lint.proofs.nestings.does_work.Goals as goal

pub returns-in-Some : goal.returns-in-Some
returns-in-Some c g is told none = told (c.in-Some.is ∙ ap Some none)

pub returns : goal.returns
returns c g is told none =
    let specs = c.args.group.now.specs.now in
    let x = some_element specs c.args.index c.requires in
    dead_spec g c.args.index (reading_of (get_or specs c.args.index x)) c.in_ok-why.why
    (c.in_ok-why.ensures g is _ (reading_at specs c.args.index x c.requires)) (c.is_none.ensures ∙ ap not none)
