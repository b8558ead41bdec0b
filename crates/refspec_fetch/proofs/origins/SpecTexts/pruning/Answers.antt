-- A list is empty or it isn't.
use Rattle.std.proofs.Common.{ap, map, sym, ◌∙◌}
use Rattle.bstr.specs.Owned.{bstring_bytes}
use Rattle.refspec_fetch.proofs.AnswerLemmas.{none_of, some_of, texts_configured, texts_given}
use Rattle.refspec_fetch.proofs.origins.SpecTexts.pruning.Goals as goal

pub returns-then-is_empty : goal.returns-then-is_empty
returns-then-is_empty c =
    let given = c.args.self.now.given.items in
    ap (map bstring_bytes) c.as_slice.ensures.value ∙ texts_configured given c.args.self.now.configured.items
    (sym c.as_slice-given.ensures.value ∙ none_of _ _ c.is_empty.ensures c.if-is_empty.true)

pub returns-else-is_empty : goal.returns-else-is_empty
returns-else-is_empty c =
    let given = c.args.self.now.given.items in
    let some = some_of c.as_slice-given.result.now c.is_empty.result c.is_empty.ensures c.if-is_empty.false in
    ap (map bstring_bytes) c.as_slice-given.ensures.value ∙ texts_given given c.args.self.now.configured.items
    (λ none. some (c.as_slice-given.ensures.value ∙ none))
