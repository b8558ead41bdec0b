-- By whether there are given specs.
use Rattle.std.proofs.Common.{◌∙◌, Global, List, String, ap, inl, inr, map, sym}
use Rattle.std.proofs.lemmas.Result.{IfOk-weaker}
use Rattle.refspec_git.specs.Fetch.{given_texts}
use Rattle.refspec_git.proofs.AskedLemmas.{empty, not_empty}
use Rattle.refspec_git.proofs.specs.named_texts.Goals as goal

pub returns-then-is_empty : goal.returns-then-is_empty
returns-then-is_empty c =
    let none = sym c.as_slice-given.ensures.value ∙ empty c.as_slice-given.result.now c.if-is_empty.ensures in
    IfOk-weaker c.configured_texts.result _ _ (λ texts are. inr (none, are)) c.configured_texts.ensures

pub returns : goal.returns
returns c =
    let same = c.as_slice-given.ensures.value in
    let some = not_empty c.as_slice-given.result.now c.if-is_empty.ensures in
    IfOk-weaker c.given_texts.result _ _
    (λ texts are. inl (
      (λ none. some (same ∙ none)),
      are ∙ ap (λ (l : List (String Global)). given_texts (map (λ t. t.bytes.items) l)) same,
    )) c.given_texts.ensures
