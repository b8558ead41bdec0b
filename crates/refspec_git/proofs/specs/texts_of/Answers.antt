-- The given ones are before the others.
use Rattle.std.proofs.Common.{Global, List, String, ap, map, ◌++◌, ◌∙◌}
use Rattle.std.proofs.lemmas.List.{map-append}
use Rattle.refspec_io.specs.declared.texts.Text.{Text}
use Rattle.refspec_io.specs.Texts.{Given, given_of}
use Rattle.refspec_git.specs.Fetch.{given_texts}
use Rattle.refspec_git.proofs.specs.texts_of.Goals as goal

pub returns : goal.returns
returns c =
    let texts = c.in_ok-texts.texts.items in
    let given = map given_of texts in
    ap (map given_of) c.in_ok-extend_from_slice.ensures.items ∙ (map-append given_of texts c.as_slice-2.result.now
    ∙ (ap (λ (l : List Text). given ++ map given_of l) c.as_slice-2.ensures.value
    ∙ ap (λ (l : List Given). l ++ map given_of c.args.specs.now.configured.items)
    (c.in_ok-texts.ensures
    ∙ ap (λ (l : List (String Global)). given_texts (map (λ t. t.bytes.items) l)) c.as_slice.ensures.value)))
