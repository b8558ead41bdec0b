-- One text.
use Rattle.std.proofs.Common.{◌++◌, ◌∙◌, ◌∷◌, List, [], ap, map}
use Rattle.refspec_io.specs.declared.texts.Text.{Text}
use Rattle.refspec_io.specs.Texts.{Given, given_of}
use Rattle.refspec_git.proofs.specs.head_text.Goals as goal

pub returns : goal.returns
returns c = ap (map given_of) (c.in_ok-push.ensures.items
    ∙ ap (λ (l : List Text). l ++ c.argument.result ∷ []) c.new-texts.ensures.items)
    ∙ ap (λ (g : Given). g ∷ []) c.argument.ensures
