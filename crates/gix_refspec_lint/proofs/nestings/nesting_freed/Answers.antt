-- The first of the words to try is the free byte.
use Rattle.gix_refspec_lint.proofs.Common.{◌≡◌, ◌++◌, ◌∷◌, slash, ap, subst, ◌∙◌, option_map}
use Rattle.std.specs.Prelude.{IfOk}
use Rattle.gix_refspec_lint.specs.Private.Nestings.{HaveFollowed, IsFollowed, IsFoundIf}
use Rattle.gix_refspec_lint.specs.Views.Lint.{nesting_of}
use Rattle.gix_refspec_lint.proofs.nestings.nesting_freed.Goals as goal

pub returns-in_default : goal.returns-in_default
returns-in_default c g is have = absurd (c.in_default.ensures is.letter is.words)

pub returns : goal.returns
returns c g is have =
    let two = c.args.two.now in
    let text : c.as_bytes-text.result.now ≡ slash ∷ (is.letter ∷ c.args.after.now) =
    c.as_bytes-text.ensures ∙ c.as_bstr-2.ensures ∙ c.in_ok-rest.ensures ∙ ap (λ w. slash ∷ (w ++ c.args.after.now))
    (c.as_bytes-byte.ensures ∙ c.as_bstr.ensures ∙ c.in-Some.ensures is.letter is.words) in
    subst (λ r. (have : HaveFollowed two.group.now two.upper two.lower c.args.common.now r)
    → IfOk c.nesting_among.result
    (λ found. IsFoundIf g two.upper two.lower (λ d e. IsFollowed have.prefix have.end r d e)
    (option_map nesting_of found)))
    text (c.nesting_among.ensures g is) have
