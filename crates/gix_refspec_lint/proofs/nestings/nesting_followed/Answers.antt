use Rattle.gix_refspec_lint.proofs.Common.{◌≡◌, ◌++◌, [], ap, append-nil, option_map, sym, ◌∙◌, IfOk-weaker}
use Rattle.gix_refspec_lint.proofs.Common.{bstring_bytes}
use Rattle.gix_refspec_lint.proofs.lemmas.NestFoundLemmas.{found_so}
use Rattle.gix_refspec_lint.specs.Views.Lint.{nesting_of}
use Rattle.gix_refspec_lint.proofs.nestings.nesting_followed.Goals as goal

pub returns : goal.returns
returns c g is =
    let name = bstring_bytes c.args.name.now in
    let own : c.as_bytes-directory.result.now ≡ name = c.as_bytes-directory.ensures ∙ c.as_bstr.ensures in
    let joined : c.as_bytes-nested.result.now ≡ c.as_bytes-directory.result.now ++ (c.args.rest.now ++ []) =
    c.as_bytes-nested.ensures ∙ c.as_bstr-2.ensures ∙ c.in_ok-whole.ensures in
    let whole : c.as_bytes-nested.result.now ≡ name ++ c.args.rest.now = joined
    ∙ ap (λ x. x ++ (c.args.rest.now ++ [])) own ∙ ap (λ x. name ++ x) (append-nil c.args.rest.now) in
    IfOk-weaker c.nesting_at.result _ _ (λ found told. found_so g _ _ _ _ (option_map nesting_of found)
    (λ d e of. (of.0 ∙ sym own, of.1 ∙ sym whole)) told) (c.nesting_at.ensures g is)
