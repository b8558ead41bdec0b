use Rattle.gix_refspec_lint.proofs.Common.{◌≡◌, option_map, sym, ◌∙◌, IfOk-weaker, bstring_bytes}
use Rattle.gix_refspec_lint.proofs.lemmas.NestFoundLemmas.{found_so}
use Rattle.gix_refspec_lint.specs.Views.Lint.{nesting_of}
use Rattle.gix_refspec_lint.proofs.nestings.nesting_named.Goals as goal

pub returns : goal.returns
returns c g is =
    let name : c.as_bytes-nested.result.now ≡ bstring_bytes c.args.name.now = c.as_bytes-nested.ensures
    ∙ c.as_bstr.ensures in
    IfOk-weaker c.nesting_at.result _ _ (λ found told. found_so g _ _ _ _ (option_map nesting_of found)
    (λ d e of. (of.0, of.1 ∙ sym name)) told) (c.nesting_at.ensures g is)
