-- The settings are looked up by their name.
use Rattle.std.proofs.Common.{ap, sym, ◌∙◌}
use Rattle.std.specs.Option.{option_copied}
use Rattle.refspec_request.specs.Settings.{value_of_last}
use Rattle.refspec_git.proofs.BranchLemmas.{items_of}
use Rattle.refspec_git.proofs.branches.last_of.Goals as goal

pub returns-in_default : goal.returns-in_default
returns-in_default c =
    ap (λ found. value_of_last (items_of found)) (sym (ap option_copied c.in_default.is) ∙ c.get.ensures.value)

pub returns : goal.returns
returns c = c.last_value.ensures ∙ ap value_of_last (c.as_slice.ensures.value
    ∙ ap items_of (sym (ap option_copied c.in-Some.is) ∙ c.get.ensures.value))
