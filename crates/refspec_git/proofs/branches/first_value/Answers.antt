-- The setting is the first one.
use Rattle.std.proofs.Common.{ap, sym, ◌∙◌}
use Rattle.std.specs.Option.{option_copied}
use Rattle.refspec_git.proofs.BranchLemmas.{first_found, value_found}
use Rattle.refspec_git.proofs.branches.first_value.Goals as goal

pub returns-in-None : goal.returns-in-None
returns-in-None c = ap value_found (sym (ap option_copied c.in-None.is) ∙ c.first.ensures.value)
    ∙ first_found c.args.settings.now

pub returns-in-Some : goal.returns-in-Some
returns-in-Some c = ap value_found (sym (ap option_copied c.in-Some.is) ∙ c.first.ensures.value)
    ∙ first_found c.args.settings.now
