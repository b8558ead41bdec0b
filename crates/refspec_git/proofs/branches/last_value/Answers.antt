-- The setting is the last one.
use Rattle.std.proofs.Common.{ap, sym, ◌∙◌}
use Rattle.std.specs.Option.{option_copied}
use Rattle.refspec_git.proofs.BranchLemmas.{last_found, value_found}
use Rattle.refspec_git.proofs.branches.last_value.Goals as goal

pub returns-in-None : goal.returns-in-None
returns-in-None c = ap value_found (sym (ap option_copied c.in-None.is) ∙ c.last.ensures.value)
    ∙ last_found c.args.settings.now

pub returns-in-Some : goal.returns-in-Some
returns-in-Some c = ap value_found (sym (ap option_copied c.in-Some.is) ∙ c.last.ensures.value)
    ∙ last_found c.args.settings.now
