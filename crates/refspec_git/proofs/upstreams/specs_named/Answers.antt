-- The specs are looked up by the name of the remote.
use Rattle.std.proofs.Common.{None, Some, ap, sym, ◌∙◌}
use Rattle.std.specs.Option.{option_copied}
use Rattle.refspec_git.proofs.UpstreamLemmas.{specs_found}
use Rattle.refspec_git.proofs.upstreams.specs_named.Goals as goal

pub returns-in_default : goal.returns-in_default
returns-in_default c = λ settings are. specs_found settings c.args.specs.now.by_remote c.args.name.now None _ are.0
    (sym (ap option_copied c.in_default.is) ∙ c.get.ensures.value) (c.as_slice.ensures.value ∙ are.1)

pub returns : goal.returns
returns c = λ settings are. specs_found settings c.args.specs.now.by_remote c.args.name.now (Some c.in-Some.own.now) _
    are.0 (sym (ap option_copied c.in-Some.is) ∙ c.get.ensures.value) c.as_slice-2.ensures.value
