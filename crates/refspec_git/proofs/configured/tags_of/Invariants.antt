-- what the options so far say
use Rattle.std.proofs.Common.{◌≡◌, filter_map, take, unwrap_or}
use Rattle.refspec_fetch.specs.declared.question.Tags.TheVariants as tags
use Rattle.refspec_request.specs.Settings.{value_in}
use Rattle.refspec_git.specs.Configured.{last_of, tags_said}
use Rattle.refspec_git.proofs.configured.tags_of.Given as goal

abbrev pub invariant-loop-option : goal.invariant-loop-option
invariant-loop-option l =
    l.tags ≡ unwrap_or (last_of (filter_map (λ s. tags_said (value_in s)) (take l.option-index l.option-items)))
    tags.Followed
