-- An option that says something is the last so far; another changes nothing.
use Rattle.std.proofs.Common.{◌∙◌, List, Option, ap, filter_map, sym, take, take_all, unwrap_or}
use Rattle.refspec_fetch.specs.declared.question.Tags.{Tags}
use Rattle.refspec_fetch.specs.declared.question.Tags.TheVariants as tags
use Rattle.refspec_io.specs.declared.settings.Setting.{Setting}
use Rattle.refspec_request.specs.Settings.{value_in}
use Rattle.refspec_git.specs.Configured.{last_of, tags_said}
use Rattle.refspec_git.proofs.ConfiguredLemmas.{last_push, made_none, made_one}
use Rattle.refspec_git.proofs.configured.tags_of.Goals as goal
use Rattle.refspec_git.proofs.configured.tags_of.Goals.{in-Some, in_default}

-- what options say
abbrev said_by : Setting → Option Tags
said_by s = tags_said (value_in s)

abbrev decided : List Tags → Tags
decided said = unwrap_or (last_of said) tags.Followed

pub loop-option-preserved : goal.loop-option-preserved
loop-option-preserved c =
    let items = c.deref-option-items.result.now in
    let i = c.loop-option.option-index in
    let below = c.loop-option-test.true in
    elim c.match-tags_said.branch [
      | in-Some w ↦ w.tags-is ∙ sym (ap decided
          (made_one said_by items i _ below w.in-Some.said (sym c.tags_said.ensures ∙ w.in-Some.is))
          ∙ ap (λ o. unwrap_or o tags.Followed) (last_push (filter_map said_by (take i items)) w.in-Some.said))
      | in_default w ↦ w.tags-is ∙ (c.loop-option.invariant ∙ sym (ap decided
          (made_none said_by items i _ below (sym c.tags_said.ensures ∙ w.in_default.is))))
    ]

pub returns : goal.returns
returns c = c.loop-option.invariant ∙ ap (λ l. decided (filter_map said_by l))
    (take_all c.loop-option.option-index c.deref-option-items.result.now c.loop-option-test.false
    ∙ (c.deref-option-items.ensures.value ∙ c.in_ok-options.ensures))
