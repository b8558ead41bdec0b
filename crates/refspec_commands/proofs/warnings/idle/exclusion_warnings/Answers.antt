-- Each negative spec whose source may be a full name adds its warning.
use Rattle.std.proofs.Common.{get_or, map}
use Rattle.std.proofs.lemmas.List.{get_or_default}
use Rattle.gix_refspec_text.specs.Views.Spec.{reading_of}
use Rattle.refspec_io.specs.Texts.{given_of}
use Rattle.refspec_commands.proofs.WarnedLemmas.{exclusion_less, exclusion_more}
use Rattle.refspec_commands.proofs.warnings.idle.exclusion_warnings.Goals.{then-may_exclude_at+in_ok-exclusion_warning+in_ok-push}
use Rattle.refspec_commands.proofs.warnings.idle.exclusion_warnings.Goals.{else-may_exclude_at}
use Rattle.refspec_commands.proofs.warnings.idle.exclusion_warnings.Goals as goal

pub loop-exclusion-preserved : goal.loop-exclusion-preserved
loop-exclusion-preserved c =
    let g = map reading_of c.args.group.now.specs.items in
    let texts = map given_of c.args.group.now.texts.items in
    let idle = c.args.idle.now in
    let i = c.loop-exclusion.exclusion-index in
    let here = get_or_default idle i 0 (get_or idle i 0) c.loop-exclusion-test.true in
    elim c.if-may_exclude_at.branch [
      | then-may_exclude_at+in_ok-exclusion_warning+in_ok-push w ↦ rw w.warnings-is
          (exclusion_more g texts idle i (get_or idle i 0) c.loop-exclusion.warnings.items w.push.new.self.items _
          c.loop-exclusion-test.true here w.in_ok-exclusion_warning.ensures w.in_ok-push.ensures.items
          c.loop-exclusion.invariant)
      | else-may_exclude_at w ↦ rw w.warnings-is
          (exclusion_less g texts idle i (get_or idle i 0) c.loop-exclusion.warnings.items c.loop-exclusion-test.true
          here
          (rw w.if-may_exclude_at.false at c.may_exclude_at.ensures) c.loop-exclusion.invariant)
    ]
