-- A spec behind an idle one with the same sides is idle for the same reason, and behind another one it is a duplicate
-- of that.
use Rattle.gix_refspec_lint.proofs.Common.{◌∙◌, IsPositive, MatchBool-at_false, MatchBool-at_true, Reading}
use Rattle.gix_refspec_lint.proofs.Common.{map, reading_of, same_Some, subst, sym}
use Rattle.gix_refspec_lint.proofs.lemmas.AlikeLemmas.{behind_none, behind_some}
use Rattle.gix_refspec_lint.proofs.lemmas.IndexLemmas.{reading_at}
use Rattle.gix_refspec_lint.proofs.idle.reason_behind.Goals as goal

pub returns-then-is_negative : goal.returns-then-is_negative
returns-then-is_negative c g is earlier told r at positive =
    let specs = c.args.group.now.specs.now in
    let same = same_Some _ _ (sym (reading_at specs c.args.index c.index-group-index.result c.requires) ∙ at) in
    let negative = MatchBool-at_true _ _ c.if-is_negative.true c.is_negative.ensures in
    absurd (subst IsPositive negative (subst (λ (q : Reading). IsPositive q.mode) (sym same) positive))

pub returns-in_default : goal.returns-in_default
returns-in_default c g is earlier told r at =
    let specs = c.args.group.now.specs.now in
    let same = same_Some _ _ (sym (reading_at specs c.args.index c.index-group-index.result c.requires) ∙ at) in
    behind_none g (map reading_of specs) is.completed c.args.index c.args.before earlier r at
    (subst (λ (q : Reading). IsPositive q.mode) same (MatchBool-at_false _ _ c.if-is_negative.false
    c.is_negative.ensures)) c.args.why told c.in_default.is

pub returns-then-is_by_several : goal.returns-then-is_by_several
returns-then-is_by_several c g is earlier told = c.idle_reason.ensures g is

pub returns : goal.returns
returns c g is earlier told r at =
    let specs = c.args.group.now.specs.now in
    let same = same_Some _ _ (sym (reading_at specs c.args.index c.index-group-index.result c.requires) ∙ at) in
    behind_some g (map reading_of specs) is.completed c.args.index c.args.before earlier r at
    (subst (λ (q : Reading). IsPositive q.mode) same (MatchBool-at_false _ _ c.if-is_negative.false
    c.is_negative.ensures)) c.args.why told c.in-Some.reason c.in-Some.is
    (MatchBool-at_false _ _ c.if-is_by_several.false c.is_by_several.ensures)
