-- A spec was left out if one of a remote was.
use Rattle.std.proofs.Common.{◌≡◌, List, [], length, take_all, arith, ap, sym, subst, ◌∙◌}
use Rattle.std.proofs.lemmas.Bool.{eqb-false, eqb-true}
use Rattle.std.proofs.lemmas.List.{nil_from_length}
use Rattle.std.proofs.lemmas.List.Elements.{All-more}
use Rattle.std.specs.List.{All}
use Rattle.refspec_commands.specs.declared.tracking.answer.Tracked.{Tracked}
use Rattle.refspec_commands.proofs.tracking.answer.has_left_out.Goals as goal

pub returns-then-not-is_empty : goal.returns-then-not-is_empty
returns-then-not-is_empty c =
    let out = c.remote-item.result.left_out in
    let some = eqb-false _ _ (sym c.is_empty.ensures ∙ c.if-not-is_empty.true) in (
      c.loop-remote.remote-index,
      c.remote-item.result,
      c.loop-remote-test.true,
      sym c.remote-item.is,
      λ none. omega (arith, some, ap length none, out.ok.0, out.ok.1),
    )

pub loop-remote-preserved : goal.loop-remote-preserved
loop-remote-preserved c =
    let out = c.remote-item.result.left_out in
    let zero = eqb-true _ _ (sym c.is_empty.ensures ∙ c.if-not-is_empty.false) in
    let none = nil_from_length out.items (omega (arith, zero, out.ok.0, out.ok.1)) in
    All-more (λ (t : Tracked). t.left_out.items ≡ []) c.args.remotes.now c.loop-remote.remote-index c.remote-item.result
    c.loop-remote-test.true c.loop-remote.invariant
    (subst (λ (t : Tracked). t.left_out.items ≡ []) c.remote-item.is none)

pub returns : goal.returns
returns c = subst (λ (l : List Tracked). All (λ t. t.left_out.items ≡ []) l)
    (take_all c.loop-remote.remote-index c.args.remotes.now c.loop-remote-test.false) c.loop-remote.invariant
