-- Each name in the set.
use Rattle.std.proofs.Common.{[], sym}
use Rattle.std.proofs.lemmas.List.Elements.{All-nil}
use Rattle.refspec_request.specs.Choices.{HasNoOldForm}
use Rattle.refspec_git.proofs.ChosenLemmas.{old_found, old_last, old_next}
use Rattle.refspec_git.proofs.chosen.refuse_old.Goals as goal

pub loop-name-init : goal.loop-name-init
loop-name-init c = (
  [],
  sym c.into_iter-name-iterator.ensures.into_iter_gives.0,
  All-nil (λ n. HasNoOldForm c.args.repository.now n.now),
)

pub loop-name-preserved : goal.loop-name-preserved
loop-name-preserved c =
    let so_far = c.loop-name.invariant in
    old_next c.args.repository.now c.args.names.now.keys so_far.0 c.loop-name.name-iterator c.next.new.self
    c.in-Some.name.now so_far.1 c.in-Some.ensures.steps so_far.2 c.in_default.ensures

pub returns-in-Some-old_remote : goal.returns-in-Some-old_remote
returns-in-Some-old_remote c =
    let so_far = c.loop-name.invariant in
    old_found c.args.repository.now c.args.names.now.keys so_far.0 c.loop-name.name-iterator c.next.new.self
    c.in-Some.name.now c.in-Some-old_remote.refusal so_far.1 c.in-Some.ensures.steps c.in-Some-old_remote.ensures

pub returns : goal.returns
returns c =
    let so_far = c.loop-name.invariant in
    old_last c.args.repository.now c.args.names.now.keys so_far.0 c.loop-name.name-iterator so_far.1
    c.in-None.ensures.steps.0 so_far.2
