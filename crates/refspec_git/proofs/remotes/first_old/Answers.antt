-- The first that has a form of its own.
use Rattle.std.proofs.Common.{List, ◌∙◌, ap, subst, take_all, ℕ}
use Rattle.std.proofs.lemmas.List.Elements.{All-more}
use Rattle.std.specs.List.{All}
use Rattle.refspec_request.specs.Choices.{HasNoOldForm, IsOldForm}
use Rattle.refspec_request.specs.declared.remotes.OldRemote.{OldRemote}
use Rattle.refspec_git.proofs.NamedLemmas.{HasFirst-at}
use Rattle.refspec_git.proofs.remotes.first_old.Goals as goal

-- the name of a remote
abbrev name_of : OldRemote → List ℕ
name_of o = o.name.items

pub loop-old-preserved : goal.loop-old-preserved
loop-old-preserved c =
    All-more (λ (o : OldRemote). HasNoOldForm c.args.repository.now o.name.items) c.args.repository.now.old.now
    c.loop-old.old-index c.old-item.result c.loop-old-test.true c.loop-old.invariant
    (subst (HasNoOldForm c.args.repository.now) (c.as_slice.ensures.value ∙ ap name_of c.old-item.is)
    c.in_default.ensures)

pub returns-in-Some : goal.returns-in-Some
returns-in-Some c =
    HasFirst-at (λ (o : OldRemote). HasNoOldForm c.args.repository.now o.name.items)
    (λ (o : OldRemote). IsOldForm c.args.repository.now o.name.items c.in-Some.refusal) c.args.repository.now.old.now
    c.loop-old.old-index c.old-item.result c.loop-old-test.true c.loop-old.invariant
    (subst (λ (n : List ℕ). IsOldForm c.args.repository.now n c.in-Some.refusal)
    (c.as_slice.ensures.value ∙ ap name_of c.old-item.is) c.in-Some.ensures)

pub returns : goal.returns
returns c =
    subst (All (λ (o : OldRemote). HasNoOldForm c.args.repository.now o.name.items))
    (take_all c.loop-old.old-index c.args.repository.now.old.now c.loop-old-test.false) c.loop-old.invariant
