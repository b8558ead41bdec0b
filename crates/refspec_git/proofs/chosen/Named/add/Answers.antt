-- A remote is inserted, or a spec added.
use Rattle.std.proofs.Common.{inl, inr, refl}
use Rattle.std.proofs.lemmas.Bool.{MatchBool-at_false, MatchBool-at_true}
use Rattle.std.proofs.lemmas.Result.{err_from_is_err_and}
use Rattle.refspec_git.proofs.ChosenLemmas.{remote_added, spec_added}
use Rattle.refspec_git.proofs.chosen.Named.add.Goals as goal

pub returns-in_err-is_remote-clause-refused : goal.returns-in_err-is_remote-clause-refused
returns-in_err-is_remote-clause-refused c =
    let q = err_from_is_err_and c.from_residual.result c.from_residual.ensures.1 in
    rw (q.1, q.2) (inl c.in_err-is_remote.ensures)

pub returns-then-branch-clause-ok : goal.returns-then-branch-clause-ok
returns-then-branch-clause-ok c = λ front count are.
    remote_added c.args.request.now c.args.repository.now front _ c.args.argument c.args.self.now.remotes
    c.insert.new.self are (MatchBool-at_true _ _ c.if-branch.true c.in_ok-is_remote.ensures)
    c.in_ok-insert.ensures.updates

pub returns-in_err-utf8-clause-refused : goal.returns-in_err-utf8-clause-refused
returns-in_err-utf8-clause-refused c =
    let q = err_from_is_err_and c.from_residual-in_err-utf8.result c.from_residual-in_err-utf8.ensures.1 in
    rw (q.1, q.2, c.in_err-utf8.ensures.0) (inr (
      MatchBool-at_false _ _ c.if-branch.false c.in_ok-is_remote.ensures,
      (refl, c.in_err-utf8.ensures.1),
    ))

pub returns-clause-ok : goal.returns-clause-ok
returns-clause-ok c = λ front count are.
    spec_added c.args.request.now c.args.repository.now front c.args.argument.now c.args.number
    c.args.self.now.remotes c.args.self.now.specs.items c.push.new.self.items _ count are
    (MatchBool-at_false _ _ c.if-branch.false c.in_ok-is_remote.ensures) c.in_ok-utf8.ensures
    c.in_ok-push.ensures.items
