-- Nothing is named, or what is named has no file of its own.
use Rattle.std.proofs.Common.{Bor, List, ap, inl, inr, map, ℕ}
use Rattle.std.proofs.lemmas.Result.{err_from_is_err_and}
use Rattle.refspec_git.proofs.chosen.chosen_of.Goals as goal

abbrev now : Bor (List ℕ) → List ℕ
now it = it.now

pub returns-then-names_nothing-clause-ok : goal.returns-then-names_nothing-clause-ok
returns-then-names_nothing-clause-ok c = (c.if-names_nothing.ensures, ap (map now) c.new.ensures.items)

pub returns-in_err-named-clause-refused : goal.returns-in_err-named-clause-refused
returns-in_err-named-clause-refused c =
    let q = err_from_is_err_and c.from_residual.result c.from_residual.ensures.1 in
    rw (q.1, q.2) (c.if-names_nothing.ensures, inl c.in_err-named.ensures.refused)

pub returns-in_err-refuse_old-clause-refused : goal.returns-in_err-refuse_old-clause-refused
returns-in_err-refuse_old-clause-refused c =
    let q = err_from_is_err_and c.from_residual-in_err-refuse_old.result c.from_residual-in_err-refuse_old.ensures.1 in
    rw (q.1, q.2) (
      c.if-names_nothing.ensures,
      inr (_, _, c.in_ok-named.ensures.ok, c.in_err-refuse_old.ensures),
    )

pub returns-clause-ok : goal.returns-clause-ok
returns-clause-ok c = record {
  some = c.if-names_nothing.ensures;
  named = c.in_ok-named.ensures.ok;
  configured = c.in_ok-refuse_old.ensures;
}
