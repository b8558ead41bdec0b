-- Without `--remote`, or with its remote.
use Rattle.std.proofs.Common.{Bor, List, ap, inl, map, refl, ℕ}
use Rattle.std.proofs.lemmas.Bool.{iff_false}
use Rattle.refspec_git.proofs.ChosenLemmas.{named_none, named_one, remote_is}
use Rattle.refspec_git.proofs.chosen.named_first.Goals as goal

abbrev now : Bor (List ℕ) → List ℕ
now it = it.now

pub returns-in-None-clause-ok : goal.returns-in-None-clause-ok
returns-in-None-clause-ok c = named_none c.args.request.now c.args.repository.now c.new-remotes.result _ c.in-None.is
    c.new-remotes.ensures.empty (ap (map now) c.new.ensures.items)

pub returns-then-not-has_remote-clause-refused : goal.returns-then-not-has_remote-clause-refused
returns-then-not-has_remote-clause-refused c =
    inl (remote_is c.args.request.now c.in-Some.name c.in-Some.is, iff_false c.if-not-has_remote.ensures refl)

pub returns-in_ok-insert-in-Some-clause-ok : goal.returns-in_ok-insert-in-Some-clause-ok
returns-in_ok-insert-in-Some-clause-ok c = named_one c.args.request.now c.args.repository.now c.in-Some.name
    c.new-remotes.result c.insert.new.self _ c.in-Some.is (c.if-not-has_remote.ensures.0 refl)
    c.new-remotes.ensures.empty c.in_ok-insert-in-Some.ensures.updates (ap (map now) c.new-in-Some.ensures.items)
