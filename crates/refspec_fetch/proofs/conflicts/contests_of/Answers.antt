-- One more run is settled.
use Rattle.std.proofs.Common.{◌≡◌, ◌∷◌, ◌++◌, ◌+◌, ◌-◌, ◌<◌, ◌≤◌, [], List, length, map, take, drop, sym, ap, ◌∙◌}
use Rattle.std.proofs.Common.{subst, arith}
use Rattle.std.proofs.lemmas.List.{drop-drop, length-drop, length-take-le, map-append, take_all}
use Rattle.gix_refspec_plan.specs.Views.Plan.{planned_of}
use Rattle.refspec_fetch.specs.declared.conflicts.Claimed.{Claimed}
use Rattle.refspec_fetch.specs.declared.conflicts.Contest.{Contest as DeclaredContest}
use Rattle.refspec_fetch.specs.Conflicts.{Contest, IsContestOf, IsRun, contest_of}
use Rattle.refspec_fetch.proofs.ContestLemmas.{AreSettled, all_settled, settled_more, settled_none}
use Rattle.refspec_fetch.proofs.conflicts.contests_of.Goals as goal

pub loop-at-init : goal.loop-at-init
loop-at-init c =
    let ps = map planned_of c.args.updates.now in (
      omega arith,
      subst (λ (l : List DeclaredContest). AreSettled ps c.as_slice-claims.result.now (map (contest_of ps) l))
          (sym c.new-contests.ensures.items)
          (subst (λ (cs : List Claimed). AreSettled ps cs []) (sym c.as_slice-claims.ensures.value)
          (settled_none ps c.in_ok-claims.claims.items c.in_ok-claims.ensures)),
    )

pub loop-at-preserved : goal.loop-at-preserved
loop-at-preserved c =
    let ps = map planned_of c.args.updates.now in
    let claims = c.as_slice-claims.result.now in
    let at = c.loop-at.at in
    let n = c.len_of_run-len.result in
    let told = c.len_of_run-len.ensures in
    let some : 0 < n = told.some in
    let contest = c.in_ok-contest_of.field-0 in
    let cs = map (contest_of ps) c.loop-at.contests.items in
    let rest : take (length claims - at) (drop at claims) ≡ drop at claims = take_all (length claims - at)
    (drop at claims) (omega (arith, length-drop at claims)) in
    let fits : n ≤ length (drop at claims) = subst (λ (xs : List Claimed). n ≤ length xs) rest told.fits in
    let grown : map (contest_of ps) c.push.new.self.items ≡ cs ++ contest_of ps contest ∷ [] =
    ap (map (contest_of ps)) c.in_ok-push.ensures.items ∙ map-append (contest_of ps) c.loop-at.contests.items
    (contest ∷ []) in (
      omega (arith, fits, length-drop at claims),
      subst (λ (l : List Contest). AreSettled ps (drop (at + n) claims) l) (sym grown)
          (subst (λ (xs : List Claimed). AreSettled ps xs (cs ++ contest_of ps contest ∷ [])) (drop-drop n at claims)
          (settled_more ps (drop at claims) n cs contest (omega (arith, some, length-take-le n (drop at claims) fits))
          (subst (λ (xs : List Claimed). IsRun (take n xs) (drop n xs)) rest told.split)
          (subst (λ (xs : List Claimed). IsContestOf (take n xs) contest) rest c.in_ok-contest_of.ensures)
          c.loop-at.invariant.1)),
    )

pub returns : goal.returns
returns c = all_settled (map planned_of c.args.updates.now) (drop c.loop-at.at c.as_slice-claims.result.now)
    (map (contest_of (map planned_of c.args.updates.now)) c.loop-at.contests.items)
    (omega (arith, length-drop c.loop-at.at c.as_slice-claims.result.now)) c.loop-at.invariant.1
