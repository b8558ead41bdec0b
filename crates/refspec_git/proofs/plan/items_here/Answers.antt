-- Each line adds a ref or none.
use Rattle.std.proofs.Common.{Bor, Global, List, Vec, [], ◌+◌, ◌++◌, ◌∷◌, ◌∙◌, ap, map, subst, sym, take, take_all, ℕ}
use Rattle.gix_refspec_match.specs.declared.types.Item.{Item}
use Rattle.gix_refspec_match.specs.Matching.Lists.{IsMadeFrom}
use Rattle.refspec_git.specs.Fetch.{IsWhole}
use Rattle.refspec_git.proofs.FetchLemmas.{AreHere-more, AreHere-other, names_in}
use Rattle.refspec_git.proofs.plan.items_here.Goals as goal
use Rattle.refspec_git.proofs.plan.items_here.Goals.{in-Some+in_ok-push, in_default}

-- the refs are those of the first lines
abbrev AreFirst : List (Bor (List ℕ)) → ℕ → Vec Item Global → Type 0
AreFirst lines i items = IsMadeFrom IsWhole 0 (map (λ (l : Bor (List ℕ)). l.now) (take i lines)) (names_in items.items)

pub loop-line-preserved : goal.loop-line-preserved
loop-line-preserved c =
    let lines = c.deref-line-items.result.now in
    let i = c.loop-line.line-index in
    let old = c.loop-line.items.items in
    let none : Bor (List ℕ) = record { ref_ptr = (0, 0); now = [] } in
    elim c.match-whole_name.branch [
      | in-Some+in_ok-push w ↦ subst (AreFirst lines (i + 1)) (sym w.items-is)
          (AreHere-more lines i none old w.push.new.self.items _ c.loop-line-test.true w.in_ok-push.ensures.items
          ((rw w.in-Some.is at c.whole_name.ensures) ∙ ap (λ (l : List ℕ). l ++ 32 ∷ []) (sym w.new.ensures))
          c.loop-line.invariant)
      | in_default w ↦ subst (AreFirst lines (i + 1)) (sym w.items-is)
          (AreHere-other lines i none old c.loop-line-test.true w.in_default.ensures c.loop-line.invariant)
    ]

pub returns : goal.returns
returns c =
    let lines = c.deref-line-items.ensures.value in
    let now = λ (l : Bor (List ℕ)). l.now in
    let names = names_in c.loop-line.items.items in
    let all = subst (λ (l : List (Bor (List ℕ))). IsMadeFrom IsWhole 0 (map now l) names)
    (take_all c.loop-line.line-index c.deref-line-items.result.now c.loop-line-test.false) c.loop-line.invariant in (
      map now c.in_ok-records.field-0.items,
      c.in_ok-records.ensures,
      subst (λ (l : List (Bor (List ℕ))). IsMadeFrom IsWhole 0 (map now l) names) lines all,
    )
