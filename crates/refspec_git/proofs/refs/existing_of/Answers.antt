-- Each line adds a ref or none.
use Rattle.std.proofs.Common.{Bor, List, map, subst, sym, take, take_all, ℕ}
use Rattle.std.proofs.lemmas.List.{map_more}
use Rattle.refspec_git.specs.Refs.{AreRefs}
use Rattle.refspec_git.proofs.refs.existing_of.Goals as goal

abbrev now : Bor (List ℕ) → List ℕ
now line = line.now

pub loop-line-preserved : goal.loop-line-preserved
loop-line-preserved c =
    let lines = c.deref-line-items.result.now in
    let i = c.loop-line.line-index in
    subst (λ l. AreRefs l c.add_ref.new.existing) (sym (map_more now lines i _ c.loop-line-test.true))
    (c.in_ok-add_ref.ensures (map now (take i lines)) c.loop-line.invariant)

pub returns : goal.returns
returns c =
    let refs = c.loop-line.existing in
    let all = subst (λ (l : List (Bor (List ℕ))). AreRefs (map now l) refs)
    (take_all c.loop-line.line-index c.deref-line-items.result.now c.loop-line-test.false) c.loop-line.invariant in (
      map now c.in_ok-records.field-0.items,
      c.in_ok-records.ensures,
      subst (λ (l : List (Bor (List ℕ))). AreRefs (map now l) refs) c.deref-line-items.ensures.value all,
    )
