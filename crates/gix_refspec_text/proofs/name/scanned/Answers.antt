-- Of each sixteen bytes those after the calm run are checked one by one.
use Rattle.gix_refspec_text.proofs.Common.{arith, ◌≡◌, ◌+◌, ◌-◌, ◌≤◌, length, refl}
use Rattle.gix_refspec_text.proofs.lemmas.texts.NameLemmas.{IsClean-start}
use Rattle.gix_refspec_text.proofs.lemmas.texts.LetterLemmas.{calm_scanned}
use Rattle.gix_refspec_text.proofs.name.scanned.Goals as goal

pub scanned_to-requires : goal.scanned_to-requires
scanned_to-requires c = (omega arith, omega arith, (IsClean-start, refl))

pub scanned_to-requires-2 : goal.scanned_to-requires-2
scanned_to-requires-2 c = (omega arith, omega arith, (IsClean-start, refl))

pub scanned_to-requires-in-loop-index : goal.scanned_to-requires-in-loop-index
scanned_to-requires-in-loop-index c =
    let x = c.args.text.now in
    let i = c.loop-index.index in
    let run = c.calm_run.ensures in
    let room : c.min-from.result + 16 ≤ length x = omega arith in
    let end : c.max-calm.result ≤ c.min-from.result + 16 = omega (arith, run.1) in
    let scanned = calm_scanned (c.max-calm.result - i) x i c.max-calm.result c.loop-index.starred
    (omega arith) c.loop-index.invariant.1 (omega (arith, end, room))
    (λ k above below. run.0 k (omega (arith, above)) (omega (arith, above, below))) c.loop-index.invariant.0 in
    (end, room, scanned)

pub returns : goal.returns
returns c =
    let done : c.loop-index.index ≡ length c.args.text.now =
    omega (arith, c.loop-index.invariant.2, c.loop-index-test.false) in
    rw done at c.loop-index.invariant.0
