-- Each merged ref adds what is found for it.
use Rattle.std.proofs.Common.{◌≡◌, ◌<◌, ◌≤◌, List, [], get_or, length, sym, subst}
use Rattle.std.specs.List.{AllZip}
use Rattle.refspec_io.proofs.CheckedLemmas.{zip_all, zip_next}
use Rattle.refspec_commands.specs.declared.upstreams.question.Merged.{Merged}
use Rattle.refspec_commands.specs.Upstreams.{IsFound}
use Rattle.refspec_commands.proofs.upstreams.answer.answer_to.Goals as goal

pub loop-merged-init : goal.loop-merged-init
loop-merged-init c = subst (AllZip IsFound []) (sym c.in_ok-found.ensures.items) tt

pub loop-merged-preserved : goal.loop-merged-preserved
loop-merged-preserved c =
    let all = c.args.question.now.merged.items in
    let i = c.loop-merged.merged-index in
    let m = c.merged-item.result in
    let x = c.in_ok-found_for.field-0 in
    let same = c.deref-merged-items.ensures.value in
    let here = subst (λ (l : List Merged). m ≡ get_or l i m) same c.merged-item.is in
    let below = subst (λ (l : List Merged). i < length l) same c.loop-merged-test.true in
    zip_next IsFound all i m c.loop-merged.found.items c.push.new.self.items x below c.loop-merged.invariant
    (subst (λ (y : Merged). IsFound y x) here c.in_ok-found_for.ensures) c.in_ok-push.ensures.items

pub returns : goal.returns
returns c =
    let all = c.args.question.now.merged.items in
    let i = c.loop-merged.merged-index in
    let past = subst (λ (l : List Merged). length l ≤ i) c.deref-merged-items.ensures.value c.loop-merged-test.false in
    zip_all IsFound all i c.loop-merged.found.items past c.loop-merged.invariant
