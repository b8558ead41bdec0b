-- Each remote adds what it writes; then each ref is looked up.
use Rattle.std.proofs.Common.{◌≡◌, ◌<◌, ◌≤◌, List, [], get_or, length, map, sym, subst}
use Rattle.std.specs.List.{AllZip}
use Rattle.gix_refspec.specs.Views.Group.{ref_of}
use Rattle.gix_refspec_match.specs.declared.types.Item.{Item}
use Rattle.refspec_io.proofs.CheckedLemmas.{zip_all, zip_next}
use Rattle.refspec_commands.specs.declared.tracking.answer.Tracked.{Tracked}
use Rattle.refspec_commands.specs.declared.tracking.question.Remote.{Remote}
use Rattle.refspec_commands.specs.Answer.{IsLooked, IsTracked}
use Rattle.refspec_commands.proofs.tracking.answer.answer_to.Goals as goal

pub loop-remote-init : goal.loop-remote-init
loop-remote-init c = subst (AllZip (IsTracked (map ref_of c.args.question.now.refs.items)) []) (sym
    c.in_ok-remotes.ensures.items) tt

pub loop-remote-preserved : goal.loop-remote-preserved
loop-remote-preserved c =
    let refs = map ref_of c.args.question.now.refs.items in
    let all = c.args.question.now.remotes.items in
    let i = c.loop-remote.remote-index in
    let r = c.remote-item.result in
    let y = c.in_ok-tracked_by.field-0 in
    let same = c.deref-remote-items.ensures.value in
    let here = subst (λ (l : List Remote). r ≡ get_or l i r) same c.remote-item.is in
    let below = subst (λ (l : List Remote). i < length l) same c.loop-remote-test.true in
    let is = subst (λ (l : List Item). IsTracked (map ref_of l) r y) c.as_slice.ensures.value c.in_ok-tracked_by.ensures
    in
    zip_next (IsTracked refs) all i r c.loop-remote.remotes.items c.push.new.self.items y below c.loop-remote.invariant
    (subst (λ (x : Remote). IsTracked refs x y) here is) c.in_ok-push.ensures.items

pub returns : goal.returns
returns c =
    let refs = map ref_of c.args.question.now.refs.items in
    let all = c.args.question.now.remotes.items in
    let i = c.loop-remote.remote-index in
    let past = subst (λ (l : List Remote). length l ≤ i) c.deref-remote-items.ensures.value c.loop-remote-test.false in
    let looked = c.in_ok-refs.refs.items in
    let at = subst (λ (ts : List Tracked). AllZip (IsLooked ts) (map ref_of c.as_slice-2.result.now) looked)
    c.as_slice-3.ensures.value c.in_ok-refs.ensures in
    record {
      tracked = zip_all (IsTracked refs) all i c.loop-remote.remotes.items past c.loop-remote.invariant;
      looked_up = subst (λ (l : List Item). AllZip (IsLooked c.loop-remote.remotes.items) (map ref_of l) looked)
          c.as_slice-2.ensures.value at;
    }
