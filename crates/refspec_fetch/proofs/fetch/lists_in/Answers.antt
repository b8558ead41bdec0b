-- The lists are those of the task.
use Rattle.std.proofs.Common.{List, [], map, subst, ℕ}
use Rattle.gix_refspec.specs.Views.Group.{ref_of}
use Rattle.refspec_io.specs.Input.{end_byte}
use Rattle.refspec_io.specs.Refs.{ListsNames, bad_bytes}
use Rattle.refspec_fetch.proofs.fetch.lists_in.Goals as goal

pub returns : goal.returns
returns c =
    let end = end_byte c.args.task.now.call.now.ends in
    let read = rw c.in-Some.is at c.in_ok-remote.ensures in
    let input = c.remote_input-input.ensures in
    let refs = map ref_of c.in-Some.remote.items.items in
    let local = map ref_of c.in_ok-local.local.items.items in
    let bad = map bad_bytes c.in_ok-local.local.bad.items in
    let remote = subst (λ (n : ℕ). ListsNames n c.remote_input-input.result.bytes.now refs []) input.end read.0 in
    let here = subst (λ (n : ℕ). ListsNames n c.local_input.result.now local bad) c.end_of.ensures
    c.in_ok-local.ensures in (
      record {
        remote = subst (λ (l : List ℕ). ListsNames end l refs []) input.bytes remote;
        here = subst (λ (l : List ℕ). ListsNames end l local bad) c.local_input.ensures here;
      },
      read.1,
    )
