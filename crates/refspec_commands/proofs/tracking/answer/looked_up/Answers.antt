-- How one more ref is written.
use Rattle.std.proofs.Common.{[], ap, length, sym, subst, ◌∙◌}
use Rattle.std.specs.List.{AllZip}
use Rattle.gix_refspec.specs.Views.Group.{ref_of}
use Rattle.refspec_commands.specs.Answer.{IsFound, IsLooked}
use Rattle.refspec_io.proofs.CheckedLemmas.{zip_mapped_all}
use Rattle.refspec_commands.proofs.EachLemmas.{zip_mapped}
use Rattle.refspec_commands.proofs.tracking.answer.looked_up.Goals as goal

pub loop-item-init : goal.loop-item-init
loop-item-init c = subst (AllZip (IsLooked c.args.remotes.now) []) (sym c.in_ok-looked.ensures.items) tt

pub loop-item-preserved : goal.loop-item-preserved
loop-item-preserved c =
    let ts = c.args.remotes.now in
    let few = ap length c.as_slice.ensures.value ∙ c.in_ok-in_full.ensures in
    let found = c.found_of-found.ensures ts c.in_ok-written.ensures few in
    zip_mapped (IsLooked ts) ref_of c.args.refs.now c.loop-item.item-index _ c.loop-item.looked.items _ _
    c.loop-item-test.true c.loop-item.invariant
    (c.as_bytes-name.ensures, subst (λ n. IsFound ts n c.found_of-found.result) c.as_bytes-name.ensures found)
    c.in_ok-push.ensures.items

pub returns : goal.returns
returns c = zip_mapped_all (IsLooked c.args.remotes.now) ref_of c.args.refs.now c.loop-item.item-index
    c.loop-item.looked.items c.loop-item-test.false c.loop-item.invariant
