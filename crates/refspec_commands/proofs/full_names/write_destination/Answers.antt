-- The four pieces, in order.
use Rattle.std.proofs.Common.{[], ◌∷◌, codes}
use Rattle.refspec_commands.specs.Advice.{part_stored}
use Rattle.refspec_commands.proofs.AdviceLemmas.{four_pieces}
use Rattle.refspec_commands.proofs.full_names.write_destination.Goals as goal

pub returns : goal.returns
returns c = four_pieces _ (codes ":refs/remotes/") _ c.args.remote.now _ (47 ∷ []) _ (part_stored c.args.name.now)
    c.part_stored.result.now _ c.in_ok-extend_from_slice.ensures.items c.in_ok-extend_from_slice-2.ensures.items
    c.in_ok-extend_from_slice-3.ensures.items c.part_stored.ensures c.in_ok-extend_from_slice-4.ensures.items
