-- The entry with the index is that of the mapping with the index.
use Rattle.std.proofs.Common.{◌<◌, arith, get_or, length, map, ap, sym, subst, ◌∙◌}
use Rattle.std.proofs.lemmas.List.{length-map}
use Rattle.gix_refspec.specs.Views.Group.{mapped_of, readings_of}
use Rattle.gix_refspec_c.specs.declared.kept.Kept.{Kept}
use Rattle.gix_refspec_c.specs.Kept.{entries_of, no_entry}
use Rattle.gix_refspec_c.specs.Mapping.{backward_entry, forward_entry}
use Rattle.gix_refspec_c.proofs.KeptLemmas.{entry_at}
use Rattle.gix_refspec_c.proofs.kept.Kept.piece.Goals as goal

pub returns-in-Forward : goal.returns-in-Forward
returns-in-Forward c =
    let f = forward_entry (readings_of c.in-Forward.outcome.group) in
    let ms = c.in-Forward.outcome.mappings.items in
    let within : c.args.index < length (map f (map mapped_of ms)) =
    subst (λ (k : Kept). c.args.index < length (entries_of k)) c.in-Forward.is c.requires in
    c.forward_piece.ensures
    ∙ entry_at f ms c.args.index c.index.result.now
    (omega (arith, within, length-map (map mapped_of ms) f, length-map ms mapped_of)) c.index.ensures
    ∙ ap (λ (k : Kept). get_or (entries_of k) c.args.index no_entry) (sym c.in-Forward.is)

pub returns-in-Backward : goal.returns-in-Backward
returns-in-Backward c =
    let f = backward_entry (readings_of c.in-Backward.outcome.group) in
    let ms = c.in-Backward.outcome.mappings.items in
    let within : c.args.index < length (map f (map mapped_of ms)) =
    subst (λ (k : Kept). c.args.index < length (entries_of k)) c.in-Backward.is c.requires in
    c.backward_piece.ensures
    ∙ entry_at f ms c.args.index c.index-in-Backward.result.now
    (omega (arith, within, length-map (map mapped_of ms) f, length-map ms mapped_of)) c.index-in-Backward.ensures
    ∙ ap (λ (k : Kept). get_or (entries_of k) c.args.index no_entry) (sym c.in-Backward.is)
