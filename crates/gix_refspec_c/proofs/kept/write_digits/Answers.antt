-- The slice is as long as the digits.
use Rattle.std.proofs.Common.{◌≡◌, ◌*◌, false, true, length, ap, sym, ◌∙◌}
use Rattle.gix_refspec.specs.Texts.ObjectId.{id_bytes}
use Rattle.gix_refspec_c.proofs.KeptLemmas.{length-lower_of}
use Rattle.gix_refspec_c.proofs.kept.write_digits.Goals as goal

pub unreachable-requires : goal.unreachable-requires
unreachable-requires c =
    let long : length c.args.slice.now ≡ 2 * length c.as_slice.result.now =
    c.requires ∙ length-lower_of (id_bytes c.args.id.now) ∙ ap (λ i. 2 * length i) (sym c.as_slice.ensures) in
    let fits : false ≡ true = c.in-Err.ensures.fits.1 long in cc
