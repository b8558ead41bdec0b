-- An id has as many digits as its kind says.
use Rattle.std.proofs.Common.{length, ap, sym, ◌∙◌}
use Rattle.gix_refspec.specs.Texts.ObjectId.{id_bytes}
use Rattle.gix_refspec_c.specs.Kept.{text_in}
use Rattle.gix_refspec_c.proofs.KeptLemmas.{length_of_digits}
use Rattle.gix_refspec_c.proofs.kept.Shown.len.Goals as goal

pub returns-in-Id : goal.returns-in-Id
returns-in-Id c =
    c.len_in_hex.ensures ∙ length_of_digits c.kind.result (id_bytes c.in-Id.id.now) c.kind.ensures
    ∙ ap (λ s. length (text_in s)) (sym c.in-Id.is)
