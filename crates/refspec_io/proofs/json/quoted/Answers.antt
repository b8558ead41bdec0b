-- The bytes between the quotes are ASCII.
use Rattle.std.proofs.Common.{◌++◌, ap, subst, sym, ◌∙◌}
use Rattle.std.specs.Str.{IsUtf8}
use Rattle.refspec_io.specs.Shown.{in_quotes}
use Rattle.refspec_io.proofs.JsonLemmas.{IsUtf8-in_quotes}
use Rattle.refspec_io.proofs.json.quoted.Goals as goal

pub string_of-requires : goal.string_of-requires
string_of-requires c =
    let same = c.as_slice.ensures.value
    ∙ (c.in_ok-write_in_quotes.ensures ∙ ap (λ l. l ++ in_quotes c.args.bytes.now) c.new-quoted.ensures.items) in
    subst IsUtf8 (sym same) (IsUtf8-in_quotes c.args.bytes.now (λ k. (c.type_inv.bytes k).fits))
