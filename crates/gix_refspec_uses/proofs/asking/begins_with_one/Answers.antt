-- One entry with which the name begins is enough.
use Rattle.std.proofs.Common.{◌≡◌, nat_eq, get_or, map, sym, ap, ◌∙◌, arith}
use Rattle.std.specs.List.{starts_with}
use Rattle.std.proofs.lemmas.List.{get_or-map, length-map}
use Rattle.std.proofs.lemmas.List.Folds.{list_any_at}
use Rattle.bstr.specs.Owned.{bstring_bytes}
use Rattle.gix_refspec_uses.proofs.asking.begins_with_one.Goals as goal

pub returns-then-starts_with : goal.returns-then-starts_with
returns-then-starts_with c =
    let i = c.loop-entry.entry-index in
    let entries = c.args.entries.now in
    let entry = c.entry-item.result in
    let below = c.loop-entry-test.true in
    let here : get_or (map bstring_bytes entries) i (bstring_bytes entry) ≡ c.as_bytes.result.now =
    get_or-map bstring_bytes entries i entry (bstring_bytes entry) below ∙ ap bstring_bytes (sym c.entry-item.is)
    ∙ sym c.as_bytes.ensures in
    sym (list_any_at (starts_with nat_eq c.args.name.now) (map bstring_bytes entries) i (bstring_bytes entry)
    (omega (arith, below, length-map entries bstring_bytes)) (ap (starts_with nat_eq c.args.name.now) here
    ∙ sym c.starts_with.ensures.value ∙ c.if-starts_with.true))
