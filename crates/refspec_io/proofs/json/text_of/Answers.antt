-- The text begins with a quote; or it is UTF-8; or neither.
use Rattle.std.proofs.Common.{sym, ◌∙◌}
use Rattle.refspec_io.proofs.JsonLemmas.{json_text-begins, json_text-other, json_text-raw}
use Rattle.refspec_io.proofs.ShownLemmas.{if_ok}
use Rattle.refspec_io.proofs.json.text_of.Goals as goal

pub returns-then-begins_with_quote : goal.returns-then-begins_with_quote
returns-then-begins_with_quote c = if_ok c.quoted.result _ _ c.quoted.ensures
    (λ text is. is ∙ json_text-begins c.args.bytes.now (sym c.begins_with_quote.ensures ∙ c.if-begins_with_quote.true))

pub returns-in-Ok : goal.returns-in-Ok
returns-in-Ok c = if_ok c.from_str.result _ _ c.from_str.ensures.ok
    (λ text is. is
    ∙ (c.in-Ok.ensures.cases.0 ∙ json_text-raw c.args.bytes.now
    (sym c.begins_with_quote.ensures ∙ c.if-begins_with_quote.false) c.in-Ok.ensures.cases.1))

pub returns-in-Err : goal.returns-in-Err
returns-in-Err c = if_ok c.quoted-in-Err.result _ _ c.quoted-in-Err.ensures
    (λ text is. is ∙ json_text-other c.args.bytes.now (sym c.begins_with_quote.ensures ∙ c.if-begins_with_quote.false)
    c.in-Err.ensures.cases.0)
