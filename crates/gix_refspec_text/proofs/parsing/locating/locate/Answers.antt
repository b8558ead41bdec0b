-- The text has the parts that it was split into, and what is wrong with the parts is wrong with the text.
use Rattle.gix_refspec_text.proofs.Common.{sym, subst, bstr_bytes, HasParts}
use Rattle.gix_refspec_text.proofs.lemmas.parsing.SpanLemmas.{accepted_right, only_span}
use Rattle.gix_refspec_text.proofs.parsing.locating.locate.Goals as goal

pub returns-in-Ok-clause-span : goal.returns-in-Ok-clause-span
returns-in-Ok-clause-span c =
    let p = c.new-parts.result in
    let text = bstr_bytes c.args.text in
    let parts = subst (λ x. HasParts x p) c.as_bytes-bytes.ensures c.new-parts.ensures.parts in
    rw (sym c.new-parts.ensures.operation) (accepted_right p.operation text _ (c.in-Ok.ensures.ok text parts))

pub returns-in-Err-clause-span : goal.returns-in-Err-clause-span
returns-in-Err-clause-span c = rw (c.as_bytes-bytes.ensures, c.new-parts.ensures.operation) at c.span_of.ensures.span

pub returns-in-Err-clause-only : goal.returns-in-Err-clause-only
returns-in-Err-clause-only c =
    let told = rw (c.as_bytes-bytes.ensures, c.new-parts.ensures.operation) at c.span_of.ensures.span in
    only_span c.args.operation (bstr_bytes c.args.text) c.span_of.result told

pub returns-in-Err-clause-inside : goal.returns-in-Err-clause-inside
returns-in-Err-clause-inside c = rw c.as_bytes-bytes.ensures at c.span_of.ensures.inside
