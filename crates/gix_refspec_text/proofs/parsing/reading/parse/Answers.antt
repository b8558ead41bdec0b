-- The text has the parts that it was split into, so what holds for the parts holds for the text.
use Rattle.gix_refspec_text.proofs.Common.{arith, sym, subst, bstr_bytes, HasParts}
use Rattle.gix_refspec_text.proofs.lemmas.parsing.ReadsLemmas.{error_of_text}
use Rattle.gix_refspec_text.proofs.parsing.reading.parse.Goals as goal

pub returns-in-Err : goal.returns-in-Err
returns-in-Err c =
    let told = error_of_text c.new-parts.result _ (bstr_bytes c.args.spec) c.error_of.result c.as_bytes.ensures
    c.new-parts.ensures.parts c.error_of.ensures in
    rw (sym c.new-parts.ensures.operation)
    (record { ok = tt; refused = λ other. grind arith; memory = λ same. rw same at told })

pub invariant_of-result : goal.invariant_of-result
invariant_of-result c =
    let parts = subst (λ x. HasParts x c.new-parts.result) c.as_bytes.ensures c.new-parts.ensures.parts in
    record {
      accepted = ∣ (bstr_bytes c.args.spec, rw (sym c.new-parts.ensures.operation) (c.in-Ok.ensures.ok _ parts))
          ∣₁;
    }

pub returns-in-Ok-clause-ok : goal.returns-in-Ok-clause-ok
returns-in-Ok-clause-ok c =
    let parts = subst (λ x. HasParts x c.new-parts.result) c.as_bytes.ensures c.new-parts.ensures.parts in
    rw (sym c.new-parts.ensures.operation) (c.in-Ok.ensures.ok (bstr_bytes c.args.spec) parts)
