-- The canonical text is written to the buffer.
use Rattle.std.proofs.Common.{Some, inr, refl, ap, sym, ◌∙◌}
use Rattle.std.proofs.lemmas.Result.{on_ok_weaker}
use Rattle.gix_refspec.specs.Views.Spec.{reading_of}
use Rattle.gix_refspec_c.specs.Single.{IsCanonical, IsUnprinted}
use Rattle.gix_refspec_c.proofs.SingleLemmas.{too_small}
use Rattle.gix_refspec_c.proofs.single.print.Goals as goal

pub returns-in_default-clause-err : goal.returns-in_default-clause-err
returns-in_default-clause-err c = (inr (refl, (reading_of c.in_ok-spec.spec, c.in_ok-spec.ensures.ok)), refl, refl)

pub returns-clause-ok : goal.returns-clause-ok
returns-clause-ok c =
    let is : IsCanonical c.args.operation c.args.text.now c.as_bytes.result.now =
    record {
      reading = reading_of c.in_ok-spec.spec;
      reads = c.in_ok-spec.ensures.ok;
      is = c.in-Ok.ensures
          ∙ ap Some (sym c.as_bytes.ensures);
    } in
    on_ok_weaker c.write.result (λ holds. (c.as_bytes.result.now, is, holds)) c.write.ensures.ok

pub returns-clause-err : goal.returns-clause-err
returns-clause-err c =
    let is : IsCanonical c.args.operation c.args.text.now c.as_bytes.result.now =
    record {
      reading = reading_of c.in_ok-spec.spec;
      reads = c.in_ok-spec.ensures.ok;
      is = c.in-Ok.ensures
          ∙ ap Some (sym c.as_bytes.ensures);
    } in
    too_small (IsCanonical c.args.operation c.args.text.now) (IsUnprinted c.args.operation c.args.text.now)
    c.as_bytes.result.now c.args.buffer.now c.write.new.buffer c.args.len.now c.write.new.len c.write.result is
    c.write.ensures.small
