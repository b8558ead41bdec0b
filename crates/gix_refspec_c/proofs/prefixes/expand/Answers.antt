-- The expansion of the spec is written to the buffer.
use Rattle.std.proofs.Common.{List, ℕ, inr, refl, subst, sym}
use Rattle.std.proofs.lemmas.Result.{on_ok_weaker}
use Rattle.gix_refspec.specs.Views.Spec.{reading_of}
use Rattle.gix_refspec_c.specs.Group.{IsExpanded, IsExpandedTo, IsUnexpanded}
use Rattle.gix_refspec_c.proofs.SingleLemmas.{too_small}
use Rattle.gix_refspec_c.proofs.prefixes.expand.Goals as goal

pub returns-in_default-clause-err : goal.returns-in_default-clause-err
returns-in_default-clause-err c = (inr (refl, (reading_of c.in_ok-spec.spec, c.in_ok-spec.ensures.ok)), refl, refl)

pub returns-clause-ok : goal.returns-clause-ok
returns-clause-ok c =
    let is : IsExpanded c.args.operation c.args.text.now c.as_slice.result.now =
    record {
      reading = reading_of c.in_ok-spec.spec;
      reads = c.in_ok-spec.ensures.ok;
      is =
          subst (λ (lines : List ℕ). IsExpandedTo (reading_of c.in_ok-spec.spec) lines) (sym c.as_slice.ensures.value)
          c.in-Ok.ensures;
    } in
    on_ok_weaker c.write.result (λ holds. (c.as_slice.result.now, is, holds)) c.write.ensures.ok

pub returns-clause-err : goal.returns-clause-err
returns-clause-err c =
    let is : IsExpanded c.args.operation c.args.text.now c.as_slice.result.now =
    record {
      reading = reading_of c.in_ok-spec.spec;
      reads = c.in_ok-spec.ensures.ok;
      is =
          subst (λ (lines : List ℕ). IsExpandedTo (reading_of c.in_ok-spec.spec) lines) (sym c.as_slice.ensures.value)
          c.in-Ok.ensures;
    } in
    too_small (IsExpanded c.args.operation c.args.text.now) (IsUnexpanded c.args.operation c.args.text.now)
    c.as_slice.result.now c.args.buffer.now c.write.new.buffer c.args.len.now c.write.new.len c.write.result is
    c.write.ensures.small
