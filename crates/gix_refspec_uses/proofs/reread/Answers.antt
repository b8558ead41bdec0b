-- The printed text has one reading, with the same meaning.
use Rattle.std.proofs.Common.{◌≡◌, ◌∙◌, Some, sym, ap, subst}
use Rattle.std.proofs.lemmas.Result.{IfOk-weaker}
use Rattle.bstr.specs.BStr.{bstr_bytes}
use Rattle.gix_refspec_text.specs.declared.parsing.Operation.{Operation}
use Rattle.gix_refspec.specs.Specs.Reading.{Reading}
use Rattle.gix_refspec.specs.Specs.Meaning.{printed}
use Rattle.gix_refspec.specs.Views.Instruction.{meaning_of_instruction}
use Rattle.gix_refspec.specs.Views.Spec.{reading_of}
use Rattle.gix_refspec_uses.specs.Claims.{IsRefspec, ReadsOnlyAs, IsReadAgain}
use Rattle.gix_refspec_uses.proofs.ClaimLemmas.{printed_is_refspec, printed_is_equal}
use Rattle.gix_refspec_uses.proofs.reread.Goals as goal

pub unreachable-requires : goal.unreachable-requires
unreachable-requires c =
    let r = reading_of c.args.spec.now in
    let text = bstr_bytes c.as_bstr.result in
    let same = c.operation.ensures ∙ c.says_for_operation.ensures (meaning_of_instruction c.instruction.result)
    c.instruction.ensures in
    let is : printed r ≡ Some text = c.in_ok-text.ensures ∙ ap Some (sym c.as_bstr.ensures) in
    let none : ¬ (IsRefspec c.operation.result text) = rw c.in-None.is at c.in_ok-again.ensures.ok in
    none (printed_is_refspec c.operation.result r text c.spec_reads_back.ensures same is)

pub returns : goal.returns
returns c =
    let r = reading_of c.args.spec.now in
    let q = reading_of c.in-Some.again in
    let text = bstr_bytes c.as_bstr.result in
    let same = c.operation.ensures ∙ c.says_for_operation.ensures (meaning_of_instruction c.instruction.result)
    c.instruction.ensures in
    let is : printed r ≡ Some text = c.in_ok-text.ensures ∙ ap Some (sym c.as_bstr.ensures) in
    let reads : ReadsOnlyAs c.operation.result text q = rw c.in-Some.is at c.in_ok-again.ensures.ok in
    let equal = printed_is_equal c.operation.result r q text c.spec_reads_back.ensures same is reads
    c.equal_specs.ensures.text in
    let again : IsReadAgain r q =
    record {
      text = text;
      is = is;
      reads = subst (λ (o : Operation). ReadsOnlyAs o text q) same reads;
      equal =
          equal;
    } in
    IfOk-weaker c.to_owned.result _ _ (λ owned keeps. subst (λ (x : Reading). IsReadAgain r x) (sym keeps) again)
    c.to_owned.ensures.keeps
