-- The canonical text of the spec is read again.
use Rattle.bstr.specs.BStr.{bstr_bytes}
use Rattle.bstr.specs.Owned.{bstring_bytes}
use Rattle.gix_refspec.specs.Views.Spec.{reading_of}
use Rattle.gix_refspec_uses.specs.Claims.{ReadsOnlyAs}
use Rattle.gix_refspec_uses.proofs.ClaimLemmas.{canonical_text}
use Rattle.gix_refspec_uses.proofs.canonical.Goals as goal

pub returns-in_ok-to_bstring-in-Some : goal.returns-in_ok-to_bstring-in-Some
returns-in_ok-to_bstring-in-Some c =
    let text = bstr_bytes c.args.text in
    let r = reading_of c.in-Some.spec in
    let reads : ReadsOnlyAs c.args.operation text r = rw c.in-Some.is at c.in_ok-spec.ensures.ok in
    let back = (rw c.as_bytes.ensures at c.reads_back.ensures) r reads.reads in
    canonical_text c.args.operation text (bstring_bytes c.in_ok-to_bstring-in-Some.field-0) r reads.reads back
    c.in_ok-to_bstring-in-Some.ensures
