use Rattle.gix_refspec_lint.proofs.Common.{arith, inl, option_map, sym, ap, ◌∙◌, IfOk-weaker, bstr_bytes, reading_of}
use Rattle.gix_refspec_lint.proofs.Common.{accepted_few}
use Rattle.gix_refspec_lint.proofs.lemmas.IdleLemmas.{preferred_by, preferred_partial}
use Rattle.gix_refspec_lint.proofs.idle.candidates_before.Goals as goal

pub kind_of-requires : goal.kind_of-requires
kind_of-requires c =
    rw c.as_bytes.ensures
    (accepted_few (reading_of c.args.spec.now) (bstr_bytes c.in-Some-FullName.side) c.args.spec.now.accepted
    (inl (sym c.source.ensures ∙ ap (option_map bstr_bytes) c.in-Some-FullName.is-0)))

pub returns-in-Partial : goal.returns-in-Partial
returns-in-Partial c = grind (arith, IfOk-weaker, preferred_partial)

pub returns-in-Pattern : goal.returns-in-Pattern
returns-in-Pattern c = grind (arith, preferred_by)

pub returns-in-FullName : goal.returns-in-FullName
returns-in-FullName c = grind (arith, preferred_by)
