use Rattle.gix_refspec_match.proofs.Common.{sym, ◌∙◌, inl, inr, ap, option_map, bstr_bytes, accepted_few}
use Rattle.gix_refspec_match.proofs.matcher.sides_of.Goals as goal

pub kind_of-source-requires : goal.kind_of-source-requires
kind_of-source-requires c =
    rw c.as_bytes.ensures
    (accepted_few _ _ c.args.spec.now.accepted
    (inl (sym c.source.ensures ∙ ap (option_map bstr_bytes) c.in_ok-source.was)))

pub kind_of-requires : goal.kind_of-requires
kind_of-requires c = rw c.as_bytes-in-Some.ensures
    (accepted_few _ _ c.args.spec.now.accepted
    (inr (sym c.destination.ensures ∙ ap (option_map bstr_bytes) c.in-Some.is)))
