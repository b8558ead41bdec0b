use Rattle.gix_refspec_remote.proofs.Common.{sym, ap, ◌∙◌, inl, inr, option_map, bstr_bytes, accepted_few}
use Rattle.gix_refspec_remote.proofs.written.written_sides.Goals as goal

pub returns-in-Some : goal.returns-in-Some
returns-in-Some c =
    let is = sym c.source.ensures ∙ ap (option_map bstr_bytes) c.in-Some.is in record {
      positive = c.if-is_negative.ensures;
      source = is;
      destination = sym c.destination.ensures;
      few = accepted_few _ _ c.args.spec.now.accepted (inl is);
      few_after = λ d to. accepted_few _ _ c.args.spec.now.accepted (inr to);
    }
