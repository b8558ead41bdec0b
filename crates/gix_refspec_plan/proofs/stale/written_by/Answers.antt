use Rattle.gix_refspec_plan.proofs.Common.{Some, option_map, sym, ap, ◌∙◌, bstr_bytes, reading_of}
use Rattle.gix_refspec_plan.proofs.lemmas.stale.SourceLemmas.{starred_unwritten}

pub returns-then-is_some : Rattle.gix_refspec_plan.proofs.stale.written_by.Goals.returns-then-is_some
returns-then-is_some c n =
    starred_unwritten (reading_of c.args.spec.now) c.as_bytes-destination.result.now n c.split_at_first_star.result
    (sym c.destination.ensures ∙ ap (option_map bstr_bytes) c.in-Some.is ∙ ap Some (sym c.as_bytes-destination.ensures))
    c.if-is_some.ensures c.split_at_first_star.ensures
