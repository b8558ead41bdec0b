use Rattle.gix_refspec_remote.proofs.Common.{ap, ◌∙◌, option_map, IfOk-weaker, bstr_bytes, reading_of}
use Rattle.gix_refspec_remote.proofs.lemmas.SidesLemmas.{stores_found}
use Rattle.gix_refspec_remote.proofs.upstreams.stored_by.Goals as goal

pub returns-in-Some-read_by : goal.returns-in-Some-read_by
returns-in-Some-read_by c = IfOk-weaker c.text_with.result _ _
    (stores_found (reading_of c.args.spec.now) c.in-Some.sides c.in-Some.ensures (bstr_bytes c.args.merge) _ _
    (c.in-Some.ensures.destination ∙ ap (option_map bstr_bytes) c.in-Some-destination.is)
    (rw c.as_bytes.ensures at c.in-Some-read_by.ensures)) c.text_with.ensures
