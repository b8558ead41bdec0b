use Rattle.gix_refspec_remote.proofs.Common.{ap, ◌∙◌, Some, option_map, IfOk-weaker, bstr_bytes, reading_of}
use Rattle.gix_refspec_remote.proofs.lemmas.SidesLemmas.{turns_found, turns_not}
use Rattle.gix_refspec_remote.proofs.lemmas.WrittenLemmas.{plain_no_word}
use Rattle.gix_refspec_remote.proofs.upstreams.turned_by.Goals as goal

pub returns-in-None : goal.returns-in-None
returns-in-None c = turns_not (reading_of c.args.spec.now) c.in-Some.sides c.in-Some.ensures (bstr_bytes c.args.merge) _
    (c.in-Some.ensures.destination ∙ ap (option_map bstr_bytes) c.in-Some-destination.is)
    (λ w. (rw c.as_bytes.ensures at c.in-None.ensures) (Some w))

pub returns-in-None-word : goal.returns-in-None-word
returns-in-None-word c =
    turns_not (reading_of c.args.spec.now) c.in-Some.sides c.in-Some.ensures (bstr_bytes c.args.merge) _
    (c.in-Some.ensures.destination ∙ ap (option_map bstr_bytes) c.in-Some-destination.is)
    (plain_no_word _ _ (rw (c.in-None-word.is, c.as_bytes.ensures) at c.in-Some-read_by.ensures))

pub returns-in-Some-word : goal.returns-in-Some-word
returns-in-Some-word c = IfOk-weaker c.text_with.result _ _
    (turns_found (reading_of c.args.spec.now) c.in-Some.sides c.in-Some.ensures (bstr_bytes c.args.merge) _ _
    (c.in-Some.ensures.destination ∙ ap (option_map bstr_bytes) c.in-Some-destination.is)
    (rw (c.in-Some-word.is, c.as_bytes.ensures) at c.in-Some-read_by.ensures)) c.text_with.ensures
