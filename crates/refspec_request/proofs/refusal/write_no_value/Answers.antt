-- The location, then the sentence.
use Rattle.std.proofs.Common.{◌∷◌, [], codes}
use Rattle.refspec_request.specs.Refusals.{location, words}
use Rattle.refspec_request.proofs.RefusalLemmas.{Writes-append}
use Rattle.refspec_request.proofs.refusal.write_no_value.Goals as goal

pub returns : goal.returns
returns c = Writes-append (location c.args.origin.now c.args.key.now)
    (words
    (codes "the value is missing, so Git stops; write `=` and a value behind the key, or remove its line") ∷ []) _ _ _
    c.in_ok-write_location.ensures c.in_ok-write_words.ensures
