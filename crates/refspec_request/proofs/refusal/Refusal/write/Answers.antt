-- The name of the program, the sentence, a newline and the advice.
use Rattle.std.proofs.Common.{◌∷◌, [], ◌++◌, codes}
use Rattle.refspec_request.specs.Refusals.{advice_of, sentence_of, words}
use Rattle.refspec_request.proofs.RefusalLemmas.{Writes-append}
use Rattle.refspec_request.proofs.refusal.Refusal.write.Goals as goal

pub returns : goal.returns
returns c =
    let refusal = c.args.self.now in
    let rest = words (codes "\n") ∷ advice_of refusal in
    Writes-append (words (codes "git refspec: ") ∷ []) (sentence_of refusal ++ rest) _ _ _ c.in_ok-write_words.ensures
    (Writes-append (sentence_of refusal) rest _ _ _ c.in_ok-write_sentence.ensures
    (Writes-append (words (codes "\n") ∷ []) (advice_of refusal) _ _ _ c.in_ok-write_words-2.ensures
    c.in_ok-write_advice.ensures))
