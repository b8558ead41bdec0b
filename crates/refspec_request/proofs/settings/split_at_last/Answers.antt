-- What follows the byte that was found is the text from the next index on.
use Rattle.gix_refspec_text.proofs.lemmas.texts.TextLemmas.{split_at_last}
use Rattle.refspec_request.proofs.settings.split_at_last.Goals as goal

pub returns : goal.returns
returns c =
    let found = c.in_ok-at.ensures in
    split_at_last c.args.text.now c.split_at.result.0.now c.split_at.result.1.now c.in_ok-at.at c.args.byte
    found.0.high found.1 found.0.after c.split_at.ensures.front c.split_at.ensures.back
