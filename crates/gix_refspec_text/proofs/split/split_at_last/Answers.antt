use Rattle.gix_refspec_text.proofs.lemmas.texts.TextLemmas.{split_at_last}
use Rattle.gix_refspec_text.proofs.split.split_at_last.Goals as goal

pub returns : goal.returns
returns c =
    let found = c.in_ok-at.ensures in
    split_at_last c.args.text.now _ _ c.in_ok-at.at c.args.byte found.0.high found.1 found.0.after
    c.split_at.ensures.front c.split_at.ensures.back
