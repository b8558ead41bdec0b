use Rattle.gix_refspec_text.proofs.{Common.arith, lemmas.texts.ObjectIdLemmas.IsId-by_digits}
use Rattle.gix_refspec_text.proofs.oid.is_id.Goals as goal

pub returns-in-40 : goal.returns-in-40
returns-in-40 c = IsId-by_digits c.args.text.now c.are_digits.result (let is = c.in-40.is in grind arith)
    c.are_digits.ensures
