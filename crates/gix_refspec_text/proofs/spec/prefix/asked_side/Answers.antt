use Rattle.gix_refspec_text.proofs.Common.{arith, rules, IsAsked, reading_of}
use Rattle.gix_refspec_text.proofs.lemmas.specs.AcceptedLemmas.{accepted_few}
use Rattle.gix_refspec_text.proofs.spec.prefix.asked_side.Goals as goal

pub returns : goal.returns
returns c =
    let asked : IsAsked (reading_of c.args.spec.now) c.as_bytes.result.now = search rules in (
      asked,
      accepted_few (reading_of c.args.spec.now) c.as_bytes.result.now c.args.spec.now.accepted
          (let is = asked.side in grind arith),
    )
