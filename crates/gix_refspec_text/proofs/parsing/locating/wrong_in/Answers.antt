-- Of unbalanced sides one has a star.
use Rattle.gix_refspec_text.proofs.{Common.{refl, destination_of, mode_of}, lemmas.parsing.SideLemmas.now-unwrap_or}
use Rattle.gix_refspec_text.proofs.lemmas.parsing.SpanLemmas.{balanced}
use Rattle.gix_refspec_text.proofs.parsing.locating.wrong_in.Goals as goal

pub returns-in_err-first_star-in-PatternUnbalanced : goal.returns-in_err-first_star-in-PatternUnbalanced
returns-in_err-first_star-in-PatternUnbalanced c =
    let p = c.args.parts in
    let target = now-unwrap_or p.destination _ c.unwrap_or-destination.result c.unwrap_or-destination.ensures refl in
    let first = rw c.in-PatternUnbalanced.is at c.requires in
    let none = rw target at c.in_err-first_star-in-PatternUnbalanced.ensures in
    absurd (balanced p.operation (mode_of p.mode) p.source.now (destination_of p) first c.in_default.ensures none)
