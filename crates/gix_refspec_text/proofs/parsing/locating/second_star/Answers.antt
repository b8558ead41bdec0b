use Rattle.gix_refspec_text.proofs.{Common.{sym, ◌∙◌, star}, lemmas.parsing.SideLemmas.HasStar-stars}
use Rattle.gix_refspec_text.proofs.lemmas.texts.TextLemmas.{Lacks-ContainsText, one_not_two}
use Rattle.gix_refspec_text.proofs.parsing.locating.second_star.Goals as goal

pub unreachable-requires : goal.unreachable-requires
unreachable-requires c =
    let x = c.args.side.now in
    Lacks-ContainsText star x c.in_default.ensures (HasStar-stars x c.requires)

pub unreachable-requires-in_default-split_at_first_star : goal.unreachable-requires-in_default-split_at_first_star
unreachable-requires-in_default-split_at_first_star c =
    let stars = c.requires in
    let split = c.in-Some.ensures in
    let lacks = c.in_default-split_at_first_star.ensures in
    one_not_two star c.in-Some.before.now c.in-Some.rest.now stars.before stars.between stars.after split.1 lacks
    (sym split.0 ∙ stars.here)
