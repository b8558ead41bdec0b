-- The place is added for what is left with each place taken off, and other places aren't there.
use Rattle.gix_refspec_match.proofs.Common.{codes, ◌++◌, inr, drop, on_ok_weaker, one_word}
use Rattle.gix_refspec_match.proofs.lemmas.index.PartialLemmas.{adds_below, adds_candidates, adds_nothing, adds_only}
use Rattle.gix_refspec_match.proofs.lemmas.index.PartialLemmas.{one_place}
use Rattle.gix_refspec_match.proofs.index.partials.Lookup.add_item.Goals as goal

pub returns-in_default : goal.returns-in_default
returns-in_default c = adds_candidates c.in_ok-add.ensures
    (adds_nothing
    (λ x w passes was inside. c.in_default.ensures (record { after = drop 5 c.args.name.now; here = inside.0 })))

pub returns-in_default-below_place : goal.returns-in_default-below_place
returns-in_default-below_place c =
    adds_candidates c.in_ok-add.ensures
    (adds_below c.in-Some.ensures c.in_ok-add-2.ensures
    (adds_nothing (λ x w passes was. c.in_default-below_place.ensures x))
    (adds_nothing (λ x w passes was head. c.in_default-below_place.ensures (x ++ codes "/HEAD") (inr (inr head)))))

pub returns-in_default-remote_of_head : goal.returns-in_default-remote_of_head
returns-in_default-remote_of_head c =
    adds_candidates c.in_ok-add.ensures (adds_below c.in-Some.ensures c.in_ok-add-2.ensures
    (adds_only _ c.in-Some-below_place.ensures (λ x. one_place _ _ x c.in-Some-below_place.ensures)
    c.in_ok-add-3.ensures) (adds_nothing (λ x w passes was. c.in_default-remote_of_head.ensures x)))

pub returns : goal.returns
returns c =
    on_ok_weaker c.add-4.result
    (λ last. adds_candidates c.in_ok-add.ensures (adds_below c.in-Some.ensures c.in_ok-add-2.ensures
    (adds_only _ c.in-Some-below_place.ensures (λ x. one_place _ _ x c.in-Some-below_place.ensures)
    c.in_ok-add-3.ensures)
    (adds_only _ c.in-Some-remote_of_head.ensures
    (λ x. one_word (codes "remotes/") (codes "/HEAD") _ _ x c.in-Some-remote_of_head.ensures) last)))
    c.add-4.ensures
