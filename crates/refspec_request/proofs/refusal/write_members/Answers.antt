-- The words between spaces, without the empty ones.
use Rattle.std.proofs.Common.{◌==◌, ap, length, map, not, rules, tests}
use Rattle.std.proofs.lemmas.Iterator.Consumers.{YieldsList-at, YieldsList-end, YieldsList-from_filter}
use Rattle.std.proofs.lemmas.Iterator.Splits.{YieldsList-from_slice_split}
use Rattle.refspec_request.specs.Refusals.{pieces_of_members}
use Rattle.refspec_request.specs.Remotes.{is_between, listed_in}
use Rattle.refspec_request.proofs.RefusalLemmas.{Writes-none, Writes-same, member_more}
use Rattle.refspec_request.proofs.refusal.write_members.Goals as goal

pub loop-member-init : goal.loop-member-init
loop-member-init c = Writes-none c.args.out.now.items

pub loop-member-preserved : goal.loop-member-preserved
loop-member-preserved c = member_more c.loop-member.yielded c.in-Some.member _ _ _ c.loop-member.invariant
    c.in_ok-write_about.ensures

pub returns : goal.returns
returns c =
    let seen = YieldsList-end
    (YieldsList-at c.into_iter-member-iterator.ensures.into_iter_gives
    (YieldsList-from_filter _ (λ word. not (length word == 0))
    (YieldsList-at c.filter-members.ensures.source
    (YieldsList-from_slice_split _ is_between c.args.text.now c.split.ensures.rest c.split.ensures.done
    c.split.ensures.closure (λ x r q k. search (rules, tests)))) c.filter-members.ensures.closure
    (λ x r q k. search (rules, tests))))
    c.loop-member.yielded _ c.loop-member.yielded_by _ _ c.in-None.is c.next.ensures.steps in
    Writes-same (pieces_of_members (map (λ y. y.now) c.loop-member.yielded))
    (pieces_of_members (listed_in c.args.text.now)) _ _ (ap pieces_of_members seen.0)
    c.loop-member.invariant
