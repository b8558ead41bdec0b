use Rattle.gix_refspec_lint.proofs.Common.{inr, option_map, sym, ap, ◌∙◌, subst, bstr_bytes, reading_of, accepted_few}
use Rattle.gix_refspec_lint.proofs.Common.{IfOk-weaker, MatchBool-at_false}
use Rattle.gix_refspec_lint.proofs.lemmas.ExcludedLemmas.{all_apart, all_within, apart_within, one_within}
use Rattle.gix_refspec_lint.proofs.lemmas.RemovalLemmas.{told_else}
use Rattle.gix_refspec_lint.proofs.lemmas.StaleLemmas.{completed_far, one_written}
use Rattle.gix_refspec_lint.specs.Private.Removals.{AreSameAmong, all_of, rest_of}
use Rattle.gix_refspec_lint.proofs.removal.pruning.excluded_beside.Goals as goal

pub parts_of-requires : goal.parts_of-requires
parts_of-requires c x is = accepted_few (reading_of c.args.other.now) x c.args.other.now.accepted
    (inr (sym c.destination-2.ensures ∙ is))

pub returns-in_default-parts_of : goal.returns-in_default-parts_of
returns-in_default-parts_of c r e p t are writes inside around q in_q done =
    let has = sym c.destination.ensures ∙ ap (option_map bstr_bytes) c.in-Some.is in
    IfOk-weaker c.differs_alone.result _ _
    (λ does. told_else _ _ _ does (one_within c.args.lists.now r are e inside p t _ _ writes _ _ around q in_q
    (bstr_bytes c.in-Some.destination)
    (one_written q (reading_of c.args.other.now) done (rw c.destination-2.ensures at c.in_default-parts_of.ensures)
    (bstr_bytes c.in-Some.destination) has))) (rw c.as_bytes.ensures at c.differs_alone.ensures)

pub returns-in_default-of : goal.returns-in_default-of
returns-in_default-of c r e p t are writes inside around q in_q done =
    let (d, is, split) = c.in-Some-parts_of.ensures in
    let far = completed_far q (reading_of c.args.other.now) done d _ _ (sym c.destination-2.ensures ∙ is) split in
    apart_within c.args.lists.now r are e inside p t _ _ writes _ _ around q in_q _ _ far c.in_default-of.ensures

pub returns-in-None : goal.returns-in-None
returns-in-None c r e p t are writes inside around q in_q done =
    let (d, is, split) = c.in-Some-parts_of.ensures in
    let far = completed_far q (reading_of c.args.other.now) done d _ _ (sym c.destination-2.ensures ∙ is) split in
    all_apart c.args.lists.now r are e inside p t _ _ writes _ _ around q in_q _ _ far c.in-Some-of.shared
    c.in-Some-of.ensures (MatchBool-at_false _ _ c.if-branch.false c.in_ok-differs_overlapping.ensures)
    c.in-None.ensures

pub returns-in-Some-of-2 : goal.returns-in-Some-of-2
returns-in-Some-of-2 c r e p t are writes inside around q in_q done =
    let lists = c.args.lists.now in
    let (d, is, split) = c.in-Some-parts_of.ensures in
    let far = completed_far q (reading_of c.args.other.now) done d _ _ (sym c.destination-2.ensures ∙ is) split in
    IfOk-weaker c.differs_among.result _ _
    (λ does. told_else _ _ _ does (λ among. all_within lists r are e inside p t _ _ writes _ _ around q in_q _ _ far
    c.in-Some-of.shared c.in-Some-of.ensures
    (MatchBool-at_false _ _ c.if-branch.false c.in_ok-differs_overlapping.ensures)
    c.in-Some-of-2.common c.in-Some-of-2.ensures
    (subst (λ ws. AreSameAmong (all_of lists) (rest_of lists) ws c.in-Some-of-2.common) are.words among)))
    c.differs_among.ensures
