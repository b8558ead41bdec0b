use Rattle.gix_refspec_lint.proofs.Common.{◌≡◌, ◌++◌, append-nil, inl, option_map, sym, ap, ◌∙◌, bstr_bytes, reading_of}
use Rattle.gix_refspec_lint.proofs.Common.{accepted_few, IfOk-weaker, MatchBool-at_false}
use Rattle.gix_refspec_lint.proofs.lemmas.ExcludedLemmas.{all_excluded, apart_excluded, excludes_within, one_excluded}
use Rattle.gix_refspec_lint.proofs.lemmas.RemovalLemmas.{told_else}
use Rattle.gix_refspec_lint.proofs.lemmas.StaleLemmas.{completed_near}
use Rattle.gix_refspec_lint.proofs.removal.pruning.excluded_by.Goals as goal

pub parts_of-requires : goal.parts_of-requires
parts_of-requires c x is = accepted_few (reading_of c.args.negative.now) x c.args.negative.now.accepted
    (inl (sym c.source-2.ensures ∙ is))

pub returns-in_default-parts_of : goal.returns-in_default-parts_of
returns-in_default-parts_of c r e are writes inside done =
    let has = sym c.source.ensures ∙ ap (option_map bstr_bytes) c.in-Some.is in
    IfOk-weaker c.differs_from.result _ _
    (λ does. told_else _ _ _ does (one_excluded c.args.lists.now r are e inside _ _ _ _ writes
    (bstr_bytes c.in-Some.excluded) (sym done.source ∙ has)
    (λ before after. (rw c.source-2.ensures at c.in_default-parts_of.ensures) (bstr_bytes c.in-Some.excluded) before
    after has))) (rw c.as_bytes.ensures at c.differs_from.ensures)

pub returns-in_default-of : goal.returns-in_default-of
returns-in_default-of c r e are writes inside done =
    let (y, is, split) = c.in-Some-parts_of.ensures in
    let source = completed_near e (reading_of c.args.negative.now) done y _ _ (sym c.source-2.ensures ∙ is) split in
    apart_excluded c.args.lists.now r are e inside _ _ _ _ writes _ _ source
    (sym done.mode ∙ c.if-not-is_negative.ensures) c.in_default-of.ensures

pub returns : goal.returns
returns c r e are writes inside done =
    let (v, is, split) = c.in-Some-parts_of.ensures in
    let source = completed_near e (reading_of c.args.negative.now) done v _ _ (sym c.source-2.ensures ∙ is) split in
    let negative = sym done.mode ∙ c.if-not-is_negative.ensures in
    let x = c.beyond_prefix.result.now in
    let y = c.beyond_suffix.result.now in
    let prefix = c.as_bytes-2.result.now in
    let suffix = c.as_bytes-3.result.now in
    let is_prefix : prefix ≡ c.args.far.0.now ++ x = c.as_bytes-2.ensures ∙ c.as_bstr.ensures ∙ c.in_ok-prefix.ensures
    ∙ ap (λ o. c.args.far.0.now ++ o) (append-nil x) in
    let is_suffix : suffix ≡ y ++ c.args.far.1.now = c.as_bytes-3.ensures ∙ c.as_bstr-2.ensures ∙ c.in_ok-suffix.ensures
    ∙ ap (λ o. y ++ o) (append-nil c.args.far.1.now) in
    let around = excludes_within c.args.lists.now r are e inside _ _ _ _ writes _ _ source negative c.in-Some-of.taken
    c.in-Some-of.ensures x y prefix suffix c.beyond_prefix.ensures c.beyond_suffix.ensures is_prefix is_suffix in
    IfOk-weaker c.excluded_within.result _ _
    (λ does. told_else _ _ _ does (all_excluded c.args.lists.now r are e inside _ _ _ _ writes _ _ source negative
    c.in-Some-of.taken c.in-Some-of.ensures x y prefix suffix c.beyond_prefix.ensures c.beyond_suffix.ensures
    is_prefix is_suffix (MatchBool-at_false _ _ c.if-branch.false c.in_ok-differs_overlapping_from.ensures)))
    (c.excluded_within.ensures r e _ _ are writes inside around)
