-- By each slash of the text after the star.
use Rattle.gix_refspec_lint.proofs.Common.{None, ◌++◌, ◌∷◌, ◌∙◌, ap, slash, subst, sym, arith, take, take-append-drop}
use Rattle.gix_refspec_lint.proofs.lemmas.NestFoundLemmas.{have_after, holds_all, holds_here, holds_past, none_after}
use Rattle.gix_refspec_lint.proofs.lemmas.NestFoundLemmas.{none_common, rest_is, slash_rest, slice_rest}
use Rattle.gix_refspec_lint.specs.Private.Nestings.{IsFollowed, IsFoundIf}
use Rattle.gix_refspec_lint.proofs.nestings.nesting_after.Goals.{then-below-index-eq47+in-Some+in_ok-found+in_default-2}
use Rattle.gix_refspec_lint.proofs.nestings.nesting_after.Goals.{then-below-index-eq47+in_default}
use Rattle.gix_refspec_lint.proofs.nestings.nesting_after.Goals.{else-below-index-eq47}
use Rattle.gix_refspec_lint.proofs.nestings.nesting_after.Goals as goal

pub returns-in-Some-2 : goal.returns-in-Some-2
returns-in-Some-2 c g is upper lower =
    let text = c.args.below.1.now in
    let i = c.loop-index.index in
    let have = have_after g _ is _ _ _ _ _ _ upper lower (take i text) _ _
    (sym (ap (λ r. take i text ++ r) (slice_rest text i) ∙ take-append-drop i text))
    (slice_rest text i ∙ slash_rest text i c.loop-index-test.true c.if-below-index-eq47.true) c.in-Some.common
    c.in-Some.ensures in
    rw c.in-Some-2.is at (c.in_ok-found.ensures g is have)

pub loop-index-preserved : goal.loop-index-preserved
loop-index-preserved c g is upper lower =
    let two = c.args.two.now in
    let text = c.args.below.1.now in
    let i = c.loop-index.index in
    let so_far = c.loop-index.invariant g is upper lower in
    elim c.if-below-index-eq47.branch [
      | then-below-index-eq47+in-Some+in_ok-found+in_default-2 w ↦
          let have = have_after g _ is _ _ _ _ _ _ upper lower (take i text) _ _
          (sym (ap (λ r. take i text ++ r) (slice_rest text i) ∙ take-append-drop i text))
          (slice_rest text i ∙ slash_rest text i c.loop-index-test.true w.if-below-index-eq47.true) w.in-Some.common
          w.in-Some.ensures in
          holds_here (λ p a. IsFoundIf g two.upper two.lower (IsFollowed c.args.below.0.now p (slash ∷ a)) None) text i
          so_far (λ a cut.
          subst (λ r. IsFoundIf g two.upper two.lower (IsFollowed c.args.below.0.now (take i text) r) None)
          (slice_rest text i ∙ rest_is text a i cut) (rw w.in_default-2.is at (w.in_ok-found.ensures g is have)))
      | then-below-index-eq47+in_default w ↦
          holds_here (λ p a. IsFoundIf g two.upper two.lower (IsFollowed c.args.below.0.now p (slash ∷ a)) None) text i
          so_far
          (λ a cut. none_common g _ is _ _ _ _ _ _ upper lower _ _ w.in_default.ensures)
      | else-below-index-eq47 w ↦
          holds_past (λ p a. IsFoundIf g two.upper two.lower (IsFollowed c.args.below.0.now p (slash ∷ a)) None) text i
          so_far w.if-below-index-eq47.false
    ]

pub returns : goal.returns
returns c g is upper lower =
    let two = c.args.two.now in
    none_after g _ is _ _ _ _ _ _ upper lower
    (holds_all (λ p a. IsFoundIf g two.upper two.lower (IsFollowed c.args.below.0.now p (slash ∷ a)) None)
    c.args.below.1.now c.loop-index.index (c.loop-index.invariant g is upper lower)
    (omega (arith, c.loop-index-test.false)))
