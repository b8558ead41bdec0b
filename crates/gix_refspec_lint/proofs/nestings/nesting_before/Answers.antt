-- By each slash of the text before the star.
use Rattle.gix_refspec_lint.proofs.Common.{List, ℕ, refl, arith}
use Rattle.gix_refspec_lint.proofs.lemmas.NestFoundLemmas.{directory_lacks, holds_all, holds_here, holds_past}
use Rattle.gix_refspec_lint.proofs.lemmas.NestFoundLemmas.{matched_nothing, none_before, none_matched, slash_begins}
use Rattle.gix_refspec_lint.specs.Private.Nestings.{NoneNested}
use Rattle.gix_refspec_lint.proofs.nestings.nesting_before.Goals.{then-below-index-eq47+then-is_some+in_ok-found+in_default}
use Rattle.gix_refspec_lint.proofs.nestings.nesting_before.Goals.{then-below-index-eq47+else-is_some}
use Rattle.gix_refspec_lint.proofs.nestings.nesting_before.Goals.{else-below-index-eq47}
use Rattle.gix_refspec_lint.proofs.nestings.nesting_before.Goals as goal

pub returns-in-Some : goal.returns-in-Some
returns-in-Some c g is upper lower =
    let text = c.args.below.0.now in
    let i = c.loop-index.index in
    rw c.in-Some.is at
    (c.in_ok-found.ensures g is
    (directory_lacks g _ is _ _ _ _ _ _ upper lower _
    (slash_begins text i c.loop-index-test.true c.if-below-index-eq47.true)) lower)

pub loop-index-preserved : goal.loop-index-preserved
loop-index-preserved c g is upper lower =
    let two = c.args.two.now in
    let text = c.args.below.0.now in
    let i = c.loop-index.index in
    let so_far = c.loop-index.invariant g is upper lower in
    elim c.if-below-index-eq47.branch [
      | then-below-index-eq47+then-is_some+in_ok-found+in_default w ↦
          let lacks = directory_lacks g _ is _ _ _ _ _ _ upper lower _
          (slash_begins text i c.loop-index-test.true w.if-below-index-eq47.true) in
          holds_here (λ d a. (e : List ℕ) → NoneNested g two.upper two.lower d e) text i so_far
          (λ a cut e. (rw w.in_default.is at (w.in_ok-found.ensures g is lacks lower)) _ e refl)
      | then-below-index-eq47+else-is_some w ↦ holds_here (λ d a. (e : List ℕ) → NoneNested g two.upper two.lower d e)
          text i so_far
          (λ a cut e. none_matched g _ is _ _ _ _ _ _ upper lower _
          (matched_nothing _ _ _ w.word_between.result w.is_some.ensures w.if-is_some.false w.word_between.ensures)
          e)
      | else-below-index-eq47 w ↦ holds_past (λ d a. (e : List ℕ) → NoneNested g two.upper two.lower d e) text i so_far
          w.if-below-index-eq47.false
    ]

pub returns : goal.returns
returns c g is upper lower =
    let two = c.args.two.now in
    none_before g _ is _ _ _ _ _ _ upper lower
    (holds_all (λ d a. (e : List ℕ) → NoneNested g two.upper two.lower d e) c.args.below.0.now c.loop-index.index
    (c.loop-index.invariant g is upper lower) (omega (arith, c.loop-index-test.false)))
