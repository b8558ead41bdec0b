-- The slash is in one of three parts of the lower destination.
use Rattle.gix_refspec_lint.proofs.Common.{option_map, IfOk-weaker}
use Rattle.gix_refspec_lint.proofs.lemmas.NestFoundLemmas.{found_of_three, no_prefix, none_beside, none_open}
use Rattle.gix_refspec_lint.specs.Views.Lint.{nesting_of}
use Rattle.gix_refspec_lint.proofs.nestings.nesting_of_patterns.Goals as goal

pub returns-then-is_none : goal.returns-then-is_none
returns-then-is_none c g is upper lower = none_beside g _ is _ _ _ _ _ _ upper lower
    (no_prefix _ _ c.longer_prefix.result c.is_none.result c.is_none.ensures c.if-is_none.true c.longer_prefix.ensures)

pub returns-then-have_open_sides : goal.returns-then-have_open_sides
returns-then-have_open_sides c g is upper lower =
    none_open g _ is _ _ _ _ _ _ upper lower c.spec_at.result.now c.spec_at-2.result.now c.spec_at.ensures
    c.spec_at-2.ensures
    (c.have_open_sides.ensures c.if-have_open_sides.true)

pub returns-in-Some : goal.returns-in-Some
returns-in-Some c g is upper lower = rw c.in-Some.is at (c.in_ok-found.ensures g is upper lower)

pub returns-in-Some-2 : goal.returns-in-Some-2
returns-in-Some-2 c g is upper lower = rw c.in-Some-2.is at (c.in_ok-found-2.ensures g is upper lower)

pub returns : goal.returns
returns c g is upper lower =
    IfOk-weaker c.nesting_after.result _ _
    (λ found told. found_of_three g _ is _ _ _ _ _ _ upper lower (option_map nesting_of found)
    (rw c.in_default.is at (c.in_ok-found.ensures g is upper lower))
    (rw c.in_default-2.is at (c.in_ok-found-2.ensures g is upper lower)) told)
    (c.nesting_after.ensures g is upper lower)
