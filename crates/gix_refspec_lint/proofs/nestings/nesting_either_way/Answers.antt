use Rattle.gix_refspec_lint.proofs.{Common.{inl, option_map, IfOk-weaker}, lemmas.NestFoundLemmas.{both_ways}}
use Rattle.gix_refspec_lint.specs.Views.Lint.{nesting_of}
use Rattle.gix_refspec_lint.proofs.nestings.nesting_either_way.Goals as goal

pub returns-in-Some : goal.returns-in-Some
returns-in-Some c g is have = inl (rw c.in-Some.is at (c.in_ok-nesting.ensures g is have))

pub returns : goal.returns
returns c g is have =
    IfOk-weaker c.nesting_between-2.result _ _ (λ found told. both_ways g _ _ (option_map nesting_of found)
    (rw c.in_default.is at (c.in_ok-nesting.ensures g is have)) told) (c.nesting_between-2.ensures g is have)
