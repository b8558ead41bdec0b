use Rattle.gix_refspec.proofs.lemmas.validate.ConflictLemmas.{copied_source}
use Rattle.gix_refspec_diff.proofs.lemmas.ExampleLemmas.{shown_beside}
use Rattle.gix_refspec_diff.proofs.pairs.example_beside.Goals as goal

pub returns-in_default : goal.returns-in_default
returns-in_default c g h are included valid =
    rw (c.in_default.is, c.as_slice.ensures.value) at (c.in_ok-destination.ensures g h are included)

pub returns : goal.returns
returns c g h are included valid =
    shown_beside g h _ _ _ _ _ (copied_source _ _ c.in_ok-clone.ensures.keeps) valid
    (rw (c.in-Some.is, c.as_slice.ensures.value) at (c.in_ok-destination.ensures g h are included))
