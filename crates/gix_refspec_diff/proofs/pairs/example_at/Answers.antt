use Rattle.gix_refspec_diff.proofs.lemmas.ExampleLemmas.{none_excluded}
use Rattle.gix_refspec_diff.proofs.pairs.example_at.Goals as goal

pub returns-in_default : goal.returns-in_default
returns-in_default c g h are =
    let (n, named, (r, here, by)) = c.in_default.ensures g are.one in
    none_excluded g h _ _ _ n r named here by

pub returns-in_default-2 : goal.returns-in_default-2
returns-in_default-2 c g h are refs d valid sought =
    let enough = c.in_ok-names.ensures g h are in
    (rw c.in_default-2.is at (c.in_ok-example.ensures g h are (c.in-None.ensures g are.one) enough.valid)) d
    (enough.enough refs d valid sought)

pub returns : goal.returns
returns c g h are =
    let included = c.in-None.ensures g are.one in
    let names = c.in_ok-names.ensures g h are in
    c.in_ok-with_fewer.ensures g h are included
    (rw c.in-Some.is at (c.in_ok-example.ensures g h are included names.valid))
