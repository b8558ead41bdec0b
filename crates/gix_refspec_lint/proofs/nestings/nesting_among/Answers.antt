-- Where no name that decides makes an example, no directory that both patterns have in common does.
use Rattle.gix_refspec_lint.proofs.Common.{◌++◌, refl, take_all, arith, one_more_mapped, bstring_bytes}
use Rattle.gix_refspec_lint.proofs.lemmas.NestFoundLemmas.{none_followed}
use Rattle.gix_refspec_lint.specs.Private.Nestings.{NoneNested}
use Rattle.gix_refspec_lint.proofs.nestings.nesting_among.Goals as goal

pub returns-in-Some : goal.returns-in-Some
returns-in-Some c g is have = rw c.in-Some.is at (c.in_ok-found.ensures g is)

pub returns-in-Some-2 : goal.returns-in-Some-2
returns-in-Some-2 c g is have = rw c.in-Some-2.is at (c.in_ok-found-2.ensures g is)

pub loop-name-preserved : goal.loop-name-preserved
loop-name-preserved c g is =
    one_more_mapped bstring_bytes (λ n. NoneNested g c.args.two.now.upper c.args.two.now.lower n (n ++ c.args.rest.now))
    _ _ _ (c.loop-name.invariant g is) c.loop-name-test.true c.name-item.is
    ((rw c.in_default-2.is at (c.in_ok-found-2.ensures g is)) _ _ (refl, refl))

pub returns : goal.returns
returns c g is have =
    none_followed g _ is _ _ _ _ have _ (c.in_ok-deciding_names.ensures is.letter is.words)
    (rw (take_all c.loop-name.name-index c.deref-name-items.result.now (omega arith), c.deref-name-items.ensures.value)
    at (c.loop-name.invariant g is))
