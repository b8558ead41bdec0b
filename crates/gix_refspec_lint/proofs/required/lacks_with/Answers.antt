use Rattle.gix_refspec_lint.proofs.Common.{map, refl, take_all, arith, false≢true, bstring_bytes, reading_of}
use Rattle.gix_refspec_lint.proofs.Common.{text_contained}
use Rattle.gix_refspec_lint.proofs.lemmas.RequiredLemmas.{had_beside, lacks_too}
use Rattle.gix_refspec_lint.proofs.required.lacks_with.Goals as goal

pub returns-then-not-contains : goal.returns-then-not-contains
returns-then-not-contains c r named =
    let list = c.deref-name-items.result.now in
    let there = text_contained list c.loop-name.name-index c.name-item.result
    (map bstring_bytes list) refl c.loop-name-test.true c.name-item.is in
    let told = rw c.as_bstr.ensures at c.if-not-contains.ensures in
    had_beside (reading_of c.args.spec.now) _ (map bstring_bytes c.in-Some.named.items)
    (bstring_bytes c.name-item.result) (rw c.in-Some.is at c.in_ok-named.ensures)
    (rw c.deref-name-items.ensures.value at there) (λ has. false≢true (told.1 has))

pub returns : goal.returns
returns c r named =
    lacks_too r (reading_of c.args.spec.now) _ (map bstring_bytes c.in-Some.named.items) named
    (rw c.in-Some.is at c.in_ok-named.ensures)
    (rw (
      take_all c.loop-name.name-index c.deref-name-items.result.now (omega arith),
      c.deref-name-items.ensures.value,
    ) at c.loop-name.invariant)
