use Rattle.gix_refspec_lint.proofs.Common.{arith, sym, subst, map, IsPositive, reading_of}
use Rattle.gix_refspec_lint.proofs.lemmas.IndexLemmas.{completed_at}
use Rattle.gix_refspec_lint.proofs.lemmas.LeftOutLemmas.{idle_earlier}
use Rattle.gix_refspec_lint.proofs.removal.works_at.Goals as goal

pub returns-in-None : goal.returns-in-None
returns-in-None c r at positive =
    let g = map reading_of c.args.values.now in
    let is = c.in_ok-group.ensures in
    let (e, here, done) = completed_at g _ is.completed c.args.index r at in
    (rw c.in-None.is at (c.in_ok-idle_reason.ensures g is)) e here (subst IsPositive (sym done.mode) positive)

pub returns : goal.returns
returns c r at positive works =
    let g = map reading_of c.args.values.now in
    let is = c.in_ok-group.ensures in
    let (e, here, done) = completed_at g _ is.completed c.args.index r at in
    let (own, idle) = (rw c.in-Some.is at (c.in_ok-idle_reason.ensures g is)) e here in
    let (h, before, maps) = idle_earlier g c.args.index c.in-Some.field-0 idle works.refs works.source works.destination
    works.valid works.fetches in
    works.first h (omega arith, before) maps
