use Rattle.gix_refspec_lint.proofs.lemmas.AlikeLemmas.{dead_first, dead_second, element_there, found_either}
use Rattle.gix_refspec_lint.proofs.Common.{IfOk-weaker, arith, false, option_map}
use Rattle.gix_refspec_lint.specs.Views.Lint.{nesting_of}
use Rattle.gix_refspec_lint.proofs.nestings.nesting_of_two.Goals as goal

pub returns-then-not-known-first : goal.returns-then-not-known-first
returns-then-not-known-first c g is have tell = dead_first g c.args.first c.args.second
    (tell c.args.first (element_there c.args.known.now.works.now c.args.first false false
    (omega (arith, c.requires.within, c.requires.works)) c.if-not-known-first.true))

pub returns-then-not-known-second : goal.returns-then-not-known-second
returns-then-not-known-second c g is have tell = dead_second g c.args.first c.args.second
    (tell c.args.second (element_there c.args.known.now.works.now c.args.second false false
    (omega (arith, c.requires.within, c.requires.works)) c.if-not-known-second.true))

pub returns : goal.returns
returns c g is have tell = IfOk-weaker c.nesting_either_way.result _ _
    (λ found. found_either g c.args.first c.args.second (option_map nesting_of found) c.requires.within.0)
    (c.nesting_either_way.ensures g is have)
