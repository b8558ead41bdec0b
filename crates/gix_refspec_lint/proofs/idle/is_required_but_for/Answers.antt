use Rattle.gix_refspec_lint.proofs.Common.{arith, length-map, map, reading_of}
use Rattle.gix_refspec_lint.proofs.lemmas.AlikeLemmas.{dispensable_behind, earlier_some}
use Rattle.gix_refspec_lint.proofs.idle.is_required_but_for.Goals as goal

pub returns-in-Some : goal.returns-in-Some
returns-in-Some c =
    dispensable_behind (map reading_of c.args.specs.now) c.args.index _
    (omega (arith, c.requires.within, length-map c.args.specs.now reading_of))
    (earlier_some _ _ _ c.in-Some.is c.requires.earlier)
