-- The names that are told are those of nested destinations.
use Rattle.gix_refspec_plan.proofs.{Common.{IfOk-weaker, map, mapped_of}, lemmas.plan.JudgeLemmas.{told_nested}}
use Rattle.gix_refspec_plan.proofs.directories.nested_among.Goals as goal

pub returns : goal.returns
returns c = IfOk-weaker c.nested_names.result _ _
    (λ nested told. told_nested (map mapped_of c.args.mappings.now) _ nested c.in_ok-sound_destinations.ensures told)
    c.nested_names.ensures
