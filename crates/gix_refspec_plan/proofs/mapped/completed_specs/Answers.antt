use Rattle.gix_refspec_plan.proofs.Common.{arith, length-map, reading_of, option_map, bstring_bytes, rules}
use Rattle.gix_refspec_plan.proofs.lemmas.plan.NameLemmas.{zip_long, zip_mapped_at, zip_next}
use Rattle.gix_refspec_plan.proofs.mapped.completed_specs.Goals as goal

pub bounds-names-index : goal.bounds-names-index
bounds-names-index c = omega (
  arith,
  zip_long _ _ _ c.requires,
  length-map c.args.specs.now reading_of,
  length-map c.args.names.now (option_map bstring_bytes),
)

pub completed_spec-requires : goal.completed_spec-requires
completed_spec-requires c = search (rules, zip_mapped_at)

pub loop-index-preserved : goal.loop-index-preserved
loop-index-preserved c = search (rules, zip_next)
