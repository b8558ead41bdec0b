-- The plan has the mappings of the configured specs and of all tags, and besides only some without a destination.
use Rattle.gix_refspec_lint.proofs.lemmas.FreeLemmas.{accepted_with_tags, plan_free}
use Rattle.gix_refspec_plan.specs.Views.Plan.{wish_of}

pub returns : Rattle.gix_refspec_lint.proofs.laws.plan_conflict_free.Goals.returns
returns c = plan_free (wish_of c.args.wish.now) (accepted_with_tags c.args.wish.now.configured.now c.args.wish.now.tags)
