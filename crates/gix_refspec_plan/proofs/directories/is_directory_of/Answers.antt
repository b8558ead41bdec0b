use Rattle.std.proofs.{lemmas.{Bool.Decides.Decides-eqb, Slice.Eq.starts_is}}
use Rattle.gix_refspec_plan.proofs.lemmas.plan.DirectoryLemmas.{directory_told}
use Rattle.gix_refspec_plan.proofs.directories.is_directory_of.Goals as goal

pub returns : goal.returns
returns c = directory_told c.args.upper.now c.args.name.now c.starts_with.result c.if-name-upper.false
    c.if-name-upper-ne47.false
    (starts_is Decides-eqb c.args.name.now c.args.upper.now c.starts_with.result c.starts_with.ensures.value)
