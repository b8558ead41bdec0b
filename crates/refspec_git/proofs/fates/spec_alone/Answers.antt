-- The name is valid, and one of the updates fetches the ref alone.
use Rattle.std.proofs.Common.{subst}
use Rattle.gix_refspec.proofs.lemmas.validate.RefNameLemmas.{name_of_ref}
use Rattle.gix_refspec.specs.Matching.RefNames.{IsRefName}
use Rattle.refspec_git.proofs.FateLemmas.{full_or_head}
use Rattle.refspec_git.proofs.fates.spec_alone.Goals as goal

pub fetch_of-requires-clause-name : goal.fetch_of-requires-clause-name
fetch_of-requires-clause-name c =
    name_of_ref _ (subst IsRefName c.as_bytes.ensures (c.is_ref_name.ensures.0 c.if-not-is_ref_name.false))

pub fetch_of-requires-clause-full : goal.fetch_of-requires-clause-full
fetch_of-requires-clause-full c =
    full_or_head _ (subst IsRefName c.as_bytes.ensures (c.is_ref_name.ensures.0 c.if-not-is_ref_name.false))
