use Rattle.gix_refspec_why.proofs.Common.{map, mapped_of}
use Rattle.gix_refspec_why.proofs.fates.Group.of.Goals as goal

pub returns : goal.returns
returns c refs are = record {
  excluded = c.first_exclusion-excluded.ensures;
  kept = map mapped_of c.args.kept.now;
  are_kept = are;
  rivals = c.in_ok-rivals.ensures;
}
