use Rattle.gix_refspec.proofs.Common.{map, take, mapped_of, readings_of, IndexesFit}
use Rattle.gix_refspec.proofs.match_group.validate.match_lhs+Outcome.indexes_fit.Given as goal

abbrev pub invariant-loop-mapping : goal.invariant-loop-mapping
invariant-loop-mapping l = IndexesFit (readings_of l.self.group)
    (map mapped_of (take l.mapping-index l.self.mappings.items))
