abbrev pub invariant-loop-index : Rattle.gix_refspec_match.proofs.duplicates.indexes_below.Given.invariant-loop-index
invariant-loop-index l = Rattle.gix_refspec_match.specs.Private.Duplicates.AreIndexesBelow l.index l.indexes.items
