abbrev pub invariant-loop-mapping : Rattle.gix_refspec.proofs.match_group.types.clone_all.Given.invariant-loop-mapping
invariant-loop-mapping l = Rattle.gix_refspec.proofs.Common.AreMappingCopies
    (Rattle.gix_refspec.proofs.Common.take l.mapping-index l.mappings) l.copies.items
