use Rattle.gix_refspec_why.proofs.Common.{map, take, option_map, AreRivalsTo, mapped_of}

abbrev pub invariant-loop-mapping : Rattle.gix_refspec_why.proofs.rivals.first_rivals.Given.invariant-loop-mapping
invariant-loop-mapping l = AreRivalsTo (option_map (λ n. n.now) l.without) (map mapped_of (take l.mapping-index l.kept))
    l.rivals
