use Rattle.gix_refspec_why.proofs.Common.{map, take, AreSoundDestinations, mapped_of}

abbrev pub invariant-loop-mapping : Rattle.gix_refspec_why.proofs.rivals.valid_destinations.Given.invariant-loop-mapping
invariant-loop-mapping l = AreSoundDestinations (map mapped_of (take l.mapping-index l.kept))
    (map (λ name. name.now) l.names.items)
