use Rattle.gix_refspec_plan.proofs.Common.{map, mapped_of, take}
use Rattle.gix_refspec_plan.proofs.lemmas.plan.DirectoryLemmas.{texts}
use Rattle.gix_refspec_plan.specs.Private.Verdicts.{AreSoundDestinations}

abbrev pub invariant-loop-mapping :
    Rattle.gix_refspec_plan.proofs.directories.sound_destinations.Given.invariant-loop-mapping
invariant-loop-mapping l = AreSoundDestinations (map mapped_of (take l.mapping-index l.mappings)) (texts l.names.items)
