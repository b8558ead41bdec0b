use Rattle.gix_refspec_plan.proofs.Common.{◌++◌, List, map, take, AllZip, Mapped, mapped_of, HasVerdict, TellNested}

abbrev pub invariant-loop-mapping : Rattle.gix_refspec_plan.proofs.verdicts.first_verdicts.Given.invariant-loop-mapping
invariant-loop-mapping l = (seconds : List Mapped) → TellNested (map mapped_of l.mappings ++ seconds) l.nested
    → AllZip (HasVerdict (map mapped_of l.mappings) (map mapped_of l.mappings ++ seconds))
    (map mapped_of (take l.mapping-index l.mappings)) l.verdicts.items
