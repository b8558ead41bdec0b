use Rattle.gix_refspec_plan.proofs.Common.{◌≡◌, List, length, map, AreVerdicts, Mapped, asked_of, mapped_of}
use Rattle.gix_refspec_plan.proofs.lemmas.plan.JudgeLemmas.{AreSoMany}

abbrev pub invariant-loop-mapping : Rattle.gix_refspec_plan.proofs.verdicts.first_updates.Given.invariant-loop-mapping
invariant-loop-mapping l = ((seconds : List Mapped) → AreVerdicts (map mapped_of l.fn.mappings.items) seconds l.verdicts
    → AreSoMany (map asked_of l.asked) seconds l.fn.mappings.items l.updates.items)
    × (length l.updates.items ≡ length l.yielded)
