use Rattle.std.proofs.Common.{◌≡◌, drop}
use Rattle.gix_refspec_plan.specs.Private.Directories.{by_component}

abbrev pub invariant-loop-index : Rattle.gix_refspec_plan.proofs.directories.compare.Given.invariant-loop-index
invariant-loop-index l = by_component l.one l.other ≡ by_component (drop l.index l.one) (drop l.index l.other)
