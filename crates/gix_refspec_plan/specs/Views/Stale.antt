-- Stale refs as plain data, for contracts.
use Rattle.gix_refspec_plan.specs.declared.stale.Stale.{Stale}
use Rattle.gix_refspec_plan.specs.Matching.Stale.{Found}

-- a local ref that looks stale
abbrev pub found_of : Stale → Found
found_of s = record { item = s.item_index; kept_by = s.kept_by }
