-- A wish and its plan as plain data, for contracts.
use Rattle.std.specs.Prelude.{map, option_map}
use Rattle.bstr.specs.BStr.{bstr_bytes}
use Rattle.bstr.specs.Owned.{bstring_bytes}
use Rattle.gix_refspec_plan.specs.declared.Wish.{Wish as DeclaredWish}
use Rattle.gix_refspec_plan.specs.declared.Update.{Update}
use Rattle.gix_refspec_plan.specs.declared.Asked.{Asked as DeclaredAsked}
use Rattle.gix_refspec_text.specs.Views.Spec.{reading_of}
use Rattle.gix_refspec_match.specs.Views.Mapping.{start_of}
use Rattle.gix_refspec_plan.specs.Matching.Plan.{Asked, Planned, Wish}

-- what is asked for
abbrev pub wish_of : DeclaredWish → Wish
wish_of w = record {
  given = map reading_of w.given.now;
  configured = map reading_of w.configured.now;
  merges =
      map bstr_bytes w.merges.now;
  tags = w.tags;
}

-- a spec and its origin
abbrev pub asked_of : DeclaredAsked → Asked
asked_of a = record { reading = reading_of a.spec; origin = a.origin }

-- an update
abbrev pub planned_of : Update → Planned
planned_of u = record {
  source = start_of u.source;
  item = u.item_index;
  destination =
      option_map bstring_bytes u.destination;
  origin = u.origin;
  verdict = u.verdict;
}
