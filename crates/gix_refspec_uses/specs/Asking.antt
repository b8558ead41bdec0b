-- Matching by a client that asks a server only for the ref prefixes of its group, by the definitions of the library.
use Rattle.std.specs.Prelude.{◌≡◌, ℕ, List, [], map, filter}
use Rattle.bstr.specs.BStr.{bstr_bytes}
use Rattle.gix_refspec_match.specs.declared.types.Item.{Item}
use Rattle.gix_refspec.specs.Specs.Reading.{Reading}
use Rattle.gix_refspec.specs.Matching.Mappings.{Mapped}
use Rattle.gix_refspec.specs.Views.Group.{ref_of}
use Rattle.gix_refspec.specs.Matching.Hits.{AreKeptForward}
use Rattle.gix_refspec.specs.Matching.Asked.{ListsBeside}
use Rattle.gix_refspec.specs.Laws.Items.{HaveSamePairs, is_begun}

-- the items whose names begin with one of the entries, in order
abbrev pub items_asked : List (List ℕ) → List Item → List Item
items_asked entries items = filter (λ item. is_begun entries (bstr_bytes item.full_ref_name)) items

-- some has the items whose names begin with a ref prefix that is sent for the group, in order, and list their kept
-- mappings, with the same pairs as over all items
pub record LosesNothing (g : List Reading) (items some : List Item) (list : List Mapped) : Type 0 where
  pub entries : List (List ℕ)
  pub to_ask : ListsBeside [] g entries
  pub asked : some ≡ items_asked entries items
  pub matched : AreKeptForward g (map ref_of some) list
  pub same : (kept : List Mapped) → AreKeptForward g (map ref_of items) kept → HaveSamePairs kept list
