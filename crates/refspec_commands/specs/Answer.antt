-- The answer to a question of `track`, in the terms of the library: from which refs of remotes some refs are fetched.
-- For how many remotes Git takes a ref to be ambiguous, as it compares full destinations alone, is left open.
use Rattle.std.specs.Prelude.{◌≡◌, ◌≢◌, ◌⊎◌, ℕ, ◌<◌, ◌≤◌, List, [], ◌∷◌, Option, length, map, option_map, unwrap_or}
use Rattle.std.specs.List.{All, AllZip, Any, flat_map, slice_get}
use Rattle.std.specs.List.Sorted.{IsPermutation, IsSortedByKey, IsStableByKey}
use Rattle.std.specs.Ordering.{nat_cmp}
use Rattle.bstr.specs.Owned.{bstring_bytes}
use Rattle.gix_refspec.specs.Laws.Items.{HasIdDestination}
use Rattle.gix_refspec.specs.Matching.Hits.{AreKeptBackward}
use Rattle.gix_refspec.specs.Matching.Mappings.{Mapped}
use Rattle.gix_refspec.specs.Matching.Match.{Ref}
use Rattle.gix_refspec.specs.Specs.Reading.{Reading}
use Rattle.gix_refspec.specs.Views.Group.{mapped_of, ref_of}
use Rattle.gix_refspec.specs.Views.Spec.{reading_of}
use Rattle.gix_refspec_match.specs.declared.types.Item.{Item}
use Rattle.refspec_io.specs.declared.call.Form.{Form}
use Rattle.refspec_io.specs.Rows.{AreSpecTexts}
use Rattle.refspec_commands.specs.declared.mappings.Row.{Row}
use Rattle.refspec_commands.specs.declared.tracking.answer.Found.{Found}
use Rattle.refspec_commands.specs.declared.tracking.answer.Found.TheVariants as how
use Rattle.refspec_commands.specs.declared.tracking.answer.Looked.{Looked}
use Rattle.refspec_commands.specs.declared.tracking.answer.Tracked.{Tracked}
use Rattle.refspec_commands.specs.declared.tracking.question.Order.{Order}
use Rattle.refspec_commands.specs.declared.tracking.question.Order.TheVariants as order
use Rattle.refspec_commands.specs.declared.tracking.question.Remote.{Remote}
use Rattle.refspec_commands.specs.Rows.{AddsRowsAmong, Shown, shown_row}
use Rattle.refspec_commands.specs.Track.{AreByNames, IsWritten}

-- the specs whose destination is an object id, in order
abbrev pub AreLeftOut : List Reading → List Reading → Type 0
AreLeftOut [] out = out ≡ []
AreLeftOut (r ∷ g) out =
    (HasIdDestination r × ((rest : List Reading) × AreLeftOut g rest × (out ≡ r ∷ rest)))
    ⊎ ((¬ (HasIdDestination r)) × AreLeftOut g out)

-- what a remote writes of some refs: the mappings by which its specs map them back to sources
pub record IsTracked (refs : List Ref) (remote : Remote) (t : Tracked) : Type 0 where
  pub name : option_map (λ n. n.now) t.name ≡ option_map (λ n. n.now) remote.name
  pub left_out : AreLeftOut (map reading_of remote.specs.items) (map reading_of t.left_out.items)
  pub by_names : List Reading
  pub looked_up : AreByNames (map reading_of remote.specs.items) by_names
  pub of_specs : AreSpecTexts by_names (map bstring_bytes t.texts.items)
  pub kept : AreKeptBackward by_names refs (map mapped_of t.mappings.items)

-- the mappings of all remotes
abbrev pub mappings_in : List Tracked → List Mapped
mappings_in ts = flat_map (λ t. map mapped_of t.mappings.items) ts

-- how a ref with this name is written: by no remote, by one or more, or by several in the eyes of Git
abbrev pub IsFound : List Tracked → List ℕ → Found → Type 0
IsFound ts name how.Untracked = ¬ (IsWritten name (mappings_in ts))
IsFound ts name how.Tracked = IsWritten name (mappings_in ts)
IsFound ts name (how.Ambiguous n) = IsWritten name (mappings_in ts) × (1 < n) × (n ≤ length ts)

-- how a written ref is found if Git finds this many remotes for it
abbrev pub IsFoundBy : ℕ → Found → Type 0
IsFoundBy count how.Untracked = ⊥
IsFoundBy count how.Tracked = count ≤ 1
IsFoundBy count (how.Ambiguous n) = (1 < count) × (n ≡ count)

-- the same of a ref
abbrev pub IsLooked : List Tracked → Ref → Looked → Type 0
IsLooked ts r looked = (looked.name.now ≡ r.name) × IsFound ts r.name looked.found

-- the answer: what each remote writes, and how each ref is written
pub record IsAnswer (refs : List Item) (remotes : List Remote) (ts : List Tracked) (looked : List Looked) : Type 0 where
  pub tracked : AllZip (IsTracked (map ref_of refs)) remotes ts
  pub looked_up : AllZip (IsLooked ts) (map ref_of refs) looked

-- the exit status: 1 if a spec was left out, or some ref isn't simply tracked, else 0
abbrev pub IsStatus : List Tracked → List Looked → ℕ → Type 0
IsStatus ts looked status =
    ((status ≡ 1) × (Any (λ t. t.left_out.items ≢ []) ts ⊎ Any (λ l. l.found ≢ how.Tracked) looked))
    ⊎ ((status ≡ 0) × All (λ t. t.left_out.items ≡ []) ts × All (λ l. l.found ≡ how.Tracked) looked)

-- the exit status on the refs alone: 1 if some ref isn't simply tracked, else 0
abbrev pub IsStatusOfRefs : List Looked → ℕ → Type 0
IsStatusOfRefs looked status =
    ((status ≡ 1) × Any (λ l. l.found ≢ how.Tracked) looked) ⊎ ((status ≡ 0) × All (λ l. l.found ≡ how.Tracked) looked)

-- a mapping as a row, given the name of the remote and the texts of its specs
abbrev pub row_with : Option (List ℕ) → List (List ℕ) → Mapped → Shown
row_with remote texts m = record { remote = remote; mapping = m; text = unwrap_or (slice_get texts m.spec) [] }

-- the rows of what a remote writes
abbrev pub rows_in : Tracked → List Shown
rows_in t = map (λ m. row_with (option_map (λ n. n.now) t.name) (map bstring_bytes t.texts.items) (mapped_of m))
    t.mappings.items

-- the index of the ref of a row
abbrev pub ref_index : Row → ℕ
ref_index r = unwrap_or r.mapping.now.item_index 0

-- rows sorted by ref; those of one ref are in the order that they had
pub record AreByRef (all rows : List Row) : Type 0 where
  pub moved : IsPermutation all rows
  pub sorted : IsSortedByKey ref_index nat_cmp rows
  pub stable : IsStableByKey ref_index nat_cmp all rows

-- the rows of what remotes write, in an order
abbrev pub AreRows : Order → List Tracked → List Row → Type 0
AreRows order.Specs ts rows = map shown_row rows ≡ flat_map rows_in ts
AreRows order.Refs ts rows = (all : List Row) × (map shown_row all ≡ flat_map rows_in ts) × AreByRef all rows

-- the results grew by the rows of what remotes write
abbrev pub AddsAnswer : Order → List Tracked → Form → List ℕ → List ℕ → Type 0
AddsAnswer order ts form old new = (rows : List Row) × AreRows order ts rows × AddsRowsAmong form (map shown_row rows)
    old new
