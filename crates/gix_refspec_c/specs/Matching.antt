-- What fetches match among names alone, in the library's words.
use Rattle.std.specs.Prelude.{◌≡◌, ◌⊎◌, ℕ, List, map, None, replicate}
use Rattle.std.specs.List.{AllZip}
use Rattle.gix_refspec_text.specs.declared.parsing.Operation.TheVariants.{Fetch}
use Rattle.gix_refspec.specs.Specs.Reading.{Reading}
use Rattle.gix_refspec.specs.Specs.Grammar.{Reads}
use Rattle.gix_refspec.specs.Matching.Match.{Ref}
use Rattle.gix_refspec.specs.Matching.Mappings.{Mapped}
use Rattle.gix_refspec.specs.Laws.Items.{AsksForNoId}
use Rattle.gix_refspec.specs.Matching.Hits.{AreKeptForward, AreKeptBackward}
use Rattle.gix_refspec_c.specs.declared.failure.Failure.{Failure}
use Rattle.gix_refspec_c.specs.declared.failure.Failure.TheVariants as failure
use Rattle.gix_refspec_c.specs.declared.matching.Direction.{Direction}
use Rattle.gix_refspec_c.specs.declared.matching.Direction.TheVariants.{Forward, Backward}
use Rattle.gix_refspec_c.specs.Group.{AreUnread}
use Rattle.gix_refspec_c.specs.Mapping.{Entry, forward_entry, backward_entry}

-- the number of a direction
abbrev pub direction_code : Direction → ℕ
direction_code Forward = 1
direction_code Backward = 2

-- the ref that a name stands for: its id, which nobody asks for, is the null id
abbrev pub nameless : List ℕ → Ref
nameless n = record { name = n; target = replicate 20 0; object = None }

-- the mappings that a group keeps over refs in a direction
abbrev pub Keeps : Direction → List Reading → List Ref → List Mapped → Type 0
Keeps Forward g refs kept = AreKeptForward g refs kept
Keeps Backward g refs kept = AreKeptBackward g refs kept

-- names decide alone in a direction: from right to left, if no destination is an id
abbrev pub NamesSuffice : Direction → List Reading → Type 0
NamesSuffice Forward g = Unit {0}
NamesSuffice Backward g = AsksForNoId g

-- what is told of a mapping of a group in a direction
abbrev pub entry_of : Direction → List Reading → Mapped → Entry
entry_of Forward g = forward_entry g
entry_of Backward g = backward_entry g

-- the entries are those of the mappings that a group keeps over refs in a direction
pub record Lists (d : Direction) (g : List Reading) (refs : List Ref) (es : List Entry) : Type 0 where
  pub kept : List Mapped
  pub keeps : Keeps d g refs kept
  pub are : es ≡ map (entry_of d g) kept

-- the texts are fetches, and these entries tell of the mappings that are kept of them over the names
pub record AreMatched (d : Direction) (texts names : List (List ℕ)) (es : List Entry) : Type 0 where
  pub group : List Reading
  pub read : AllZip (Reads Fetch) texts group
  pub by_names : NamesSuffice d group
  pub kept : List Mapped
  pub keeps : Keeps d group (map nameless names) kept
  pub are : es ≡ map (entry_of d group) kept

-- the texts are fetches, of which some asks back for an id
pub record WantIds (texts : List (List ℕ)) : Type 0 where
  pub group : List Reading
  pub read : AllZip (Reads Fetch) texts group
  pub by_id : ¬ (AsksForNoId group)

-- why texts weren't matched: they weren't read, or memory ran out; or from right to left one asks for an id
abbrev pub AreUnmatched : Direction → List (List ℕ) → Failure → Type 0
AreUnmatched d texts f = AreUnread Fetch texts f ⊎ ((f ≡ failure.NeedsIds) × (d ≡ Backward) × WantIds texts)
