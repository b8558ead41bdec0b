-- Groups and outcomes as plain data, for contracts.
use Rattle.std.specs.Prelude.{◌≡◌, ℕ, Bool, true, false, List, map, Option}
use Rattle.std.specs.List.{filter}
use Rattle.std.specs.Iterator.{Drains}
use Rattle.gix_refspec_match.specs.declared.types.Item.{Item}
use Rattle.gix_refspec_match.specs.declared.types.Mapping.{Mapping}
use Rattle.gix_refspec.specs.declared.match_group.types.MatchGroup.{MatchGroup}
use Rattle.gix_refspec.specs.declared.match_group.types.Outcome.{Outcome}
use Rattle.gix_refspec_text.specs.declared.parsing.Operation.{Operation}
use Rattle.gix_refspec_text.specs.declared.parsing.Operation.TheVariants.{Push, Fetch}
use Rattle.gix_refspec_text.specs.declared.spec.RefSpecRef.{RefSpecRef}
use Rattle.gix_refspec_text.specs.Specs.Reading.{Reading}
use Rattle.gix_refspec_text.specs.Views.Spec.{reading_of}
use Rattle.gix_refspec_text.specs.Matching.Match.{Ref}
use Rattle.gix_refspec_match.specs.Matching.Mappings.{Mapped}
pub use Rattle.gix_refspec_match.specs.Views.Mapping.{mapped_of, ref_of, name_bytes, start_of, IsBorrowed, IsOwned}
pub use Rattle.gix_refspec_match.specs.Views.Mapping.{IsLent, IsOwnedSource, HasOwned, IsNameCopy, IsSourceCopy}
pub use Rattle.gix_refspec_match.specs.Views.Mapping.{IsDestinationCopy, IsMappingCopy, AreMappingCopies}
pub use Rattle.gix_refspec_match.specs.Views.Mapping.{text_of_source}

-- the readings of the specs of a group
abbrev pub readings_of : MatchGroup → List Reading
readings_of g = map reading_of g.specs.items

-- a relation of readings, refs and mappings holds of a group, items and their mappings
abbrev pub Maps : (List Reading → List Ref → List Mapped → Type 0) → MatchGroup → List Item → List Mapping → Type 0
Maps relation group items mappings = relation (readings_of group) (map ref_of items) (map mapped_of mappings)

-- the outcome has the unchanged group, and mappings of the relation
abbrev pub IsOutcome : {forward : ℕ} → (List Reading → List Ref → List Mapped → Type 0) → MatchGroup → List Item
    → Outcome forward → Type 0
IsOutcome relation group items o = (o.group ≡ group) × Maps relation group items o.mappings.items

-- whether two operations are the same
abbrev pub is_same_operation : Operation → Operation → Bool
is_same_operation Push Push = true
is_same_operation Push Fetch = false
is_same_operation Fetch Push = false
is_same_operation Fetch Fetch = true

-- whether the spec is for the operation
abbrev pub is_for : Operation → RefSpecRef → Bool
is_for operation s = is_same_operation operation s.op

-- the specs of the group are those for the operation that the iterator of a source yields until it ends, in order.
-- `becomes` relates a source to its iterator, and `steps` is what `next` of the iterator does
pub record IsGathered {U T : Type 0} (becomes : U → T → Type 0) (steps : T → Option RefSpecRef → T → Type 0)
    (op : Operation) (source : U) (group : MatchGroup) : Type 0 where
  pub iterator : T
  pub all : List RefSpecRef
  pub made : becomes source iterator
  pub given : Drains steps iterator all
  pub specs : group.specs.items ≡ filter (is_for op) all
