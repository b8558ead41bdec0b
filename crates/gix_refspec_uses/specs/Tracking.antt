-- The tracking branches that a remote ref is fetched to, and the remote refs that a tracking branch is fetched from, by
-- the definitions of the library.
use Rattle.std.specs.Prelude.{◌↔◌, ℕ, List, [], ◌∷◌, None, Some}
use Rattle.std.specs.List.{Any}
use Rattle.gix_refspec.specs.declared.match_group.types.MatchGroup.{MatchGroup}
use Rattle.gix_refspec.specs.Specs.Reading.{Reading}
use Rattle.gix_refspec.specs.Matching.Match.{Ref}
use Rattle.gix_refspec.specs.Matching.Mappings.{name, Mapped, HasPair, IsExcluded}
use Rattle.gix_refspec.specs.Laws.Matching.{MakesForward, MakesBackward}
use Rattle.gix_refspec_uses.specs.declared.tracking.NoLookUp.{NoLookUp}
use Rattle.gix_refspec_uses.specs.declared.tracking.NoLookUp.TheVariants as no_look_up

-- some spec maps the remote ref to the tracking branch, and none excludes it
abbrev pub IsFetchedTo : List Reading → Ref → List ℕ → Type 0
IsFetchedTo g remote branch = Any (MakesForward (remote ∷ []) (name remote.name) (Some branch)) g
    × ¬ (IsExcluded g remote.name)

-- some spec maps the tracking branch back to the remote ref, and none excludes that
abbrev pub IsFetchedFrom : List Reading → Ref → List ℕ → Type 0
IsFetchedFrom g tracking n = Any (MakesBackward (tracking ∷ []) (name n) (Some tracking.name)) g × ¬ (IsExcluded g n)

-- one of the mappings is from the remote ref to the tracking branch
abbrev pub HasBoth : List Mapped → List ℕ → List ℕ → Type 0
HasBoth list remote tracking =
    HasPair list (record { item = None; source = name remote; destination = Some tracking; spec = 0 })

-- the mappings from the remote ref are to exactly the branches that it is fetched to
abbrev pub TellsBranches : List Reading → Ref → List Mapped → Type 0
TellsBranches g remote list = (branch : List ℕ) → HasBoth list remote.name branch ↔ IsFetchedTo g remote branch

-- the mappings to the tracking branch are from exactly the remote refs that it is fetched from
abbrev pub TellsRemotes : List Reading → Ref → List Mapped → Type 0
TellsRemotes g tracking list = (n : List ℕ) → HasBoth list n tracking.name ↔ IsFetchedFrom g tracking n

-- if there is no look-up because the group goes one way, P holds of the returned group
abbrev pub IfOneWay : NoLookUp → (MatchGroup → Type 0) → Type 0
IfOneWay (no_look_up.OneWay group) P = P group
IfOneWay no_look_up.Memory P = Unit {0}
