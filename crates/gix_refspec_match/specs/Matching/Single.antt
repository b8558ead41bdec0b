-- What one spec makes of one name, by git-fetch(1) and git-push(1) under `<refspec>`: of any ref that has this name,
-- whatever it points to, where there is no other spec and no other ref.
use Rattle.std.specs.Prelude.{◌≡◌, ℕ, List, [], ◌∷◌, Option, None, Some}
use Rattle.gix_refspec_text.specs.Specs.Reading.{Reading}
use Rattle.gix_refspec_text.specs.Matching.Side.{HasKind, full_name}
use Rattle.gix_refspec_text.specs.Matching.Match.{Ref}
use Rattle.gix_refspec_match.specs.Matching.Hits.{AreForward, AreBackward}
use Rattle.gix_refspec_match.specs.Matching.Mappings.{Mapped}

-- from left to right, m is the only mapping of the spec and of each such ref, and has that ref as its item: the mapping
-- of a source that is an id has none
pub record MapsName (n : List ℕ) (r : Reading) (m : Mapped) : Type 0 where
  pub each : (ref : Ref) → ref.name ≡ n → AreForward (r ∷ []) (ref ∷ []) (m ∷ [])
  pub item : m.item ≡ Some 0

-- so it is from right to left, where each mapping has an item. A destination that is an id maps no name back, since not
-- each ref of a name points to it
pub record MapsNameBack (n : List ℕ) (r : Reading) (m : Mapped) : Type 0 where
  pub each : (ref : Ref) → ref.name ≡ n → AreBackward (r ∷ []) (ref ∷ []) (m ∷ [])

-- what the side becomes is a name of its own: it is there, and isn't a full name
abbrev pub IsRenamed : Option (List ℕ) → Type 0
IsRenamed None = ⊥
IsRenamed (Some x) = (n : List ℕ) → ¬ (HasKind x (full_name n))
