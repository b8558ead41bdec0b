-- A part of some items that has each name of them, and mappings of it with their indexes among all. Only private
-- functions cite this.
use Rattle.std.specs.Prelude.{◌≡◌, ◌⊎◌, ℕ, List, [], ◌∷◌, ◌++◌, option_map, length, slice_index_or}
use Rattle.gix_refspec_text.specs.Matching.Match.{Ref, HasName}
use Rattle.gix_refspec_match.specs.Matching.Mappings.{Mapped}

-- the part has the refs that are at the indexes, in order. Those left out have the name of an earlier one. Others
-- are before the refs
abbrev pub IsPartBehind : List Ref → List Ref → List Ref → List ℕ → Type 0
IsPartBehind before [] part places = (part ≡ []) × (places ≡ [])
IsPartBehind before (r ∷ refs) part places =
    ((rest : List Ref) × (others : List ℕ) × (part ≡ r ∷ rest) × (places ≡ length before ∷ others)
    × IsPartBehind (before ++ r ∷ []) refs rest others)
    ⊎ (HasName before r.name × IsPartBehind (before ++ r ∷ []) refs part places)

abbrev pub IsPart : List Ref → List Ref → List ℕ → Type 0
IsPart refs part places = IsPartBehind [] refs part places

-- the mapping, whose item has an index in the part, with the index among all
abbrev pub moved : (ℕ → ℕ) → Mapped → Mapped
moved f m = record { item = option_map f m.item; source = m.source; destination = m.destination; spec = m.spec }

-- the index among all of an index in the part
abbrev pub place_among : List ℕ → ℕ → ℕ
place_among places i = slice_index_or places i i
