-- How full names, partial ones and patterns are looked up. Only private functions cite these words.
use Rattle.std.specs.Prelude.{◌≡◌, ◌⊎◌, ◌<◌, ℕ, List, [], ◌∷◌, ◌++◌, Bool, Option, None, Some, length, map, unwrap_or}
use Rattle.std.specs.Prelude.{option_map, bytes_eq, codes}
use Rattle.std.specs.List.{AllByRecursion, Contains, slice_get}
use Rattle.std.specs.HashMap as hash
use Rattle.std.specs.HashMap.{HashMap}
use Rattle.std.specs.Global.{Vec}
use Rattle.gix_refspec_match.specs.declared.matcher.Candidates.{Candidates}
use Rattle.gix_refspec_match.specs.declared.matcher.Candidates.TheVariants.{First, All}
use Rattle.gix_refspec_match.specs.declared.matcher.Matchers.{Matchers}
use Rattle.gix_refspec_match.specs.declared.index.Index.{Index}
use Rattle.gix_refspec_match.specs.declared.index.Names.{Names}
use Rattle.gix_refspec_match.specs.declared.index.Key.{Key}
use Rattle.gix_refspec_text.specs.Texts.Words.{BeginsWith}
use Rattle.gix_refspec_text.specs.Matching.Side.{SideKind, pattern, full_name, object, partial}
use Rattle.gix_refspec_text.specs.Matching.Match.{Ref, MatchesAs, IsFirstCandidate}
use Rattle.gix_refspec_text.specs.Private.SideViews.{kind_of_side}
use Rattle.gix_refspec_match.specs.Matching.Lists.{IsMadeFrom}
use Rattle.gix_refspec_match.specs.Views.Mapping.{name_bytes}
use Rattle.gix_refspec_match.specs.Private.Kept.{IsFlagged}

-- a side of the kind takes the ref among the items, without a word; a partial name by these candidates
abbrev pub TakesWhole : SideKind → Candidates → List Ref → Ref → Type 0
TakesWhole (pattern before after) which items r = ⊥
TakesWhole (full_name x) which items r = MatchesAs (full_name x) r None
TakesWhole (object id) which items r = MatchesAs (object id) r None
TakesWhole (partial x) First items r = IsFirstCandidate items x r.name
TakesWhole (partial x) All items r = MatchesAs (partial x) r None

-- the indexes of the refs that a side of the kind takes, in order
abbrev pub ArePlacesTaken : SideKind → Candidates → List Ref → List ℕ → Type 0
ArePlacesTaken kind which refs places = IsMadeFrom (λ k r place. TakesWhole kind which refs r × (place ≡ k)) 0 refs
    places

-- the indexes of the refs of a name, in order
abbrev pub ArePlacesOf : List ℕ → List Ref → List ℕ → Type 0
ArePlacesOf n refs places = IsMadeFrom (λ k r place. MatchesAs (full_name n) r None × (place ≡ k)) 0 refs places

-- what the map has for a name
abbrev pub list_of : {X S : Type 0} → HashMap Key X S → List ℕ → Option X
list_of m n = hash.get_by (λ k. bytes_eq n k.name.now) m

-- exactly these names are listed, each with its indexes
pub record HavePlaces (names : List (List ℕ)) (refs : List Ref) (listed : List ℕ → Option (Vec ℕ)) : Type 0 where
  pub each : (n : List ℕ) → Contains names n → (v : Vec ℕ) × (listed n ≡ Some v) × ArePlacesOf n refs v.items
  pub others : (n : List ℕ) → ¬ (Contains names n) → listed n ≡ None

-- the indexes of the refs whose names begin with the prefix, in order
abbrev pub ArePlacesBehind : List ℕ → List Ref → List ℕ → Type 0
ArePlacesBehind prefix refs places = IsMadeFrom (λ k r place. BeginsWith prefix r.name × (place ≡ k)) 0 refs places

-- what is listed for a prefix are the indexes of the refs whose names begin with it
abbrev pub ListPrefixes : List Ref → (List ℕ → Option (Vec ℕ)) → Type 0
ListPrefixes refs listed = (prefix : List ℕ) (v : Vec ℕ) → listed prefix ≡ Some v → ArePlacesBehind prefix refs v.items

-- the lengths of all prefixes that are listed are flagged
abbrev pub HaveLengths : List Bool → (List ℕ → Option (Vec ℕ)) → Type 0
HaveLengths lengths listed = (prefix : List ℕ) (v : Vec ℕ) → listed prefix ≡ Some v → IsFlagged lengths (length prefix)

-- the index is added to what is listed for each prefix that the name begins with, and nothing else changes
abbrev pub AddsPlace : List ℕ → ℕ → (List ℕ → Option (Vec ℕ)) → (List ℕ → Option (Vec ℕ)) → Type 0
AddsPlace n place old new = (prefix : List ℕ) (v : Vec ℕ) → new prefix ≡ Some v → (w : Vec ℕ) × (old prefix ≡ Some w)
    × ((BeginsWith prefix n × (v.items ≡ w.items ++ place ∷ [])) ⊎ (¬ (BeginsWith prefix n) × (v.items ≡ w.items)))

-- what is listed for a name, and nothing where it isn't listed
abbrev pub places_listed : (List ℕ → Option (Vec ℕ)) → List ℕ → List ℕ
places_listed listed n = unwrap_or (option_map (λ v. v.items) (listed n)) []

-- the name of the ref at an index
abbrev pub name_at : List Ref → ℕ → List ℕ
name_at refs place = unwrap_or (option_map (λ r. r.name) (slice_get refs place)) []

-- the new indexes are those of the first candidate of a partial name, where the old ones were, and one more
-- candidate is at the index: of two candidates the shorter is first
abbrev pub JoinsFirst : List Ref → ℕ → List ℕ → List ℕ → Type 0
JoinsFirst refs place [] new = new ≡ place ∷ []
JoinsFirst refs place (first ∷ others) new =
    (length (name_at refs first) < length (name_at refs place) × (new ≡ first ∷ others))
    ⊎ (length (name_at refs place) < length (name_at refs first) × (new ≡ place ∷ []))
    ⊎ ((length (name_at refs place) ≡ length (name_at refs first)) × (new ≡ (first ∷ others) ++ place ∷ []))

-- the new indexes are those that a partial name takes by these candidates, where the old ones were, and one more
-- candidate is at the index
abbrev pub Joins : Candidates → List Ref → ℕ → List ℕ → List ℕ → Type 0
Joins First refs place old new = JoinsFirst refs place old new
Joins All refs place old new = new ≡ old ++ place ∷ []

-- what is listed for each name of which P holds changes as R says, and for no other. That is known of names
-- that are as Known says
pub record AddsWhere (Known P : List ℕ → Type 0) (R : List ℕ → List ℕ → Type 0) (old new : List ℕ → Option (Vec ℕ)) :
    Type 0 where
  pub each : (x : List ℕ) (w : Vec ℕ) → Known x → old x ≡ Some w → (v : Vec ℕ) × (new x ≡ Some v)
      × ((P x × R w.items v.items) ⊎ (¬ (P x) × (v.items ≡ w.items)))

-- below `refs/`, x is in one of the folders where partial names are looked for
abbrev pub IsBelowPlace : List ℕ → List ℕ → Type 0
IsBelowPlace below x = (below ≡ codes "tags/" ++ x) ⊎ (below ≡ codes "heads/" ++ x) ⊎ (below ≡ codes "remotes/" ++ x)

-- each of the partial names is listed, with the indexes of the refs that it takes by these candidates
abbrev pub ListPartials : Candidates → List (List ℕ) → List Ref → (List ℕ → Option (Vec ℕ)) → Type 0
ListPartials which names refs listed = (x : List ℕ) → Contains names x → (v : Vec ℕ) × (listed x ≡ Some v)
    × ArePlacesTaken (partial x) which refs v.items

-- the index has the indexes of these names, and those of prefixes
pub record IsIndexOf (which : Candidates) (names : Names) (refs : List Ref) (index : Index) : Type 0 where
  pub full : HavePlaces (map name_bytes names.full.items) refs (list_of index.full)
  pub partial : ListPartials which (map name_bytes names.partial.items) refs (list_of index.partials)
  pub prefixes : ListPrefixes refs (list_of index.prefixes)

-- what a needle of the kind looks for is among the names
abbrev pub HasNamesOf : Names → SideKind → Type 0
HasNamesOf names (pattern before after) = Unit {0}
HasNamesOf names (full_name x) = Contains (map name_bytes names.full.items) x
HasNamesOf names (object id) = Unit {0}
HasNamesOf names (partial x) = Contains (map name_bytes names.partial.items) x

-- so it is for each needle
abbrev pub HaveNamesOf : Matchers → Names → Type 0
HaveNamesOf ms names = AllByRecursion (λ m. HasNamesOf names (kind_of_side m.needle)) ms.list.items

-- the indexes of the refs that a needle of the kind may take, strictly increasing. A full or a partial name takes them
-- all
abbrev pub ListsFor : Candidates → List Ref → SideKind → List ℕ → Type 0
ListsFor which refs (pattern before after) places = ArePlacesBehind before refs places
ListsFor which refs (full_name x) places = ArePlacesTaken (full_name x) which refs places
ListsFor which refs (object id) places = ⊥
ListsFor which refs (partial x) places = ArePlacesTaken (partial x) which refs places

-- where a needle of the kind looks for a name, the index has the indexes of the refs that it takes
abbrev pub IsListed : Candidates → List Ref → Index → SideKind → Type 0
IsListed which refs index (pattern before after) = Unit {0}
IsListed which refs index (full_name x) = ArePlacesTaken (full_name x) which refs (places_listed (list_of index.full) x)
IsListed which refs index (object id) = Unit {0}
IsListed which refs index (partial x) = ArePlacesTaken (partial x) which refs (places_listed (list_of index.partials) x)

-- the index has the names that a needle of the kind looks for
pub record IsIndexFor (which : Candidates) (refs : List Ref) (index : Index) (kind : SideKind) : Type 0 where
  pub names : IsListed which refs index kind
  pub prefixes : ListPrefixes refs (list_of index.prefixes)

-- what is listed are the indexes for a needle of the kind, where the index has its names
abbrev pub Serves : Index → SideKind → List ℕ → Type 0
Serves index kind listed = (which : Candidates) (refs : List Ref) → IsIndexFor which refs index kind
    → ListsFor which refs kind listed

-- a needle of the kind is a name that is listed for no ref
abbrev pub HasNone : Index → SideKind → Type 0
HasNone index (pattern before after) = ⊥
HasNone index (full_name x) = places_listed (list_of index.full) x ≡ []
HasNone index (object id) = ⊥
HasNone index (partial x) = places_listed (list_of index.partials) x ≡ []
