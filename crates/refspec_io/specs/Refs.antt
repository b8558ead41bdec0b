-- The lines of a list of refs, as printed by `git ls-remote`, `git show-ref -d` and
-- `git for-each-ref --format='%(objectname) %(refname)'`. That other lines are bad records is this project's own rule.
use Rattle.std.specs.Prelude.{◌≡◌, ◌≢◌, ◌⊎◌, ℕ, ◌-◌, List, [], ◌∷◌, ◌++◌, None, Some, length, take, codes}
use Rattle.std.specs.List.{slice_get}
use Rattle.gix_refspec.specs.Matching.Match.{Ref}
use Rattle.gix_refspec.specs.Laws.Items.{HaveSameNames}
use Rattle.gix_refspec.specs.Texts.ObjectId.{IsIdText}
use Rattle.gix_refspec.specs.Texts.Words.{Lacks}
use Rattle.refspec_io.specs.declared.refs.BadRecord.{BadRecord}
use Rattle.refspec_io.specs.Input.{AreRecords}

-- the text isn't empty, and contains no tab, newline, carriage return or space: git-check-ref-format(1) allows neither
-- spaces nor control characters in a ref name, nor an empty one. Names with other faults are accepted here, and a plan
-- leaves them out
abbrev pub IsOneWord : List ℕ → Type 0
IsOneWord text = (text ≢ []) × Lacks 9 text × Lacks 10 text × Lacks 13 text × Lacks 32 text

-- the line is an id in hex, a tab or a space, and a name
pub record IsIdThen (line id name : List ℕ) : Type 0 where
  pub digits : List ℕ
  pub space : ℕ
  pub spelled : IsIdText digits id
  pub is_space : (space ≡ 9) ⊎ (space ≡ 32)
  pub named : IsOneWord name
  pub here : line ≡ digits ++ (space ∷ name)

-- the line is some id and this name
abbrev pub ListsName : List ℕ → List ℕ → Type 0
ListsName line name = (id : List ℕ) × IsIdThen line id name

-- the suffix of the name in the line of a peeled tag
abbrev pub peeled : List ℕ
peeled = codes "^{}"

-- the line of a ref: its id and its name, which doesn't end as that of a peeled tag
pub record IsRefLine (line : List ℕ) (r : Ref) : Type 0 where
  pub says : IsIdThen line r.target r.name
  pub whole : (tag : List ℕ) → ¬ (r.name ≡ tag ++ peeled)
  pub object : r.object ≡ None

-- the ref is the last of the list
abbrev pub IsLast : List Ref → Ref → Type 0
IsLast refs r = slice_get refs (length refs - 1) ≡ Some r

-- the last of the refs has the name
abbrev pub HasLast : List Ref → List ℕ → Type 0
HasLast refs n = (r : Ref) × IsLast refs r × (r.name ≡ n)

-- the line of a peeled tag, which is the last ref before it: that ref gets the object
pub record IsPeeledLine (line : List ℕ) (old new : List Ref) : Type 0 where
  pub tag : Ref
  pub id : List ℕ
  pub says : IsIdThen line id (tag.name ++ peeled)
  pub last : IsLast old tag
  pub joined : new ≡ take (length old - 1) old ++ (record tag { object = Some id }) ∷ []

-- the line of a peeled tag that is not the last ref before it
pub record IsTagLine (line : List ℕ) (old : List Ref) : Type 0 where
  pub tag : List ℕ
  pub id : List ℕ
  pub says : IsIdThen line id (tag ++ peeled)
  pub elsewhere : ¬ (HasLast old tag)

-- the line is not an id and a name
abbrev pub IsNoRefLine : List ℕ → Type 0
IsNoRefLine line = (id name : List ℕ) → ¬ (IsIdThen line id name)

-- the refs after a line, from those before it; bad has the line if it is neither of a ref nor of the last ref, peeled
abbrev pub AddsLine : List ℕ → List Ref → List Ref → List (List ℕ) → Type 0
AddsLine line old new bad =
    ((r : Ref) × IsRefLine line r × (new ≡ old ++ r ∷ []) × (bad ≡ []))
    ⊎ ((IsPeeledLine line old new × (bad ≡ []))
    ⊎ ((IsTagLine line old ⊎ IsNoRefLine line) × (new ≡ old) × (bad ≡ line ∷ [])))

-- the refs after lines, from those before them; bad are the bad lines, in order
abbrev pub AddsRefs : List (List ℕ) → List Ref → List Ref → List (List ℕ) → Type 0
AddsRefs [] old new bad = (new ≡ old) × (bad ≡ [])
AddsRefs (line ∷ lines) old new bad =
    (more : List Ref) × (one : List (List ℕ)) × (rest : List (List ℕ)) × AddsLine line old more one
    × AddsRefs lines more new rest × (bad ≡ one ++ rest)

-- the records of an input list these refs, and bad are the bad ones
abbrev pub ListsRefs : ℕ → List ℕ → List Ref → List (List ℕ) → Type 0
ListsRefs end input refs bad = (records : List (List ℕ)) × AreRecords end records input × AddsRefs records [] refs bad

-- after the line, any refs with the names of old become refs with the names of new
abbrev pub AddsLineByNames : List ℕ → List Ref → List Ref → List (List ℕ) → Type 0
AddsLineByNames line old new bad = (refs : List Ref) → HaveSameNames old refs → (more : List Ref)
    × AddsLine line refs more bad × HaveSameNames new more

-- the same, and the bad records grew by the line if it is bad
abbrev pub AddsListed : List ℕ → List Ref → List Ref → List (List ℕ) → List (List ℕ) → Type 0
AddsListed line old new bad_old bad_new = (bad : List (List ℕ)) × AddsLineByNames line old new bad
    × (bad_new ≡ bad_old ++ bad)

-- the records of an input list refs with the names of these, and bad are the bad ones
abbrev pub ListsNames : ℕ → List ℕ → List Ref → List (List ℕ) → Type 0
ListsNames end input named bad = (refs : List Ref) × ListsRefs end input refs bad × HaveSameNames named refs

-- the bytes of a bad record
abbrev pub bad_bytes : BadRecord → List ℕ
bad_bytes b = b.bytes.now
