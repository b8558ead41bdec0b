-- What `check` warns of in JSON: what the definitions of the linter say of the specs that a fetch applies together, and
-- other
-- warnings on single specs. This project's own rule. The advice is left open, and so is the message, except on the two
-- kinds of
-- conflict. Of the warnings on single specs the name alone is said.
use Rattle.std.specs.Prelude.{◌≡◌, ◌≢◌, ◌⊎◌, ◌<◌, ℕ, Bool, true, List, [], ◌∷◌, ◌++◌, Option, Some, None, codes, map}
use Rattle.std.specs.Prelude.{option_to_list, is_some}
use Rattle.std.specs.List.{AllByRecursion, AllZip, slice_get}
use Rattle.gix_refspec_text.specs.declared.parsing.Operation.TheVariants as operation
use Rattle.gix_refspec_text.specs.Specs.Reading.{Reading}
use Rattle.gix_refspec_text.specs.Texts.Bytes.{head, star}
use Rattle.gix_refspec_text.specs.Texts.Words.{BeginsWith, Lacks}
use Rattle.gix_refspec_match.specs.Matching.Lists.{IsMadeFrom}
use Rattle.gix_refspec_lint.specs.declared.Reason.{Reason}
use Rattle.gix_refspec_lint.specs.declared.Reason.TheVariants as reason
use Rattle.gix_refspec_lint.specs.Matching.Lint.{AreExamples, AreIdle, AreIdleExclusions, AreNestings, Configuration}
use Rattle.gix_refspec_lint.specs.Matching.Lint.{Example, IsFree, Nesting, Unused, specs_of}
use Rattle.refspec_json.specs.Objects.{Warned, line_of, warning_object}
use Rattle.refspec_io.specs.declared.call.Form.{Form}
use Rattle.refspec_io.specs.declared.call.Form.TheVariants as form
use Rattle.refspec_io.specs.declared.report.Report.{Report}
use Rattle.refspec_io.specs.Json.{AreInOrder, json_text}
use Rattle.refspec_io.specs.Messages.{IsSpot}
use Rattle.refspec_io.specs.Rows.{source_text}
use Rattle.refspec_io.specs.Shown.{IsQuoted}
use Rattle.refspec_io.specs.Texts.{Given, Spot}
use Rattle.refspec_commands.specs.Seen.{AreAllRead, AreKeys, HasUnread, Seen, of_key}

-- ---- what a fetch takes besides its values

-- each branch.<name>.merge of the branches that pull from the remote, the text for all tags if these are asked for,
-- and whether an exclusion may leave out tags
pub record Asked : Type 0 where
  pub merges : List (List ℕ)
  pub tags : Option Given
  pub excludable : Bool

-- nothing but the tags that are followed
abbrev pub nothing_asked : Asked
nothing_asked = record { merges = []; tags = None; excludable = true }

-- what a fetch by these specs is asked for, and what exclusions may leave out
abbrev pub fetched_by : Asked → List Reading → Configuration
fetched_by a g = record { values = g; merges = a.merges; tags = is_some a.tags }

abbrev pub excludable_by : Asked → List Reading → Configuration
excludable_by a g = record { values = g; merges = a.merges; tags = a.excludable }

-- ---- warnings

-- a warning: its name, its location, the texts that it is about, and its message
pub record Said : Type 0 where
  pub name : List ℕ
  pub spot : Spot
  pub texts : List Given
  pub message : List ℕ

-- the object of a text that a warning is about
pub record IsWarned (t : Given) (w : Warned) : Type 0 where
  pub location : IsSpot form.Json t.spot w.location
  pub text : w.text ≡ json_text t.bytes

-- the object of a warning, as a line; its advice is left open
pub record IsSaidLine (s : Said) (line : List ℕ) : Type 0 where
  pub location : List ℕ
  pub specs : List Warned
  pub advice : List ℕ
  pub is_location : IsSpot form.Json s.spot location
  pub are : AllZip IsWarned s.texts specs
  pub is : line ≡ line_of (warning_object s.name location specs (json_text s.message) advice)

-- the texts at these indexes
abbrev pub AreAt : List Given → List ℕ → List Given → Type 0
AreAt texts indexes found = AllZip (λ i t. slice_get texts i ≡ Some t) indexes found

-- the location is that of the first text
abbrev pub IsAtFirst : Said → Type 0
IsAtFirst s = (t : Given) × (more : List Given) × (s.texts ≡ t ∷ more) × (s.spot ≡ t.spot)

-- the sentence with the example
pub record IsExampleMessage (e : Example) (message : List ℕ) : Type 0 where
  pub first : List ℕ
  pub second : List ℕ
  pub destination : List ℕ
  pub is_first : IsQuoted (source_text e.one) first
  pub is_second : IsQuoted (source_text e.other) second
  pub is_destination : IsQuoted e.destination destination
  pub is : message ≡ codes "A remote with " ++ (first ++ (codes " and " ++ (second ++ (codes " would write both to "
      ++ (destination ++ codes ", and git fetch would write nothing.")))))

-- both specs of an example are among so many
pub record IsAmong (count : ℕ) (e : Example) : Type 0 where
  pub first : e.first < count
  pub second : e.second < count

-- the warning on two specs that can conflict
pub record IsConflictSaid (texts : List Given) (e : Example) (s : Said) : Type 0 where
  pub name : s.name ≡ codes "possible_conflict"
  pub texts_of : AreAt texts (e.first ∷ e.second ∷ []) s.texts
  pub location : IsAtFirst s
  pub message : IsExampleMessage e s.message

-- the sources of a directory conflict, or the one that both are
abbrev pub AreSources : Nesting → List ℕ → Type 0
AreSources n text =
    (first : List ℕ) × IsQuoted (source_text n.one) first
    × (((source_text n.one ≡ source_text n.other) × (text ≡ codes "A remote with " ++ first))
    ⊎ ((source_text n.one ≢ source_text n.other) × (second : List ℕ) × IsQuoted (source_text n.other) second
    × (text ≡ codes "A remote with " ++ (first ++ (codes " and " ++ second)))))

-- the sentence with the example of one
pub record IsNestingMessage (n : Nesting) (message : List ℕ) : Type 0 where
  pub sources : List ℕ
  pub directory : List ℕ
  pub nested : List ℕ
  pub of_sources : AreSources n sources
  pub is_directory : IsQuoted n.directory directory
  pub is_nested : IsQuoted n.nested nested
  pub is : message ≡ sources ++ (codes " would write " ++ (directory ++ (codes " and " ++ (nested
      ++ codes ": one is a directory of the other, so git fetch would write one of them, and end with status 1."))))

-- both specs of a directory conflict are among so many
pub record AreWithin (count : ℕ) (n : Nesting) : Type 0 where
  pub upper : n.upper < count
  pub lower : n.lower < count

-- the warning on two specs that can be in one
pub record IsNestingSaid (texts : List Given) (n : Nesting) (s : Said) : Type 0 where
  pub name : s.name ≡ codes "directory_conflict"
  pub texts_of : AreAt texts (n.upper ∷ n.lower ∷ []) s.texts
  pub location : IsAtFirst s
  pub message : IsNestingMessage n s.message

-- the name of the warning on an idle spec, and the index of another spec that it is about
abbrev pub idle_name : Reason → List ℕ
idle_name reason.Invalid = codes "idle_invalid"
idle_name (reason.Excluded n) = codes "idle_excluded"
idle_name (reason.Duplicate h) = codes "idle_duplicate"
idle_name reason.Duplicates = codes "idle_duplicate"

abbrev pub other_of : Reason → List ℕ
other_of reason.Invalid = []
other_of (reason.Excluded n) = n ∷ []
other_of (reason.Duplicate h) = h ∷ []
other_of reason.Duplicates = []

-- an idle spec and the one that explains it are among so many
pub record IsInside (count : ℕ) (u : Unused) : Type 0 where
  pub spec : u.spec < count
  pub other : AllByRecursion (λ i. i < count) (other_of u.reason)

-- the warning on an idle spec
pub record IsIdleSaid (texts : List Given) (u : Unused) (s : Said) : Type 0 where
  pub name : s.name ≡ idle_name u.reason
  pub texts_of : AreAt texts (u.spec ∷ other_of u.reason) s.texts
  pub location : IsAtFirst s

-- a side is `HEAD` or begins with `refs/`, or is a pattern that may match such a name
abbrev pub MayBeFull : List ℕ → Type 0
MayBeFull side =
    (side ≡ head) ⊎ (BeginsWith (codes "refs/") side
    ⊎ ((before : List ℕ) × (after : List ℕ) × (side ≡ before ++ (star ∷ after)) × Lacks star before
    × (BeginsWith before (codes "refs/") ⊎ BeginsWith before head)))

-- the source of a spec may be a full name
abbrev pub MayNameRefs : Reading → Type 0
MayNameRefs r = (source : List ℕ) × (r.source ≡ Some source) × MayBeFull source

-- and so may that of the spec at index k
abbrev pub MayExclude : List Reading → ℕ → Type 0
MayExclude g k = (r : Reading) × (slice_get g k ≡ Some r) × MayNameRefs r

-- the warning on a negative spec that excludes nothing, if its source may be a full name
pub record IsExclusionSaid (g : List Reading) (texts : List Given) (k : ℕ) (s : Said) : Type 0 where
  pub name : s.name ≡ codes "idle_exclusion"
  pub texts_of : AreAt texts (k ∷ []) s.texts
  pub location : IsAtFirst s
  pub full : MayExclude g k

-- the warning has the name of one on a single spec; its texts, location and message are open
abbrev pub IsOtherSaid : Said → Type 0
IsOtherSaid s =
    (s.name ≡ codes "excludes_no_branch")
    ⊎ ((s.name ≡ codes "destination_outside_refs") ⊎ (s.name ≡ codes "partial_source"))

-- what the linter finds of specs, with the warnings on it; or no byte is free, and there are none
abbrev pub FoundOrNone : {X : Type 0} → List Reading → (List X → Type 0) → (List X → List Said → Type 0) → List Said
    → Type 0
FoundOrNone {X} g AreFound AreSaidOf said =
    ((found : List X) × AreFound found × AreSaidOf found said) ⊎ (((b : ℕ) → ¬ (IsFree g b)) × (said ≡ []))

-- the warnings on specs of a fetch that can conflict
abbrev pub AreConflictsSaid : Asked → List Reading → List Given → List Said → Type 0
AreConflictsSaid a g texts said = FoundOrNone (specs_of (fetched_by a g)) (AreExamples (specs_of (fetched_by a g)))
    (λ found all. AllZip (IsConflictSaid (texts ++ option_to_list a.tags)) found all) said

-- those on specs that can be in a directory conflict
abbrev pub AreNestingsSaid : Asked → List Reading → List Given → List Said → Type 0
AreNestingsSaid a g texts said = FoundOrNone (specs_of (fetched_by a g)) (AreNestings (specs_of (fetched_by a g)))
    (λ found all. AllZip (IsNestingSaid (texts ++ option_to_list a.tags)) found all) said

-- those on idle specs
abbrev pub AreIdleSaid : List Reading → List Given → List Said → Type 0
AreIdleSaid g texts said = FoundOrNone g (AreIdle g) (λ found all. AllZip (IsIdleSaid texts) found all) said

-- those on negative specs that exclude nothing
abbrev pub AreExclusionsSaid : Asked → List Reading → List Given → List Said → Type 0
AreExclusionsSaid a g texts said = FoundOrNone (specs_of (excludable_by a g))
    (AreIdleExclusions (specs_of (excludable_by a g)) a.merges)
    (λ found all. IsMadeFrom (λ i k s. IsExclusionSaid g texts k s) 0 found all) said

-- the first of the texts is for a fetch
abbrev pub IsForFetch : List Given → Type 0
IsForFetch [] = ⊥
IsForFetch (t ∷ texts) = t.operation ≡ operation.Fetch

-- the four kinds on specs of a fetch, and behind these any with the names of those on single specs
pub record AreSaid (a : Asked) (g : List Reading) (texts : List Given) (said : List Said) : Type 0 where
  pub conflicts : List Said
  pub directories : List Said
  pub idle : List Said
  pub exclusions : List Said
  pub others : List Said
  pub of_conflicts : AreConflictsSaid a g texts conflicts
  pub of_directories : AreNestingsSaid a g texts directories
  pub of_idle : AreIdleSaid g texts idle
  pub of_exclusions : AreExclusionsSaid a g texts exclusions
  pub of_others : AllByRecursion IsOtherSaid others
  pub is : said ≡ conflicts ++ (directories ++ (idle ++ (exclusions ++ others)))

-- the warnings on specs with these texts, which a fetch or a push applies together
abbrev pub AreSaidOn : Asked → List Reading → List Given → List Said → Type 0
AreSaidOn a g texts said =
    (IsForFetch texts × AreSaid a g texts said) ⊎ (¬ (IsForFetch texts) × AllByRecursion IsOtherSaid said)

-- the warnings on the texts of a key: none if one of these is refused, which may change all
abbrev pub AreSaidOf : Asked → List Seen → List Said → Type 0
AreSaidOf a group said =
    (HasUnread group × (said ≡ []))
    ⊎ ((g : List Reading) × AreAllRead group g × AreSaidOn a g (map (λ s. s.text) group) said)

-- what is said of some keys, in order
abbrev pub AreInTurn : (List ℕ → List Said → Type 0) → List (List ℕ) → List Said → Type 0
AreInTurn Says [] said = said ≡ []
AreInTurn Says (key ∷ keys) said =
    (one : List Said) × (rest : List Said) × Says key one × AreInTurn Says keys rest × (said ≡ one ++ rest)

-- the warnings on texts, by their keys; a fetch by the values of a key takes what it asks for besides
abbrev pub AreWarnings : (List ℕ → Asked) → List Seen → List Said → Type 0
AreWarnings asks seen said =
    (keys : List (List ℕ)) × AreKeys seen keys × AreInTurn (λ key some. AreSaidOf (asks key) (of_key key seen) some)
    keys
    said

-- ---- their report

-- the lines of a warning; what follows the word is left open
abbrev pub IsSaidText : Said → List ℕ → Type 0
IsSaidText s lines = BeginsWith (codes "warning: ") lines

-- warnings were appended, in order: behind the messages, or in JSON as results
abbrev pub AddsSaid : Form → List Said → Report → Report → Type 0
AddsSaid form.Json said old new =
    (new.messages.items ≡ old.messages.items)
    × ((lines : List ℕ) × AreInOrder IsSaidLine said lines × (new.results.items ≡ old.results.items ++ lines))
AddsSaid _ said old new =
    (new.results.items ≡ old.results.items)
    × ((lines : List ℕ) × AreInOrder IsSaidText said lines × (new.messages.items ≡ old.messages.items ++ lines))
