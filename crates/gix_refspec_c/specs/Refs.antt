-- Groups of refspecs for both operations, and refs with their ids, as a caller passes them; and what is matched of
-- these.
use Rattle.std.specs.Prelude.{◌≡◌, ◌≢◌, ◌⊎◌, ◌<◌, ℕ, List, [], ◌∷◌, Option, None, Some, option_map, length, map, take}
use Rattle.std.specs.Prelude.{get_or, replicate, Bool, false, IsTrue, not, ◌==◌}
use Rattle.std.specs.List.{AllZip, list_all}
use Rattle.gix_refspec_text.specs.declared.oid.Error.{Error}
use Rattle.gix_refspec_text.specs.declared.parsing.Operation.{Operation}
use Rattle.gix_refspec.specs.Texts.ObjectId.{HasIdFault, IsIdText, id_bytes}
use Rattle.gix_refspec.specs.Specs.Reading.{Reading}
use Rattle.gix_refspec.specs.Specs.Grammar.{Reads}
use Rattle.gix_refspec.specs.Matching.Match.{Ref}
use Rattle.gix_refspec.specs.Matching.Mappings.{Mapped}
use Rattle.gix_refspec.specs.Laws.Items.{AsksForNoId}
use Rattle.gix_refspec_c.specs.declared.failure.Failure.{Failure}
use Rattle.gix_refspec_c.specs.declared.failure.Failure.TheVariants as failure
use Rattle.gix_refspec_c.specs.declared.matching.Direction.{Direction}
use Rattle.gix_refspec_c.specs.declared.matching.Direction.TheVariants.{Forward, Backward}
use Rattle.gix_refspec_c.specs.declared.refs.SpecIn.{SpecIn}
use Rattle.gix_refspec_c.specs.declared.refs.RefIn.{RefIn}
use Rattle.gix_refspec_c.specs.declared.refs.Known.{Known}
use Rattle.gix_refspec_c.specs.Mapping.{Entry}
use Rattle.gix_refspec_c.specs.Matching.{Keeps, entry_of}
use Rattle.gix_refspec_c.specs.Reading.{IsUnread, code_of}

-- a text, and the number of its operation
pub record SpecText : Type 0 where
  pub text : List ℕ
  pub operation : ℕ

abbrev pub spec_text : SpecIn → SpecText
spec_text s = record { text = s.text.now; operation = s.operation }

abbrev pub no_spec_text : SpecText
no_spec_text = record { text = []; operation = 0 }

-- the text reads as r for its operation
pub record ReadsAs (s : SpecText) (r : Reading) : Type 0 where
  pub operation : Operation
  pub number : s.operation ≡ code_of operation
  pub reads : Reads operation s.text r

-- why a spec isn't read: its operation is unknown, or its text isn't read for it
abbrev pub IsBadSpec : SpecText → Failure → Type 0
IsBadSpec s f = ((f ≡ failure.NoOperation) × ((op : Operation) → ¬ (s.operation ≡ code_of op)))
    ⊎ ((op : Operation) × (s.operation ≡ code_of op) × IsUnread op s.text f)

-- f is why the spec at some index isn't read, and all before it are read
pub record IsFirstBadSpec (specs : List SpecText) (f : Failure) : Type 0 where
  pub index : ℕ
  pub within : index < length specs
  pub before : List Reading
  pub read : AllZip ReadsAs (take index specs) before
  pub why : IsBadSpec (get_or specs index no_spec_text) f

-- a ref: its name, the digits of the id that it points to, and those of the id that was tagged; empty if there are none
pub record RefText : Type 0 where
  pub name : List ℕ
  pub target : List ℕ
  pub object : List ℕ

abbrev pub ref_text : RefIn → RefText
ref_text r = record { name = r.name.now; target = r.target.now; object = r.object.now }

-- the id that digits spell; if there are no digits, there is none
abbrev pub IsIdIn : List ℕ → Option (List ℕ) → Type 0
IsIdIn [] i = i ≡ None
IsIdIn (d ∷ ds) None = ⊥
IsIdIn (d ∷ ds) (Some i) = IsIdText (d ∷ ds) i

-- digits that spell no id
abbrev pub IsBadId : List ℕ → Type 0
IsBadId digits = (digits ≢ []) × ((e : Error) × HasIdFault digits e)

-- the id of an object, or the null id
abbrev pub or_null : Option (List ℕ) → List ℕ
or_null None = replicate 20 0
or_null (Some i) = i

-- the ref with its ids read. The target is the null id if it isn't known
pub record IsRefOf (t : RefText) (r : Ref) : Type 0 where
  pub name : r.name ≡ t.name
  pub target : (i : Option (List ℕ)) × IsIdIn t.target i × (r.target ≡ or_null i)
  pub object : IsIdIn t.object r.object

-- one of its ids isn't spelled by its digits
abbrev pub HasBadId : RefText → Type 0
HasBadId t = IsBadId t.target ⊎ IsBadId t.object

abbrev pub no_ref_text : RefText
no_ref_text = record { name = []; target = []; object = [] }

-- that is so of the ref at some index
pub record SomeBadId (texts : List RefText) : Type 0 where
  pub index : ℕ
  pub within : index < length texts
  pub bad : HasBadId (get_or texts index no_ref_text)

-- a ref with its ids read, as plain data
abbrev pub known_ref : Known → Ref
known_ref k = record {
  name = k.name.now;
  target = id_bytes k.target;
  object = option_map id_bytes k.object;
}

-- whether the target of a ref is known
abbrev pub is_known : RefText → Bool
is_known t = not (length t.target == 0)

-- from right to left an id is asked for only among refs whose targets are known
abbrev pub HasTargets : Direction → List Reading → List RefText → Type 0
HasTargets Forward g texts = Unit {0}
HasTargets Backward g texts = AsksForNoId g ⊎ IsTrue (list_all is_known texts)

-- from right to left an id is asked for, and the target of some ref isn't known
abbrev pub LacksTarget : Direction → List Reading → List RefText → Type 0
LacksTarget Forward g texts = ⊥
LacksTarget Backward g texts = ¬ (AsksForNoId g) × (list_all is_known texts ≡ false)

-- the specs are read, each for its operation, and so are the ids of the refs, and targets are known where they count
pub record AreInput (d : Direction) (specs : List SpecText) (texts : List RefText) (group : List Reading)
    (refs : List Ref) : Type 0 where
  pub read : AllZip ReadsAs specs group
  pub are_refs : AllZip IsRefOf texts refs
  pub targets : HasTargets d group texts

-- the specs are read, each for its operation, and these entries are the mappings that are kept of them over the refs
pub record AreMatchedRefs (d : Direction) (specs : List SpecText) (texts : List RefText) (es : List Entry) :
    Type 0 where
  pub group : List Reading
  pub read : AllZip ReadsAs specs group
  pub refs : List Ref
  pub are_refs : AllZip IsRefOf texts refs
  pub targets : HasTargets d group texts
  pub kept : List Mapped
  pub keeps : Keeps d group refs kept
  pub are : es ≡ map (entry_of d group) kept

-- why refs weren't matched: memory ran out; the first spec that isn't read has this failure; all are read, and an id is
-- malformed; or the target of a ref is needed, and unknown
pub data AreUnmatchedRefs (d : Direction) (specs : List SpecText) (texts : List RefText) (f : Failure) : Type 0 where
  out_of_memory : f ≡ failure.NoMemory → AreUnmatchedRefs d specs texts f
  bad_spec : IsFirstBadSpec specs f → AreUnmatchedRefs d specs texts f
  bad_id : (group : List Reading) → AllZip ReadsAs specs group → f ≡ failure.InvalidId → SomeBadId texts
      → AreUnmatchedRefs d specs texts f
  no_target : (group : List Reading) → AllZip ReadsAs specs group → f ≡ failure.NeedsIds → LacksTarget d group texts
      → AreUnmatchedRefs d specs texts f
