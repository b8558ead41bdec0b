-- The lines that a matching command reads: specs for a fetch, and the refs of a repository. Their forms are
-- this project's own rule.
use Rattle.std.specs.Prelude.{◌≡◌, ◌⊎◌, ℕ, ◌+◌, List, [], ◌∷◌, ◌++◌, None, Some, codes, length}
use Rattle.std.specs.List.{AllZip}
use Rattle.gix_refspec_text.specs.declared.parsing.Operation.TheVariants.{Fetch}
use Rattle.gix_refspec.specs.Texts.Words.{Lacks}
use Rattle.gix_refspec.specs.Texts.ObjectId.{IsIdText}
use Rattle.gix_refspec.specs.Specs.Reading.{Reading}
use Rattle.gix_refspec.specs.Specs.Grammar.{Reads}
use Rattle.gix_refspec.specs.Specs.Refusal.{IsRefused}
use Rattle.gix_refspec.specs.Views.Instruction.{ShowsRefusal}
use Rattle.gix_refspec.specs.Matching.Match.{Ref}
use Rattle.refspec_map.specs.declared.fault.Fault.{Fault}
use Rattle.refspec_map.specs.declared.fault.Fault.TheVariants as fault
use Rattle.refspec_map.specs.Input.{AreLines}

abbrev pub space : ℕ
space = 32

-- the text is an id, a space and the rest; the id is all that precedes the first space
pub record IsIdThen (text id rest : List ℕ) : Type 0 where
  pub word : List ℕ
  pub ends : Lacks space word
  pub spelled : IsIdText word id
  pub here : text ≡ word ++ (space ∷ rest)

-- `ref <id> <name>`: a ref and the id that it points to
pub record IsRefLine (line : List ℕ) (r : Ref) : Type 0 where
  pub words : List ℕ
  pub here : line ≡ codes "ref " ++ words
  pub target : IsIdThen words r.target r.name
  pub object : r.object ≡ None

-- `tag <id> <id> <name>`: a ref, the id that it points to, and the id of the tagged object
pub record IsTagLine (line : List ℕ) (r : Ref) : Type 0 where
  pub words : List ℕ
  pub rest : List ℕ
  pub id : List ℕ
  pub here : line ≡ codes "tag " ++ words
  pub target : IsIdThen words r.target rest
  pub tagged : IsIdThen rest id r.name
  pub object : r.object ≡ Some id

-- the content of a line: the text of a spec, or a ref
pub data Line : Type 0 where
  spec : List ℕ → Line
  item : Ref → Line

-- the line has this content: `spec <text>`, whose text may be empty, or a ref in one of its two forms
abbrev pub Says : List ℕ → Line → Type 0
Says line (spec text) = line ≡ codes "spec " ++ text
Says line (item r) = IsRefLine line r ⊎ IsTagLine line r

-- the line has none of these forms
abbrev pub IsMalformed : List ℕ → Type 0
IsMalformed line = (said : Line) → ¬ (Says line said)

-- what a line adds to a group or its items: the reading of a spec, or a ref
pub data Entry : Type 0 where
  reading : Reading → Entry
  ref : Ref → Entry

-- the line adds this entry
abbrev pub Gives : List ℕ → Entry → Type 0
Gives line (reading r) = (text : List ℕ) × Says line (spec text) × Reads Fetch text r
Gives line (ref r) = Says line (item r)

-- the readings among the entries, in order
abbrev pub readings_in : List Entry → List Reading
readings_in [] = []
readings_in (reading r ∷ entries) = r ∷ readings_in entries
readings_in (ref r ∷ entries) = readings_in entries

-- the refs among the entries, in order
abbrev pub refs_in : List Entry → List Ref
refs_in [] = []
refs_in (reading r ∷ entries) = refs_in entries
refs_in (ref r ∷ entries) = r ∷ refs_in entries

-- the input has a line with this number, counted from 1, and each line before it adds an entry
pub record IsReached (input : List ℕ) (number : ℕ) (line : List ℕ) : Type 0 where
  pub before : List (List ℕ)
  pub after : List (List ℕ)
  pub entries : List Entry
  pub split : AreLines (before ++ (line ∷ after)) input
  pub good : AllZip Gives before entries
  pub counted : number ≡ length before + 1

-- the fault of the line with this number: it is malformed, or its spec is refused
abbrev pub IsFaultOf : ℕ → List ℕ → Fault → Type 0
IsFaultOf number line (fault.Line n) = (n ≡ number) × IsMalformed line
IsFaultOf number line (fault.Spec n error) = (text : List ℕ) × (n ≡ number) × Says line (spec text)
    × ShowsRefusal (IsRefused Fetch text) error
IsFaultOf number line _ = ⊥

-- the fault of the first bad line of the input
abbrev pub IsFirstFault : List ℕ → Fault → Type 0
IsFirstFault input f = (number : ℕ) × (line : List ℕ) × IsReached input number line × IsFaultOf number line f
