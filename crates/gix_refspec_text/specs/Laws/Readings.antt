-- Laws of the definitions alone, on readings, refusals, canonical texts, ids, patterns and prefixes.
use Rattle.std.specs.Prelude.{◌≡◌, ◌≢◌, ◌⊎◌, ◌↔◌, ◌<◌, ℕ, List, [], ◌∷◌, Option, Some, codes, length}
use Rattle.gix_refspec_text.specs.declared.name.Error.{Error as NameError}
use Rattle.gix_refspec_text.specs.declared.name.PatternError.{PatternError}
use Rattle.gix_refspec_text.specs.declared.name.PatternError.TheVariants.{Memory}
use Rattle.gix_refspec_text.specs.declared.oid.Error.{Error as IdError}
use Rattle.gix_refspec_text.specs.declared.parsing.Operation.{Operation}
use Rattle.gix_refspec_text.specs.Specs.Reading.{Reading}
use Rattle.gix_refspec_text.specs.Specs.Refusal.{Refusal, ReferenceName, IsRefused}
use Rattle.gix_refspec_text.specs.Texts.Words.{Lacks, BeginsWith}
use Rattle.gix_refspec_text.specs.Texts.Name.{IsPattern}
use Rattle.gix_refspec_text.specs.Texts.Bytes.{star, head}
use Rattle.gix_refspec_text.specs.Texts.PatternError.{IsPatternFault}
use Rattle.gix_refspec_text.specs.Texts.ObjectId.{HasIdFault, IsIdText, IsLowerText, lower_of}
use Rattle.gix_refspec_text.specs.Specs.Grammar.{Reads}
use Rattle.gix_refspec_text.specs.Specs.Meaning.{Meaning, meaning_of, printed}
use Rattle.gix_refspec_text.specs.Views.Instruction.{meant_for}
use Rattle.gix_refspec_text.specs.Matching.Side.{IsId, candidates, IsCandidate, Fits}
use Rattle.gix_refspec_text.specs.Matching.Match.{Ref, Matches, HasName, IsFirstCandidate, Takes}
use Rattle.gix_refspec_text.specs.Matching.Prefix.{IsPrefix, Expands}

-- for the operation, the text has exactly one reading
pub record ReadsOnce (op : Operation) (text : List ℕ) : Type 0 where
  pub reading : Reading
  pub reads : Reads op text reading
  pub only : (r : Reading) → Reads op text r → r ≡ reading

-- a text has exactly one reading, or it is refused; never both, since a refused text has no reading
abbrev pub ReadsOrRefused : Operation → List ℕ → Type 0
ReadsOrRefused op text = ReadsOnce op text ⊎ ((e : Refusal) × IsRefused op text e)

-- two refusals are the same, or both are `ReferenceName`
abbrev pub IsSameReason : Refusal → Refusal → Type 0
IsSameReason e f = (e ≡ f) ⊎ ((a : NameError) × (b : NameError) × (e ≡ ReferenceName a) × (f ≡ ReferenceName b))

-- a text is refused for only one reason
abbrev pub OneRefusal : Operation → List ℕ → Type 0
OneRefusal op text = (e f : Refusal) → IsRefused op text e → IsRefused op text f → IsSameReason e f

-- each reading of a text for an operation has that operation
abbrev pub KeepsOperation : Operation → List ℕ → Type 0
KeepsOperation op text = (r : Reading) → Reads op text r → r.operation ≡ op

-- the meaning of a reading is for the operation of the reading
abbrev pub SaysForOperation : Reading → Type 0
SaysForOperation r = (m : Meaning) → meaning_of r ≡ Some m → meant_for m ≡ r.operation

-- a reading has a canonical text, which has exactly one reading, with the same meaning: so that text is its own
-- canonical text
pub record IsPrintedBack (op : Operation) (r : Reading) : Type 0 where
  pub text : List ℕ
  pub is : printed r ≡ Some text
  pub again : ReadsOnce op text
  pub same : meaning_of again.reading ≡ meaning_of r

-- the canonical text of each reading of a text reads back with the same meaning
abbrev pub ReadsBack : Operation → List ℕ → Type 0
ReadsBack op text = (r : Reading) → Reads op text r → IsPrintedBack op r

-- readings of two texts have the same meaning exactly if their canonical texts are equal
abbrev pub EqualTexts : Operation → List ℕ → List ℕ → Type 0
EqualTexts op a b = (r q : Reading) → Reads op a r → Reads op b q → (meaning_of r ≡ meaning_of q)
    ↔ (printed r ≡ printed q)

-- two readings have the same meaning exactly if they have the same operation and equal canonical texts
abbrev pub EqualReadings : Reading → Reading → Type 0
EqualReadings r q = (meaning_of r ≡ meaning_of q) ↔ ((r.operation ≡ q.operation) × (printed r ≡ printed q))

-- the text spells exactly one id, the one with the bytes id, and has no fault
pub record HasOneId (t : List ℕ) : Type 0 where
  pub id : List ℕ
  pub text : IsIdText t id
  pub only : (i : List ℕ) → IsIdText t i → i ≡ id
  pub sound : (e : IdError) → ¬ (HasIdFault t e)

-- the text spells no id, and has exactly one fault
pub record HasOneFault (t : List ℕ) : Type 0 where
  pub fault : IdError
  pub has : HasIdFault t fault
  pub only : (e : IdError) → HasIdFault t e → e ≡ fault
  pub unread : (i : List ℕ) → ¬ (IsIdText t i)

-- a text spells exactly one id or has exactly one fault; never both
abbrev pub IdOrFault : List ℕ → Type 0
IdOrFault t = HasOneId t ⊎ HasOneFault t

-- the id with the bytes i has exactly one lower-case text, which it is printed as
pub record OneLowerText (i : List ℕ) : Type 0 where
  pub lower : IsLowerText (lower_of i) i
  pub only : (t : List ℕ) → IsLowerText t i → t ≡ lower_of i

-- a pattern has no fault, except that memory may run out if it has more than 256 bytes
abbrev pub NothingAgainst : List ℕ → Type 0
NothingAgainst x = IsPattern x → (e : PatternError) → IsPatternFault e x → (e ≡ Memory) × (256 < length x)

-- at most one word of a name lies between a given prefix and suffix
abbrev pub OneWord : List ℕ → List ℕ → List ℕ → Type 0
OneWord before after n = (v w : List ℕ) → Fits before after n v → Fits before after n w → v ≡ w

-- the name of each ref that the side matches begins with the prefix of the side, unless the side is `HEAD`
abbrev pub PrefixBegins : List ℕ → Type 0
PrefixBegins x = (p : List ℕ) (r : Ref) (word : Option (List ℕ)) → IsPrefix x p → x ≢ head → Matches x r word
    → BeginsWith p r.name

-- a side has at most one prefix and at most one expansion
pub record OnePrefix (x : List ℕ) : Type 0 where
  pub prefix : (p q : List ℕ) → IsPrefix x p → IsPrefix x q → p ≡ q
  pub expanded : (list other : List (List ℕ)) → Expands x list → Expands x other → list ≡ other

-- the only expansion of the side is its six candidates, and it matches exactly the refs with one of these names. As
-- a source it takes the ref of a one-element list exactly if the ref has one of these names
pub record HasCandidates (x : List ℕ) : Type 0 where
  pub expands : Expands x (candidates x)
  pub only : (list : List (List ℕ)) → Expands x list → list ≡ candidates x
  pub matches : (r : Ref) → ((word : Option (List ℕ)) × Matches x r word) ↔ IsCandidate x r.name
  pub takes : (r : Ref) → ((word : Option (List ℕ)) × Takes (r ∷ []) x r word) ↔ IsCandidate x r.name

-- this holds for a side that has no star, isn't `HEAD`, doesn't begin with `refs/` and isn't an id
abbrev pub Candidates : List ℕ → Type 0
Candidates x = Lacks star x → x ≢ head → ¬ (BeginsWith (codes "refs/") x) → ¬ (IsId x) → HasCandidates x

-- among the refs, a source takes exactly those whose name is the first of its candidates that any ref has. There is
-- at most one such name, and there is one if any ref has the name of a candidate
pub record TakesFirst (x : List ℕ) (refs : List Ref) : Type 0 where
  pub takes : (r : Ref) → ((word : Option (List ℕ)) × Takes refs x r word) ↔ IsFirstCandidate refs x r.name
  pub one : (n m : List ℕ) → IsFirstCandidate refs x n → IsFirstCandidate refs x m → n ≡ m
  pub some : (n : List ℕ) → IsCandidate x n → HasName refs n → (m : List ℕ) × IsFirstCandidate refs x m

-- this holds for a source that has no star, doesn't begin with `refs/` and isn't an id
abbrev pub FirstCandidate : List ℕ → List Ref → Type 0
FirstCandidate x refs = Lacks star x → ¬ (BeginsWith (codes "refs/") x) → ¬ (IsId x) → TakesFirst x refs

-- cloning a value of the type never fails, and the clone equals the value. is_clone relates a value to its clones, and
-- is_infallible says that cloning it never fails
abbrev pub ClonesExactly : {T : Type 0} → (T → T → Type 0) → (T → Type 0) → Type 0
ClonesExactly {T} is_clone is_infallible = (x : T) → is_infallible x × ((y : T) → is_clone x y → y ≡ x)
