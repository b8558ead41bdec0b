-- Texts that are read together, and the ref prefixes of one of them, or of all.
use Rattle.std.specs.Prelude.{◌≡◌, ◌<◌, ◌⊎◌, ℕ, List, [], ◌∷◌, ◌++◌, length, take, get_or}
use Rattle.std.specs.List.{AllZip, flat_map}
use Rattle.gix_refspec_text.specs.declared.parsing.Operation.{Operation}
use Rattle.gix_refspec.specs.Specs.Reading.{Reading}
use Rattle.gix_refspec.specs.Specs.Grammar.{Reads}
use Rattle.gix_refspec_text.specs.Matching.Prefix.{HasPrefix, IsExpansion}
use Rattle.gix_refspec.specs.Matching.Asked.{ListsBeside, Requests, Serves}
use Rattle.gix_refspec.specs.declared.match_group.prefixes.RefPrefixes.TheVariants as request
use Rattle.gix_refspec_c.specs.declared.explanation.Text.{Text}
use Rattle.gix_refspec_c.specs.declared.failure.Failure.{Failure}
use Rattle.gix_refspec_c.specs.declared.failure.Failure.TheVariants as failure
use Rattle.gix_refspec_c.specs.Reading.{IsRefspec, IsUnread}

-- the bytes of a text
abbrev pub bytes_of : Text → List ℕ
bytes_of t = t.bytes.now

-- f is why the text at some index was refused, and all texts before it are refspecs for the operation
pub record IsFirstUnread (op : Operation) (texts : List (List ℕ)) (f : Failure) : Type 0 where
  pub place : ℕ
  pub within : place < length texts
  pub before : List Reading
  pub read : AllZip (Reads op) (take place texts) before
  pub why : IsUnread op (get_or texts place []) f

-- why texts weren't read: memory ran out, or the first one refused has this failure
abbrev pub AreUnread : Operation → List (List ℕ) → Failure → Type 0
AreUnread op texts failure.NoMemory = Unit {0}
AreUnread op texts f = IsFirstUnread op texts f

abbrev pub newline : ℕ
newline = 10

-- the names, each followed by a newline
abbrev pub lines_of : List (List ℕ) → List ℕ
lines_of names = flat_map (λ n. n ++ (newline ∷ [])) names

-- the prefix of a reading, or empty if it has none
abbrev pub IsPrefixOrNothing : Reading → List ℕ → Type 0
IsPrefixOrNothing r p = HasPrefix r p ⊎ (((q : List ℕ) → ¬ (HasPrefix r q)) × (p ≡ []))

-- the text is a refspec for the operation, and this is its prefix, or empty
pub record HasPrefixOrNothing (op : Operation) (text p : List ℕ) : Type 0 where
  pub reading : Reading
  pub reads : Reads op text reading
  pub is : IsPrefixOrNothing reading p

-- the answer is the expansion of a reading, with a newline after each entry
abbrev pub IsExpandedTo : Reading → List ℕ → Type 0
IsExpandedTo r answer = (names : List (List ℕ)) × IsExpansion r names × (answer ≡ lines_of names)

-- the text is a refspec for the operation, and the answer is its expansion
pub record IsExpanded (op : Operation) (text answer : List ℕ) : Type 0 where
  pub reading : Reading
  pub reads : Reads op text reading
  pub is : IsExpandedTo reading answer

-- why a text isn't expanded: it wasn't read, or memory ran out
abbrev pub IsUnexpanded : Operation → List ℕ → Failure → Type 0
IsUnexpanded op text f = IsUnread op text f ⊎ ((f ≡ failure.NoMemory) × IsRefspec op text)

-- the texts are refspecs for the operation, and the answer has the ref prefixes to send for all of them, with a newline
-- after each: for these a server lists each name that a group of fetches maps from left to right
pub record IsToAsk (op : Operation) (texts : List (List ℕ)) (answer : List ℕ) : Type 0 where
  pub group : List Reading
  pub read : AllZip (Reads op) texts group
  pub names : List (List ℕ)
  pub lists : ListsBeside [] group names
  pub serves : Serves names group
  pub is : answer ≡ lines_of names

-- the texts are refspecs for the operation, and only a request for all refs is safe
pub record HaveNoList (op : Operation) (texts : List (List ℕ)) : Type 0 where
  pub group : List Reading
  pub read : AllZip (Reads op) texts group
  pub all : Requests group request.All

-- why there are no ref prefixes
abbrev pub IsUnasked : Operation → List (List ℕ) → Failure → Type 0
IsUnasked op texts failure.NoList = HaveNoList op texts
IsUnasked op texts f = AreUnread op texts f
