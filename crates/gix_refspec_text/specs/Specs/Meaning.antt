-- The meaning of a reading, which is what it says to do, by git-fetch(1) and git-push(1); and its canonical text, by
-- this project's own rule.
use Rattle.std.specs.Prelude.{◌≡◌, ℕ, Bool, true, false, ◌==◌, List, [], ◌∷◌, ◌++◌, Option, None, Some, option_map}
use Rattle.std.specs.Io.KnownBytes.{Appends}
use Rattle.gix_refspec_text.specs.declared.parsing.Operation.{Operation}
use Rattle.gix_refspec_text.specs.declared.parsing.Operation.TheVariants.{Push, Fetch}
use Rattle.gix_refspec_text.specs.Specs.Reading.{Mode, Normal, Forced, Negative, Reading}
use Rattle.gix_refspec_text.specs.Texts.Bytes.{plus, caret, colon}

-- what a refspec says to do; the flag says whether non-fast-forward updates are allowed
pub data Meaning : Type 0 where
  push_all_matching : Bool → Meaning
  push_delete : List ℕ → Meaning
  push_matching : List ℕ → List ℕ → Bool → Meaning
  push_exclude : List ℕ → Meaning
  fetch_only : List ℕ → Meaning
  fetch_exclude : List ℕ → Meaning
  fetch_and_update : List ℕ → List ℕ → Bool → Meaning

-- the meaning of a positive spec, forced or not; `None` if no text has such a reading
abbrev pub included : Operation → Bool → Option (List ℕ) → Option (List ℕ) → Option Meaning
included Push forced None None = Some (push_all_matching forced)
included Push forced None (Some d) = Some (push_delete d)
included Push forced (Some s) None = Some (push_matching s s forced)
included Push forced (Some s) (Some d) = Some (push_matching s d forced)
included Fetch forced None d = None
included Fetch forced (Some s) None = Some (fetch_only s)
included Fetch forced (Some s) (Some d) = Some (fetch_and_update s d forced)

-- the meaning of a negative spec; `None` if no text has such a reading
abbrev pub excluded : Operation → Option (List ℕ) → Option (List ℕ) → Option Meaning
excluded op None d = None
excluded op (Some s) (Some d) = None
excluded Push (Some s) None = Some (push_exclude s)
excluded Fetch (Some s) None = Some (fetch_exclude s)

-- the meaning of a spec with this mode and these sides
abbrev pub meaning : Operation → Mode → Option (List ℕ) → Option (List ℕ) → Option Meaning
meaning op Normal s d = included op false s d
meaning op Forced s d = included op true s d
meaning op Negative s d = excluded op s d

-- the meaning of a reading
abbrev pub meaning_of : Reading → Option Meaning
meaning_of r = meaning r.operation r.mode r.source r.destination

-- `+` if forced
abbrev pub sign : Bool → List ℕ
sign true = plus ∷ []
sign false = []

-- whether the first byte is `+`
abbrev pub begins_with_plus : List ℕ → Bool
begins_with_plus [] = false
begins_with_plus (b ∷ bs) = b == plus

-- the canonical text: this project's own rule. The lone source of a fetch that begins with `+` gets another `+`
-- before it, since its own would be read as the sign
abbrev pub text_of : Meaning → List ℕ
text_of (push_all_matching forced) = sign forced ++ (colon ∷ [])
text_of (push_delete d) = colon ∷ d
text_of (push_matching s d forced) = sign forced ++ (s ++ (colon ∷ d))
text_of (push_exclude s) = caret ∷ s
text_of (fetch_only s) = sign (begins_with_plus s) ++ s
text_of (fetch_exclude s) = caret ∷ s
text_of (fetch_and_update s d forced) = sign forced ++ (s ++ (colon ∷ d))

-- the canonical text of a reading
abbrev pub printed : Reading → Option (List ℕ)
printed r = option_map text_of (meaning_of r)

-- the canonical text of the reading was appended to a writer's known bytes
pub record WritesPrinted (r : Reading) (old new : Option (List ℕ)) : Type 0 where
  pub text : List ℕ
  pub is : printed r ≡ Some text
  pub grown : Appends old new text
