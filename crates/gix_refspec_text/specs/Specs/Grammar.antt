-- The grammar of refspecs, by git-fetch(1) and git-push(1) under `<refspec>`: the thirteen forms of a text, and the
-- reading of each. A push of two patterns is by git-push(1) under `--prune`. Not in the manuals of Git 2.39, but
-- accepted by Git, are a push of a lone pattern, a negative spec in a push, and the empty source of a fetch. A lone
-- `+` in a push is this project's own rule.
use Rattle.std.specs.Prelude.{◌≡◌, ◌≢◌, ◌⊎◌, ◌≤◌, ℕ, ◌==◌, if◌then◌else◌, List, [], ◌∷◌, ◌++◌, Option, None, Some}
use Rattle.std.specs.Prelude.{length}
use Rattle.std.specs.List.{AllPass}
use Rattle.std.specs.Char.{is_ascii_hexdigit}
use Rattle.gix_refspec_text.specs.declared.parsing.Operation.{Operation}
use Rattle.gix_refspec_text.specs.declared.parsing.Operation.TheVariants.{Push, Fetch}
use Rattle.gix_refspec_text.specs.Texts.Words.{Lacks}
use Rattle.gix_refspec_text.specs.Texts.Name.{IsName, IsPattern}
use Rattle.gix_refspec_text.specs.Texts.Bytes.{star, plus, caret, colon, at, head}
use Rattle.gix_refspec_text.specs.Specs.Reading.{Mode, Normal, Forced, Negative, Reading}

-- the text doesn't begin with a sign
abbrev pub IsUnsigned : List ℕ → Type 0
IsUnsigned [] = Unit {0}
IsUnsigned (b ∷ bs) = (b ≢ plus) × (b ≢ caret)

-- the text is the sign of the mode and then the rest
abbrev pub IsSigned : Mode → List ℕ → List ℕ → Type 0
IsSigned Normal text rest = (text ≡ rest) × IsUnsigned rest
IsSigned Forced text rest = text ≡ plus ∷ rest
IsSigned Negative text rest = text ≡ caret ∷ rest

-- a source alone, or a source, a colon and a destination
abbrev pub with_colon : List ℕ → Option (List ℕ) → List ℕ
with_colon s None = s
with_colon s (Some d) = s ++ (colon ∷ d)

-- the last word doesn't contain a colon
abbrev pub LastLacksColon : List ℕ → Option (List ℕ) → Type 0
LastLacksColon s None = Lacks colon s
LastLacksColon s (Some d) = Lacks colon d

-- the text is a sign and a source alone, or a sign, a source, a colon and a destination; the last
-- word doesn't contain a colon. Words may be empty
pub record AreParts (mode : Mode) (s : List ℕ) (d : Option (List ℕ)) (text : List ℕ) : Type 0 where
  pub signed : IsSigned mode text (with_colon s d)
  pub last : LastLacksColon s d

-- any sign but `^`
abbrev pub IsPositive : Mode → Type 0
IsPositive Normal = Unit {0}
IsPositive Forced = Unit {0}
IsPositive Negative = ⊥

-- what a source word names: a lone `@` is short for `HEAD`, by gitrevisions(7)
abbrev pub named_by : List ℕ → List ℕ
named_by [] = []
named_by (b ∷ []) = if b == at then head else b ∷ []
named_by (b ∷ c ∷ bs) = b ∷ c ∷ bs

-- 40 hex digits or more, as an object id might have: this project's own rule
pub record LooksLikeObjectHash (x : List ℕ) : Type 0 where
  pub long : 40 ≤ length x
  pub digits : AllPass is_ascii_hexdigit x

-- a name, or a pattern
abbrev pub IsNameOrPattern : List ℕ → Type 0
IsNameOrPattern x = IsName x ⊎ IsPattern x

-- two names, or two patterns
abbrev pub AreAlike : List ℕ → List ℕ → Type 0
AreAlike s d = (IsName s × IsName d) ⊎ (IsPattern s × IsPattern d)

-- a reading for a fetch, which always has a source
abbrev pub fetched : Mode → List ℕ → Option (List ℕ) → Reading
fetched mode s d = record { operation = Fetch; mode = mode; source = Some s; destination = d }

-- a reading for a push
abbrev pub pushed : Mode → Option (List ℕ) → Option (List ℕ) → Reading
pushed mode s d = record { operation = Push; mode = mode; source = s; destination = d }

-- for the operation, the text reads as r. In the examples s and d are words; a form that is shown without a sign may
-- also begin with `+`
pub data Reads (op : Operation) (text : List ℕ) (r : Reading) : Type 0 where
  -- the empty text and `+`: a fetch of `HEAD`
  fetches_nothing_named : (mode : Mode) → op ≡ Fetch → IsPositive mode → AreParts mode [] None text
      → r ≡ fetched mode head None → Reads op text r
  -- `:` and `+:`: a fetch of `HEAD` too
  fetches_colon : (mode : Mode) → op ≡ Fetch → IsPositive mode → AreParts mode [] (Some []) text
      → r ≡ fetched mode head None → Reads op text r
  -- `s` and `s:`
  fetches : (mode : Mode) (s : List ℕ) → op ≡ Fetch → IsPositive mode → AreParts mode s None text
      ⊎ AreParts mode s (Some []) text → IsName s → r ≡ fetched mode (named_by s) None → Reads op text r
  -- `s:d`
  updates : (mode : Mode) (s d : List ℕ) → op ≡ Fetch → IsPositive mode → AreParts mode s (Some d) text → AreAlike s d
      → r ≡ fetched mode (named_by s) (Some d) → Reads op text r
  -- `:d`: from `HEAD`
  updates_from_head : (mode : Mode) (d : List ℕ) → op ≡ Fetch → IsPositive mode → AreParts mode [] (Some d) text
      → IsName d → r ≡ fetched mode head (Some d) → Reads op text r
  -- `^s` in a fetch
  fetch_excludes : (s : List ℕ) → op ≡ Fetch → AreParts Negative s None text → IsNameOrPattern s
      → ¬ (LooksLikeObjectHash s) → r ≡ fetched Negative (named_by s) None → Reads op text r
  -- `+`: a push of all matching branches
  pushes_plus : op ≡ Push → AreParts Forced [] None text → r ≡ pushed Forced None None → Reads op text r
  -- `:` and `+:`: a push of all matching branches too
  pushes_colon : (mode : Mode) → op ≡ Push → IsPositive mode → AreParts mode [] (Some []) text
      → r ≡ pushed mode None None → Reads op text r
  -- `s`: to the same name
  pushes : (mode : Mode) (s : List ℕ) → op ≡ Push → IsPositive mode → AreParts mode s None text → IsNameOrPattern s
      → r ≡ pushed mode (Some (named_by s)) None → Reads op text r
  -- `:d`: deletes the ref d
  deletes : (mode : Mode) (d : List ℕ) → op ≡ Push → IsPositive mode → AreParts mode [] (Some d) text → IsName d
      → r ≡ pushed mode None (Some d) → Reads op text r
  -- `s:d` with two patterns
  pushes_pattern : (mode : Mode) (s d : List ℕ) → op ≡ Push → IsPositive mode → AreParts mode s (Some d) text
      → IsPattern s → IsPattern d → r ≡ pushed mode (Some (named_by s)) (Some d) → Reads op text r
  -- `s:d` where s is any expression for an object, such as `main~2` or `:/message`: any bytes but a star
  pushes_to : (mode : Mode) (s d : List ℕ) → op ≡ Push → IsPositive mode → AreParts mode s (Some d) text → s ≢ []
      → Lacks star s → IsName d → r ≡ pushed mode (Some (named_by s)) (Some d) → Reads op text r
  -- `^s` in a push
  push_excludes : (s : List ℕ) → op ≡ Push → AreParts Negative s None text → IsNameOrPattern s
      → ¬ (LooksLikeObjectHash s) → r ≡ pushed Negative (Some (named_by s)) None → Reads op text r

-- some text of its operation reads as r
abbrev pub IsAccepted : Reading → Type 0
IsAccepted r = (text : List ℕ) × Reads r.operation text r
