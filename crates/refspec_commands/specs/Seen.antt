-- The texts of `check` by their keys, as a fetch or a push applies the values of a key together. This project's own
-- rule.
use Rattle.std.specs.Prelude.{◌≡◌, ◌≢◌, ◌⊎◌, ◌↔◌, ℕ, cond, List, [], ◌∷◌, Option, Some, None, MatchOption}
use Rattle.std.specs.Cmp.Lexicographic.{slice_cmp}
use Rattle.std.specs.List.{AllZip, Contains}
use Rattle.std.specs.List.Sorted.{IsStrictlySortedBy}
use Rattle.std.specs.Ordering.{nat_cmp}
use Rattle.std.specs.Str.{bytes_eq}
use Rattle.gix_refspec_text.specs.Specs.Grammar.{Reads}
use Rattle.gix_refspec_text.specs.Specs.Reading.{Reading}
use Rattle.gix_refspec_text.specs.Specs.Refusal.{IsRefused, Refusal}
use Rattle.refspec_io.specs.Texts.{Given, Spot, at_argument, at_record, at_setting}

-- a text and its reading, or None if it is refused
pub record Seen : Type 0 where
  pub text : Given
  pub reading : Option Reading

-- the text was read so, or is refused
pub record IsSeen (t : Given) (s : Seen) : Type 0 where
  pub same : s.text ≡ t
  pub read : MatchOption s.reading ((e : Refusal) × IsRefused t.operation t.bytes e)
      (λ r. Reads t.operation t.bytes r)

-- the key of a value of a setting; other texts have the empty one
abbrev pub key_at : Spot → List ℕ
key_at (at_argument number) = []
key_at (at_record input number) = []
key_at (at_setting file key) = key

abbrev pub key_of : Seen → List ℕ
key_of s = key_at s.text.spot

-- the texts of a key, in order
abbrev pub of_key : List ℕ → List Seen → List Seen
of_key key [] = []
of_key key (s ∷ seen) = cond (bytes_eq key (key_of s)) (s ∷ of_key key seen) (of_key key seen)

-- the keys of the texts, sorted, each once
pub record AreKeys (seen : List Seen) (keys : List (List ℕ)) : Type 0 where
  pub sorted : IsStrictlySortedBy (slice_cmp nat_cmp) keys
  pub all : (key : List ℕ) → Contains keys key ↔ (of_key key seen ≢ [])

-- the texts are all specs, with these readings
abbrev pub AreAllRead : List Seen → List Reading → Type 0
AreAllRead group g = AllZip (λ s r. s.reading ≡ Some r) group g

-- some text is refused
abbrev pub HasUnread : List Seen → Type 0
HasUnread [] = ⊥
HasUnread (s ∷ group) = (s.reading ≡ None) ⊎ HasUnread group
