-- What the calls on one text, or on two, return.
use Rattle.std.specs.Prelude.{◌≡◌, ◌⊎◌, ◌↔◌, ℕ, ℤ, pos, negsuc, Bool, true, false, List, [], Some}
use Rattle.std.specs.declared.cmp.Ordering.{Ordering}
use Rattle.std.specs.declared.cmp.Ordering.TheVariants.{Less, Equal, Greater}
use Rattle.std.specs.Ordering.{nat_cmp}
use Rattle.std.specs.Cmp.Lexicographic.{slice_cmp}
use Rattle.gix_refspec_text.specs.declared.parsing.Operation.{Operation}
use Rattle.gix_refspec.specs.Specs.Reading.{Reading}
use Rattle.gix_refspec.specs.Specs.Grammar.{Reads}
use Rattle.gix_refspec.specs.Specs.Meaning.{Meaning, push_all_matching, push_delete, push_matching, push_exclude}
use Rattle.gix_refspec.specs.Specs.Meaning.{fetch_only, fetch_exclude, fetch_and_update, meaning_of, printed}
use Rattle.gix_refspec.specs.Specs.Order.{keys}
use Rattle.gix_refspec_c.specs.declared.failure.Failure.{Failure}
use Rattle.gix_refspec_c.specs.declared.failure.Failure.TheVariants as failure
use Rattle.gix_refspec_c.specs.declared.parts.Parts.{Parts}
use Rattle.gix_refspec_c.specs.Reading.{IsRefspec, IsUnread}

-- the parts of an instruction that a caller gets: the number of its kind, 1 if it is forced, and its sides, of which a
-- missing one is empty
pub record PartsShown : Type 0 where
  pub kind : ℕ
  pub forced : ℕ
  pub source : List ℕ
  pub destination : List ℕ

-- 1 for true
abbrev pub bit : Bool → ℕ
bit false = 0
bit true = 1

-- the parts of a meaning
abbrev pub parts_of : Meaning → PartsShown
parts_of (push_all_matching forced) = record { kind = 1; forced = bit forced; source = []; destination = [] }
parts_of (push_delete d) = record { kind = 2; forced = 0; source = []; destination = d }
parts_of (push_matching s d forced) = record { kind = 3; forced = bit forced; source = s; destination = d }
parts_of (push_exclude s) = record { kind = 4; forced = 0; source = s; destination = [] }
parts_of (fetch_only s) = record { kind = 5; forced = 0; source = s; destination = [] }
parts_of (fetch_exclude s) = record { kind = 6; forced = 0; source = s; destination = [] }
parts_of (fetch_and_update s d forced) = record { kind = 7; forced = bit forced; source = s; destination = d }

-- the parts in the struct of the caller
abbrev pub parts_in : Parts → PartsShown
parts_in p = record { kind = p.kind; forced = p.forced; source = p.source.now; destination = p.destination.now }

-- the text is a refspec for the operation, and these are the parts of its instruction
pub record HasParts (op : Operation) (text : List ℕ) (parts : PartsShown) : Type 0 where
  pub reading : Reading
  pub reads : Reads op text reading
  pub meaning : Meaning
  pub means : meaning_of reading ≡ Some meaning
  pub is : parts ≡ parts_of meaning

-- the text is a refspec for the operation, and this is its canonical text
pub record IsCanonical (op : Operation) (text canonical : List ℕ) : Type 0 where
  pub reading : Reading
  pub reads : Reads op text reading
  pub is : printed reading ≡ Some canonical

-- why no canonical text is returned: the text wasn't read, or memory ran out
abbrev pub IsUnprinted : Operation → List ℕ → Failure → Type 0
IsUnprinted op text f = IsUnread op text f ⊎ ((f ≡ failure.NoMemory) × IsRefspec op text)

-- -1, 0 or 1
abbrev pub sign : Ordering → ℤ
sign Less = negsuc 0
sign Equal = pos 0
sign Greater = pos 1

-- both texts are refspecs for the operation, and compare as order says; it is 0 exactly for equal canonical texts
pub record AreCompared (op : Operation) (a b : List ℕ) (order : ℤ) : Type 0 where
  pub first : Reading
  pub second : Reading
  pub reads_first : Reads op a first
  pub reads_second : Reads op b second
  pub is : order ≡ sign (slice_cmp (slice_cmp nat_cmp) (keys (meaning_of first)) (keys (meaning_of second)))
  pub tie : (order ≡ pos 0) ↔ (printed first ≡ printed second)

-- why two texts weren't compared: the first wasn't read, or the first was and the second wasn't
abbrev pub AreUncompared : Operation → List ℕ → List ℕ → Failure → Type 0
AreUncompared op a b f = IsUnread op a f ⊎ (IsRefspec op a × IsUnread op b f)
