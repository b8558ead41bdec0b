-- Refspecs, instructions, reasons and ids as contracts see them, at values whose fields differ, so that no field is
-- lost or taken for another. That some text reads as a spec is a premise.
use Rattle.gix_refspec_text.proofs.Common.{Refusal, Option, ◌≡◌, ◌≢◌, ℕ, List, [], ◌∷◌, ◌++◌, None, Some, true, false}
use Rattle.gix_refspec_text.proofs.Common.{map, get_or, replicate, option_map, codes, refl, sym, ap, ◌∙◌, inl, arith}
use Rattle.gix_refspec_text.proofs.Common.{bstring_bytes, LockSuffix, RepeatedDot, Sha1, ObjectId, Operation, Push}
use Rattle.gix_refspec_text.proofs.Common.{Fetch, Normal, Forced, Negative, fetched, pushed, fetch_only, meaning_of}
use Rattle.gix_refspec_text.proofs.Common.{text_of, WritesPrinted, keys, NegativeWithDestination, PushToEmpty}
use Rattle.gix_refspec_text.proofs.Common.{PatternUnsupported, ReferenceName, PatternUnbalanced, NegativeEmpty}
use Rattle.gix_refspec_text.proofs.Common.{NegativeObjectHash, IsFirstReason, reading_of, owned_reading_of, key_of_spec}
use Rattle.gix_refspec_text.proofs.Common.{key_of_owned, meaning_of_instruction, meant_for, IsShownAs, ShowsRefusal}
use Rattle.gix_refspec_text.proofs.Common.{AppendsExpansion, to_prefix, Empty}
use Rattle.bstr.{specs.declared.bstr.BStr.BStr, specs.declared.bstring.BString.BString}
use Rattle.gix_refspec_text.specs.declared.spec.RefSpec.{RefSpec, accepted-type as owned-type}
use Rattle.gix_refspec_text.specs.declared.spec.RefSpecRef.{RefSpecRef, accepted-type}
use Rattle.gix_refspec_text.specs.declared.types.Instruction.{Instruction}
use Rattle.gix_refspec_text.specs.{declared.types.Mode.Mode, Views.Errors.IsSameError}
use Rattle.gix_refspec_text.proofs.facts.FitFacts.{no_dev, other_byte}
use Rattle.gix_refspec_text.proofs.facts.ManualFacts.{none_some}
use Rattle.gix_refspec_text.proofs.facts.ObjectIdFacts.{empty_blob}
use Rattle.gix_refspec_text.proofs.facts.PrefixFacts.{whole_prefixes}
use Rattle.gix_refspec_text.proofs.facts.RefusalFacts.{empty_push}
use Rattle.gix_refspec_text.specs.declared.instruction.Fetch.TheVariants as fetch
use Rattle.gix_refspec_text.specs.declared.instruction.Push.TheVariants as push
use Rattle.gix_refspec_text.specs.declared.parsing.Error.TheVariants as error
use Rattle.gix_refspec_text.specs.declared.types.Instruction.TheVariants as instruction
use Rattle.gix_refspec_text.specs.declared.types.Mode.TheVariants as mode

-- a borrowed text
abbrev pub lent : List ℕ → BStr
lent x = record { bytes = record { ref_ptr = (0, 0); now = x } }

-- some text has the reading with this operation, mode, source and destination
abbrev pub Accepted : Operation → Mode → Option (List ℕ) → Option (List ℕ) → Type 0
Accepted op sign s d = accepted-type op sign (option_map lent s) (option_map lent d)

-- the spec that is parsed from such a text
abbrev pub spec_of : (op : Operation) (sign : Mode) (s d : Option (List ℕ)) → Accepted op sign s d → RefSpecRef
spec_of op sign s d accepted = record {
  op = op;
  mode = sign;
  src = option_map lent s;
  dst = option_map lent d;
  accepted = accepted;
}

-- the owned spec
abbrev pub owned_of : (op : Operation) (sign : Mode) (s d : Option BString) → owned-type op sign s d → RefSpec
owned_of op sign s d accepted = record { op = op; mode = sign; src = s; dst = d; accepted = accepted }

-- keys that differ in a byte differ
other_key : (k j : ℕ) (x y : List (List ℕ)) → get_or (get_or x k []) j 0 ≢ get_or (get_or y k []) j 0 → x ≢ y
other_key k j x y differ same = differ (ap (λ (z : List (List ℕ)). get_or (get_or z k []) j 0) same)

module _
    (update : Accepted Fetch mode.Force (Some (codes "a")) (Some (codes "b")))
    (unforced : Accepted Fetch mode.Normal (Some (codes "a")) (Some (codes "b")))
    (alone : Accepted Fetch mode.Normal (Some (codes "a")) None)
    (forced : Accepted Fetch mode.Force (Some (codes "a")) None)
    (exclusion : Accepted Fetch mode.Negative (Some (codes "a")) None)
    (same_name : Accepted Push mode.Normal (Some (codes "a")) None)
    (to_itself : Accepted Push mode.Normal (Some (codes "a")) (Some (codes "a")))
    (deletion : Accepted Push mode.Normal None (Some (codes "b")))
    (all : Accepted Push mode.Force None None)
  where
    abbrev fetches_a : RefSpecRef
    fetches_a = spec_of Fetch mode.Normal (Some (codes "a")) None alone

    abbrev updates_b : RefSpecRef
    updates_b = spec_of Fetch mode.Force (Some (codes "a")) (Some (codes "b")) update

    pub readings :
        -- `a`, `+a:b` and `^a` in a fetch, `:b` and `+:` in a push
        (map reading_of (fetches_a ∷ updates_b ∷ spec_of Fetch mode.Negative (Some (codes "a")) None exclusion ∷ spec_of
        Push mode.Normal None (Some (codes "b")) deletion ∷ spec_of Push mode.Force None None all ∷ [])
        ≡ fetched Normal (codes "a") None ∷ fetched Forced (codes "a") (Some (codes "b")) ∷ fetched Negative
        (codes "a") None ∷ pushed Normal None (Some (codes "b")) ∷ pushed Forced None None ∷ [])
        -- specs with the same meaning have one key: `a` and `+a` in a fetch, `a` and `a:a` in a push
        × (key_of_spec fetches_a ≡ key_of_spec (spec_of Fetch mode.Force (Some (codes "a")) None forced))
        × (key_of_spec (spec_of Push mode.Normal (Some (codes "a")) None same_name) ≡ key_of_spec
        (spec_of Push mode.Normal (Some (codes "a")) (Some (codes "a")) to_itself))
        -- specs with different meanings have different keys: `a` in a fetch and in a push, `a` and `^a`, `+a:b` and
        -- `a:b`
        × (key_of_spec fetches_a ≢ key_of_spec (spec_of Push mode.Normal (Some (codes "a")) None same_name))
        × (key_of_spec fetches_a ≢ key_of_spec (spec_of Fetch mode.Negative (Some (codes "a")) None exclusion))
        × (key_of_spec updates_b ≢ key_of_spec
        (spec_of Fetch mode.Normal (Some (codes "a")) (Some (codes "b")) unforced))
    readings = (
      refl,
      refl,
      refl,
      other_key 0 0 _ _ (λ same. omega (arith, same)),
      other_key 0 0 _ _ (λ same. omega (arith, same)),
      other_key 3 0 _ _ (λ same. omega (arith, same)),
    )

module _
    (n m : BString) (update : owned-type Fetch mode.Force (Some n) (Some m))
    (alone : owned-type Fetch mode.Normal (Some n) None)
    (forced : owned-type Fetch mode.Force (Some n) None) (exclusion : owned-type Fetch mode.Negative (Some n) None)
    (same_name : owned-type Push mode.Normal (Some n) None) (deletion : owned-type Push mode.Normal None (Some m))
  where
    pub owned_views :
        -- owned specs have the readings of borrowed ones
        (map owned_reading_of (owned_of Fetch mode.Force (Some n) (Some m) update ∷ owned_of Fetch mode.Negative
        (Some n) None exclusion ∷ owned_of Push mode.Normal None (Some m) deletion ∷ [])
        ≡ fetched Forced (bstring_bytes n) (Some (bstring_bytes m)) ∷ fetched Negative (bstring_bytes n) None ∷ pushed
        Normal None (Some (bstring_bytes m)) ∷ [])
        -- and have their keys
        × (key_of_owned (owned_of Fetch mode.Force (Some n) None forced) ≡ key_of_owned
        (owned_of Fetch mode.Normal (Some n) None alone))
        × (key_of_owned (owned_of Fetch mode.Normal (Some n) None alone) ≡ keys (Some (fetch_only (bstring_bytes n))))
        × (key_of_owned (owned_of Fetch mode.Normal (Some n) None alone) ≢ key_of_owned
        (owned_of Push mode.Normal (Some n) None same_name))
    owned_views = (refl, refl, refl, other_key 0 0 _ _ (λ same. omega (arith, same)))

abbrev pushes : List Instruction
pushes = map instruction.Push (push.AllMatchingBranches true ∷ push.AllMatchingBranches false ∷ push.Delete
    (lent (codes "x")) ∷ push.Matching (lent (codes "a")) (lent (codes "b")) true ∷ push.Exclude (lent (codes "a"))
    ∷ [])

abbrev fetches : List Instruction
fetches = map instruction.Fetch (fetch.Only (lent (codes "a")) ∷ fetch.Exclude (lent (codes "a")) ∷ fetch.AndUpdate
    (lent (codes "a")) (lent (codes "b")) true ∷ fetch.AndUpdate (lent (codes "a")) (lent (codes "b")) false ∷ [])

pub instructions :
    -- the texts of instructions
    (map (λ i. text_of (meaning_of_instruction i)) pushes ≡ codes "+:" ∷ codes ":" ∷ codes ":x" ∷ codes "+a:b"
    ∷ codes "^a" ∷ [])
    × (map (λ i. text_of (meaning_of_instruction i)) fetches ≡ codes "a" ∷ codes "^a" ∷ codes "+a:b" ∷ codes "a:b" ∷ [])
    -- and their operations, which their texts don't show
    × (map (λ i. meant_for (meaning_of_instruction i)) pushes ≡ Push ∷ Push ∷ Push ∷ Push ∷ Push ∷ [])
    × (map (λ i. meant_for (meaning_of_instruction i)) fetches ≡ Fetch ∷ Fetch ∷ Fetch ∷ Fetch ∷ [])
    -- a reading and its instruction have the same meaning
    × (meaning_of (fetched Forced (codes "a") (Some (codes "b"))) ≡ Some
    (meaning_of_instruction (instruction.Fetch (fetch.AndUpdate (lent (codes "a")) (lent (codes "b")) true))))
    × (meaning_of (pushed Normal (Some (codes "a")) None) ≡ Some
    (meaning_of_instruction (instruction.Push (push.Matching (lent (codes "a")) (lent (codes "a")) false))))
instructions = (refl, refl, refl, refl, refl, refl)

pub errors :
    -- each error without a field is the reason of its name
    IsShownAs error.Empty Empty × IsShownAs error.NegativeWithDestination NegativeWithDestination
    × IsShownAs error.PushToEmpty PushToEmpty
    × IsShownAs error.PatternUnbalanced PatternUnbalanced × IsShownAs error.NegativeEmpty NegativeEmpty
    × IsShownAs error.NegativeObjectHash NegativeObjectHash
    -- the error of a bad name has its fault
    × IsShownAs (error.ReferenceName LockSuffix) (ReferenceName LockSuffix)
    × ¬ (IsShownAs (error.ReferenceName LockSuffix) (ReferenceName RepeatedDot))
    -- the three variants that are kept for callers are not reasons, nor is `Memory`
    × ((f : Refusal) → ¬ (IsShownAs error.NegativePartialName f) × ¬ (IsShownAs error.NegativeGlobPattern f)
    × ¬ (IsShownAs error.InvalidFetchDestination f) × ¬ (IsShownAs error.Memory f))
    -- an error doesn't stand for the reason of another
    × ¬ (IsShownAs error.Empty NegativeEmpty) × ¬ (IsShownAs error.NegativeEmpty Empty)
    × ¬ (IsShownAs error.NegativeWithDestination NegativeObjectHash)
    × ¬ (IsShownAs error.NegativeObjectHash NegativeWithDestination) × ¬ (IsShownAs error.PushToEmpty Empty)
    -- errors are the same by variant and field
    × IsSameError error.Memory error.Memory × IsSameError (error.ReferenceName LockSuffix)
    (error.ReferenceName LockSuffix)
    × ¬ (IsSameError error.Empty error.NegativeEmpty)
    × ¬ (IsSameError (error.ReferenceName LockSuffix) (error.ReferenceName RepeatedDot))
errors = search (arith)

pub pattern_errors : (p : BString) →
    -- the error of a side with two stars has its whole text
    (bstring_bytes p ≡ codes "a*b*" → IsShownAs (error.PatternUnsupported p) (PatternUnsupported (codes "a*b*"))
    × ¬ (IsShownAs (error.PatternUnsupported p) (PatternUnsupported (codes "a*b"))))
    × ¬ (IsShownAs error.PatternUnbalanced (PatternUnsupported (bstring_bytes p)))
    × ¬ (IsShownAs (error.PatternUnsupported p) PatternUnbalanced)
    × ¬ (IsShownAs (error.ReferenceName LockSuffix) (PatternUnsupported (bstring_bytes p)))
    -- such errors are the same by the bytes of the text
    × ((q : BString) → bstring_bytes p ≡ bstring_bytes q → IsSameError (error.PatternUnsupported p)
    (error.PatternUnsupported q))
    × ((q : BString) → bstring_bytes p ≢ bstring_bytes q
    → ¬ (IsSameError (error.PatternUnsupported p) (error.PatternUnsupported q)))
    × ¬ (IsSameError (error.PatternUnsupported p) error.PatternUnbalanced)
    × ¬ (IsSameError error.PatternUnbalanced (error.PatternUnsupported p))
pattern_errors p = search (arith)

pub refusals :
    -- a push of an empty text is refused as empty
    ShowsRefusal (IsFirstReason Push Normal [] None) error.Empty × ShowsRefusal (λ f. f ≡ PushToEmpty) error.PushToEmpty
    × ¬ (ShowsRefusal (λ f. f ≡ PushToEmpty) error.Empty)
    -- `Memory` is never a refusal of the grammar, nor is a variant that is kept for callers
    × ¬ (ShowsRefusal (λ f. Unit {0}) error.Memory) × ¬ (ShowsRefusal (λ f. Unit {0}) error.NegativePartialName)
refusals = (
  (Empty, refl, empty_push.0),
  (PushToEmpty, refl, refl),
  (λ shows. let same = sym shows.1 ∙ shows.2 in cc),
  (λ shows. shows.1),
  λ shows. shows.1,
)

pub appended :
    -- a canonical text follows what was written
    WritesPrinted (fetched Forced (codes "a") (Some (codes "b"))) (Some (codes "old ")) (Some (codes "old +a:b"))
    -- what was written isn't lost, and a reading without a canonical text writes nothing
    × ¬ (WritesPrinted (fetched Forced (codes "a") (Some (codes "b"))) (Some (codes "old ")) (Some (codes "+a:b")))
    × ((old new : Option (List ℕ)) → ¬ (WritesPrinted (fetched Negative (codes "a") (Some (codes "b"))) old new))
    -- the expansion of a reading is appended to the earlier entries, which stay
    × AppendsExpansion (fetched Normal (codes "HEAD") None) (codes "old" ∷ []) (codes "old" ∷ codes "HEAD" ∷ [])
    × ¬ (AppendsExpansion (fetched Normal (codes "HEAD") None) (codes "old" ∷ []) (codes "HEAD" ∷ []))
    -- a negative spec adds none
    × AppendsExpansion no_dev (codes "old" ∷ []) (codes "old" ∷ [])
    × ¬ (AppendsExpansion no_dev (codes "old" ∷ []) (codes "old" ∷ codes "refs/heads/dev-" ∷ []))
appended = (
  record { text = codes "+a:b"; is = refl; grown = refl },
  (λ writes. other_byte 0 (codes "+a:b") (codes "old " ++ writes.text) (λ same. omega (arith, same)) writes.grown),
  (λ old new writes. none_some writes.text writes.is),
  record {
    list = codes "HEAD" ∷ [];
    is = inl (
      codes "HEAD",
      record { positive = tt; side = refl },
      to_prefix (codes "HEAD") whole_prefixes.0 refl,
    );
    appended = refl;
  },
  (λ appends. other_key 0 0 _ _ (λ same. omega (arith, same)) appends.appended),
  search (arith),
  search (arith),
)

-- an id with the 20 bytes of the empty blob, and more after them in its buffer
abbrev pub blob_id : ObjectId
blob_id = record { kind = Sha1; buffer = empty_blob ++ replicate 12 7 }
