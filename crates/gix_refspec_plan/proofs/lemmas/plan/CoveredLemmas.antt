-- Names that stand behind others, as duplicates among all: merged refs behind the refs of sound mappings, and local
-- refs behind destinations.
use Rattle.gix_refspec_plan.proofs.Common.{◌≡◌, ◌⊎◌, ◌↔◌, IsTrue, Bool, false, ℕ, ◌+◌, ◌-◌, ◌<◌, ◌≤◌, List, [], ◌∷◌}
use Rattle.gix_refspec_plan.proofs.Common.{◌++◌, length, map, take, get_or, sym, ap, ◌∙◌, arith, Contains}
use Rattle.gix_refspec_plan.proofs.Common.{take-append-add, cases_lt, get_or-append-add, get_or-map, get_or-take}
use Rattle.gix_refspec_plan.proofs.Common.{get_or_append_left, get_or_push, length-append, length-map, length-take-le}
use Rattle.gix_refspec_plan.proofs.Common.{length_push, Contains-append_cases, Contains-append_left}
use Rattle.gix_refspec_plan.proofs.Common.{Contains-append_right, BStr, bstr_bytes, Mapped, name, FlagsDuplicates}
use Rattle.gix_refspec_plan.proofs.Common.{IsDuplicate, IsFlagged, some_element, Covers, IsSound, AreNames, same_Some}
use Rattle.gix_refspec_plan.proofs.Common.{HasDestination, ref_names, Ref, Some, rules, append_assoc, map-append}
use Rattle.gix_refspec_plan.proofs.Common.{map_more, Item, ref_of}
use Rattle.gix_refspec_plan.proofs.lemmas.plan.MadeLemmas.{made_exactly}
use Rattle.gix_refspec_plan.specs.Private.Stales.{AreNames as AreLocalNames}
use Rattle.std.specs.declared.cmp.Ordering.{Ordering}
use Rattle.gix_refspec_match.specs.Private.Orders.{bytes_order, equal_texts, same_texts}

abbrev pub by_text : BStr → BStr → Ordering
by_text x y = bytes_order (bstr_bytes x) (bstr_bytes y)

duplicate_text : (names : List BStr) (k : ℕ) (e : List ℕ) → k < length names → IsDuplicate by_text names k
    ↔ Contains (take k (map bstr_bytes names)) (get_or (map bstr_bytes names) k e)
duplicate_text names k e below =
    let size = length-take-le k (map bstr_bytes names) (omega (arith, length-map names bstr_bytes)) in
    let at = λ (j : ℕ) (d : BStr) (n : List ℕ) (before : j < k). get_or-take k (map bstr_bytes names) j n before
    ∙ get_or-map bstr_bytes names j d n (omega (arith, before)) in (
      (λ (_, (j, before, equal)).
          let d = some_element names k below in (
            j,
            omega (arith, size, before),
            at j d (get_or (map bstr_bytes names) k e) before ∙ same_texts _ _ (equal d)
                ∙ sym (get_or-map bstr_bytes names k d e below),
          )),
      (λ (j, inside, same).
          let before : j < k = omega (arith, size, inside) in (
            below,
            (
              j,
              before,
              λ d. equal_texts _ _ (sym (at j d (get_or (map bstr_bytes names) k e) before) ∙ same
                  ∙ get_or-map bstr_bytes names k d e below),
            ),
          )),
    )

-- the last names are ms, and those before them are as P says
abbrev pub StandBehind : (List ℕ → Type 0) → List (List ℕ) → List BStr → Type 0
StandBehind P ms names = (before : List (List ℕ)) × ((n : List ℕ) → Contains before n ↔ P n)
    × (map bstr_bytes names ≡ before ++ ms)

-- the merged refs stand behind those that sound mappings are of
pub behind_sources : (merges : List (List ℕ)) (mapped : List Mapped) (names : List BStr)
    → AreNames merges mapped (map bstr_bytes names) → StandBehind (Covers mapped) merges names
behind_sources merges mapped names (sources, are, whole) =
    let told = made_exactly (λ (m : Mapped) (n : List ℕ). IsSound m × (m.source ≡ name n))
    (λ m y z of also. let one : name z ≡ name y = sym also.1 ∙ of.1 in cc) mapped sources are in
    (sources, (λ n. search (rules, told n)), whole)

-- the names of local refs stand behind the destinations of mappings
pub behind_destinations : (mapped : List Mapped) (locals : List Ref) (names : List BStr)
    → AreLocalNames mapped locals (map bstr_bytes names) → StandBehind (HasDestination mapped) (ref_names locals) names
behind_destinations mapped locals names (destinations, are, whole) = (
  destinations,
  made_exactly (λ (m : Mapped) (n : List ℕ). m.destination ≡ Some n)
      (λ m y z of also. same_Some z y (sym also ∙ of)) mapped destinations are,
  whole,
)

module _ (P : List ℕ → Type 0) (ms : List (List ℕ)) (names : List BStr) (behind : StandBehind P ms names) where
  pub names_long : length ms ≤ length names
  names_long = let (before, exactly, whole) =
      behind in omega (arith, length-map names bstr_bytes, length-append before ms, ap length whole)

  -- flags copied from those of duplicates, so that one of ms is flagged exactly where it is as P says, or is listed
  -- before
  pub behind_flagged : (all flags : List Bool) (first : ℕ) → first ≡ length names - length ms
      → FlagsDuplicates by_text names all → ((k : ℕ) → k < length ms → IsFlagged flags k ↔ IsFlagged all (first + k))
      → (k : ℕ) (d : List ℕ) → k < length ms → IsFlagged flags k
      ↔ (P (get_or ms k d) ⊎ Contains (take k ms) (get_or ms k d))
  behind_flagged all flags first from duplicates copied k d inside =
      let (before, exactly, whole) = behind in
      let n = get_or ms k d in
      let long : length names ≡ length before + length ms =
      omega (arith, length-map names bstr_bytes, length-append before ms, ap length whole) in
      let place : first + k ≡ length before + k = omega arith in
      let split : IsDuplicate by_text names (length before + k) ↔ Contains (before ++ take k ms) n =
      rw (whole, take-append-add, get_or-append-add) at
      (duplicate_text names (length before + k) d (omega arith)) in
      let copy = rw place at (copied k inside) in
      search (
        rules,
        copy,
        duplicates (length before + k),
        split,
        exactly n,
        Contains-append_cases before (take k ms) n,
        Contains-append_left before (take k ms) n,
        Contains-append_right before (take k ms) n,
      )

-- the flags so far are copied from a place on
abbrev pub AreCopied : List Bool → ℕ → ℕ → List Bool → Type 0
AreCopied all fetched i flags = (length flags ≡ i) × ((k : ℕ) → k < i → IsFlagged flags k ↔ IsFlagged all (fetched + k))

pub copied_next : (all old new : List Bool) (fetched i place : ℕ) (b : Bool) → AreCopied all fetched i old
    → place ≡ fetched + i → IsTrue b ↔ IsFlagged all place → new ≡ old ++ b ∷ []
    → AreCopied all fetched (i + 1) new
copied_next all old new fetched i place b (long, so_far) here told more = (
  rw more (length_push old b ∙ ap (λ (n : ℕ). n + 1) long),
  λ k below. grind (
    arith,
    cases_lt k i,
    get_or_append_left old (b ∷ []) false k,
    get_or_push old b false i long,
    so_far k,
  ),
)

pub local_next : (local : List Item) (i : ℕ) (d : Item) (mapped : List Mapped) (old new : List BStr) → i < length local
    → AreLocalNames mapped (map ref_of (take i local)) (map bstr_bytes old)
    → new ≡ old ++ (get_or local i d).full_ref_name ∷ [] → AreLocalNames mapped (map ref_of (take (i + 1) local))
    (map bstr_bytes new)
local_next local i d mapped old new below (ds, are, whole) more = (
  ds,
  are,
  rw (more, map-append, whole, map_more ref_of local i d below, map-append)
      (append_assoc ds (map (λ r. r.name) (map ref_of (take i local))) _),
)
