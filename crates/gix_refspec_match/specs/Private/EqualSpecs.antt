-- Specs that have the sides of an earlier one. Only private functions cite these words.
use Rattle.std.specs.Prelude.{◌≡◌, ℕ, ◌<◌, Bool, true, false, List, [], ◌∷◌, Option, length, slice_index_or, unwrap_or}
use Rattle.std.specs.Cmp.{IsTotalOrder, bool_cmp_total}
use Rattle.std.specs.Cmp.Lexicographic.{nat_list_cmp_total, options_total}
use Rattle.std.specs.Option.{option_cmp}
use Rattle.std.specs.Ordering.{bool_cmp, ordering_then}
use Rattle.std.specs.declared.cmp.Ordering.{Ordering}
use Rattle.std.specs.declared.cmp.Ordering.TheVariants.{Equal}
use Rattle.std.specs.declared.hash.FoldHasher.{FoldHasher}
use Rattle.std.proofs.lemmas.Cmp.{on_total, then_total}
use Rattle.gix_refspec_text.specs.Specs.Reading.{Reading, Mode, Normal, Forced, Negative}
use Rattle.gix_refspec_text.specs.Specs.Grammar.{IsPositive}
use Rattle.gix_refspec_match.specs.Private.Kept.{IsFlagged, hash_after}
use Rattle.gix_refspec_match.specs.Private.Orders.{both_equal, bytes_order, same_options}

-- both are positive, and have the same sides
pub record HaveSameSides (r s : Reading) : Type 0 where
  pub positive : IsPositive r.mode
  pub positive_too : IsPositive s.mode
  pub source : r.source ≡ s.source
  pub destination : r.destination ≡ s.destination

-- there is a reading at the index, and it has the sides of one at an earlier index
pub record IsEqualAt (g : List Reading) (before index : ℕ) : Type 0 where
  pub earlier : before < index
  pub inside : index < length g
  pub same : (d : Reading) → HaveSameSides (slice_index_or g before d) (slice_index_or g index d)

-- each positive reading that is flagged has the sides of an earlier one
abbrev pub FlagsEqual : List Reading → List Bool → Type 0
FlagsEqual g flags = (index : ℕ) → IsFlagged flags index → ((d : Reading) → IsPositive (slice_index_or g index d).mode)
    → (before : ℕ) × IsEqualAt g before index

-- whether a mode is negative
abbrev pub excludes : Mode → Bool
excludes Normal = false
excludes Forced = false
excludes Negative = true

-- the order of sides
abbrev pub side_order : Option (List ℕ) → Option (List ℕ) → Ordering
side_order = option_cmp bytes_order

-- the order of readings: by their source, by their destination, and negative ones after others
abbrev pub sides_order : Reading → Reading → Ordering
sides_order r s = ordering_then (ordering_then (side_order r.source s.source) (side_order r.destination s.destination))
    (bool_cmp (excludes r.mode) (excludes s.mode))

-- the hash of both sides by a seed. One that is missing has that of no bytes
abbrev pub sides_hash : FoldHasher → Reading → ℕ
sides_hash seed r = hash_after seed (unwrap_or r.source [] ∷ unwrap_or r.destination [] ∷ [])

pub sides_total : IsTotalOrder sides_order
sides_total = then_total (then_total (on_total (λ (r : Reading). r.source) (options_total nat_list_cmp_total))
    (on_total (λ (r : Reading). r.destination) (options_total nat_list_cmp_total)))
    (on_total (λ (r : Reading). excludes r.mode) bool_cmp_total)

-- equal ones have the same hash
pub sides_alike : (seed : FoldHasher) (r s : Reading) → sides_order r s ≡ Equal → sides_hash seed r ≡ sides_hash seed s
sides_alike seed r s is =
    let both = both_equal (ordering_then (side_order r.source s.source) (side_order r.destination s.destination)) _
    is in
    let sides = both_equal (side_order r.source s.source) _ both.0 in
    let source = same_options r.source s.source sides.0 in
    let destination = same_options r.destination s.destination sides.1 in
    (λ i. hash_after seed (unwrap_or (source i) [] ∷ unwrap_or (destination i) [] ∷ []))
