-- The orders and the hashes by which duplicates are found. Only private functions cite this.
use Rattle.std.specs.Prelude.{◌≡◌, ℕ, List, [], ◌∷◌, ◌++◌, Option, None, Some, refl}
use Rattle.std.specs.Cmp.{IsTotalOrder, bool_cmp_total}
use Rattle.std.specs.Cmp.Lexicographic.{slice_cmp, nat_list_cmp_total, options_total, texts_ties}
use Rattle.std.specs.Hash as fed
use Rattle.std.specs.Option.{option_cmp}
use Rattle.std.specs.Ordering.{is_eq, nat_cmp, bool_cmp, ordering_then}
use Rattle.std.specs.declared.cmp.Ordering.{Ordering}
use Rattle.std.specs.declared.cmp.Ordering.TheVariants.{Less, Equal, Greater}
use Rattle.std.specs.declared.hash.FoldHasher.{FoldHasher}
use Rattle.std.proofs.Common.{ap, ◌∙◌, sym}
use Rattle.std.proofs.lemmas.Cmp.{on_total, then_total, tied_itself}
use Rattle.std.proofs.lemmas.Slice.Eq.{bytes_eq-Decides}
use Rattle.gix_refspec_match.specs.Matching.Mappings.{Source, name, id, Mapped, IsSamePair}
use Rattle.gix_refspec_match.specs.Views.Hashed.{source_writes}
use Rattle.gix_refspec_match.specs.Private.Kept.{hash_after, is_id, pair_hash, start_bytes}

-- the order of names, and the hash of one by a seed
abbrev pub bytes_order : List ℕ → List ℕ → Ordering
bytes_order = slice_cmp nat_cmp

abbrev pub bytes_hash : FoldHasher → List ℕ → ℕ
bytes_hash seed n = hash_after seed (n ∷ [])

pub same_texts : (m n : List ℕ) → bytes_order m n ≡ Equal → m ≡ n
same_texts m n same = (bytes_eq-Decides m n).0 (texts_ties m n ∙ ap is_eq same)

pub equal_texts : (m n : List ℕ) → m ≡ n → bytes_order m n ≡ Equal
equal_texts m n same = ap (bytes_order m) (sym same) ∙ tied_itself nat_list_cmp_total m

pub bytes_alike : (seed : FoldHasher) (m n : List ℕ) → bytes_order m n ≡ Equal → bytes_hash seed m ≡ bytes_hash seed n
bytes_alike seed m n same = ap (bytes_hash seed) (same_texts m n same)

pub same_options : (x y : Option (List ℕ)) → option_cmp bytes_order x y ≡ Equal → x ≡ y
same_options None None is = refl
same_options None (Some y) is = absurd (cc)
same_options (Some x) None is = absurd (cc)
same_options (Some x) (Some y) is = ap Some (same_texts x y is)

pub equal_options : (x y : Option (List ℕ)) → x ≡ y → option_cmp bytes_order x y ≡ Equal
equal_options x y same = ap (option_cmp bytes_order x) (sym same) ∙ tied_itself (options_total nat_list_cmp_total) x

pub both_equal : (a b : Ordering) → ordering_then a b ≡ Equal → (a ≡ Equal) × (b ≡ Equal)
both_equal Less b is = absurd (cc)
both_equal Equal b is = (refl, is)
both_equal Greater b is = absurd (cc)

-- the order of mappings: by their source, and then by their destination
abbrev pub pair_order : Mapped → Mapped → Ordering
pair_order m n = ordering_then (bool_cmp (is_id m.source) (is_id n.source))
    (ordering_then (bytes_order (start_bytes m.source) (start_bytes n.source))
    (option_cmp bytes_order m.destination n.destination))

pub pair_total : IsTotalOrder pair_order
pair_total = then_total (on_total (λ (m : Mapped). is_id m.source) bool_cmp_total)
    (then_total (on_total (λ (m : Mapped). start_bytes m.source) nat_list_cmp_total)
    (on_total (λ (m : Mapped). m.destination) (options_total nat_list_cmp_total)))

same_sources : (s t : Source) → bool_cmp (is_id s) (is_id t) ≡ Equal
    → bytes_order (start_bytes s) (start_bytes t) ≡ Equal → s ≡ t
same_sources (name m) (name n) kind is = ap name (same_texts m n is)
same_sources (name m) (id n) kind is = absurd (cc)
same_sources (id m) (name n) kind is = absurd (cc)
same_sources (id m) (id n) kind is = ap id (same_texts m n is)

-- mappings are equal exactly where they have the same pair
pub same_pair : (m n : Mapped) → pair_order m n ≡ Equal → IsSamePair m n
same_pair m n is =
    let first = both_equal (bool_cmp (is_id m.source) (is_id n.source)) _ is in
    let second = both_equal (bytes_order (start_bytes m.source) (start_bytes n.source)) _ first.1 in record {
      source = same_sources m.source n.source first.0 second.0;
      destination = same_options m.destination n.destination second.1;
    }

equal_kinds : (s : Source) → bool_cmp (is_id s) (is_id s) ≡ Equal
equal_kinds (name n) = refl
equal_kinds (id i) = refl

pub equal_pair : (m n : Mapped) → IsSamePair m n → pair_order m n ≡ Equal
equal_pair m n same =
    let kinds = ap (λ (s : Source). bool_cmp (is_id m.source) (is_id s)) (sym same.source) ∙ equal_kinds m.source in
    let sources = equal_texts (start_bytes m.source) (start_bytes n.source) (ap start_bytes same.source) in
    let destinations = equal_options m.destination n.destination same.destination in
    (λ i. ordering_then (kinds i) (ordering_then (sources i) (destinations i)))

-- and then they have the same hash
pub pair_alike : (seed : FoldHasher) (m n : Mapped) → pair_order m n ≡ Equal → pair_hash seed m ≡ pair_hash seed n
pair_alike seed m n is = let same =
    same_pair m n is in
    (λ i. hash_after seed (source_writes (same.source i) ++ fed.option (λ d. d ∷ []) (same.destination i)))
