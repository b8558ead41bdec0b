-- The first mappings from each source to each destination, by their indexes.
use Rattle.gix_refspec.proofs.Common.{equal_pair, same_pair, all_weaker, ◌≡◌, ◌≢◌, ◌⊎◌, inl, inr, ◌↔◌, ℕ, suc, ◌+◌, ◌-◌}
use Rattle.gix_refspec.proofs.Common.{◌<◌, ◌≤◌, List, [], ◌∷◌, None, Some, take, refl, sym, ap, ◌∙◌, subst, arith}
use Rattle.gix_refspec.proofs.Common.{AllByRecursion, AllZip, Contains, slice_get, cases_lt, get_or_from_slice_get}
use Rattle.gix_refspec.proofs.Common.{slice_get-get_or, slice_get_within, bytes_eq-Decides, IsMadeFrom, Source, name}
use Rattle.gix_refspec.proofs.Common.{id, Mapped, IsSamePair, HasPair, HasConflictAt, IsFirstAt, by_cases, get_or-take}
use Rattle.gix_refspec.proofs.Common.{length-take-le, HasPair-from_place, option_map, Bool, length, map, get_or}
use Rattle.gix_refspec.proofs.Common.{length-map, slice_get-map, Mapping, Update, mapped_of, FlagsDuplicates, IsFlagged}
use Rattle.gix_refspec.proofs.Common.{AreUpdates, AreFirstUpdates, by_pair, duplicate_at, some_mapping, false}
use Rattle.gix_refspec.proofs.Common.{option_to_list, false≢true, get_or-map, get_or_past, bstr_bytes, BStr}
use Rattle.gix_refspec.proofs.Common.{bytes_order, equal_texts, all_destinations, take-take}
use Rattle.std.proofs.lemmas.List.{Concat.{get_or-flat_map}, Folds.{length-flat_map-take}}

abbrev pub Has : List ℕ → ℕ → Type 0
Has [] k = ⊥
Has (n ∷ ns) k = (n ≡ k) ⊎ Has ns k

-- each number is below all later ones
abbrev pub Increase : List ℕ → Type 0
Increase [] = Unit {0}
Increase (n ∷ ns) = AllByRecursion (λ m. n < m) ns × Increase ns

not_below : (ns : List ℕ) (n k : ℕ) → AllByRecursion (λ m. n ≤ m) ns → Has ns k → n ≤ k
not_below [] n k all has = absurd has
not_below (m ∷ ns) n k all has = by_cases has (λ same. subst (λ (x : ℕ). n ≤ x) same all.0) (not_below ns n k all.1)

-- Q makes y of the mapping at index n
abbrev pub IsOfIndex : {Y : Type 0} → (Mapped → Y → Type 0) → List Mapped → ℕ → Y → Type 0
IsOfIndex Q l n y = (m : Mapped) × (slice_get l n ≡ Some m) × Q m y

pub one_mapping : (l : List Mapped) (k : ℕ) (m n : Mapped) → slice_get l k ≡ Some m → slice_get l k ≡ Some n → m ≡ n
one_mapping l k m n is_m is_n = let same : Some m ≡ Some n = sym is_m ∙ is_n in cc

pub contains_at : (l : List Mapped) (k : ℕ) (m : Mapped) → slice_get l k ≡ Some m → Contains l m
contains_at l k m is = (k, slice_get_within l k m is, get_or_from_slice_get l k m m is)

pub at_contained : (l : List Mapped) (m : Mapped) → Contains l m → (k : ℕ) × (slice_get l k ≡ Some m)
at_contained l m (k, below, is) = (k, slice_get-get_or l k m below ∙ ap Some is)

here_at : (l : List Mapped) (k : ℕ) (x : Mapped) (rest : List Mapped)
    → ((j : ℕ) → slice_get (x ∷ rest) j ≡ slice_get l (k + j)) → slice_get l k ≡ Some x
here_at l k x rest at = let same : k ≡ k + 0 = omega arith in ap (slice_get l) same ∙ sym (at 0)

tail_at : (l : List Mapped) (k : ℕ) (x : Mapped) (rest : List Mapped)
    → ((j : ℕ) → slice_get (x ∷ rest) j ≡ slice_get l (k + j)) → (j : ℕ) → slice_get rest j ≡ slice_get l ((k + 1) + j)
tail_at l k x rest at j = let same : k + suc j ≡ (k + 1) + j = omega arith in at (suc j) ∙ ap (slice_get l) same

-- elements made of the mappings at strictly increasing indexes, which are those where P holds
pub made_at_indexes : {Y : Type 0} (P : ℕ → Mapped → Type 0) (Q : Mapped → Y → Type 0) (l : List Mapped) (k : ℕ)
    (rest : List Mapped) (ns : List ℕ) (ys : List Y) → ((j : ℕ) → slice_get rest j ≡ slice_get l (k + j))
    → ((j : ℕ) (m : Mapped) → k ≤ j → slice_get l j ≡ Some m → Has ns j ↔ P j m) → Increase ns
    → AllByRecursion (λ n. k ≤ n) ns → AllZip (IsOfIndex Q l) ns ys → IsMadeFrom (λ j m y. P j m × Q m y) k rest ys
made_at_indexes P Q l k [] [] [] at has rises above zip = refl
made_at_indexes P Q l k [] (n ∷ ns) (y ∷ ys) at has rises above zip =
    let same : k + (n - k) ≡ n = (let low = above.0 in omega (arith, low)) in
    let none : None ≡ Some zip.0.0 = at (n - k) ∙ ap (slice_get l) same ∙ zip.0.1 in
    absurd (cc)
made_at_indexes {Y} P Q l k (x ∷ rest) [] ys at has rises above zip = (
  None,
  ys,
  (λ y both. (has k x (omega arith) (here_at l k x rest at)).1 both.0),
  made_at_indexes P Q l (k + 1) rest [] ys (tail_at l k x rest at) (λ j m low is. has j m (omega arith) is) rises
      tt zip,
  refl,
)
made_at_indexes {Y} P Q l k (x ∷ rest) (n ∷ ns) (y ∷ ys) at has rises above zip = let is_x =
    here_at l k x rest at in elim (cases_lt k n) [
      | inl less ↦
          let over : AllByRecursion (λ m. k + 1 ≤ m) (n ∷ ns) = (
            omega (arith, less),
            all_weaker (λ m. n < m) (λ m. k + 1 ≤ m) (λ m below. omega (arith, below, less)) ns
                rises.0,
          ) in (
            None,
            y ∷ ys,
            (λ z both. absurd
                (omega (arith, not_below (n ∷ ns) (k + 1) k over ((has k x (omega arith) is_x).1 both.0)))),
            made_at_indexes P Q l (k + 1) rest (n ∷ ns) (y ∷ ys) (tail_at l k x rest at)
                (λ j m low is. has j m (omega arith) is) rises over zip,
            refl,
          )
      | inr more ↦
          let same : n ≡ k = omega (arith, above.0, more) in
          let one : zip.0.0 ≡ x = one_mapping l k zip.0.0 x
          (subst (λ (i : ℕ). slice_get l i ≡ Some zip.0.0) same zip.0.1)
          is_x in (
            Some y,
            ys,
            ((has k x (omega arith) is_x).0 (inl same), subst (λ (m : Mapped). Q m y) one zip.0.2),
            made_at_indexes P Q l (k + 1) rest ns ys (tail_at l k x rest at) (λ j m low is. (
              (λ there. (has j m (omega arith) is).0 (inr there)),
              (λ holds. by_cases ((has j m (omega arith) is).1 holds)
                  (λ first. absurd (omega (arith, first, same, low)))
                  (λ there. there)),
            )) rises.1 (all_weaker (λ m. n < m) (λ m. k + 1 ≤ m) (λ m below. omega (arith, below, same)) ns rises.0)
                zip.1,
            refl,
          )
    ]
made_at_indexes P Q l k rest ns ys at has rises above zip = absurd zip

text_cases : (x y : List ℕ) → (x ≡ y) ⊎ (x ≢ y)
text_cases x y = grind (arith, bytes_eq-Decides x y)

pub start_cases : (a b : Source) → (a ≡ b) ⊎ (a ≢ b)
start_cases (name x) (name y) = by_cases (text_cases x y) (λ same. inl (ap name same))
    (λ apart. inr (λ same. apart (cc)))
start_cases (id x) (id y) = by_cases (text_cases x y) (λ same. inl (ap id same)) (λ apart. inr (λ same. apart (cc)))
start_cases a b = inr (λ same. absurd (cc))

pair_cases : (m n : Mapped) → IsSamePair m n ⊎ ¬ (IsSamePair m n)
pair_cases m n = grind (arith, same_pair m n, equal_pair m n)

-- of the mappings with a pair, the first
first_of : (l : List Mapped) (m : Mapped) → HasPair l m → (j : ℕ) × (n : Mapped) × (slice_get l j ≡ Some n)
    × IsSamePair n m × ¬ (HasPair (take j l) n)
first_of [] m has = absurd has
first_of (x ∷ l) m has = by_cases (pair_cases x m) (λ here. (0, x, refl, here, λ none. none)) (λ apart.
    let at = first_of l m (by_cases has (λ here. absurd (apart here)) (λ later. later)) in (
      suc at.0,
      at.1,
      at.2,
      at.3,
      λ before. by_cases before
          (λ same. apart
          (record { source = same.source ∙ at.3.source; destination = same.destination ∙ at.3.destination })) at.4,
    ))

-- a destination is in conflict exactly if it has first mappings at two indexes
pub two_firsts : (l : List Mapped) (d : List ℕ) → HasConflictAt l d → (j : ℕ) × (k : ℕ) × (j ≢ k) × IsFirstAt l j d
    × IsFirstAt l k d
two_firsts l d c =
    let has : (m : Mapped) → Contains l m → HasPair l m = λ m (k, below, is). HasPair-from_place l k m m below
    (rw is (record { source = refl; destination = refl })) in
    let a = first_of l c.one (has c.one c.has_one) in
    let b = first_of l c.other (has c.other c.has_other) in
    let apart : a.0 ≢ b.0 =
    λ same. c.differ
    (sym a.3.source ∙ ap (λ (m : Mapped). m.source)
    (one_mapping l b.0 a.1 b.1 (subst (λ (k : ℕ). slice_get l k ≡ Some a.1) same a.2) b.2) ∙ b.3.source) in (
      a.0,
      b.0,
      apart,
      (a.1, a.2, record { goes = a.3.destination ∙ c.one_to; first = a.4 }),
      (b.1, b.2, record { goes = b.3.destination ∙ c.other_to; first = b.4 }),
    )

pub contested_from_firsts : (l : List Mapped) (d : List ℕ) (j k : ℕ) → j < k → IsFirstAt l j d → IsFirstAt l k d
    → HasConflictAt l d
contested_from_firsts l d j k before (m, is_m, m_first) (n, is_n, n_first) =
    let differ : m.source ≢ n.source =
    λ same. n_first.first
    (HasPair-from_place (take k l) j m n (omega (arith, before, slice_get_within l k n is_n, length-take-le k l))
    (rw (get_or-take k l j m before, get_or_from_slice_get l j m m is_m)
    (record { source = same; destination = m_first.goes ∙ sym n_first.goes }))) in
    record {
      one = m;
      other = n;
      has_one = contains_at l j m is_m;
      has_other = contains_at l k n is_n;
      one_to =
          m_first.goes;
      other_to = n_first.goes;
      differ = differ;
    }

-- ---- if all destinations differ, nothing is in conflict; and the updates without a duplicate pair are the first ones

abbrev AreApart : List (List ℕ) → Type 0
AreApart ds = (i j : ℕ) (d : List ℕ) → i < j → j < length ds → get_or ds i d ≢ get_or ds j d

-- no two mappings have one destination, if no destination is there twice
two_places : (l : List Mapped) (j k : ℕ) (m n : Mapped) (d : List ℕ) → AreApart (all_destinations l) → j < k
    → slice_get l j ≡ Some m → slice_get l k ≡ Some n → m.destination ≡ Some d → n.destination ≡ Some d → ⊥
two_places l j k m n d apart before is_m is_n to_m to_n =
    let of : Mapped → List (List ℕ) = λ x. option_to_list x.destination in
    let place : ℕ → ℕ = λ i. length (all_destinations (take i l)) in
    let one : (i : ℕ) (x : Mapped) → slice_get l i ≡ Some x → x.destination ≡ Some d → length (of (get_or l i x)) ≡ 1 =
    λ i x is to. rw (get_or_from_slice_get l i x x is, to) refl in
    let at : (i : ℕ) (x : Mapped) → slice_get l i ≡ Some x → x.destination ≡ Some d
    → get_or (all_destinations l) (place i + 0) d ≡ d = λ i x is to.
    get_or-flat_map of l i 0 x d (slice_get_within l i x is) (omega (arith, one i x is to))
    ∙ rw (get_or_from_slice_get l i x x is, to) refl in
    let earlier : place j + length (of (get_or l j m)) ≤ place k =
    rw (take-take j k l (omega (arith, before)), get_or-take k l j m before) at
    (length-flat_map-take of (take k l) j m (omega (arith, before, slice_get_within l k n is_n, length-take-le k l))) in
    apart (place j + 0) (place k + 0) d (omega (arith, earlier, one j m is_m to_m))
    (omega (arith, length-flat_map-take of l k n (slice_get_within l k n is_n), one k n is_n to_n))
    (at j m is_m to_m ∙ sym (at k n is_n to_n))

pub none_contested : (l : List Mapped) (ds : List BStr) (flags : List Bool) → map bstr_bytes ds ≡ all_destinations l
    → FlagsDuplicates (λ (x : BStr) (y : BStr). bytes_order (bstr_bytes x) (bstr_bytes y)) ds flags → length flags ≡ 0
    → (d : List ℕ) → ¬ (HasConflictAt l d)
none_contested l ds flags are all none d c =
    let apart : AreApart (map bstr_bytes ds) = λ i j e before below same.
    let inside : j < length ds = omega (arith, below, length-map ds bstr_bytes) in
    let flagged =
    (all j).1 (
      inside,
      (
        i,
        before,
        λ n. equal_texts (bstr_bytes (get_or ds i n)) (bstr_bytes (get_or ds j n))
            (sym (get_or-map bstr_bytes ds i n e (omega (arith, before, inside))) ∙ same
            ∙ get_or-map bstr_bytes ds j n e inside),
      ),
    ) in
    false≢true (sym (get_or_past flags j false (omega (arith, none))) ∙ flagged) in
    let one = at_contained l c.one c.has_one in
    let other = at_contained l c.other c.has_other in
    by_cases (cases_lt one.0 other.0) (λ less. two_places l one.0 other.0 c.one c.other d (rw are at apart) less one.1
    other.1 c.one_to c.other_to) (λ more. by_cases (cases_lt other.0 one.0)
    (λ less. two_places l other.0 one.0 c.other c.one d (rw are at apart) less other.1 one.1 c.other_to c.one_to)
    (λ past. let same : one.0 ≡ other.0 = omega (arith, more, past) in c.differ
    (ap (λ (m : Mapped). m.source) (one_mapping l other.0 c.one c.other (rw same at one.1) other.1))))

-- the updates that aren't flagged as duplicates are the first ones
pub firsts_from_updates : (ms : List Mapping) (flags : List Bool) (cs : List Update) → FlagsDuplicates by_pair ms flags
    → AreUpdates (map mapped_of ms) flags cs → AreFirstUpdates (map mapped_of ms) cs
firsts_from_updates ms flags cs repeats made =
    let flagged : (k : ℕ) (m : Mapped) → slice_get (map mapped_of ms) k ≡ Some m → IsFlagged flags k
    ↔ HasPair (take k (map mapped_of ms)) m = λ k m is.
    let below : k < length ms = omega (arith, slice_get_within (map mapped_of ms) k m is, length-map ms mapped_of) in
    let e = some_mapping ms k below in
    let same = one_mapping (map mapped_of ms) k (mapped_of (get_or ms k e)) m
    (slice_get-map mapped_of ms k ∙ ap (option_map mapped_of) (slice_get-get_or ms k e below)) is in
    let duplicate = duplicate_at ms k e below in
    subst (λ (x : Mapped). IsFlagged flags k ↔ HasPair (take k (map mapped_of ms)) x) same
    ((λ is_so. duplicate.0 ((repeats k).0 is_so)), (λ has. (repeats k).1 (duplicate.1 has))) in
    record {
      are = λ k d. (
        (λ has. let told =
            (made.are k d).0 has in (
              told.0.0,
              told.0.1,
              record { goes = told.0.2; first = λ pair. told.1 ((flagged k told.0.0 told.0.1).1 pair) },
            )),
        (λ first. (made.are k d).1 (
          (first.0, first.1, first.2.goes),
          λ is. first.2.first ((flagged k first.0 first.1).0 is),
        )),
      );
      order = made.order;
    }
