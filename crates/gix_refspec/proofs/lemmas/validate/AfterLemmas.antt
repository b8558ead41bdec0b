-- What holds of mappings before and after a validation, which leaves no duplicate mappings and no duplicate fixes.
use Rattle.gix_refspec.proofs.Common.{all_weaker, ◌≡◌, ℕ, suc, ◌+◌, ◌<◌, List, [], ◌∷◌, None, Some, length, get_or}
use Rattle.gix_refspec.proofs.Common.{refl, sym, ◌∙◌, subst, arith, AllByRecursion, Contains, All-contains_itself}
use Rattle.gix_refspec.proofs.Common.{All-from_recursion, Contains-get_or, recursion_from_All, Reading, IsMadeFrom, Ref}
use Rattle.gix_refspec.proofs.Common.{Mapped, IsSamePair, AreApart, AreConflicts, ForwardFits}
use Rattle.gix_refspec.proofs.Common.{DestinationsHaveOneSource, IsValidated, ShareDestination}
use Rattle.gix_refspec.proofs.Common.{HaveDistinctDestinations, Removed, Survives, ValidatedOnce, ForwardIndexes}
use Rattle.gix_refspec.proofs.Common.{Option, ap, name, HaveOneSource, HaveSourcesByIndex, PlansApart, ◌≢◌, same_Some}
use Rattle.gix_refspec.proofs.Common.{IsIdText, Source, IsFix, MakesForwardOf, AreFixesApart, id, ◌↔◌, ◌++◌, Bool, true}
use Rattle.gix_refspec.proofs.Common.{false, map, take, items_where_true, false≢true, append-nil, slice_get-map}
use Rattle.gix_refspec.proofs.Common.{slice_get_read, Mapping, NameRef, Fix, Issue, RefSpecRef, reading_of, mapped_of}
use Rattle.gix_refspec.proofs.Common.{name_bytes, conflict_of, removed_of, AreFixes, AreSurvivors, IsWritable}
use Rattle.gix_refspec.proofs.Common.{length-append, made_more, map-append, one_more_mapped, kept_once, IsIdText-unique}
use Rattle.gix_refspec.proofs.Common.{All-contains, by_cases, rules}
use Rattle.gix_refspec.proofs.lemmas.MadeLemmas.{stays_each, made_all, item_indexes_fit, ForwardAt, made_at_indexes}
use Rattle.gix_refspec.proofs.lemmas.validate.FirstLemmas.{start_cases}
use Rattle.std.specs.List.Retain.{ReturnsInTurn, IsFiltered}

pub forward_fits : (g : List Reading) (items : List Ref) → ForwardFits g items
forward_fits g items l kept = all_weaker (ForwardIndexes g items) (λ m. m.spec < length g) (λ m fit. fit.spec) l
    ((item_indexes_fit g items).forward l kept)

pub apart_still : (S : ℕ → Mapped → Type 0) (k : ℕ) (xs ys : List Mapped) → AreApart xs
    → IsMadeFrom (λ j x y. (y ≡ x) × S j x) k xs ys → AreApart ys
apart_still S k [] ys apart empty = subst AreApart (sym empty) tt
apart_still S k (x ∷ xs) ys apart (None, rest, none, more, is) =
    subst AreApart (sym is) (apart_still S (k + 1) xs rest apart.1 more)
apart_still S k (x ∷ xs) ys apart (Some y, rest, one, more, is) = subst AreApart (sym is) (
  subst (λ (m : Mapped). AllByRecursion (λ z. ¬ (IsSamePair m z)) rest) (sym one.0)
      (stays_each S (λ z. ¬ (IsSamePair x z)) (k + 1) xs rest apart.0 more),
  apart_still S (k + 1) xs rest apart.1 more,
)

pub distinct_destinations : (l : List Mapped) → DestinationsHaveOneSource l → AreApart l → HaveDistinctDestinations l
distinct_destinations [] one apart = tt
distinct_destinations (m ∷ l) one apart =
    let within : (n : Mapped) → Contains l n → Contains (m ∷ l) n =
    λ n (k, below, is). (suc k, omega (arith, below), is) in (
      recursion_from_All (λ n. ¬ (ShareDestination m n)) l (λ k d below meet.
          let n = get_or l k d in
          All-from_recursion _ l apart.0 k d below
          (record {
            source = one m n meet.0 (0, omega arith, refl) (within n (Contains-get_or l k d below)) meet.1
                meet.2;
            destination = meet.1 ∙ sym meet.2;
          })),
      distinct_destinations l (λ a b d has_a has_b. one a b d (within a has_a) (within b has_b)) apart.1,
    )

pub free_one_source : (g : List Reading) (l : List Mapped) → AreConflicts g l [] → DestinationsHaveOneSource l
free_one_source g l free m n d has_m has_n m_to n_to = by_cases (start_cases m.source n.source) (λ same. same) (λ apart.
    let none = free.every d
    (record {
      one = m;
      other = n;
      has_one = has_m;
      has_other = has_n;
      one_to = m_to;
      other_to = n_to;
      differ =
          apart;
    }) in let inside = none.1 in absurd (omega (arith, inside)))

pub one_source_still : (S : ℕ → Mapped → Type 0) (l rest : List Mapped) → DestinationsHaveOneSource l
    → IsMadeFrom (λ j x y. (y ≡ x) × S j x) 0 l rest → DestinationsHaveOneSource rest
one_source_still S l rest one made m n d has_m has_n =
    let was = stays_each S (Contains l) 0 l rest (recursion_from_All (Contains l) l (All-contains_itself l)) made in
    one m n d (All-contains (Contains l) rest m (All-from_recursion (Contains l) rest was) has_m)
    (All-contains (Contains l) rest n (All-from_recursion (Contains l) rest was) has_n)

pub distinct_destinations_after : (g : List Reading) (l rest : List Mapped) (fixes : List Removed)
    → IsValidated g l rest fixes → AreApart l → HaveDistinctDestinations rest
distinct_destinations_after g l rest fixes valid apart = distinct_destinations rest
    (one_source_still _ l rest (free_one_source g l valid.free) valid.survive)
    (apart_still _ 0 l rest apart valid.survive)

pub validated_once : (g : List Reading) (items : List Ref) → ValidatedOnce g items
validated_once g items l rest fixes valid = (
  one_source_still _ l rest (free_one_source g l valid.free) valid.survive,
  λ kept. distinct_destinations_after g l rest fixes valid (kept_once g kept.all l kept.is),
)

fixes_apart : (g : List Reading) (k : ℕ) (l : List Mapped) (fixes : List Removed) → HaveDistinctDestinations l
    → IsMadeFrom (λ j m fix. IsFix g m fix) k l fixes → AreFixesApart fixes
fixes_apart g k [] fixes apart empty = subst AreFixesApart (sym empty) tt
fixes_apart g k (m ∷ l) fixes apart (None, rest, no_fix, more, is) = subst AreFixesApart (sym is)
    (fixes_apart g (k + 1) l rest apart.1 more)
fixes_apart g k (m ∷ l) fixes apart (Some f, rest, fix, more, is) = subst AreFixesApart (sym is) (
  made_all (λ j n h. IsFix g n h) (λ n. ¬ (ShareDestination m n)) (λ h. h.destination ≢ f.destination)
      (λ j n h none of_n same. none (f.destination, fix.goes, of_n.goes ∙ ap Some same)) (k + 1) l rest apart.0 more,
  fixes_apart g (k + 1) l rest apart.1 more,
)

-- what one spec makes of one item, or without an item, has one source
one_start : (items : List Ref) (item : Option ℕ) (r : Reading) (s t : Source) (d e : Option (List ℕ))
    → MakesForwardOf items item s d r → MakesForwardOf items item t e r → s ≡ t
one_start items item r (name n) (name m) d e at also = search (rules, same_Some)
one_start items item r (name n) (id j) d e at (none, made) = let gone : Some at.index ≡ None = sym at.is
    ∙ none in absurd (cc)
one_start items item r (id i) (name m) d e (none, made) also = let gone : Some also.index ≡ None = sym also.is
    ∙ none in absurd (cc)
one_start items item r (id i) (id j) d e (none, made) (no_item, also) =
    let text : made.text ≡ also.text = same_Some made.text also.text (sym made.side ∙ also.side) in
    ap id (IsIdText-unique also.text i j (subst (λ (t : List ℕ). IsIdText t i) text made.object.2) also.object.2)

one_source_by_index : (g : List Reading) (items : List Ref) (m n : Mapped) → ForwardAt g items m → ForwardAt g items n
    → HaveOneSource m n
one_source_by_index g items m n one other = grind (arith, one_start, same_Some)

sources_by_index : (g : List Reading) (items : List Ref) (l : List Mapped) → AllByRecursion (ForwardAt g items) l
    → HaveSourcesByIndex l
sources_by_index g items [] made = tt
sources_by_index g items (m ∷ l) made = (
  all_weaker (ForwardAt g items) (HaveOneSource m) (λ n also. one_source_by_index g items m n made.0 also) l made.1,
  sources_by_index g items l made.1,
)

pub plans_apart : PlansApart
plans_apart g items l rest fixes kept valid = record {
  indexes = (item_indexes_fit g items).validated l rest fixes valid ((item_indexes_fit g items).forward l kept);
  starts = sources_by_index g items rest (stays_each (λ j m. Survives m) (ForwardAt g items) 0 l rest
      ((made_at_indexes g items).forward l kept) valid.survive);
  pairs = apart_still (λ j m. Survives m) 0 l rest (kept_once g kept.all l kept.is) valid.survive;
  destinations = (validated_once g items l rest fixes valid).1 kept;
  fixed = fixes_apart g 0 l fixes
      (distinct_destinations l (free_one_source g l valid.free) (kept_once g kept.all l kept.is)) valid.fixed;
}

-- one more mapping of which P holds, and of which nothing is made
pub nothing_more : {Y E : Type 0} (R : ℕ → Mapped → Y → Type 0) (P : Mapped → Type 0) (ms : List Mapping) (i : ℕ)
    (m : Mapping) (ys : List Y) → i < length ms → m ≡ get_or ms i m → ((y : Y) → ¬ (R i (mapped_of m) y))
    → P (mapped_of m)
    → IsMadeFrom R 0 (map mapped_of (take i ms)) ys × (E → AllByRecursion P (map mapped_of (take i ms)))
    → IsMadeFrom R 0 (map mapped_of (take (i + 1) ms)) ys × (E → AllByRecursion P (map mapped_of (take (i + 1) ms)))
nothing_more R P ms i m ys below is none holds so_far = (
  made_more R mapped_of ms i m ys ys None below so_far.0
      (λ y. subst (λ (x : Mapping). ¬ (R i (mapped_of x) y)) is (none y)) (sym (append-nil ys)),
  λ empty. one_more_mapped mapped_of P ms i m (so_far.1 empty) below is holds,
)

-- and one of which an element is made: then the list isn't empty
pub one_more : {Y Z : Type 0} (R : ℕ → Mapped → Y → Type 0) (P : Mapped → Type 0) (f : Z → Y) (ms : List Mapping)
    (i : ℕ) (m : Mapping) (zs new : List Z) (z : Z) → i < length ms → m ≡ get_or ms i m → new ≡ zs ++ z ∷ []
    → R i (mapped_of m) (f z)
    → IsMadeFrom R 0 (map mapped_of (take i ms)) (map f zs) → IsMadeFrom R 0 (map mapped_of (take (i + 1) ms))
    (map f new) × (new ≡ [] → AllByRecursion P (map mapped_of (take (i + 1) ms)))
one_more R P f ms i m zs new z below is grown one so_far = (
  made_more R mapped_of ms i m (map f zs) (map f new) (Some (f z)) below so_far
      (subst (λ (x : Mapping). R i (mapped_of x) (f z)) is one) (ap (map f) grown ∙ map-append f zs (z ∷ [])),
  λ empty. absurd (omega (arith, length-append zs (z ∷ []), ap length grown, ap length empty)),
)

pub kept_whole : (P : Mapped → Type 0) (k : ℕ) (l : List Mapped) → AllByRecursion P l
    → IsMadeFrom (λ j m made. (made ≡ m) × P m) k l l
kept_whole P k [] all = refl
kept_whole P k (m ∷ l) all = (Some m, l, (refl, all.0), kept_whole P (k + 1) l all.1, refl)

pub no_fix_written : (g : List Reading) (m : Mapping) (n : NameRef) → m.rhs ≡ Some n → IsWritable (name_bytes n)
    → (fix : Removed) → ¬ (IsFix g (mapped_of m) fix)
no_fix_written g m n to writable fix is = grind arith

pub fix_of : (specs : List RefSpecRef) (m : Mapping) (n : NameRef) (spec : RefSpecRef) (fix : Removed) → m.rhs ≡ Some n
    → ¬ (IsWritable (name_bytes n)) → m.spec_index < length specs → spec ≡ get_or specs m.spec_index spec
    → fix.destination ≡ name_bytes n → fix.spec ≡ reading_of spec → IsFix (map reading_of specs) (mapped_of m) fix
fix_of specs m n spec fix to unwritable below is destination reads = grind (arith, slice_get-map, slice_get_read)

-- a filter by a test that decides P keeps the mappings of which P holds
module _ {F : Type 0} (P : Mapped → Type 0) (R : F → Mapping → Bool → F → Type 0)
    (tells : (p : F) (m : Mapping) (b : Bool) (q : F) → R p m b q → (b ≡ true) ↔ P (mapped_of m)) where
  kept_so : (k : ℕ) (p q : F) (bs : List Bool) (ms : List Mapping) → length bs ≡ length ms → ReturnsInTurn R p bs ms q
      → IsMadeFrom (λ j m made. (made ≡ m) × P m) k (map mapped_of ms) (map mapped_of (items_where_true bs ms))
  kept_so k p q [] [] size told = refl
  kept_so k p q (true ∷ bs) (m ∷ ms) size (j, is, more) = (
    Some (mapped_of m),
    map mapped_of (items_where_true bs ms),
    (refl, (tells p m true j is).0 refl),
    kept_so (k + 1) j q bs ms (omega arith) more,
    refl,
  )
  kept_so k p q (false ∷ bs) (m ∷ ms) size (j, is, more) = (
    None,
    map mapped_of (items_where_true bs ms),
    (λ made both. false≢true ((tells p m false j is).1 both.1)),
    kept_so (k + 1) j q bs ms (omega arith) more,
    refl,
  )
  kept_so k p q bs ms size told = absurd (omega arith)

  pub filtered_so : (p : F) (ms rest : List Mapping) → IsFiltered R p ms rest
      → IsMadeFrom (λ j m made. (made ≡ m) × P m) 0 (map mapped_of ms) (map mapped_of rest)
  filtered_so p ms rest (bs, q, size, told, is) =
      subst (λ (xs : List Mapping). IsMadeFrom (λ j m made. (made ≡ m) × P m) 0 (map mapped_of ms) (map mapped_of xs))
      (sym is) (kept_so 0 p q bs ms size told)

-- without an issue, the fixes and the survivors are the result of a validation
pub validated_so : (lent specs : List RefSpecRef) (front back ms : List Mapping) (issues : List Issue)
    (fixes : List Fix) (rest : List Mapped) → lent ≡ specs → front ≡ ms → back ≡ ms → issues ≡ []
    → AreConflicts (map reading_of lent) (map mapped_of front) (map conflict_of issues) → AreFixes (map reading_of lent)
    (map mapped_of back) (map removed_of fixes) → AreSurvivors (map mapped_of ms) rest
    → IsValidated (map reading_of specs) (map mapped_of ms) rest (map removed_of fixes)
validated_so lent specs front back ms issues fixes rest same same_front same_back none conflicts fixed survive =
    record { free = rw (same, same_front, none) at conflicts; survive = survive; fixed = rw (same, same_back) at fixed }
