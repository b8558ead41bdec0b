-- What a value maps beside the earlier positive values alone, and the values without one.
use Rattle.gix_refspec_lint.proofs.Common.{◌≡◌, ◌⊎◌, inl, inr, ◌↔◌, ℕ, zero, suc, ◌<◌, Bool, true, false, not}
use Rattle.gix_refspec_lint.proofs.Common.{MatchBool, IsTrue, List, [], ◌∷◌, ◌++◌, Option, None, Some, map, length}
use Rattle.gix_refspec_lint.proofs.Common.{take, refl, sym, ap, ◌∙◌, subst, arith, AllZip, Contains, slice_get}
use Rattle.gix_refspec_lint.proofs.Common.{of_element, same_Some, false≢true, IsPositive, Reading, RefSpecRef}
use Rattle.gix_refspec_lint.proofs.Common.{reading_of, Source, name, id, IsSourceExcluded, Ref, MakesForward, IsFilled}
use Rattle.gix_refspec_lint.proofs.Common.{IsCompleted, IsFree, Maps, SidesLack, IsAtWork, words_with, bstring_bytes}
use Rattle.gix_refspec_lint.proofs.Common.{slice_get_within, get_or_from_slice_get, length-map, map-append}
use Rattle.gix_refspec_lint.proofs.lemmas.IndexLemmas.{all_listed, reading_at, zip_of}
use Rattle.gix_refspec_lint.proofs.lemmas.OneSpecLemmas.{makes_positive}
use Rattle.gix_refspec_lint.proofs.lemmas.StaleLemmas.{excluding_in}
use Rattle.gix_refspec_lint.proofs.lemmas.RemovalLemmas.{rest_in, without_with}
use Rattle.std.specs.Prelude.{IsSome}
use Rattle.gix_refspec_lint.proofs.Common.{all_at, all_join, get_or, CanBeWritten, HasStar, Lacks, MatchOption, star}
use Rattle.gix_refspec_text.specs.Matching.Side.{written_name_of}
use Rattle.gix_refspec_lint.specs.Laws.Lint.{without}
use Rattle.gix_refspec_lint.specs.Private.Idles.{earlier_than}
use Rattle.gix_refspec_lint.specs.Matching.Removal.{FollowsTags, FollowsTagsBy, HasDestination, IsStaleByOne}
use Rattle.gix_refspec_lint.specs.Matching.Removal.{PruneOtherwise, Tracks}
use Rattle.gix_refspec_lint.specs.Private.Removals.{AreLists, ArePositives, IsWith, all_of, rest_of}
use Rattle.gix_refspec_lint.specs.declared.removal.pruning.Lists.{Lists}

-- ---- elements at indexes

last_at : (l : List Reading) (r : Reading) → slice_get (l ++ r ∷ []) (length l) ≡ Some r
last_at [] r = refl
last_at (x ∷ l) r = last_at l r

early_at : (l : List Reading) (r q : Reading) (h : ℕ) → h < length l → slice_get (l ++ r ∷ []) h ≡ Some q → Contains l q
early_at [] r q h below at = absurd (omega (arith, below))
early_at (x ∷ l) r q zero below at = (zero, omega arith, same_Some _ _ at)
early_at (x ∷ l) r q (suc h) below at = let (k, under, is) = early_at l r q h (omega (arith, below)) at in
    (suc k, omega (arith, under), is)

in_early : (l : List Reading) (r q : Reading) → Contains l q → (h : ℕ) × (h < length l)
    × (slice_get (l ++ r ∷ []) h ≡ Some q)
in_early [] r q (k, below, is) = absurd (omega (arith, below))
in_early (x ∷ l) r q (zero, below, is) = (zero, omega arith, ap Some is)
in_early (x ∷ l) r q (suc k, below, is) = let (h, under, at) = in_early l r q (k, omega (arith, below), is) in
    (suc h, omega (arith, under), at)

pub taken_at : (g : List Reading) (k h : ℕ) (q : Reading) → h < k → slice_get g h ≡ Some q → Contains (take k g) q
taken_at [] k h q below at = absurd (let never : None ≡ Some q = at in cc (never))
taken_at (x ∷ g) zero h q below at = absurd (omega (arith, below))
taken_at (x ∷ g) (suc k) zero q below at = (zero, omega arith, same_Some _ _ at)
taken_at (x ∷ g) (suc k) (suc h) q below at = let (j, under, is) = taken_at g k h q (omega (arith, below)) at in
    (suc j, omega (arith, under), is)

pub at_taken : (g : List Reading) (k : ℕ) (q : Reading) → Contains (take k g) q → (h : ℕ) × (h < k)
    × (slice_get g h ≡ Some q)
at_taken [] zero q (j, below, is) = absurd (omega (arith, below))
at_taken [] (suc k) q (j, below, is) = absurd (omega (arith, below))
at_taken (x ∷ g) zero q (j, below, is) = absurd (omega (arith, below))
at_taken (x ∷ g) (suc k) q (zero, below, is) = (zero, omega arith, ap Some is)
at_taken (x ∷ g) (suc k) q (suc j, below, is) = let (h, under, at) = at_taken g k q (j, omega (arith, below), is) in
    (suc h, omega (arith, under), at)

-- ---- refs of the command line

pub made_some : (refs : List Ref) (s : Source) (d : Option (List ℕ)) (c : Reading) (e : List ℕ)
    → MakesForward refs s d c → c.destination ≡ Some e → (n : List ℕ) × (d ≡ Some n)
made_some refs (name n) d c e makes has = let (kind, of, becomes) = subst (λ o. IsFilled o makes.one.4.word d)
    (sym makes.has.far ∙ has) makes.one.4.becomes in (_, becomes)
made_some refs (id bytes) d c e makes has = let (kind, of, becomes) =
    subst (λ o. IsFilled o None d) has makes.becomes in (_, becomes)

-- a destination is there still where it is completed
pub completed_some : (r c : Reading) → IsCompleted r c → IsSome r.destination → (e : List ℕ)
    × (c.destination ≡ Some e)
completed_some r c done some = by_side r.destination refl some
  where
    by_side : (o : Option (List ℕ)) → r.destination ≡ o → IsSome o → (e : List ℕ) × (c.destination ≡ Some e)
    by_side None is none = absurd (false≢true none)
    by_side (Some d) is some =
        elim (subst (λ o. MatchOption o (c.destination ≡ None) (λ d. (HasStar d × (c.destination ≡ Some d))
        ⊎ (Lacks star d × (c.destination ≡ Some (written_name_of d))))) is done.destination) [
          | inl one ↦ (d, one.1)
          | inr one ↦ (written_name_of d, one.1)
        ]

module _ (g l : List Reading) (k : ℕ) (r : Reading) (at : slice_get g k ≡ Some r) (has : HasDestination r)
    (are : ArePositives (take k g) l) where
  abbrev m : List Reading
  m = l ++ r ∷ []

  later_first : (refs : List Ref) (h : ℕ) (s : Source) (d : Option (List ℕ)) → h < k → Maps g refs h s d → (j : ℕ)
      × (j < length l) × Maps m refs j s d
  later_first refs h s d below maps =
      let positive = subst IsPositive maps.is.mode (makes_positive refs s d maps.completed maps.makes) in
      let (j, under, here) = in_early l r maps.reading
      (are.all maps.reading (taken_at g k h maps.reading below maps.at) positive) in (
        j,
        under,
        record {
          reading = maps.reading;
          at = here;
          completed = maps.completed;
          is = maps.is;
          makes =
              maps.makes;
        },
      )

  first_later : (refs : List Ref) (j : ℕ) (s : Source) (d : Option (List ℕ)) → j < length l → Maps m refs j s d
      → (h : ℕ) × (h < k) × Maps g refs h s d
  first_later refs j s d below maps =
      let (h, under, here) = at_taken g k maps.reading
      (are.each maps.reading (early_at l r maps.reading j below maps.at)).0 in (
        h,
        under,
        record {
          reading = maps.reading;
          at = here;
          completed = maps.completed;
          is = maps.is;
          makes =
              maps.makes;
        },
      )

  all_positive : (q : Reading) → Contains m q → IsPositive q.mode
  all_positive q (j, below, is) = by_index l (λ x there. (are.each x there).1) j is below
    where
      by_index : (x : List Reading) → ((y : Reading) → Contains x y → IsPositive y.mode) → (i : ℕ)
          → get_or (x ++ r ∷ []) i q ≡ q → i < length (x ++ r ∷ []) → IsPositive q.mode
      by_index [] each zero is below = subst (λ (y : Reading). IsPositive y.mode) is has.0
      by_index [] each (suc i) is below = absurd (omega (arith, below))
      by_index (y ∷ x) each zero is below = subst (λ (y : Reading). IsPositive y.mode) is
          (each y (zero, omega arith, refl))
      by_index (y ∷ x) each (suc i) is below =
          by_index x (λ v there. each v (suc there.0, omega (arith, there.1), there.2)) i is (omega (arith, below))

  none_excluded : (s : Source) → ¬ (IsSourceExcluded m s)
  none_excluded (name n) by = let (e, there, one) = excluding_in m n by in subst IsPositive one.negative
      (all_positive e there)
  none_excluded (id bytes) none = none

  pub works_tracks : IsAtWork m (earlier_than (length l)) (length l) → Tracks g k
  works_tracks w =
      let maps = w.fetches.maps.maps in
      let same : maps.reading ≡ r = same_Some _ _ (sym maps.at ∙ last_at l r) in
      let done : IsCompleted r maps.completed = subst (λ q. IsCompleted q maps.completed) same maps.is in
      let (e, full) = completed_some r maps.completed done has.1 in
      let (d, is) = made_some w.refs w.source w.destination maps.completed e maps.makes full in
      record {
        refs = w.refs;
        valid = w.valid;
        source = w.source;
        destination = d;
        maps = record {
          maps = record {
            reading = r;
            at = at;
            completed = maps.completed;
            is = done;
            makes =
                subst (λ o. MakesForward w.refs w.source o maps.completed) is maps.makes;
          };
          source = w.fetches.maps.source;
          destination = subst CanBeWritten is w.fetches.maps.destination;
        };
        first = λ h below earlier.
            let (j, under, later) = later_first w.refs h w.source (Some d) below earlier in
            w.first j (omega arith, under) (subst (λ o. Maps m w.refs j w.source o) (sym is) later);
      }

  pub tracks_works : Tracks g k → IsAtWork m (earlier_than (length l)) (length l)
  tracks_works t =
      let maps = t.maps.maps in
      let same : maps.reading ≡ r = same_Some _ _ (sym maps.at ∙ at) in
      record {
        refs = t.refs;
        valid = t.valid;
        source = t.source;
        destination = Some t.destination;
        fetches = record {
          maps = record {
            maps = record {
              reading = r;
              at = last_at l r;
              completed = maps.completed;
              is =
                  subst (λ q. IsCompleted q maps.completed) same maps.is;
              makes = maps.makes;
            };
            source = t.maps.source;
            destination = t.maps.destination;
          };
          included = none_excluded t.source;
        };
        first = λ j below later. let (h, under, earlier) = first_later t.refs j t.source (Some t.destination) below.1
            later in t.first h under earlier;
      }

  pub tracks_told : (does : Bool) → MatchBool does (IsAtWork m (earlier_than (length l)) (length l))
      (¬ (IsAtWork m (earlier_than (length l)) (length l))) → IsTrue does ↔ Tracks g k
  tracks_told true works = ((λ told. works_tracks works), λ t. refl)
  tracks_told false none = ((λ told. absurd (false≢true told)), λ t. absurd (none (tracks_works t)))

-- ---- the values without one

pub free_rest : (g : List Reading) (k z : ℕ) → IsFree g z → IsFree (without k g) z
free_rest g k z free = record {
  byte = free.byte;
  usable = free.usable;
  lacks = all_listed (SidesLack z) (without k g)
      (λ q there. of_element (SidesLack z) g q free.lacks (rest_in g k q there));
}

pub free_positives : (g l : List Reading) (k z : ℕ) (r : Reading) → IsFree g z → slice_get g k ≡ Some r
    → ((q : Reading) → Contains l q → Contains g q) → IsFree (l ++ r ∷ []) z
free_positives g l k z r free at each = record {
  byte = free.byte;
  usable = free.usable;
  lacks = all_join (SidesLack z) l (r ∷ [])
      (all_listed (SidesLack z) l (λ q there. of_element (SidesLack z) g q free.lacks (each q there)))
      (all_at (SidesLack z) g k r free.lacks at, tt);
}

pub never_alone : (g h : List Reading) → h ≡ g → ¬ (PruneOtherwise g h)
never_alone g h same o = elim (subst (λ l. IsStaleByOne g l o.remote o.local) same o.differ) [
  | inl x ↦ x.1 x.0
  | inr x ↦
      x.0 x.1
]

pub lists_are : (lists : Lists) (g : List Reading) (k : ℕ) (r : Reading) (z : ℕ) → all_of lists ≡ g
    → rest_of lists ≡ without k g → slice_get g k ≡ Some r → IsFree g z → AllZip IsCompleted (rest_of lists)
    (map reading_of lists.others.now)
    → map bstring_bytes lists.words.now ≡ words_with z → AreLists r lists
lists_are lists g k r z all rest at free others words = record {
  letter = z;
  free = subst (λ l. IsFree l z) (sym all) free;
  values = subst (λ l. IsWith l (rest_of lists) r) (sym all)
      (subst (λ l. IsWith g l r) (sym rest) (without_with g k r at));
  others = others;
  words = words;
}

pub truth : {A : Type 0} (b : Bool) → MatchBool b A (¬ A) → IsTrue b ↔ A
truth true holds = ((λ told. holds), λ again. refl)
truth false none = ((λ told. absurd (false≢true told)), λ holds. absurd (none holds))

-- ---- the earlier positive values, and the value itself

take_mapped : (values : List RefSpecRef) (k : ℕ) → map reading_of (take k values) ≡ take k (map reading_of values)
take_mapped [] zero = refl
take_mapped [] (suc k) = refl
take_mapped (x ∷ values) zero = refl
take_mapped (x ∷ values) (suc k) = ap (λ l. reading_of x ∷ l) (take_mapped values k)

module _ (values old new : List RefSpecRef) (k : ℕ) (x : RefSpecRef) (below : k < length values)
    (is : x ≡ get_or values k x) (are : ArePositives (map reading_of (take k values)) (map reading_of old))
    (more : new ≡ old ++ x ∷ []) where
  at_index : slice_get (map reading_of values) k ≡ Some (reading_of x)
  at_index = reading_at values k x below ∙ ap (λ y. Some (reading_of y)) (sym is)

  pushed : map reading_of new ≡ map reading_of old ++ reading_of x ∷ []
  pushed = ap (map reading_of) more ∙ map-append reading_of old (x ∷ [])

  taken : ArePositives (take k (map reading_of values)) (map reading_of old)
  taken = subst (λ g. ArePositives g (map reading_of old)) (take_mapped values k) are

  pub free_pushed : (z : ℕ) → IsFree (map reading_of values) z → IsFree (map reading_of new) z
  free_pushed z free =
      subst (λ l. IsFree l z) (sym pushed) (free_positives (map reading_of values) (map reading_of old) k z
      (reading_of x) free at_index
      (λ q there. let (h, under, at) = at_taken (map reading_of values) k q (taken.each q there).0 in
      (h, slice_get_within (map reading_of values) h q at, get_or_from_slice_get (map reading_of values) h q q at)))

  pub tracks_pushed : (last : ℕ) → last ≡ length old → HasDestination (reading_of x) → (does : Bool)
      → ((r : Reading) → slice_get (map reading_of new) last ≡ Some r → IsPositive r.mode
      → MatchBool does (IsAtWork (map reading_of new) (earlier_than last) last)
      (¬ (IsAtWork (map reading_of new) (earlier_than last) last))) → IsTrue does ↔ Tracks (map reading_of values) k
  tracks_pushed last long has does told =
      let l = map reading_of old in
      let r = reading_of x in
      let Told : List Reading → ℕ → Type 0 = λ m i. (r : Reading) → slice_get m i ≡ Some r → IsPositive r.mode
      → MatchBool does (IsAtWork m (earlier_than i) i) (¬ (IsAtWork m (earlier_than i) i)) in
      let moved : Told (l ++ r ∷ []) (length l) = subst (Told (l ++ r ∷ [])) (long ∙ sym (length-map old reading_of))
      (subst (λ m. Told m last) pushed told) in
      tracks_told (map reading_of values) l k r at_index has taken does (moved r (last_at l r) has.0)

-- ---- the first of completed values

pub completed_first : (g : List Reading) (completed : List RefSpecRef) (x : RefSpecRef)
    → AllZip IsCompleted g (map reading_of completed) → 0 < length completed → x ≡ get_or completed 0 x → (r : Reading)
    × (slice_get g 0 ≡ Some r) × IsCompleted r (reading_of x)
completed_first g completed x all below is =
    let (r, at, done) = zip_of g (map reading_of completed) all 0 (reading_of (get_or completed 0 x))
    (reading_at completed 0 x below) in
    (r, at, subst (λ y. IsCompleted r (reading_of y)) (sym is) done)

-- ---- tags

pub tags_then : (g rest : List Reading) (k : ℕ) (b d : Bool) → FollowsTags g → rest ≡ without k g
    → MatchBool b (FollowsTags rest) (¬ (FollowsTags rest)) → d ≡ not b → IsTrue d ↔ FollowsTagsBy g k
tags_then g rest k true d follows same also is =
    ((λ told. absurd (false≢true (sym is ∙ told))), λ by. absurd (by.1 (subst FollowsTags same also)))
tags_then g rest k false d follows same none is =
    ((λ told. (follows, λ other. none (subst FollowsTags (sym same) other))), λ by. is)

pub tags_else : (g : List Reading) (k : ℕ) (d : Bool) → d ≡ false → ¬ (FollowsTags g) → IsTrue d ↔ FollowsTagsBy g k
tags_else g k d is none = ((λ told. absurd (false≢true (sym is ∙ told))), λ by. absurd (none by.0))
