-- What the values with a destination update, whatever negative ones exclude, and whether tags are followed alike.
use Rattle.gix_refspec_diff.proofs.Common.{CanBeWritten, Contains, IsFree, IsPositive, IsSourceExcluded, List}
use Rattle.gix_refspec_diff.proofs.Common.{MakesForward, Option, Reading, Ref, RefSpecRef, Some, Source, [], ap, arith}
use Rattle.gix_refspec_diff.proofs.Common.{get_or, id, inl, inr, length, map, map-append, name, reading_of, refl}
use Rattle.gix_refspec_diff.proofs.Common.{same_Some, subst, sym, take, zero, ℕ, ◌++◌, ◌+◌, ◌<◌, ◌∙◌, ◌∷◌}
use Rattle.gix_refspec_diff.proofs.Common.{MatchBool, false, true, ◌≡◌, ◌≢◌, ◌⊎◌}
use Rattle.gix_refspec_lint.proofs.Common.{Contains-append_left, Contains-append_right, Contains-push_cases}
use Rattle.gix_refspec_lint.proofs.Common.{Bool, IsCompleted, SidesLack, completed_destination, not, of_element}
use mathlib.Core.Bool.{beq}
use Rattle.gix_refspec_lint.proofs.lemmas.{FreeLemmas.index_of, IndexLemmas.all_listed, OneSpecLemmas.makes_positive}
use Rattle.gix_refspec_lint.proofs.lemmas.{SourceLemmas.destination_made, StaleLemmas.excluding_in}
use Rattle.gix_refspec_lint.proofs.lemmas.TrackLemmas.{completed_some, made_some}
use Rattle.gix_refspec_text.proofs.lemmas.lists.MapLemmas.{map_next}
use Rattle.std.specs.Prelude.{IsSome}
use Rattle.gix_refspec_lint.specs.Matching.Removal.{FollowsTags, HasDestination}
use Rattle.gix_refspec_diff.proofs.lemmas.{AlikeLemmas.alike_unless_found, KnownLemmas.contained_at}
use Rattle.gix_refspec_diff.specs.Matching.Difference.{AreFetchedAlone, FetchAlike, FetchPair, FetchesBeyond}
use Rattle.gix_refspec_diff.specs.Matching.Difference.{FollowAlike, PairExample, TrackAlike, UpdatesBeyond}
use Rattle.gix_refspec_diff.specs.Matching.Difference.{UpdatesPair}
use Rattle.gix_refspec_diff.specs.Private.Searches.{AreTracking}

-- ---- the values with a destination

pub none_tracking : AreTracking [] []
none_tracking = record {
  each = λ r (k, below, is). absurd (omega (arith, below));
  all = λ r (k, below, is) has. absurd (omega (arith, below));
}

module _ (values : List RefSpecRef) (i : ℕ) (x : RefSpecRef) (old : List RefSpecRef) (below : i < length values)
    (at : x ≡ get_or values i x) (are : AreTracking (map reading_of (take i values)) (map reading_of old)) where
  abbrev before : List Reading
  before = map reading_of (take i values)

  abbrev r : Reading
  r = reading_of x

  pub tracking_pushed : (new : List RefSpecRef) → HasDestination r → new ≡ old ++ x ∷ []
      → AreTracking (map reading_of (take (i + 1) values)) (map reading_of new)
  tracking_pushed new has more =
      let last = λ (l : List Reading). Contains-append_right l (r ∷ []) r (zero, omega arith, refl) in
      rw (map_next reading_of values i x below at, ap (map reading_of) more ∙ map-append reading_of old (x ∷ []))
      (record {
        each = λ q there. elim (Contains-push_cases (map reading_of old) r q there) [
          | inl earlier ↦ let (one, own) = are.each q earlier in (Contains-append_left before (r ∷ []) q one, own)
          | inr same ↦ (subst (Contains (before ++ r ∷ [])) same (last before), subst HasDestination same has)
        ];
        all = λ q there own. elim (Contains-push_cases before r q there) [
          | inl earlier ↦ Contains-append_left (map reading_of old) (r ∷ []) q (are.all q earlier own)
          | inr same ↦ subst (Contains (map reading_of old ++ r ∷ [])) same (last (map reading_of old))
        ];
      })

  pub tracking_skipped : ¬ (HasDestination r)
      → AreTracking (map reading_of (take (i + 1) values)) (map reading_of old)
  tracking_skipped none = rw (map_next reading_of values i x below at) (record {
    each = λ q there. let (one, own) = are.each q there in (Contains-append_left before (r ∷ []) q one, own);
    all = λ q there own. elim (Contains-push_cases before r q there) [
      | inl earlier ↦ are.all q earlier own
      | inr same ↦ absurd (none (subst HasDestination (sym same) own))
    ];
  })

-- ---- what they fetch

module _ (g l : List Reading) (are : AreTracking g l) where
  pub tracking_free : (z : ℕ) → IsFree g z → IsFree l z
  tracking_free z free = record {
    byte = free.byte;
    usable = free.usable;
    lacks = all_listed (SidesLack z) l (λ r there. of_element (SidesLack z) g r free.lacks (are.each r there).0);
  }

  none_excluded : (s : Source) → ¬ (IsSourceExcluded l s)
  none_excluded (name n) by =
      let (e, there, one) = excluding_in l n by in subst IsPositive one.negative (are.each e there).1.0
  none_excluded (id bytes) none = none

  module _ (refs : List Ref) (s : Source) where
    -- what they fetch is written, and the list updates it
    pub updates_fetched : (d : Option (List ℕ)) → FetchPair l refs s d → (e : List ℕ) × (d ≡ Some e)
        × UpdatesPair g refs s e
    updates_fetched d (k, f) =
        let m = f.maps.maps in
        let (there, has) = are.each m.reading (contained_at l k m.reading m.at) in
        let (j, at) = index_of g m.reading there in
        let (full, completed) = completed_some m.reading m.completed m.is has.1 in
        let (e, is) = made_some refs s d m.completed full m.makes completed in (
          e,
          is,
          (
            j,
            record {
              maps = record {
                reading = m.reading;
                at = at;
                completed = m.completed;
                is = m.is;
                makes = subst (λ o. MakesForward refs s o m.completed) is m.makes;
              };
              source = f.maps.source;
              destination = subst CanBeWritten is f.maps.destination;
            },
          ),
        )

    has_destination : (r c : Reading) (e : List ℕ) → IsCompleted r c → MakesForward refs s (Some e) c → HasDestination r
    has_destination r c e done makes =
        let (full, word, is, filled) = destination_made refs s e c makes in
        let (x, was, shape) = completed_destination r.destination c.destination full done.destination is in
        (subst IsPositive done.mode (makes_positive refs s (Some e) c makes), subst IsSome (sym was) refl)

    -- and what the list updates they fetch
    pub fetched_updates : (e : List ℕ) → UpdatesPair g refs s e → FetchPair l refs s (Some e)
    fetched_updates e (k, u) =
        let m = u.maps in
        let has = has_destination m.reading m.completed e m.is m.makes in
        let (j, at) = index_of l m.reading (are.all m.reading (contained_at g k m.reading m.at) has) in (
          j,
          record {
            maps = record {
              maps = record {
                reading = m.reading;
                at = at;
                completed = m.completed;
                is = m.is;
                makes = m.makes;
              };
              source = u.source;
              destination = u.destination;
            };
            included = none_excluded s;
          },
        )

-- ---- two lists update alike exactly if these values fetch alike

module _ (g h x y : List Reading) (one : AreTracking g x) (other : AreTracking h y) where
  fetches_beyond : UpdatesBeyond g h → FetchesBeyond x y
  fetches_beyond b = record {
    refs = b.refs;
    valid = b.valid;
    source = b.source;
    destination = Some b.destination;
    fetches = fetched_updates g x one b.refs b.source b.destination b.updates;
    other = λ f.
        let (e, is, updates) = updates_fetched h y other b.refs b.source (Some b.destination) f in
        b.other (subst (UpdatesPair h b.refs b.source) (sym (same_Some _ _ is)) updates);
  }

  updates_beyond : FetchesBeyond x y → UpdatesBeyond g h
  updates_beyond b =
      let (e, is, updates) = updates_fetched g x one b.refs b.source b.destination b.fetches in
      record {
        refs = b.refs;
        valid = b.valid;
        source = b.source;
        destination = e;
        updates = updates;
        other = λ u. b.other (subst (FetchPair y b.refs b.source) (sym is)
            (fetched_updates h y other b.refs b.source e u));
      }

track_alike : (g h x y : List Reading) → AreTracking g x → AreTracking h y → FetchAlike x y → TrackAlike g h
track_alike g h x y one other alike = (
  (λ b. alike.0 (fetches_beyond g h x y one other b)),
  (λ b. alike.1 (fetches_beyond h g y x other one b)),
)

alike_tracked : (g h x y : List Reading) → AreTracking g x → AreTracking h y → TrackAlike g h → FetchAlike x y
alike_tracked g h x y one other alike = (
  (λ b. alike.0 (updates_beyond g h x y one other b)),
  (λ b. alike.1 (updates_beyond h g y x other one b)),
)

-- ---- what is found of them

module _ (g h x y : List Reading) (one : AreTracking g x) (other : AreTracking h y) (lost gained : List PairExample)
    (of_one : AreFetchedAlone x y lost) (of_other : AreFetchedAlone y x gained) where
  pub nothing_found : lost ≡ [] → gained ≡ [] → TrackAlike g h
  nothing_found no_lost no_gained = track_alike g h x y one other
      ((alike_unless_found x y lost gained of_one of_other).0 (no_lost, no_gained))

  pub something_found : lost ≢ [] ⊎ gained ≢ [] → ¬ (TrackAlike g h)
  something_found some alike =
      let (no_lost, no_gained) = (alike_unless_found x y lost gained of_one of_other).1
      (alike_tracked g h x y one other alike) in
      elim some [ inl lost_some ↦ lost_some no_lost | inr gained_some ↦ gained_some no_gained ]

-- ---- followed tags

-- what is found of two lists tells whether tags are followed alike
pub follow_alike : (g h : List Reading) (one other : Bool) → MatchBool one (FollowsTags g) (¬ (FollowsTags g))
    → MatchBool other (FollowsTags h) (¬ (FollowsTags h))
    → MatchBool (not (beq one other)) (¬ (FollowAlike g h)) (FollowAlike g h)
follow_alike g h true true here there = ((λ f. there), (λ f. here))
follow_alike g h false false here there = ((λ f. absurd (here f)), (λ f. absurd (there f)))
follow_alike g h true false here there = λ alike. there (alike.0 here)
follow_alike g h false true here there = λ alike. here (alike.1 there)
