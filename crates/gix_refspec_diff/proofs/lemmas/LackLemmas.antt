-- Which missing sources stop a fetch by one list alone.
use Rattle.gix_refspec_diff.proofs.Common.{AreValid, Contains, HasName, IsRefName, List, None}
use Rattle.gix_refspec_diff.proofs.Common.{Reading, Ref, RefSpecRef, Some, [], append-nil, arith, get_or, inl, inr}
use Rattle.gix_refspec_diff.proofs.Common.{length, map, reading_of, ref_named, refl, same_Some, slice_get}
use Rattle.gix_refspec_diff.proofs.Common.{slice_get_within, subst, sym, take, zero, ℕ, ◌++◌, ◌+◌, ◌<◌, ◌∙◌, ◌∷◌, ◌≡◌}
use Rattle.gix_refspec_diff.proofs.Common.{◌⊎◌}
use Rattle.gix_refspec_lint.proofs.Common.{Contains-append_left, Contains-append_right, Contains-push_cases}
use Rattle.gix_refspec_lint.proofs.Common.{IsMadeFrom, all_join, made_more, map_each, mapped_there, some_element}
use Rattle.gix_refspec_lint.proofs.Common.{some_at, suc, upto}
use Rattle.gix_refspec_lint.proofs.lemmas.{FreeLemmas.index_of, IdleLemmas.each_named, IndexLemmas.all_listed}
use Rattle.gix_refspec_lint.proofs.lemmas.TrackLemmas.{at_taken}
use Rattle.gix_refspec_text.proofs.lemmas.lists.MapLemmas.{map_next}
use Rattle.std.proofs.lemmas.List.{take-map}
use Rattle.gix_refspec.proofs.lemmas.keep.FilterLemmas.{name_there}
use Rattle.gix_refspec_match.specs.Matching.Missing.{LacksSource}
use Rattle.gix_refspec_lint.specs.Matching.Lint.{LacksAt}
use Rattle.gix_refspec_lint.specs.Private.Idles.{AreNamed, IsHadBeside, IsNeverMissing}
use Rattle.gix_refspec_diff.proofs.lemmas.AlikeLemmas.{nothing_of, something_of, there_at}
use Rattle.gix_refspec_diff.proofs.lemmas.BlockerLemmas.{within_take}
use Rattle.gix_refspec_diff.specs.Matching.Difference.{AreLackedAlone, LackAlike, LacksAlone, LacksBeyond, LacksSome}
use Rattle.gix_refspec_diff.specs.Private.Searches.{AreHadBeside, HasSides, HasSidesBefore, HaveSides, LacksToo}

-- ---- a value that isn't lacked alone

module _ (g h : List Reading) (k : ℕ) (r : Reading) (at : slice_get g k ≡ Some r) where
  own : (refs : List Ref) → LacksAt g refs k → LacksSource refs r
  own refs l = subst (LacksSource refs) (same_Some _ _ (sym l.at ∙ at)) l.lacks

  sides_lack : (b : Reading) → HaveSides b r → (refs : List Ref) → LacksSource refs r → LacksSource refs b
  sides_lack b same refs l = record {
    positive = same.positive l.positive;
    source = l.source;
    is = same.source ∙ l.is;
    named = l.named;
    absent = l.absent;
  }

  -- the other list has its sides, or an earlier value
  pub known_unlacked : HasSides h r ⊎ HasSidesBefore g k r → ¬ (LacksAlone g h k)
  known_unlacked (inl (j, b, here, same)) alone =
      alone.other (some_at (LacksSource alone.refs) h j b here
      (sides_lack b same alone.refs (own alone.refs alone.one.lacks)))
  known_unlacked (inr (j, b, below, here, same)) alone = alone.one.first j below (record {
    reading = b;
    at = here;
    lacks = sides_lack b same alone.refs (own alone.refs alone.one.lacks);
  })

  -- its source is never missing
  pub unlacked : IsNeverMissing r → ¬ (LacksAlone g h k)
  unlacked never alone = never alone.refs (own alone.refs alone.one.lacks)

  -- where it lacks its source, a value of the other list does too
  pub lacked_too : LacksToo r h → ¬ (LacksAlone g h k)
  lacked_too (q, there, lacks) alone =
      let (j, here) = index_of h q there in
      alone.other (some_at (LacksSource alone.refs) h j q here
      (lacks alone.refs alone.valid (own alone.refs alone.one.lacks)))

module _ (specs : List RefSpecRef) (h : List Reading) (k : ℕ) (r : Reading)
    (at : slice_get (map reading_of specs) k ≡ Some r) where
  abbrev ones : List Reading
  ones = map reading_of specs

  -- or an earlier one
  pub lacked_earlier : LacksToo r (map reading_of (take k specs)) → ¬ (LacksAlone ones h k)
  lacked_earlier (q, there, lacks) alone =
      let (j, below, here) = at_taken ones k q (subst (λ l. Contains l q) (sym (take-map reading_of k specs)) there) in
      alone.one.first j below (record {
        reading = q;
        at = here;
        lacks = lacks alone.refs alone.valid (own ones h k r at alone.refs alone.one.lacks);
      })

  -- ---- a value that is

  pub lacked_by : (names : List (List ℕ)) → AreNamed r names → AreHadBeside (map reading_of (take k specs)) names
      → AreHadBeside h names → LacksAlone ones h k
  lacked_by names named first second =
      let others = first.others ++ second.others in
      let refs = map ref_named others in
      let valid = map_each IsRefName (λ (q : Ref). IsRefName q.name) ref_named (λ n good. good) others
      (all_join IsRefName first.others second.others first.valid second.valid) in
      let apart = map_each (λ n. ¬ (Contains names n)) (λ (q : Ref). ¬ (Contains names q.name)) ref_named
      (λ n none. none) others
      (all_join (λ n. ¬ (Contains names n)) first.others second.others first.apart second.apart) in
      let none = all_listed (λ n. ¬ (HasName refs n)) names
      (λ n there has. each_named (λ m. ¬ (Contains names m)) refs n apart has there) in
      let named_there = λ (n : List ℕ) (there : Contains others n).
      name_there refs (ref_named n) (mapped_there ref_named others n there) in
      record {
        refs = refs;
        valid = valid;
        one = record {
          lacks = record { reading = r; at = at; lacks = named.lacks refs valid none };
          first = λ j below l. first.had l.reading refs (within_take specs k j l.reading below l.at)
              (λ n there. named_there n (Contains-append_left first.others second.others n there)) l.lacks;
        };
        other = λ (j, q, below, is, lacks). second.had q refs (j, below, is)
            (λ n there. named_there n (Contains-append_right first.others second.others n there)) lacks;
      }

-- ---- values that have their sources

pub none_had : (names : List (List ℕ)) → AreHadBeside [] names
none_had names =
    record { others = []; valid = tt; apart = tt; had = λ q refs (k, below, is). absurd (omega (arith, below)) }

pub had_pushed : (specs : List RefSpecRef) (i : ℕ) (x : RefSpecRef) (names : List (List ℕ)) → i < length specs
    → x ≡ get_or specs i x → IsHadBeside (reading_of x) names → AreHadBeside (map reading_of (take i specs)) names
    → AreHadBeside (map reading_of (take (i + 1) specs)) names
had_pushed specs i x names below at beside so_far =
    rw (map_next reading_of specs i x below at) (elim beside [
      | inl never ↦ record {
        others = so_far.others;
        valid = so_far.valid;
        apart = so_far.apart;
        had = λ q refs there has. elim (Contains-push_cases (map reading_of (take i specs)) (reading_of x) q there) [
          | inl earlier ↦ so_far.had q refs earlier has
          | inr same ↦ subst (λ y. ¬ (LacksSource refs y)) same (never refs)
        ];
      }
      | inr (n, good, none, held) ↦ record {
        others = n ∷ so_far.others;
        valid = (good, so_far.valid);
        apart = (none, so_far.apart);
        had = λ q refs there has. elim (Contains-push_cases (map reading_of (take i specs)) (reading_of x) q there) [
          | inl earlier ↦ so_far.had q refs earlier (λ m (k, within, is). has m (suc k, omega (arith, within), is))
          | inr same ↦ subst (λ y. ¬ (LacksSource refs y)) same (held refs (has n (zero, omega arith, refl)))
        ];
      }
    ])

-- ---- all values

abbrev pub IsLackedAt : List Reading → List Reading → ℕ → Reading → ℕ → Type 0
IsLackedAt g h k r made = (made ≡ k) × LacksAlone g h k

module _ (ones others : List RefSpecRef) (i : ℕ) (ys : List ℕ) where
  abbrev R : ℕ → Reading → ℕ → Type 0
  R = IsLackedAt (map reading_of ones) (map reading_of others)

  pub lacked_pushed : (zs : List ℕ) → i < length ones → LacksAlone (map reading_of ones) (map reading_of others) i
      → IsMadeFrom R 0 (map reading_of (take i ones)) ys → zs ≡ ys ++ i ∷ []
      → IsMadeFrom R 0 (map reading_of (take (i + 1) ones)) zs
  lacked_pushed zs below alone so_far more =
      made_more R reading_of ones i (some_element ones i below) ys zs (Some i) below so_far (refl, alone) more

  pub lacked_skipped : i < length ones → ¬ (LacksAlone (map reading_of ones) (map reading_of others) i)
      → IsMadeFrom R 0 (map reading_of (take i ones)) ys → IsMadeFrom R 0 (map reading_of (take (i + 1) ones)) ys
  lacked_skipped below none so_far =
      made_more R reading_of ones i (some_element ones i below) ys ys None below so_far (λ y is. none is.1)
      (sym (append-nil ys))

-- ---- two lists lack alike exactly if no value of either is lacked alone

module _ (g h : List Reading) (refs : List Ref) (valid : AreValid refs)
    (none : (k : ℕ) → k < length g → ¬ (LacksAlone g h k)) (other : ¬ (LacksSome h refs)) where
  none_lacks : (n k : ℕ) → k < n → ¬ (LacksAt g refs k)
  none_lacks zero k below l = absurd (omega (arith, below))
  none_lacks (suc n) k below l = elim (upto k n (omega (arith, below))) [
    | inl earlier ↦ none_lacks n k earlier l
    | inr same ↦ none k (slice_get_within g k l.reading l.at) (record {
      refs = refs;
      valid = valid;
      one = record { lacks = l; first = λ j before m. none_lacks n j (omega (arith, before, same)) m };
      other = other;
    })
  ]

  pub none_lacked : ¬ (LacksSome g refs)
  none_lacked (k, q, below, is, lacks) =
      let (j, at) = index_of g q (k, below, is) in
      none_lacks (j + 1) j (omega arith) (record { reading = q; at = at; lacks = lacks })

lacks_none : (g h : List Reading) → AreLackedAlone g h [] → ¬ (LacksBeyond g h)
lacks_none g h made beyond =
    none_lacked g h beyond.refs beyond.valid (λ k below alone.
    let (r, at) = there_at g k below in
    nothing_of (IsLackedAt g h) 0 g made k r at k
    (subst (λ (n : ℕ). (k ≡ n) × LacksAlone g h n) (omega arith) (refl, alone))) beyond.other beyond.lacks

lacks_some : (g h : List Reading) (e : ℕ) (lacked : List ℕ) → AreLackedAlone g h (e ∷ lacked) → LacksBeyond g h
lacks_some g h e lacked made =
    let (k, r, (same, alone)) = something_of (IsLackedAt g h) 0 g e lacked made in
    let l = alone.one.lacks in
    record {
      refs = alone.refs;
      valid = alone.valid;
      lacks = some_at (LacksSource alone.refs) g k l.reading l.at l.lacks;
      other = alone.other;
    }

pub lack_alike : (g h : List Reading) (relieved required : List ℕ) → AreLackedAlone g h relieved
    → AreLackedAlone h g required
    → ((relieved ≡ []) × (required ≡ []) → LackAlike g h) × (LackAlike g h → (relieved ≡ []) × (required ≡ []))
lack_alike g h relieved required one other = (
  (λ (no_one, no_other). (
    lacks_none g h (subst (AreLackedAlone g h) no_one one),
    lacks_none h g (subst (AreLackedAlone h g) no_other other),
  )),
  (λ alike. (empty g h relieved one alike.0, empty h g required other alike.1)),
)
  where
    empty : (x y : List Reading) (lacked : List ℕ) → AreLackedAlone x y lacked → ¬ (LacksBeyond x y) → lacked ≡ []
    empty x y [] made none = refl
    empty x y (e ∷ lacked) made none = absurd (none (lacks_some x y e lacked made))
