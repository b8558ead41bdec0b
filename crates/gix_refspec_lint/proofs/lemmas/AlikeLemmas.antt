-- Specs with the same sides map the same and lack the same sources, so what is known of one is known of the other.
use Rattle.gix_refspec_lint.proofs.Common.{◌≡◌, ◌≢◌, ◌⊎◌, ◌+◌, ◌<◌, ◌≤◌, ℕ, Bool, false, List, [], ◌∷◌, ◌++◌, Option}
use Rattle.gix_refspec_lint.proofs.Common.{None, Some, MatchOption, length, map, take, get_or, option_to_list, refl}
use Rattle.gix_refspec_lint.proofs.Common.{sym, ap, ◌∙◌, subst, arith, take_more, length-take-le, slice_get}
use Rattle.gix_refspec_lint.proofs.Common.{slice_get-get_or, get_or_default, AllZip, Ref, Reading, Source, name, id}
use Rattle.gix_refspec_lint.proofs.Common.{IsPositive, Negative, IsFilled, MakesForward, IsCompleted, IsMadeFrom}
use Rattle.gix_refspec_lint.proofs.Common.{MakesOf, Maps, MapsSoundly, Fetches, IsAtWork, IsIdleBy, IsExample, Example}
use Rattle.gix_refspec_lint.proofs.Common.{refs_of, some_element, made_next, ◌↔◌, suc, zero, inl, inr, same_Some, Group}
use Rattle.gix_refspec_lint.proofs.Common.{IsGroupOf, reading_of, length-map, example_of, RefSpecRef, MatchBool, true}
use Rattle.gix_refspec_lint.proofs.Common.{IfSome, IsReasonOf, option_map, slice_get-map, slice_get_within, IsFound}
use Rattle.gix_refspec_lint.proofs.Common.{is_some, false≢true, Forced, Normal, IsExcludedBy, IsIdleExclusion, Bor}
use Rattle.gix_refspec_lint.proofs.Common.{Fits, IsTrue, IsAccepted, IsSplit}
use Rattle.gix_refspec_lint.proofs.lemmas.PatternLemmas.{maps_pattern}
use Rattle.gix_refspec_lint.proofs.lemmas.RequiredLemmas.{dispensable_by}
use Rattle.gix_refspec_lint.specs.Matching.Lint.{IsDispensable}
use Rattle.gix_refspec_lint.specs.Private.Nestings.{IsFoundEither}
use Rattle.gix_refspec_match.specs.Matching.Missing.{LacksSource}
use Rattle.gix_refspec_lint.proofs.lemmas.IndexLemmas.{maps_of, of_maps, read_at}
use Rattle.gix_refspec_lint.specs.Matching.Lint.{IsNesting, IsNestingOf, Nesting}
use Rattle.gix_refspec_lint.specs.Private.Alike.{AreEarlier, AreFlags, AreIndexesOf, AreReasons, AreRows, CanShow}
use Rattle.gix_refspec_lint.specs.Private.Alike.{CanShowNesting, HaveSameSides, IsDead, IsEarlier, IsFoundNesting}
use Rattle.gix_refspec_lint.specs.Private.Alike.{IsKnown, TellsIdle, second_of}
use Rattle.gix_refspec_text.specs.Specs.Reading.{Mode}
use Rattle.gix_refspec_lint.specs.Views.Lint.{nesting_of}
use Rattle.gix_refspec_lint.specs.declared.PossibleConflict.{PossibleConflict}
use Rattle.gix_refspec_lint.specs.declared.PossibleDirectoryConflict.{PossibleDirectoryConflict}
use Rattle.gix_refspec_lint.specs.Private.Idles.{earlier_than}
use Rattle.gix_refspec_lint.specs.declared.Reason.{Reason}
use Rattle.gix_refspec_lint.specs.declared.Reason.TheVariants as reason

-- ---- two readings

pub turned : (b c : Reading) → HaveSameSides b c → HaveSameSides c b
turned b c same = record {
  sign = (same.sign.1, same.sign.0);
  source = sym same.source;
  destination = sym same.destination;
}

pub makes_alike : (b c : Reading) → HaveSameSides b c → (refs : List Ref) (s : Source) (d : Option (List ℕ))
    → MakesForward refs s d b → MakesForward refs s d c
makes_alike b c same refs (name n) d makes = record {
  ends = makes.ends;
  has = record {
    positive = same.sign.0 makes.has.positive;
    near = sym same.source ∙ makes.has.near;
    far = sym same.destination ∙ makes.has.far;
    no_object = makes.has.no_object;
  };
  one = makes.one;
}
makes_alike b c same refs (id bytes) d makes = record {
  positive = same.sign.0 makes.positive;
  text = makes.text;
  side = sym same.source ∙ makes.side;
  object = makes.object;
  becomes = subst (λ x. IsFilled x None d) same.destination makes.becomes;
}

-- ---- two specs of a group

-- the specs at these indexes map the same
pub record MapAlike (g : List Reading) (p k : ℕ) : Type 0 where
  pub to : (refs : List Ref) (s : Source) (d : Option (List ℕ)) → Maps g refs p s d → Maps g refs k s d
  pub from : (refs : List Ref) (s : Source) (d : Option (List ℕ)) → Maps g refs k s d → Maps g refs p s d

pub map_alike : (g h : List Reading) → AllZip IsCompleted g h → (k p : ℕ) → k < length h → IsEarlier h k p
    → MapAlike g p k
map_alike g h all k p below earlier =
    let x = some_element h k below in
    let b = get_or h p x in
    let c = get_or h k x in
    let before = earlier.before in
    let at = slice_get-get_or h p x (omega (arith, below, before)) in
    let here = slice_get-get_or h k x below in
    let same = earlier.same b c at here in
    record {
      to = λ refs s d m. maps_of g h all k c here refs s d
          (makes_alike b c same refs s d (of_maps g h all p b at refs s d m));
      from = λ refs s d m. maps_of g h all p b at refs s d
          (makes_alike c b (turned b c same) refs s d (of_maps g h all k c here refs s d m));
    }

module _ (g : List Reading) (p k : ℕ) (alike : MapAlike g p k) where
  pub sound_to : (refs : List Ref) (s : Source) (d : Option (List ℕ)) → MapsSoundly g refs p s d
      → MapsSoundly g refs k s d
  sound_to refs s d m = record {
    maps = alike.to refs s d m.maps;
    source = m.source;
    destination = m.destination;
  }

  pub sound_from : (refs : List Ref) (s : Source) (d : Option (List ℕ)) → MapsSoundly g refs k s d
      → MapsSoundly g refs p s d
  sound_from refs s d m = record {
    maps = alike.from refs s d m.maps;
    source = m.source;
    destination = m.destination;
  }

  pub fetches_to : (refs : List Ref) (s : Source) (d : Option (List ℕ)) → Fetches g refs p s d → Fetches g refs k s d
  fetches_to refs s d f = record { maps = sound_to refs s d f.maps; included = f.included }

  pub fetches_from : (refs : List Ref) (s : Source) (d : Option (List ℕ)) → Fetches g refs k s d
      → Fetches g refs p s d
  fetches_from refs s d f = record { maps = sound_from refs s d f.maps; included = f.included }

-- ---- conflicts

-- what the later of two alike specs shows with another one, the earlier shows too
pub shown_first : (g : List Reading) (p k j : ℕ) → MapAlike g p k → p < k → CanShow g k j → CanShow g p j
shown_first g p k j alike before (e, shown) = (
  record { first = p; second = j; one = e.one; other = e.other; destination = e.destination },
  record {
    first = refl;
    second = refl;
    order = omega (arith, before, shown.order);
    conflict = record {
      storable = shown.conflict.storable;
      one = fetches_from g p k alike (refs_of e.one ++ refs_of e.other) e.one (Some e.destination) shown.conflict.one;
      other = shown.conflict.other;
      differ = shown.conflict.differ;
    };
  },
)

pub shown_second : (g : List Reading) (i p k : ℕ) → MapAlike g p k → i < p → CanShow g i k → CanShow g i p
shown_second g i p k alike before (e, shown) = (
  record { first = i; second = p; one = e.one; other = e.other; destination = e.destination },
  record {
    first = refl;
    second = refl;
    order = before;
    conflict = record {
      storable = shown.conflict.storable;
      one = shown.conflict.one;
      other = fetches_from g p k alike (refs_of e.one ++ refs_of e.other) e.other (Some e.destination)
          shown.conflict.other;
      differ = shown.conflict.differ;
    };
  },
)

-- ---- directory conflicts

nested_first : (g : List Reading) (p k j : ℕ) (n : Nesting) → MapAlike g p k → IsNestingOf g k j n
    → IsNestingOf g p j (record {
      upper = p;
      lower = j;
      one = n.one;
      other = n.other;
      directory = n.directory;
      nested = n.nested;
    })
nested_first g p k j n alike is = record {
  upper = refl;
  lower = refl;
  over = record {
    storable = is.over.storable;
    upper = fetches_from g p k alike (refs_of n.one ++ refs_of n.other) n.one (Some n.directory) is.over.upper;
    lower = is.over.lower;
    nested = is.over.nested;
  };
}

nested_second : (g : List Reading) (i p k : ℕ) (n : Nesting) → MapAlike g p k → IsNestingOf g i k n
    → IsNestingOf g i p (record {
      upper = i;
      lower = p;
      one = n.one;
      other = n.other;
      directory = n.directory;
      nested = n.nested;
    })
nested_second g i p k n alike is = record {
  upper = refl;
  lower = refl;
  over = record {
    storable = is.over.storable;
    upper = is.over.upper;
    lower = fetches_from g p k alike (refs_of n.one ++ refs_of n.other) n.other (Some n.nested) is.over.lower;
    nested = is.over.nested;
  };
}

pub nests_first : (g : List Reading) (p k j : ℕ) → MapAlike g p k → p < k → CanShowNesting g k j
    → CanShowNesting g p j
nests_first g p k j alike before (n, is) =
    let order : p < j = omega (arith, before, is.before) in
    elim is.either [
      | inl one ↦ (_, record { before = order; either = inl (nested_first g p k j n alike one) })
      | inr other ↦ (_, record { before = order; either = inr (nested_second g j p k n alike other) })
    ]

pub nests_second : (g : List Reading) (i p k : ℕ) → MapAlike g p k → i < p → CanShowNesting g i k
    → CanShowNesting g i p
nests_second g i p k alike before (n, is) = elim is.either [
  | inl one ↦ (_, record { before = before; either = inl (nested_second g i p k n alike one) })
  | inr other ↦ (_, record { before = before; either = inr (nested_first g p k i n alike other) })
]

-- ---- the rows of pairs

-- what comes of the indexes of P in turn comes of all elements, if it comes of no other index
pub made_again : {X Z : Type 0} (P : ℕ → Type 0) (S : ℕ → Z → Type 0) → ((j : ℕ) (z : Z) → S j z → P j) → (k m : ℕ)
    (xs : List X) (seconds : List ℕ) (zs : List Z) → IsMadeFrom (λ j x s. (s ≡ j) × P j) k xs seconds
    → IsMadeFrom (λ n s z. S s z) m seconds zs → IsMadeFrom (λ j x z. S j z) k xs zs
made_again P S gives k m [] seconds zs none made = subst (λ l. IsMadeFrom (λ n s z. S s z) m l zs) none made
made_again P S gives k m (x ∷ xs) seconds zs (None, rest, lacks, more, is) made = (
  None,
  zs,
  (λ z holds. lacks k (refl, gives k z holds)),
  made_again P S gives (k + 1) m xs rest zs more (subst (λ l. IsMadeFrom (λ n s z. S s z) m l zs) is made),
  refl,
)
made_again {Z = Z} P S gives k m (x ∷ xs) seconds zs (Some s, rest, (here, holds), more, is) made =
    let (one, others, makes, later, whole) = subst (λ l. IsMadeFrom (λ n s z. S s z) m l zs) is made in (
      one,
      others,
      subst (λ i. MatchOption one ((z : Z) → ¬ (S i z)) (S i)) here makes,
      made_again P S gives (k + 1) (m + 1) xs rest others more later,
      whole,
    )

-- the indexes for which something is made
pub indexes_made : {X Y : Type 0} (R : ℕ → Y → Type 0) (second : Y → ℕ) → ((j : ℕ) (y : Y) → R j y → second y ≡ j)
    → (k : ℕ) (xs : List X) (ys : List Y) → IsMadeFrom (λ j x y. R j y) k xs ys
    → IsMadeFrom (λ j x s. (s ≡ j) × ((y : Y) × R j y)) k xs (map second ys)
indexes_made R second is_at k [] ys none = ap (map second) none
indexes_made R second is_at k (x ∷ xs) ys (None, rest, lacks, more, is) = (
  None,
  map second rest,
  (λ s both. lacks both.1.0 both.1.1),
  indexes_made R second is_at (k + 1) xs rest more,
  ap (map second) is,
)
indexes_made R second is_at k (x ∷ xs) ys (Some y, rest, holds, more, is) = (
  Some (second y),
  map second rest,
  (is_at k y holds, (y, holds)),
  indexes_made R second is_at (k + 1) xs rest more,
  ap (map second) is,
)

-- one more index
pub sparse_next : {Z : Type 0} (S : ℕ → Z → Type 0) (seconds : List ℕ) (i s : ℕ) (ys zs : List Z) (one : Option Z)
    → i < length seconds → s ≡ get_or seconds i s → MatchOption one ((z : Z) → ¬ (S s z)) (S s)
    → IsMadeFrom (λ n s z. S s z) 0 (take i seconds) ys → zs ≡ ys ++ option_to_list one
    → IsMadeFrom (λ n s z. S s z) 0 (take (i + 1) seconds) zs
sparse_next {Z} S seconds i s ys zs one below is makes so_far more = rw (more, take_more seconds i s below)
    (made_next (λ n s z. S s z) i (take i seconds) (get_or seconds i s) ys one
    (length-take-le i seconds (omega (arith, below))) so_far
    (subst (λ (x : ℕ). MatchOption one ((z : Z) → ¬ (S x z)) (S x)) is makes))

-- ---- idle specs

module _ (g : List Reading) (p k : ℕ) (alike : MapAlike g p k) (before : p < k) where
  -- a spec behind one at work with the same sides is a duplicate of that
  pub idle_behind : IsAtWork g (earlier_than p) p → IsIdleBy g k (reason.Duplicate p)
  idle_behind w = (
    (λ refs s d valid f. alike.from refs s d f.maps.maps),
    record {
      refs = w.refs;
      source = w.source;
      destination = w.destination;
      fetches = fetches_to g p k alike w.refs w.source w.destination w.fetches;
      before = before;
      maps = w.fetches.maps.maps;
    },
  )

  -- behind an idle one it is idle for the same reason
  pub idle_alike : (why : Reason) → why ≢ reason.Duplicates → IsIdleBy g p why → IsIdleBy g k why
  idle_alike reason.Invalid other none = λ refs s d m. none refs s d (sound_from g p k alike refs s d m)
  idle_alike (reason.Excluded n) other (none, shown) = (
    (λ refs s d f. none refs s d (fetches_from g p k alike refs s d f)),
    record {
      refs = shown.refs;
      source = shown.source;
      destination = shown.destination;
      maps = sound_to g p k alike shown.refs (name shown.source) shown.destination shown.maps;
      negative = shown.negative;
      at = shown.at;
      excludes = shown.excludes;
    },
  )
  idle_alike (reason.Duplicate h) other (covered, does) = (
    (λ refs s d valid f. covered refs s d valid (fetches_from g p k alike refs s d f)),
    record {
      refs = does.refs;
      source = does.source;
      destination = does.destination;
      fetches = fetches_to g p k alike does.refs does.source does.destination does.fetches;
      before = omega (arith, before, does.before);
      maps = does.maps;
    },
  )
  idle_alike reason.Duplicates other idle = absurd (other refl)

-- ---- lists that grow

pushed_at : {X : Type 0} (xs : List X) (y : X) (k : ℕ) (x : X) → slice_get (xs ++ y ∷ []) k ≡ Some x
    → (slice_get xs k ≡ Some x) ⊎ ((k ≡ length xs) × (y ≡ x))
pushed_at [] y zero x is = inr (refl, same_Some _ _ is)
pushed_at [] y (suc k) x is = inl is
pushed_at (z ∷ xs) y zero x is = inl is
pushed_at (z ∷ xs) y (suc k) x is = elim (pushed_at xs y k x is) [
  | inl before ↦ inl before
  | inr here ↦ inr (ap suc here.0, here.1)
]

-- what holds of each element and its index holds of one more
each_next : {X : Type 0} (P : ℕ → X → Type 0) (k : ℕ) (xs new : List X) (y : X) → length xs ≡ k
    → new ≡ xs ++ y ∷ [] → P k y → ((j : ℕ) (x : X) → slice_get xs j ≡ Some x → P j x) → (j : ℕ) (x : X)
    → slice_get new j ≡ Some x → P j x
each_next P k xs new y long grew here so_far j x is =
    elim (pushed_at xs y j x (ap (λ l. slice_get l j) (sym grew) ∙ is)) [
      | inl before ↦ so_far j x before
      | inr (at, same) ↦ subst (λ n. P n x) (sym (at ∙ long)) (subst (P k) same here)
    ]

pub rows_more : (P : ℕ → ℕ → Type 0) (g : List Reading) (k : ℕ) (rows new : List (List ℕ)) (row : List ℕ)
    → length rows ≡ k → new ≡ rows ++ row ∷ [] → AreIndexesOf (P k) g row → AreRows P g rows → AreRows P g new
rows_more P g k rows new row long grew here so_far = each_next (λ j r. AreIndexesOf (P j) g r) k rows new row long grew
    here so_far

pub reasons_more : (g cs : List Reading) (k : ℕ) (reasons new : List (Option Reason)) (why : Option Reason)
    → length reasons ≡ k → new ≡ reasons ++ why ∷ []
    → ((c : Reading) → slice_get cs k ≡ Some c → IsReasonOf g k c why) → AreReasons g cs reasons
    → AreReasons g cs new
reasons_more g cs k reasons new why long grew here so_far =
    each_next (λ j w. (c : Reading) → slice_get cs j ≡ Some c → IsReasonOf g j c w) k reasons new why long grew here
    so_far

-- each flag tells whether the spec at its index is idle
abbrev pub EachTells : List Reading → List (List ℕ) → List Reading → List Bool → Type 0
EachTells g merges cs flags = (k : ℕ) (b : Bool) → slice_get flags k ≡ Some b → TellsIdle g merges cs k b

pub flags_tell : (g : List Reading) (merges : List (List ℕ)) (cs : List Reading) (k : ℕ) (flags new : List Bool)
    (b : Bool) → length flags ≡ k → new ≡ flags ++ b ∷ [] → TellsIdle g merges cs k b → EachTells g merges cs flags
    → EachTells g merges cs new
flags_tell g merges cs k flags new b long grew here so_far =
    each_next (TellsIdle g merges cs) k flags new b long grew here so_far

-- P holds of no index whose flag is false
pub falses_more : (P : ℕ → Type 0) (k : ℕ) (flags new : List Bool) (b : Bool) → length flags ≡ k
    → new ≡ flags ++ b ∷ [] → (b ≡ false → P k) → ((j : ℕ) → slice_get flags j ≡ Some false → P j)
    → (j : ℕ) → slice_get new j ≡ Some false → P j
falses_more P k flags new b long grew here so_far j is =
    each_next (λ i c. c ≡ false → P i) k flags new b long grew here
    (λ i c at none. so_far i (subst (λ d. slice_get flags i ≡ Some d) none at)) j false is refl

-- ---- a spec with the same sides as an earlier one of a group

pub earlier_read : (specs : List RefSpecRef) (k p : ℕ) (x y : RefSpecRef) → p < k → k < length specs
    → x ≡ get_or specs p x → y ≡ get_or specs k y → HaveSameSides (reading_of x) (reading_of y)
    → IsEarlier (map reading_of specs) k p
earlier_read specs k p x y before below is also same = record {
  before = before;
  same = λ one other at here.
      let first = same_Some _ _ (sym (read_at specs p x (omega (arith, before, below)) is) ∙ at) in
      let second = same_Some _ _ (sym (read_at specs k y below also) ∙ here) in
      subst (λ r. HaveSameSides r other) first (subst (HaveSameSides (reading_of x)) second same);
}

pub same_sign : (b c : Bool) (m n : Mode) → MatchBool b (m ≡ Negative) (IsPositive m)
    → MatchBool c (n ≡ Negative) (IsPositive n) → b ≡ c → IsPositive m ↔ IsPositive n
same_sign true c m n one other is =
    let no = subst (λ d. MatchBool d (n ≡ Negative) (IsPositive n)) (sym is) other in
    ((λ p. absurd (subst IsPositive one p)), (λ p. absurd (subst IsPositive no p)))
same_sign false c m n one other is =
    let yes = subst (λ d. MatchBool d (n ≡ Negative) (IsPositive n)) (sym is) other in
    ((λ p. yes), (λ p. one))

module _ (g : List Reading) (group : Group) (is : IsGroupOf g group) where
  pub alike_in : (k p : ℕ) → k < length group.specs.now → IsEarlier (map reading_of group.specs.now) k p
      → MapAlike g p k
  alike_in k p below earlier = map_alike g (map reading_of group.specs.now) is.completed k p
      (omega (arith, below, length-map group.specs.now reading_of)) earlier

  module _ (earlier : List (Option ℕ)) (are : AreEarlier (map reading_of group.specs.now) earlier)
      (flags : List Bool) (i j : ℕ) (below : j < length group.specs.now) (known : IsKnown earlier flags i j) where
    is_alike : MapAlike g known.index j
    is_alike = alike_in j known.index below
        (subst (λ o. IfSome o (IsEarlier (map reading_of group.specs.now) j)) known.there (are j))

    pub known_none : AreFlags (CanShow g i) i flags → ¬ (CanShow g i j)
    known_none none shown = none known.index known.flag known.behind
        (shown_second g i known.index j is_alike known.behind shown)

    pub known_unnested : AreFlags (CanShowNesting g i) i flags → ¬ (CanShowNesting g i j)
    known_unnested none shown = none known.index known.flag known.behind
        (nests_second g i known.index j is_alike known.behind shown)

-- the reading of an earlier spec, which is positive if the later one is
pub earlier_at : (cs : List Reading) (k p : ℕ) (c : Reading) → slice_get cs k ≡ Some c → IsEarlier cs k p
    → (b : Reading) × (slice_get cs p ≡ Some b) × HaveSameSides b c
earlier_at cs k p c here earlier =
    let below = slice_get_within cs k c here in
    let before = earlier.before in
    let b = get_or cs p c in
    let at = slice_get-get_or cs p c (omega (arith, below, before)) in
    (b, at, earlier.same b c at here)

-- ---- the specs with which one conflicts

same_seconds : (found : List PossibleConflict) → map (λ (e : Example). e.second) (map example_of found)
    ≡ map (λ (c : PossibleConflict). c.second_spec) found
same_seconds [] = refl
same_seconds (c ∷ found) = ap (λ l. c.second_spec ∷ l) (same_seconds found)

pub seconds_shown : (g : List Reading) (i : ℕ) (found : List PossibleConflict)
    → IsMadeFrom (λ j q e. IsExample g i j e) 0 g (map example_of found)
    → AreIndexesOf (CanShow g i) g (map (λ (c : PossibleConflict). c.second_spec) found)
seconds_shown g i found made = subst (AreIndexesOf (CanShow g i) g) (same_seconds found)
    (indexes_made (λ j e. IsExample g i j e) (λ (e : Example). e.second) (λ j e shown. shown.second) 0 g
    (map example_of found) made)

same_greater : (found : List PossibleDirectoryConflict) → map second_of (map nesting_of found)
    ≡ map (λ (c : PossibleDirectoryConflict). second_of (nesting_of c)) found
same_greater [] = refl
same_greater (c ∷ found) = ap (λ l. second_of (nesting_of c) ∷ l) (same_greater found)

second_is : (g : List Reading) (i j : ℕ) (n : Nesting) → IsNesting g i j n → second_of n ≡ j
second_is g i j n is = elim is.either [
  | inl one ↦ omega (arith, one.upper, one.lower, is.before)
  | inr other ↦ omega (arith, other.upper, other.lower, is.before)
]

pub greater_shown : (g : List Reading) (i : ℕ) (found : List PossibleDirectoryConflict)
    → IsMadeFrom (λ j q n. IsNesting g i j n) 0 g (map nesting_of found)
    → AreIndexesOf (CanShowNesting g i) g (map (λ (c : PossibleDirectoryConflict). second_of (nesting_of c)) found)
greater_shown g i found made = subst (AreIndexesOf (CanShowNesting g i) g) (same_greater found)
    (indexes_made (λ j n. IsNesting g i j n) second_of (second_is g i) 0 g (map nesting_of found) made)

-- ---- reading lists

pub row_there : {X : Type 0} (f : X → List ℕ) (rows : List X) (k : ℕ) (v : X) → k < length rows → v ≡ get_or rows k v
    → slice_get (map f rows) k ≡ Some (f v)
row_there f rows k v below is = slice_get-map f rows k
    ∙ ap (option_map f) (slice_get-get_or rows k v below ∙ ap Some (sym is))

pub element_there : {X : Type 0} (xs : List X) (k : ℕ) (v d : X) → k < length xs → get_or xs k d ≡ v
    → slice_get xs k ≡ Some v
element_there xs k v d below is = slice_get-get_or xs k d below ∙ ap Some is

pub earlier_some : {X : Type 0} (P : X → Type 0) (o : Option X) (x : X) → o ≡ Some x → IfSome o P → P x
earlier_some {X} P o x is holds = subst (λ (q : Option X). IfSome q P) is holds

pub some_weaker : {X : Type 0} (P Q : X → Type 0) → ((x : X) → P x → Q x) → (o : Option X) → IfSome o P → IfSome o Q
some_weaker P Q weaker None holds = holds
some_weaker P Q weaker (Some x) holds = weaker x holds

-- nothing found is nothing to show
pub none_found : (g : List Reading) (i j : ℕ) (found : Option PossibleConflict)
    → IsFound g i j (option_map example_of found) → is_some found ≡ false → ¬ (CanShow g i j)
none_found g i j None none is (e, shown) = none e shown
none_found g i j (Some c) found is shown = absurd (false≢true (sym is))

pub none_nested : (g : List Reading) (i j : ℕ) (found : Option PossibleDirectoryConflict)
    → IsFoundNesting g i j (option_map nesting_of found) → is_some found ≡ false → ¬ (CanShowNesting g i j)
none_nested g i j None none is (n, shown) = none n shown
none_nested g i j (Some c) found is shown = absurd (false≢true (sym is))

-- the index that a list of earlier ones has for a reading
pub earlier_there : (cs : List Reading) (earlier : List (Option ℕ)) (k : ℕ) (o : Option ℕ) → k < length earlier
    → o ≡ get_or earlier k o → AreEarlier cs earlier → IfSome o (IsEarlier cs k)
earlier_there cs earlier k o below is are =
    subst (λ (q : Option ℕ). IfSome q (IsEarlier cs k)) (sym (is ∙ get_or_default earlier k o None below)) (are k)

-- what is found in either order
pub found_either : (g : List Reading) (i j : ℕ) (found : Option Nesting) → i < j → IsFoundEither g i j found
    → IsFoundNesting g i j found
found_either g i j None before none = λ n shown. elim shown.either [
  | inl one ↦ (none n.directory n.nested).0 n.one n.other one.over
  | inr other ↦ (none n.directory n.nested).1 n.one n.other other.over
]
found_either g i j (Some n) before shown = record { before = before; either = shown }

-- a spec that fetches nothing is in no conflict
pub dead_first : (g : List Reading) (i j : ℕ) → IsDead g i → (n : Nesting) → ¬ (IsNesting g i j n)
dead_first g i j dead n shown = elim shown.either [
  | inl one ↦ dead _ _ _ one.over.upper
  | inr other ↦ dead _ _ _ other.over.lower
]

pub dead_second : (g : List Reading) (i j : ℕ) → IsDead g j → (n : Nesting) → ¬ (IsNesting g i j n)
dead_second g i j dead n shown = elim shown.either [
  | inl one ↦ dead _ _ _ one.over.lower
  | inr other ↦ dead _ _ _ other.over.upper
]

-- one more of a row of directory conflicts
pub nesting_more : (g : List Reading) (i j : ℕ) (found : Option Nesting) (ys zs : List Nesting) → j < length g
    → IsFoundNesting g i j found → IsMadeFrom (λ j q n. IsNesting g i j n) 0 (take j g) ys
    → zs ≡ ys ++ option_to_list found → IsMadeFrom (λ j q n. IsNesting g i j n) 0 (take (j + 1) g) zs
nesting_more g i j found ys zs below is so_far more =
    let x = some_element g j below in
    let makes = elim found as (λ f. IsFoundNesting g i j f
    → MakesOf (λ j q n. IsNesting g i j n) j (get_or g j x) f) [ None ↦ λ none. none | Some n ↦ λ shown. shown ] in
    rw (more, take_more g j x below) (made_next (λ j q n. IsNesting g i j n) j (take j g) (get_or g j x) ys found
    (length-take-le j g (omega (arith, below))) so_far (makes is))

-- ---- the same conflicts again

pub example_within : (g : List Reading) (i j : ℕ) (e : Example) → IsExample g i j e → j < length g
example_within g i j e shown = slice_get_within g j shown.conflict.other.maps.maps.reading
    shown.conflict.other.maps.maps.at

pub nesting_within : (g : List Reading) (i j : ℕ) (n : Nesting) → IsNesting g i j n → j < length g
nesting_within g i j n shown = elim shown.either [
  | inl one ↦ slice_get_within g j one.over.lower.maps.maps.reading one.over.lower.maps.maps.at
  | inr other ↦ slice_get_within g j other.over.upper.maps.maps.reading other.over.upper.maps.maps.at
]

-- ---- specs that are required

lacks_alike : (refs : List Ref) (b c : Reading) → HaveSameSides b c → LacksSource refs c → LacksSource refs b
lacks_alike refs b c same l = record {
  positive = same.sign.1 l.positive;
  source = l.source;
  is = same.source ∙ l.is;
  named = l.named;
  absent = l.absent;
}

-- a spec behind one with the same source isn't required
pub dispensable_behind : (cs : List Reading) (k p : ℕ) → k < length cs → IsEarlier cs k p → IsDispensable cs k
dispensable_behind cs k p below earlier =
    let before = earlier.before in
    let x = some_element cs k below in
    let (b, at, same) = earlier_at cs k p (get_or cs k x) (slice_get-get_or cs k x below) earlier in
    dispensable_by cs k (get_or cs k x) (slice_get-get_or cs k x below) p b at (λ is. omega (arith, is, before))
    (λ refs fine l. lacks_alike refs b (get_or cs k x) same l)

-- ---- negative specs

idle_exclusion_alike : (g : List Reading) (merges : List (List ℕ)) (b c : Reading) → HaveSameSides b c
    → IsIdleExclusion g merges b → IsIdleExclusion g merges c
idle_exclusion_alike g merges b c same idle = record {
  negative = negative_alike b.mode c.mode same.sign idle.negative;
  excludes = λ refs i n d maps by. idle.excludes refs i n d maps (excluded_alike n by);
  merged = λ n one by. idle.merged n one (excluded_alike n by);
}
  where
    negative_alike : (m n : Mode) → IsPositive m ↔ IsPositive n → m ≡ Negative → n ≡ Negative
    negative_alike m Normal sign is = absurd (subst IsPositive is (sign.1 tt))
    negative_alike m Forced sign is = absurd (subst IsPositive is (sign.1 tt))
    negative_alike m Negative sign is = refl

    excluded_alike : (n : List ℕ) → IsExcludedBy n c → IsExcludedBy n b
    excluded_alike n by = record {
      negative = idle.negative;
      text = by.text;
      source = same.source ∙ by.source;
      excludes = by.excludes;
    }

-- whether a negative spec is idle is told by an earlier one with the same sides
pub tells_behind : (g : List Reading) (merges : List (List ℕ)) (cs : List Reading) (k p : ℕ) (b : Bool)
    → IsEarlier cs k p → TellsIdle g merges cs p b → TellsIdle g merges cs k b
tells_behind g merges cs k p true earlier tells c here =
    let (q, at, same) = earlier_at cs k p c here earlier in
    idle_exclusion_alike g merges q c same (tells q at)
tells_behind g merges cs k p false earlier tells c here =
    let (q, at, same) = earlier_at cs k p c here earlier in
    λ idle. tells q at (idle_exclusion_alike g merges c q (turned q c same) idle)

-- ---- specs that fetch nothing

pub dead_alike : (g : List Reading) (p k : ℕ) → MapAlike g p k → IsDead g p → IsDead g k
dead_alike g p k alike dead refs s d f = dead refs s d (fetches_from g p k alike refs s d f)

-- ---- what a spec of patterns writes

pub written_fits : (r : Reading) → ∥ IsAccepted r ∥₁ → (x : List ℕ) → r.destination ≡ Some x → (refs : List Ref)
    (s : Source) (n before after : List ℕ) (word : Option (Bor (List ℕ)))
    → ((y : List ℕ) × (Some x ≡ Some y) × IsSplit before after y)
    → MatchOption word ((w : List ℕ) → ¬ (Fits before after n w)) (λ w. Fits before after n w.now)
    → MakesForward refs s (Some n) r → IsTrue (is_some word)
written_fits r accepted x has refs s n before after (Some w) parts fits makes = refl
written_fits r accepted x has refs s n before after None (y, is, split) none makes =
    let m = maps_pattern r accepted y before after (has ∙ is) split refs s n makes in
    absurd (none m.word m.fits)

-- ---- the reason of a spec behind another one with the same sides

module _ (g cs : List Reading) (all : AllZip IsCompleted g cs) (k p : ℕ) (earlier : IsEarlier cs k p) (r : Reading)
    (here : slice_get cs k ≡ Some r) (positive : IsPositive r.mode) (why : Option Reason)
    (told : (b : Reading) → slice_get cs p ≡ Some b → IsReasonOf g p b why) where
  map_both : MapAlike g p k
  map_both = map_alike g cs all k p (slice_get_within cs k r here) earlier

  pub behind_none : why ≡ None → IsReasonOf g k r (Some (reason.Duplicate p))
  behind_none none =
      let (b, there, same) = earlier_at cs k p r here earlier in (
        positive,
        idle_behind g p k map_both earlier.before
            (subst (IsReasonOf g p b) none (told b there) (same.sign.1 positive)),
      )

  pub behind_some : (w : Reason) → why ≡ Some w → w ≢ reason.Duplicates → IsReasonOf g k r (Some w)
  behind_some w some other =
      let (b, there, same) = earlier_at cs k p r here earlier in
      (positive, idle_alike g p k map_both earlier.before w other (subst (IsReasonOf g p b) some (told b there)).1)

-- ---- the list of earlier specs

pushed_or : (xs : List (Option ℕ)) (y : Option ℕ) (j : ℕ) → (get_or (xs ++ y ∷ []) j None ≡ get_or xs j None)
    ⊎ ((j ≡ length xs) × (get_or (xs ++ y ∷ []) j None ≡ y))
pushed_or [] y zero = inr (refl, refl)
pushed_or [] y (suc j) = inl refl
pushed_or (z ∷ xs) y zero = inl refl
pushed_or (z ∷ xs) y (suc j) = elim (pushed_or xs y j) [
  | inl same ↦ inl same
  | inr (at, is) ↦ inr (ap suc at, is)
]

pub earlier_more : (cs : List Reading) (k : ℕ) (old new : List (Option ℕ)) (x : Option ℕ) → length old ≡ k
    → new ≡ old ++ x ∷ [] → IfSome x (IsEarlier cs k) → AreEarlier cs old → AreEarlier cs new
earlier_more cs k old new x long grew here so_far j = elim (pushed_or old x j) [
  | inl same ↦ subst (λ (o : Option ℕ). IfSome o (IsEarlier cs j))
      (sym (ap (λ (l : List (Option ℕ)). get_or l j None) grew ∙ same)) (so_far j)
  | inr (at, is) ↦ subst (λ (o : Option ℕ). IfSome o (IsEarlier cs j))
      (sym (ap (λ (l : List (Option ℕ)). get_or l j None) grew ∙ is))
      (subst (λ (n : ℕ). IfSome x (IsEarlier cs n)) (sym (at ∙ long)) here)
]

-- ---- what is known of a pair

pub flag_tells : (b : Bool) (i j : ℕ) {K : Type 0} → i < j → (b ≡ false → K) → MatchBool b (i < j) ((j ≤ i) ⊎ K)
flag_tells true i j before known = before
flag_tells false i j before known = inr (known refl)
