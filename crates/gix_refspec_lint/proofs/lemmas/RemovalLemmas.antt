-- What is told of a value that is left out, by what is found.
use Rattle.gix_refspec_lint.proofs.Common.{◌≡◌, ◌≢◌, ◌↔◌, ◌⊎◌, inl, inr, ℕ, zero, suc, ◌<◌, ◌≤◌, ◌+◌, Bool, true, false}
use Rattle.gix_refspec_lint.proofs.Common.{MatchBool, MatchOption, not, List, [], ◌∷◌, ◌++◌, Option, None, Some, map}
use Rattle.gix_refspec_lint.proofs.Common.{length, take, drop, get_or, refl, sym, ap, ◌∙◌, subst, arith, AllByRecursion}
use Rattle.gix_refspec_lint.proofs.Common.{Contains, slice_get, of_element, same_Some, false≢true, is_some, one_word}
use Rattle.gix_refspec_lint.proofs.Common.{Fits, Ref, HasName, HasOneStar, IsPositive, Negative, Reading, RefSpecRef}
use Rattle.gix_refspec_lint.proofs.Common.{reading_of, Source, name, id, IsSourceExcluded, MakesForward, HaveSameNames}
use Rattle.gix_refspec_lint.proofs.Common.{has_also, IsRefName, IsValidSource, IsCompleted, AreValid, MakesSoundly}
use Rattle.gix_refspec_lint.proofs.Common.{refs_of, Common, mapped_there, slice_get_within, get_or_from_slice_get}
use Rattle.gix_refspec_lint.proofs.Common.{HasPlainSource, Contains-append_left, Contains-append_right, length-map}
use Rattle.gix_refspec_lint.proofs.Common.{length-take-le, map-append, one_more_mapped, get_or_default, reading_once}
use Rattle.gix_refspec_lint.proofs.Common.{SideKind, pattern, full_name, object, partial, HasKind, Matches, MatchesAs}
use Rattle.gix_refspec_lint.proofs.Common.{matches_as, candidates, candidate_contained, ref_named, Bor, HasParts}
use Rattle.gix_refspec_lint.proofs.lemmas.IndexLemmas.{reading_at, excluded_at, made_there, makes_fewer, own_among}
use Rattle.gix_refspec_lint.proofs.lemmas.IndexLemmas.{own_there, zip_of}
use mathlib.Core.Bool.{beq}
use Rattle.std.proofs.lemmas.List.Elements.{Contains-append_cases}
use Rattle.gix_refspec_text.proofs.lemmas.lists.MapLemmas.{map_next}
use Rattle.gix_refspec_match.proofs.lemmas.lists.JoinLemmas.{nothing_made}
use Rattle.gix_refspec_plan.specs.Matching.Stale.{AreStale, Found, IsKeptBy, IsStale}
use Rattle.gix_refspec_plan.specs.Views.Stale.{found_of}
use Rattle.gix_refspec_plan.specs.declared.stale.Stale.{Stale}
use Rattle.gix_refspec_lint.specs.Laws.Lint.{without}
use Rattle.gix_refspec_lint.specs.Matching.Removal.{IsFirst, IsStaleByOne, MergesFirst, PruneOtherwise}
use Rattle.gix_refspec_lint.specs.declared.removal.pruning.Lists.{Lists}
use Rattle.gix_refspec_plan.proofs.lemmas.stale.{FetchedLemmas.no_object_named, ZipLemmas.zip_partner}
use Rattle.gix_refspec_plan.specs.Private.Stales.{IsNamedBy}
use Rattle.gix_refspec_lint.specs.Private.Removals.{AreLists, rest_of, ArePositives, AreSameAmong, AreSameOverlapping}
use Rattle.gix_refspec_lint.specs.Private.Removals.{FetchesSome, FetchesSource, IsSameAlone, IsSameFrom, IsWith}

-- ---- one local ref

abbrev Tells : List Reading → List Ref → List Ref → ℕ → Ref → Found → Type 0
Tells g remote locals k local f = (f.item ≡ k) × ¬ (HasName (take k locals) local.name)
    × MatchOption f.kept_by (IsStale g remote local.name) (IsKeptBy g remote local.name)

told_none : (g : List Reading) (remote : List Ref) (local : Ref) → AreStale g remote (local ∷ []) []
    → ¬ (IsStale g remote local.name)
told_none g remote local made stale =
    let f : Found = record { item = 0; kept_by = None } in
    let told : Tells g remote (local ∷ []) 0 local f = (refl, (λ none. none), stale) in
    nothing_made (Tells g remote (local ∷ [])) 0 [] local [] f made told

told_kept : (g : List Reading) (remote : List Ref) (n : List ℕ) (kept : Option ℕ)
    → MatchOption kept (IsStale g remote n) (IsKeptBy g remote n) → (b : Bool) → is_some kept ≡ not b
    → MatchBool b (IsStale g remote n) (¬ (IsStale g remote n))
told_kept g remote n None stale true told = stale
told_kept g remote n None stale false told = absurd (false≢true told)
told_kept g remote n (Some k) kept true told = absurd (false≢true (sym told))
told_kept g remote n (Some k) kept false told = λ stale. stale.included kept.source kept.is_source
    (excluded_at g k kept.negative kept.source kept.at kept.excludes)

told_some : (g : List Reading) (remote : List Ref) (local : Ref) (f : Found) (found : List Found)
    → AreStale g remote (local ∷ []) (f ∷ found) → (b : Bool) → is_some f.kept_by ≡ not b
    → MatchBool b (IsStale g remote local.name) (¬ (IsStale g remote local.name))
told_some g remote local f found (None, rest, makes, more, is) b told =
    absurd (let never : f ∷ found ≡ [] = is ∙ more in cc (never))
told_some g remote local f found (Some y, rest, makes, more, is) b told =
    let same : y ≡ f = same_Some _ _ (ap (λ (l : List Found). slice_get l 0) (sym is)) in
    told_kept g remote local.name f.kept_by
    (subst (λ (x : Found). MatchOption x.kept_by (IsStale g remote local.name) (IsKeptBy g remote local.name)) same
    makes.2) b told

pub stale_none : (g : List Reading) (remote : List Ref) (local : Ref) (l : List Stale) → AreStale g remote (local ∷ [])
    (map found_of l) → slice_get l 0 ≡ None → ¬ (IsStale g remote local.name)
stale_none g remote local [] made none = told_none g remote local made
stale_none g remote local (s ∷ l) made none = absurd (let never : Some s ≡ None = none in cc (never))

pub stale_some : (g : List Reading) (remote : List Ref) (local : Ref) (l : List Stale) (s : Stale)
    → AreStale g remote (local ∷ []) (map found_of l) → slice_get l 0 ≡ Some s → (b : Bool) → is_some s.kept_by ≡ not b
    → MatchBool b (IsStale g remote local.name) (¬ (IsStale g remote local.name))
stale_some g remote local [] s made some b told = absurd (let never : None ≡ Some s = some in cc (never))
stale_some g remote local (x ∷ l) s made some b told =
    let same : x ≡ s = same_Some _ _ some in
    told_some g remote local (found_of x) (map found_of l) made b (ap (λ (y : Stale). is_some y.kept_by) same ∙ told)

module _ (g h : List Reading) where
  pub differ_told : (remote : List Ref) (n : List ℕ) (b c : Bool) → MatchBool b (IsStale g remote n)
      (¬ (IsStale g remote n)) → MatchBool c (IsStale h remote n) (¬ (IsStale h remote n)) → IsRefName n
      → MatchBool (not (beq b c)) (IsRefName n × IsStaleByOne g h remote n)
      (IsRefName n → ¬ (IsStaleByOne g h remote n))
  differ_told remote n true true one other named = λ again differ. elim differ [ inl x ↦ x.1 other | inr x ↦ x.0 one ]
  differ_told remote n true false one other named = (named, inl (one, other))
  differ_told remote n false true one other named = (named, inr (one, other))
  differ_told remote n false false one other named = λ again differ. elim differ [ inl x ↦ one x.0 | inr x ↦ other x.1 ]

  pub alone_told : (n : List ℕ) (b : Bool) → MatchBool b (IsRefName n × IsStaleByOne g h [] n)
      (IsRefName n → ¬ (IsStaleByOne g h [] n)) → MatchBool b (PruneOtherwise g h) (IsSameAlone g h n)
  alone_told n true (named, differ) = record { remote = []; valid = tt; local = n; named = named; differ = differ }
  alone_told n false same = same

  stale_names : (l : List Reading) (A B : List Ref) (n : List ℕ) → HaveSameNames A B → IsStale l A n → IsStale l B n
  stale_names l A B n same stale = record {
    writable = stale.writable;
    no_object = stale.no_object;
    absent =
        λ s source has. stale.absent s source (has_also B A s (sym same) has);
    included = stale.included;
  }

  differ_names : (A B : List Ref) (n : List ℕ) → HaveSameNames A B → IsStaleByOne g h A n → IsStaleByOne g h B n
  differ_names A B n same (inl (stale, none)) =
      inl (stale_names g A B n same stale, λ also. none (stale_names h B A n (sym same) also))
  differ_names A B n same (inr (none, stale)) = inr (
    (λ also. none (stale_names g B A n (sym same) also)),
    stale_names h A B n same stale,
  )

  refs_valid : (s : Source) → IsValidSource s → AreValid (refs_of s)
  refs_valid (name n) valid = (valid, tt)
  refs_valid (id bytes) valid = tt

  pub with_told : (n : List ℕ) (s : Source) (refs : List Ref) (b : Bool) → HaveSameNames refs (refs_of s)
      → IsValidSource s → MatchBool b (IsRefName n × IsStaleByOne g h refs n)
      (IsRefName n → ¬ (IsStaleByOne g h refs n))
      → MatchBool b (PruneOtherwise g h) (IsValidSource s → IsRefName n → ¬ (IsStaleByOne g h (refs_of s) n))
  with_told n s refs true same valid (named, differ) = record {
    remote = refs_of s;
    valid = refs_valid s valid;
    local =
        n;
    named = named;
    differ = differ_names refs (refs_of s) n same differ;
  }
  with_told n s refs false same valid none = λ valid named differ. none named
      (differ_names (refs_of s) refs n (sym same) differ)

  pub from_told : (p t a b s word local : List ℕ) → Fits p t s word → local ≡ a ++ (word ++ b) → (does : Bool)
      → MatchBool does (PruneOtherwise g h) (IsSameAlone g h local) → MatchBool does (PruneOtherwise g h)
      (IsSameFrom g h p t a b s)
  from_told p t a b s word local fits made true differ = differ
  from_told p t a b s word local fits made false same = λ w also. subst (IsSameAlone g h)
      (made ∙ ap (λ o. a ++ (o ++ b)) (one_word p t s word w fits also)) same

  pub among_told : (words : List (List ℕ)) (common : Common)
      → AllByRecursion (λ w. IsSameAlone g h (common.prefix.now ++ (w ++ common.suffix.now))) words → (does : Bool)
      → MatchBool does (PruneOtherwise g h) (AreSameOverlapping g h common) → MatchBool does (PruneOtherwise g h)
      (AreSameAmong g h words common)
  among_told words common tried true differ = differ
  among_told words common tried false same = λ n deciding. elim deciding [
    | inl (w, there, is) ↦ subst (IsSameAlone g h) (sym is)
        (of_element (λ w. IsSameAlone g h (common.prefix.now ++ (w ++ common.suffix.now))) words w tried there)
    | inr (k, most, overlap, is) ↦ subst (IsSameAlone g h) (sym is) (same k most overlap)
  ]

-- ---- the values without one

in_cases : (x : Reading) (l : List Reading) (q : Reading) → Contains (x ∷ l) q → (q ≡ x) ⊎ Contains l q
in_cases x l q (zero, below, is) = inl (sym is)
in_cases x l q (suc k, below, is) = inr (k, omega (arith, below), is)

in_first : (x : Reading) (l : List Reading) (q : Reading) → q ≡ x → Contains (x ∷ l) q
in_first x l q is = (zero, omega arith, sym is)

in_later : (x : Reading) (l : List Reading) (q : Reading) → Contains l q → Contains (x ∷ l) q
in_later x l q there = Contains-append_right (x ∷ []) l q there

pub rest_in : (l : List Reading) (k : ℕ) (q : Reading) → Contains (without k l) q → Contains l q
rest_in [] k q there = there
rest_in (x ∷ l) zero q there = in_later x l q there
rest_in (x ∷ l) (suc k) q there = elim (in_cases x (without k l) q there) [
  | inl is ↦ in_first x l q is
  | inr more ↦
      in_later x l q (rest_in l k q more)
]

all_in : (l : List Reading) (k : ℕ) (r : Reading) → slice_get l k ≡ Some r → (q : Reading) → Contains l q
    → Contains (without k l) q ⊎ (q ≡ r)
all_in [] k r at q there = absurd (let never : None ≡ Some r = at in cc (never))
all_in (x ∷ l) zero r at q there = elim (in_cases x l q there) [
  | inl is ↦ inr (is ∙ same_Some _ _ at)
  | inr more ↦
      inl more
]
all_in (x ∷ l) (suc k) r at q there = elim (in_cases x l q there) [
  | inl is ↦ inl (in_first x (without k l) q is)
  | inr more ↦ elim (all_in l k r at q more) [ inl inside ↦ inl (in_later x (without k l) q inside) | inr is ↦ inr is ]
]

-- g is the list without the one at k, and that
pub without_with : (g : List Reading) (k : ℕ) (r : Reading) → slice_get g k ≡ Some r → IsWith g (without k g) r
without_with g k r at =
    record {
      rest = rest_in g k;
      one = (k, slice_get_within g k r at, get_or_from_slice_get g k r r at);
      all =
          all_in g k r at;
    }

-- one more element
pub without_skip : (l : List Reading) (x : Reading) (k : ℕ) → k ≡ length l → without k (l ++ x ∷ []) ≡ without k l
without_skip [] x zero is = refl
without_skip [] x (suc k) is = absurd (omega (arith, is))
without_skip (y ∷ l) x zero is = absurd (omega (arith, is))
without_skip (y ∷ l) x (suc k) is = ap (λ t. y ∷ t) (without_skip l x k (omega (arith, is)))

pub without_push : (l : List Reading) (x : Reading) (k : ℕ) → k ≢ length l → without k (l ++ x ∷ []) ≡ without k l
    ++ x ∷ []
without_push [] x zero not = absurd (not refl)
without_push [] x (suc k) not = refl
without_push (y ∷ l) x zero not = refl
without_push (y ∷ l) x (suc k) not = ap (λ t. y ∷ t) (without_push l x k (λ is. not (omega (arith, is))))

pub without_beyond : (l : List Reading) (k : ℕ) → length l ≤ k → without k l ≡ l
without_beyond [] k long = refl
without_beyond (y ∷ l) zero long = absurd (omega (arith, long))
without_beyond (y ∷ l) (suc k) long = ap (λ t. y ∷ t) (without_beyond l k (omega (arith, long)))

pub without_pushed : (values : List RefSpecRef) (i k : ℕ) (x : RefSpecRef) (rest new : List RefSpecRef)
    → i < length values → x ≡ get_or values i x → k ≢ i → map reading_of rest ≡ without k
    (map reading_of (take i values)) → new ≡ rest ++ x ∷ []
    → map reading_of new ≡ without k (map reading_of (take (i + 1) values))
without_pushed values i k x rest new below is not so_far more =
    let long : length (map reading_of (take i values)) ≡ i = length-map (take i values) reading_of
    ∙ length-take-le i values (omega (arith, below)) in
    ap (map reading_of) more ∙ map-append reading_of rest (x ∷ []) ∙ ap (λ l. l ++ reading_of x ∷ []) so_far
    ∙ sym (without_push (map reading_of (take i values)) (reading_of x) k (λ same. not (same ∙ long)))
    ∙ ap (without k) (sym (map_next reading_of values i x below is))

pub without_skipped : (values : List RefSpecRef) (i k : ℕ) (x : RefSpecRef) (rest : List RefSpecRef) → i < length values
    → x ≡ get_or values i x → k ≡ i → map reading_of rest ≡ without k (map reading_of (take i values))
    → map reading_of rest ≡ without k (map reading_of (take (i + 1) values))
without_skipped values i k x rest below is same so_far =
    let long : length (map reading_of (take i values)) ≡ i = length-map (take i values) reading_of
    ∙ length-take-le i values (omega (arith, below)) in
    so_far ∙ sym (without_skip (map reading_of (take i values)) (reading_of x) k (same ∙ sym long))
    ∙ ap (without k) (sym (map_next reading_of values i x below is))

-- ---- positive values

pub push_positive : (g l : List Reading) (x : Reading) → ArePositives g l → IsPositive x.mode
    → ArePositives (g ++ x ∷ []) (l ++ x ∷ [])
push_positive g l x are positive = record {
  each = λ r there. elim (Contains-append_cases l (x ∷ []) r there) [
    | inl before ↦ (Contains-append_left g (x ∷ []) r (are.each r before).0, (are.each r before).1)
    | inr last ↦ elim (in_cases x [] r last) [
      | inl is ↦ (
        Contains-append_right g (x ∷ []) r last,
        subst (λ (q : Reading). IsPositive q.mode)
            (sym is) positive,
      )
      | inr none ↦ absurd (omega (arith, none.1))
    ]
  ];
  all = λ r there own. elim (Contains-append_cases g (x ∷ []) r there) [
    | inl before ↦ Contains-append_left l (x ∷ []) r
        (are.all r before own)
    | inr last ↦ Contains-append_right l (x ∷ []) r last
  ];
}

pub skip_positive : (g l : List Reading) (x : Reading) → ArePositives g l → x.mode ≡ Negative
    → ArePositives (g ++ x ∷ []) l
skip_positive g l x are negative = record {
  each = λ r there. (Contains-append_left g (x ∷ []) r (are.each r there).0, (are.each r there).1);
  all = λ r there own. elim (Contains-append_cases g (x ∷ []) r there) [
    | inl before ↦ are.all r before own
    | inr last ↦ elim (in_cases x [] r last) [
      | inl is ↦ absurd (subst IsPositive (ap (λ (q : Reading). q.mode) is ∙ negative) own)
      | inr none ↦
          absurd (omega (arith, none.1))
    ]
  ];
}

pub positive_pushed : (values : List RefSpecRef) (i : ℕ) (x : RefSpecRef) (old new : List RefSpecRef)
    → i < length values → x ≡ get_or values i x → ArePositives (map reading_of (take i values)) (map reading_of old)
    → IsPositive (reading_of x).mode
    → new ≡ old ++ x ∷ [] → ArePositives (map reading_of (take (i + 1) values)) (map reading_of new)
positive_pushed values i x old new below is are positive more =
    subst (λ g. ArePositives g (map reading_of new)) (sym (map_next reading_of values i x below is))
    (subst (ArePositives (map reading_of (take i values) ++ reading_of x ∷ []))
    (sym (ap (map reading_of) more ∙ map-append reading_of old (x ∷ [])))
    (push_positive (map reading_of (take i values)) (map reading_of old) (reading_of x) are positive))

pub positive_skipped : (values : List RefSpecRef) (i : ℕ) (x : RefSpecRef) (old : List RefSpecRef) → i < length values
    → x ≡ get_or values i x → ArePositives (map reading_of (take i values)) (map reading_of old)
    → (reading_of x).mode ≡ Negative
    → ArePositives (map reading_of (take (i + 1) values)) (map reading_of old)
positive_skipped values i x old below is are negative =
    subst (λ g. ArePositives g (map reading_of old)) (sym (map_next reading_of values i x below is))
    (skip_positive (map reading_of (take i values)) (map reading_of old) (reading_of x) are negative)

-- one more name of a list of overlaps
pub one_more_overlap : (P : List ℕ → Type 0) (prefix suffix : List ℕ) (list : List ℕ) (i : ℕ)
    → AllByRecursion P (map (λ k. prefix ++ drop k suffix) (take i list)) → i < length list
    → P (prefix ++ drop (get_or list i 0) suffix)
    → AllByRecursion P (map (λ k. prefix ++ drop k suffix) (take (i + 1) list))
one_more_overlap P prefix suffix list i all below holds = one_more_mapped (λ k. prefix ++ drop k suffix) P list i
    (get_or list i 0) all below (get_or_default list i 0 (get_or list i 0) below) holds

-- ---- what `git pull` merges

pub fetch_told : (g : List Reading) (c : Reading) (s : Source) (b : Bool) → ¬ (IsSourceExcluded g s)
    → MatchBool b ((d : Option (List ℕ)) × MakesSoundly (refs_of s) s d c)
    ((d : Option (List ℕ)) → ¬ (MakesSoundly (refs_of s) s d c))
    → MatchBool b (FetchesSource g c s) (¬ (FetchesSource g c s))
fetch_told g c s true included (d, makes) = (refs_of s, d, makes, included)
fetch_told g c s false included none = λ (refs, d, makes, also).
    none d (record {
      makes = makes_fewer refs (refs_of s) s d c (own_among refs s (made_there refs s d c makes.makes))
          (own_there s) makes.makes;
      source = makes.source;
      destination = makes.destination;
    })

-- the first value of a list, with its destination completed
pub merges_first : (g : List Reading) (r c : Reading) → slice_get g zero ≡ Some r → IsCompleted r c
    → ((x : List ℕ) → r.source ≡ Some x → ¬ (HasOneStar x)) → (does : Bool) → MatchBool does (FetchesSome g c)
    (¬ (FetchesSome g c))
    → MatchBool does (MergesFirst g) (¬ (MergesFirst g))
merges_first g r c at done plain true (s, (refs, d, makes, included)) = record {
  reading = r;
  at = at;
  plain = plain;
  refs = refs;
  source = s;
  destination = d;
  fetches = record {
    maps = record {
      maps = record { reading = r; at = at; completed = c; is = done; makes = makes.makes };
      source =
          makes.source;
      destination = makes.destination;
    };
    included = included;
  };
}
merges_first g r c at done plain false none = λ m.
    let f = m.fetches in
    let maps = f.maps.maps in
    let readings : maps.reading ≡ r = same_Some _ _ (sym maps.at ∙ at) in
    let same : maps.completed ≡ c = reading_once r maps.completed c
    (subst (λ q. IsCompleted q maps.completed) readings maps.is) done in
    none (
      m.source,
      (
        m.refs,
        m.destination,
        record {
          makes = subst (MakesForward m.refs m.source m.destination) same maps.makes;
          source = f.maps.source;
          destination = f.maps.destination;
        },
        f.included,
      ),
    )

-- ---- what is found among the rest

pub told_else : (A N M : Type 0) (b : Bool) → (N → M) → MatchBool b A N → MatchBool b A M
told_else A N M true turn told = told
told_else A N M false turn told = turn told

-- the reading of which the value at an index is the completed one
pub other_at : (lists : Lists) (r : Reading) → AreLists r lists → (i : ℕ) (x : RefSpecRef) → i < length lists.others.now
    → x ≡ get_or lists.others.now i x → (q : Reading) × Contains (rest_of lists) q × IsCompleted q (reading_of x)
other_at lists r are i x below is =
    let (q, at, done) = zip_of (rest_of lists) (map reading_of lists.others.now) are.others i
    (reading_of (get_or lists.others.now i x)) (reading_at lists.others.now i x below) in (
      q,
      (i, slice_get_within (rest_of lists) i q at, get_or_from_slice_get (rest_of lists) i q q at),
      subst (λ y. IsCompleted q (reading_of y)) (sym is) done,
    )

-- what holds of each completed one holds of each reading
pub each_other : (lists : Lists) (r : Reading) → AreLists r lists → (P : Reading → Type 0)
    → AllByRecursion (λ x. (q : Reading) → Contains (rest_of lists) q → IsCompleted q x → P q)
    (map reading_of lists.others.now)
    → (q : Reading) → Contains (rest_of lists) q → P q
each_other lists r are P all q inside =
    let (x, related, there) = zip_partner IsCompleted (rest_of lists) (map reading_of lists.others.now) q are.others
    inside in
    of_element (λ x. (q : Reading) → Contains (rest_of lists) q → IsCompleted q x → P q)
    (map reading_of lists.others.now) x all there q inside related

-- ---- the sources of a value without stars

abbrev pub AreNamedAs : List ℕ → SideKind → List Source → Type 0
AreNamedAs x (pattern before after) sources = Unit {0}
AreNamedAs x (full_name n) sources = sources ≡ name x ∷ []
AreNamedAs x (object bytes) sources = Unit {0}
AreNamedAs x (partial n) sources = sources ≡ map name (candidates n)

pub named_there : (r : Reading) (x : List ℕ) → r.source ≡ Some x → (kind : SideKind) → HasKind x kind
    → (sources : List Source) → AreNamedAs x kind sources → (s : List ℕ) → IsNamedBy r s → Contains sources (name s)
named_there r x has kind of sources are s named =
    by_kind kind of are
    (matches_as x kind (ref_named s) None of
    (subst (λ (y : List ℕ). Matches y (ref_named s) None) (same_Some _ _ (sym named.is ∙ has)) named.stands))
  where
    by_kind : (kind : SideKind) → HasKind x kind → AreNamedAs x kind sources → MatchesAs kind (ref_named s) None
        → Contains sources (name s)
    by_kind (pattern before after) of are holds = absurd holds
    by_kind (full_name n) of are holds = rw are (zero, omega arith, ap name (sym of.0 ∙ sym holds.1))
    by_kind (object bytes) of are holds = absurd (no_object_named x s None bytes of holds)
    by_kind (partial n) of are holds = rw are (mapped_there name (candidates n) s (candidate_contained n s holds.1))

pub first_told : (g rest : List Reading) (k : ℕ) (does : Bool) → k ≡ zero → ¬ (MergesFirst g) → rest ≡ without k g
    → MatchBool does (MergesFirst rest) (¬ (MergesFirst rest)) → (does ≡ true) ↔ IsFirst g k
first_told g rest k true at none same merges = ((λ told. (at, inr (subst MergesFirst same merges))), λ first. refl)
first_told g rest k false at none same never = (
  (λ told. absurd (false≢true told)),
  (λ first. absurd (elim first.1 [ inl own ↦ none own | inr other ↦ never (subst MergesFirst (sym same) other) ])),
)

pub star_first : (g : List Reading) (r : Reading) → slice_get g zero ≡ Some r
    → (found : Option (Bor (List ℕ) × Bor (List ℕ))) → HasParts r.source found → is_some found ≡ true
    → ¬ (MergesFirst g)
star_first g r at None parts told m = false≢true told
star_first g r at (Some parts) (x, has, split) told m =
    let readings : m.reading ≡ r = same_Some _ _ (sym m.at ∙ at) in
    m.plain x (ap (λ (q : Reading). q.source) readings ∙ has) (parts.0.now, parts.1.now, split)

pub none_first : (g : List Reading) → length g ≡ 0 → ¬ (MergesFirst g)
none_first g none m = omega (arith, none, slice_get_within g zero m.reading m.at)

pub plain_first : (r c : Reading) → IsCompleted r c → (found : Option (Bor (List ℕ) × Bor (List ℕ)))
    → HasParts r.source found → is_some found ≡ false → HasPlainSource c
    × ((x : List ℕ) → r.source ≡ Some x → ¬ (HasOneStar x))
plain_first r c done (Some parts) has told = absurd (false≢true (sym told))
plain_first r c done None none told = (
  (λ x before after is. none x before after (sym done.source ∙ is)),
  (λ x is one. none x one.0 one.1 is one.2),
)
