-- Which destinations are written, the verdicts by that, and the updates of mappings, one by one.
use Rattle.gix_refspec_plan.proofs.Common.{Contains-append_cases, IsMappingCopy, copied_mapping, ◌≡◌, ◌≢◌, ◌⊎◌, ◌↔◌}
use Rattle.gix_refspec_plan.proofs.Common.{inl, inr, ℕ, zero, suc, ◌+◌, ◌<◌, Bool, Bor, true, false, cond, List, []}
use Rattle.gix_refspec_plan.proofs.Common.{◌∷◌, ◌++◌, Option, None, Some, is_some, bytes_eq, map, take, get_or, length}
use Rattle.gix_refspec_plan.proofs.Common.{refl, sym, ap, ◌∙◌, subst, arith, BTreeMap, UpdatesBy, get_by, slice_cmp}
use Rattle.gix_refspec_plan.proofs.Common.{nat_cmp, Any, Contains, false≢true, All-from_recursion, bytes_eq-Decides}
use Rattle.gix_refspec_plan.proofs.Common.{Mapping, Mapped, IsSamePair, AreApart, mapped_of, IsContested, IsSound}
use Rattle.gix_refspec_plan.proofs.Common.{IsTakenOver, CountDestinations, HasTwo, IsCount, TellContested, WritesTo}
use Rattle.gix_refspec_plan.proofs.Common.{rules, same_Some, some_at, some_of, IsTrue, IsSome, MatchOption, option_map}
use Rattle.gix_refspec_plan.proofs.Common.{length-append, drop, is_at, lookup, AllByRecursion, AllZip, slice_get}
use Rattle.gix_refspec_plan.proofs.Common.{drop-append_seam, take-append-add, take-append_seam, get_or-append-add}
use Rattle.gix_refspec_plan.proofs.Common.{get_or-map, get_or_default, length-map, map-append, slice_get-map}
use Rattle.gix_refspec_plan.proofs.Common.{slice_get_read, DeclaredAsked, Origin, Update, Verdict, Ref, IsMadeFrom}
use Rattle.gix_refspec_plan.proofs.Common.{HasPair, FlagsDuplicates, IsDuplicate, IsFlagged, AreMapped, Asked}
use Rattle.gix_refspec_plan.proofs.Common.{HasOrigin, HasSecondVerdict, HasVerdict, IsCompleted, IsPlanned}
use Rattle.gix_refspec_plan.proofs.Common.{IsPlannedBesides, IsTracked, Planned, Wish, AreFirst, AreJudged, AreMappings}
use Rattle.gix_refspec_plan.proofs.Common.{AreSecond, FlagKnown, planned_by, asked_of, planned_of, each_mapped}
use Rattle.gix_refspec_plan.proofs.Common.{Contains-append_left, Contains-push, Contains-push_cases}
use Rattle.gix_refspec_plan.proofs.Common.{AreSoundDestinations, AreNested, IsNestedAmong, IsObstructed, TellNested}
use Rattle.gix_refspec_plan.proofs.Common.{TellNestedIn}
use Rattle.gix_refspec_plan.proofs.lemmas.plan.DirectoryLemmas.{some_told, texts}
use Rattle.gix_refspec_plan.proofs.lemmas.plan.NameLemmas.{zip_at, zip_long}
use Rattle.gix_refspec_plan.proofs.lemmas.plan.MadeLemmas.{one_in, made_one, made_none, there}
use Rattle.std.proofs.lemmas.Map.Text.{btree_map_updates_str}
use Rattle.gix_refspec.specs.Matching.Validation.{HasConflictAt}
use Rattle.gix_refspec.proofs.lemmas.validate.FirstLemmas.{start_cases}
use Rattle.gix_refspec.proofs.lemmas.validate.AfterLemmas.{forward_fits}
use Rattle.gix_refspec_match.proofs.lemmas.keep.KeptLemmas.{HasPair-left, by_pair, duplicate_at, kept_once}
use Rattle.gix_refspec_match.proofs.lemmas.keep.RepeatLemmas.{some_mapping}

module _ {X : Type 0} (P : X → Type 0) where
  any_cons : (x : X) (l : List X) → Any P (x ∷ l) ↔ (P x ⊎ Any P l)
  any_cons x l = (
    (λ any. search (rules, some_of P (x ∷ l) any, some_at P l)),
    (λ any. some_at P (x ∷ l) (search (rules, any, some_of P l))),
  )

  any_more : (l : List X) (x : X) → Any P (l ++ x ∷ []) ↔ (Any P l ⊎ P x)
  any_more [] x = search (rules, any_cons x [])
  any_more (y ∷ l) x = search (rules, any_cons y l, any_cons y (l ++ x ∷ []), any_more l x)

  two_any : (l : List X) → HasTwo P l → Any P l
  two_any [] two = absurd two
  two_any (x ∷ l) two = search (rules, any_cons x l, two_any l)

  two_more : (l : List X) (x : X) → HasTwo P (l ++ x ∷ []) ↔ (HasTwo P l ⊎ (Any P l × P x))
  two_more [] x = search (rules, some_of P [])
  two_more (y ∷ l) x = search (rules, any_cons y l, any_more l x, two_more l x)

  two_of : (l : List X) (m n : X) → Contains l m → Contains l n → P m → P n → m ≢ n → HasTwo P l
  two_of [] m n has_m has_n is also differ = absurd (omega (arith, has_m.1))
  two_of (x ∷ l) m n has_m has_n is also differ =
      search (
        rules,
        Contains-append_cases (x ∷ []) l m has_m,
        Contains-append_cases (x ∷ []) l n has_n,
        one_in x m,
        one_in x n,
        is,
        also,
        differ,
        two_of l m n,
      )

pub count_same : (l : List Mapped) (x : Mapped) (d : List ℕ) (w : Option Bool) → ¬ (WritesTo d x) → IsCount l d w
    → IsCount (l ++ x ∷ []) d w
count_same l x d w other is = grind (arith, any_more (WritesTo d) l x, two_more (WritesTo d) l x)

count_next : (l : List Mapped) (x : Mapped) (d : List ℕ) (w : Option Bool) → WritesTo d x → IsCount l d w
    → IsCount (l ++ x ∷ []) d (Some (is_some w))
count_next l x d w writes is = grind (
  arith,
  any_more (WritesTo d) l x,
  two_more (WritesTo d) l x,
  two_any (WritesTo d) l,
  false≢true,
)

-- what is known of a destination
abbrev pub count_at : BTreeMap (Bor (List ℕ)) Bool → List ℕ → Option Bool
count_at counts d = get_by (λ k. slice_cmp nat_cmp d k.now) counts

pub counted_more : (l : List Mapped) (m : Mapped) (old new : BTreeMap (Bor (List ℕ)) Bool) (e : Bor (List ℕ))
    (several : Bool) → CountDestinations l old → WritesTo e.now m → several ≡ is_some (count_at old e.now)
    → UpdatesBy (λ x y. slice_cmp nat_cmp x.now y.now) (λ k. slice_cmp nat_cmp e.now k.now) old new (Some several)
    → CountDestinations (l ++ m ∷ []) new
counted_more l m old new e several so_far writes known updates d =
    rw (btree_map_updates_str e.now old new (Some several) updates d) (by (bytes_eq e.now d) refl)
  where
    by : (b : Bool) → bytes_eq e.now d ≡ b → IsCount (l ++ m ∷ []) d (cond b (Some several) (count_at old d))
    by true same = let here = (bytes_eq-Decides e.now d).0 same in rw (known, here)
        (count_next l m d (count_at old d) (rw here at writes) (so_far d))
    by false other = count_same l m d (count_at old d)
        (λ also. false≢true (sym other ∙ (bytes_eq-Decides e.now d).1 (same_Some e.now d (sym writes.1 ∙ also.1))))
        (so_far d)

-- two mappings to a destination, from different sources
rivalry : (l : List Mapped) (d : List ℕ) → AreApart l → HasTwo (WritesTo d) l → (m : Mapped) × (n : Mapped)
    × Contains l m × Contains l n × WritesTo d m × WritesTo d n × (m.source ≢ n.source)
rivalry [] d apart two = absurd two
rivalry (x ∷ l) d apart (inl (writes, (i, y, below, at, also))) =
    let differ = All-from_recursion (λ z. ¬ (IsSamePair x z)) l apart.0 i y below in (
      x,
      y,
      (0, omega arith, refl),
      (suc i, omega (arith, below), at),
      writes,
      also,
      λ same. search (rules, differ, at, writes, also, same),
    )
rivalry (x ∷ l) d apart (inr two) = search (rules, rivalry l d apart.1 two, there x l)

-- what is counted tells of each destination whether it is contested
pub counted_contested : (l : List Mapped) (counts : BTreeMap (Bor (List ℕ)) Bool) → CountDestinations l counts
    → TellContested l counts
counted_contested l counts are d = grind (arith, are d, two_any (WritesTo d) l, false≢true)

-- where no destination is in conflict, an empty map tells that
pub none_contested : (l : List Mapped) (empty : BTreeMap (Bor (List ℕ)) Bool) → AreApart l
    → ((d : List ℕ) → ¬ (HasConflictAt l d)) → empty.entries ≡ [] → TellContested l empty
none_contested l empty apart free none d = rw none (grind (arith, rivalry l d apart, free d, false≢true))

module _ (m : Mapped) (d : List ℕ) (goes : m.destination ≡ Some d) where
  pub taken_told : (l : List Mapped) (w : Option Bool) → IsCount l d w → (is_some w ≡ true) ↔ IsTakenOver l m
  taken_told l w is = grind (arith, is, false≢true)

  pub contested_told : (l : List Mapped) → AreApart l → IsSound m → Contains l m → HasTwo (WritesTo d) l
      ↔ IsContested l m
  contested_told l apart sound has = (
    (λ two. let (x, y, has_x, has_y, x_writes, y_writes, differ) = rivalry l d apart two in search
        (rules, start_cases m.source x.source, x_writes, y_writes, differ, goes, has_x, has_y)),
    (λ (n, contains, sound_n, (e, from, to), differ). search (
      rules,
      two_of (WritesTo d) l m n has contains,
      to ∙ sym from ∙ goes,
      differ,
    )),
  )

-- ---- destinations of which one is a directory of another

pub destinations_same : (l : List Mapped) (x : Mapped) (names : List (Bor (List ℕ))) → ((d : List ℕ) → ¬ (WritesTo d x))
    → AreSoundDestinations l (texts names) → AreSoundDestinations (l ++ x ∷ []) (texts names)
destinations_same l x names other are d = (
  (λ has. (any_more (WritesTo d) l x).1 (inl ((are d).0 has))),
  (λ any. elim ((any_more (WritesTo d) l x).0 any) [
    | inl before ↦ (are d).1 before
    | inr here ↦
        absurd (other d here)
  ]),
)

pub destinations_more : (l : List Mapped) (x : Mapped) (names : List (Bor (List ℕ))) (e : Bor (List ℕ))
    → WritesTo e.now x → AreSoundDestinations l (texts names) → AreSoundDestinations (l ++ x ∷ [])
    (texts (names ++ e ∷ []))
destinations_more l x names e writes are d = rw (map-append (λ (n : Bor (List ℕ)). n.now) names (e ∷ [])) (
  (λ has. (any_more (WritesTo d) l x).1
      (elim (Contains-push_cases (texts names) e.now d has) [
        | inl before ↦ inl ((are d).0 before)
        | inr is ↦
            inr (subst (λ (y : List ℕ). WritesTo y x) is writes)
      ])),
  (λ any. elim ((any_more (WritesTo d) l x).0 any) [
    | inl before ↦ Contains-append_left (texts names) (e.now ∷ []) d ((are d).1 before)
    | inr here ↦ subst (Contains (texts names ++ e.now ∷ [])) (same_Some e.now d (sym writes.1 ∙ here.1))
        (Contains-push (texts names) e.now)
  ]),
)

-- what is told of the destinations is told of the mappings
pub told_nested : (l : List Mapped) (names : List (Bor (List ℕ))) (nested : BTreeMap (Bor (List ℕ)) (Bor (List ℕ)))
    → AreSoundDestinations l (texts names) → TellNestedIn (texts names) nested → TellNested l nested
told_nested l names nested are told d =
    let some = some_told (texts names) d (get_by (λ k. slice_cmp nat_cmp d k.now) nested) (told d) in (
      (λ found. let (has, (e, also, nests)) = some.0 found in ((are d).0 has, (e, (are e).0 also, nests))),
      (λ (any, (e, also, nests)). some.1 ((are d).1 any, (e, (are e).1 also, nests))),
    )

pub obstructed_told : (all : List Mapped) (m : Mapped) (d : List ℕ) (b : Bool) → IsTrue b ↔ IsNestedAmong all d
    → IsSound m → Contains all m → m.destination ≡ Some d → IsTrue b ↔ IsObstructed all m
obstructed_told all m d b told sound (i, inside, here) goes = (
  (λ found. let (any, (e, (k, n, below, at, (sound_n, to)), nests)) =
      told.0 found in (n, (k, below, at), sound_n, (d, e, goes, to, nests))),
  (λ (n, (k, below, at), sound_n, (x, e, from, to, nests)).
      told.1 (
        (i, m, inside, here, (sound, goes)),
        (
          e,
          (k, n, below, at, (sound_n, to)),
          subst (λ (y : List ℕ). AreNested y e) (same_Some x d (sym from ∙ goes))
              nests,
        ),
      )),
)

module _ (ms : List Mapping) (i : ℕ) (m : Mapping) (below : i < length ms) (is : m ≡ get_or ms i m) where
  mapped_here : (d : Mapped) → get_or (map mapped_of ms) i d ≡ mapped_of m
  mapped_here d = get_or-map mapped_of ms i m d below ∙ ap mapped_of (sym is)

  pub has_mapping : Contains (map mapped_of ms) (mapped_of m)
  has_mapping = (i, omega (arith, below, length-map ms mapped_of), mapped_here (mapped_of m))

  pub spec_inside : (asked : List DeclaredAsked) → AreMappings (map asked_of asked) (map mapped_of ms)
      → m.spec_index < length asked
  spec_inside asked are =
      omega (
        arith,
        each_mapped mapped_of (λ n. n.spec < length (map asked_of asked)) ms i m are.fit below is,
        length-map asked asked_of,
      )

  pub verdict_at : (l all : List Mapped) (verdicts : List Verdict) (e : Verdict)
      → AllZip (HasVerdict l all) (map mapped_of ms) verdicts → HasVerdict l all (mapped_of m) (get_or verdicts i e)
  verdict_at l whole verdicts e all = rw (mapped_here (mapped_of m)) at
      (zip_at (HasVerdict l whole) (map mapped_of ms) verdicts i (mapped_of m) e all
      (omega (arith, below, length-map ms mapped_of)))

  pub known_here : (xs : List Mapping) (flags : List Bool) → FlagKnown (map mapped_of xs) (map mapped_of ms) flags
      → IsFlagged flags (length xs + i) ↔ HasPair (map mapped_of xs) (mapped_of m)
  known_here xs flags known = rw (length-map xs mapped_of, mapped_here (mapped_of m)) at
      (known i (mapped_of m) (omega (arith, below, length-map ms mapped_of)))

pub origin_at : (asked : List DeclaredAsked) (m : Mapped) (d : DeclaredAsked) → m.spec < length asked
    → HasOrigin (map asked_of asked) m (get_or asked m.spec d).origin
origin_at asked m d below =
    let a = get_or asked m.spec d in (
      asked_of a,
      slice_get-map asked_of asked m.spec ∙ ap (option_map asked_of)
          (slice_get_read asked (length asked) m.spec a refl below (get_or_default asked m.spec d a below)),
      refl,
    )

pub none_counted : (counts : BTreeMap (Bor (List ℕ)) Bool) → counts.entries ≡ [] → CountDestinations [] counts
none_counted counts empty d =
    subst (λ (es : List (Bor (List ℕ) × Bool)). IsCount [] d (lookup (is_at (λ k. slice_cmp nat_cmp d k.now)) es))
    (sym empty) (λ (i, x, below, at, also). omega (arith, below))

pub only_verdict : (l all : List Mapped) (m : Mapped) (v : Verdict) → HasSecondVerdict [] l all m v
    → HasVerdict l all m v
only_verdict l all m v is = grind arith

module _ (ms : List Mapping) (i : ℕ) (m : Mapping) (old : List Update) (below : i < length ms) (is : m ≡ get_or ms i m)
    (asked : List Asked) (indexes : List ℕ) (firsts l : List Mapped)
    (so_far : IsMadeFrom (λ k x p. IsPlannedBesides asked indexes firsts l x p) 0 (map mapped_of (take i ms))
    (map planned_of old))
    (flags : List Bool) (n : ℕ) (known : IsFlagged flags n ↔ HasPair firsts (mapped_of m)) (b : Bool)
    (told : IsTrue b ↔ (IsSome (mapped_of m).destination × ¬ (IsFlagged flags n))) where
  pub second_next : (new : List Update) (u : Update) (item : Option ℕ) (o : Origin) (v : Verdict) → b ≡ true
      → MatchOption m.item_index (item ≡ None) (λ j. slice_get indexes j ≡ item)
      → HasOrigin asked (mapped_of m) o → HasSecondVerdict firsts l (firsts ++ l) (mapped_of m) v
      → planned_of u ≡ planned_by (mapped_of m) item o v → new ≡ old ++ u ∷ []
      → IsMadeFrom (λ k x p. IsPlannedBesides asked indexes firsts l x p) 0 (map mapped_of (take (i + 1) ms))
      (map planned_of new)
  second_next new u item o v is_new among origin judged same more =
      made_one (λ k x p. IsPlannedBesides asked indexes firsts l x p) mapped_of planned_of ms i m old below is so_far
      new u
      (subst (λ (p : Planned). IsPlannedBesides asked indexes firsts l (mapped_of m) p) (sym same)
      (search (rules, told.0 is_new, known, among, origin, judged))) more

  pub second_same : b ≡ false → IsMadeFrom (λ k x p. IsPlannedBesides asked indexes firsts l x p) 0
      (map mapped_of (take (i + 1) ms)) (map planned_of old)
  second_same is_old = made_none (λ k x p. IsPlannedBesides asked indexes firsts l x p) mapped_of planned_of ms i m old
      below is so_far
      (λ p planned. false≢true (sym is_old ∙ told.1 (planned.updates, λ flagged. planned.new (known.0 flagged))))

-- the updates of as many mappings as there are updates
abbrev pub AreSoMany : List Asked → List Mapped → List Mapping → List Update → Type 0
AreSoMany asked seconds ms updates = IsMadeFrom (λ k x p. IsPlanned asked (map mapped_of ms) seconds x p) 0
    (map mapped_of (take (length updates) ms)) (map planned_of updates)

-- one more of the first list, which is used up
pub first_more : (seconds : List Mapped) (ms xs : List Mapping) (m : Mapping) (asked : List Asked)
    (verdicts : List Verdict) (old new : List Update) (u : Update) (o : Origin) (n : ℕ) (e : Verdict)
    → (length xs < length ms) × (m ≡ get_or ms (length xs) m)
    → AreSoMany asked seconds ms old → length old ≡ length xs
    → AllZip (HasVerdict (map mapped_of ms) (map mapped_of ms ++ seconds)) (map mapped_of ms) verdicts
    → n ≡ length old → HasOrigin asked (mapped_of m) o
    → planned_of u ≡ planned_by (mapped_of m) m.item_index o (get_or verdicts n e) → new ≡ old ++ u ∷ []
    → AreSoMany asked seconds ms new
first_more seconds ms xs m asked verdicts old new u o n e (below, is) so_far long all at origin same more =
    let longer : length new ≡ length old + 1 = ap length more ∙ length-append old (u ∷ []) in
    let judged = subst (λ (k : ℕ). HasVerdict (map mapped_of ms) (map mapped_of ms ++ seconds) (mapped_of m)
    (get_or verdicts k e)) (sym (at ∙ long))
    (verdict_at ms (length xs) m below is (map mapped_of ms) (map mapped_of ms ++ seconds) verdicts e all) in
    let planned = subst (λ (p : Planned). IsPlanned asked (map mapped_of ms) seconds (mapped_of m) p) (sym same)
    (record { source = refl; item = refl; destination = refl; origin = origin; verdict = judged }) in
    let next = made_one (λ j x p. IsPlanned asked (map mapped_of ms) seconds x p) mapped_of planned_of ms
    (length old) m old (omega (arith, below, long)) (is ∙ ap (λ (k : ℕ). get_or ms k m) (sym long)) so_far new u
    planned more in
    subst (λ (k : ℕ). IsMadeFrom (λ j x p. IsPlanned asked (map mapped_of ms) seconds x p) 0 (map mapped_of (take k ms))
    (map planned_of new)) (sym longer) next

pair_cases : (xs ys : List Mapped) (m : Mapped) → HasPair (xs ++ ys) m → HasPair xs m ⊎ HasPair ys m
pair_cases [] ys m has = inr has
pair_cases (x ∷ xs) ys m has = search (rules, pair_cases xs ys m)

-- of mappings without equal pairs, none has that of a later one
apart_before : (l : List Mapped) (k : ℕ) (m : Mapped) → AreApart l → k < length l → get_or l k m ≡ m
    → HasPair (take k l) m → ⊥
apart_before [] k m apart below at has = omega (arith, below)
apart_before (x ∷ l) zero m apart below at has = has
apart_before (x ∷ l) (suc k) m apart below at has =
    let differ = All-from_recursion (λ z. ¬ (IsSamePair x z)) l apart.0 k m (omega (arith, below)) in search
    (rules, has, differ, at, apart_before l k m apart.1 (omega (arith, below)) at)

pub flag_known : (xs ys : List Mapping) (flags : List Bool) → AreApart (map mapped_of ys)
    → FlagsDuplicates by_pair (xs ++ ys) flags → FlagKnown (map mapped_of xs) (map mapped_of ys) flags
flag_known xs ys flags apart flagged k d below =
    let m = get_or (map mapped_of ys) k d in
    let n = length (map mapped_of xs) + k in
    let inside : k < length ys = omega (arith, below, length-map ys mapped_of) in
    let e = some_mapping ys k inside in
    let at : n ≡ length xs + k = ap (λ (j : ℕ). j + k) (length-map xs mapped_of) in
    let same : mapped_of (get_or (xs ++ ys) n e) ≡ m = ap (λ (j : ℕ). mapped_of (get_or (xs ++ ys) j e)) at
    ∙ ap mapped_of (get_or-append-add xs ys k e) ∙ sym (get_or-map mapped_of ys k e d inside) in
    let told : IsDuplicate by_pair (xs ++ ys) n ↔ HasPair (map mapped_of xs ++ take k (map mapped_of ys)) m =
    rw (map-append mapped_of xs ys, take-append-add (map mapped_of xs) (map mapped_of ys) k, same) at
    (duplicate_at (xs ++ ys) n e (omega (arith, at, inside, length-append xs ys))) in
    let before = apart_before (map mapped_of ys) k m apart below (get_or_default (map mapped_of ys) k m d below) in
    search (
      rules,
      flagged n,
      told,
      pair_cases (map mapped_of xs) (take k (map mapped_of ys)) m,
      before,
      HasPair-left (map mapped_of xs) (take k (map mapped_of ys)) m,
    )

pub mappings_of : (asked : List Asked) (refs : List Ref) (l : List Mapped) → AreMapped asked refs l
    → AreMappings asked l
mappings_of asked refs l mapped = record {
  fit = subst (λ (n : ℕ). AllByRecursion (λ m. m.spec < n) l)
      (sym (zip_long IsCompleted (map (λ a. a.reading) asked) mapped.completed mapped.are)
      ∙ length-map asked (λ a. a.reading)) (forward_fits mapped.completed refs l mapped.kept);
  apart = kept_once mapped.completed mapped.kept.all l mapped.kept.is;
}

pub tracked_mappings : (wish : Wish) (refs : List Ref) (asked : List Asked) (indexes : List ℕ) (l : List Mapped)
    → IsTracked wish refs asked indexes l → AreMappings asked l
tracked_mappings wish refs asked indexes l
    (IsTracked.by_call positive negative taken some are_positive are_negative all are_taken mapped) =
    mappings_of asked taken l mapped
tracked_mappings wish refs asked indexes l (IsTracked.nothing none no_specs no_indexes no_mappings) =
    subst (AreMappings asked) (sym no_mappings) (record { fit = tt; apart = tt })

pub split_again : (xs ys all fs bs : List Mapping) (n : ℕ) → all ≡ xs ++ ys → n ≡ length xs → fs ≡ take n all
    → bs ≡ drop n all → (fs ≡ xs) × (bs ≡ ys)
split_again xs ys all fs bs n whole at front back = (cc (take-append_seam xs ys), cc (drop-append_seam xs ys))

pub judged_of : (asked tracking : List Asked) (indexes : List ℕ) (xs ys fs bs : List Mapping)
    (before behind new : List Update) → (fs ≡ xs) × (bs ≡ ys)
    → AreFirst asked (map mapped_of xs) (map mapped_of ys) (map planned_of before)
    → AreSecond tracking indexes (map mapped_of fs) (map mapped_of bs) (map planned_of behind)
    → new ≡ before ++ behind
    → AreJudged asked (map mapped_of xs) tracking indexes (map mapped_of ys) (map planned_of new)
judged_of asked tracking indexes xs ys fs bs before behind new (first, second) are_before are_behind joined =
    let seconds = rw (first, second) at are_behind in
    record {
      before = map planned_of before;
      behind = map planned_of behind;
      are_before = are_before;
      are_behind =
          seconds;
      all = ap (map planned_of) joined ∙ map-append planned_of before behind;
    }

pub planned_copy : (m copy : Mapping) (u : Update) (item : Option ℕ) (o : Origin) (v : Verdict) → IsMappingCopy m copy
    → planned_of u ≡ planned_by (mapped_of copy) item o v
    → planned_of u ≡ planned_by (mapped_of m) item o v
planned_copy m copy u item o v copied same = same ∙ ap (λ (x : Mapped). planned_by x item o v)
    (copied_mapping m copy copied)
