-- Without an example of a conflict no kept mappings conflict, whatever refs there are.
use Rattle.gix_refspec_lint.proofs.Common.{rules, star, Lacks, each_made, ◌≡◌, ◌≢◌, inl, inr, ℕ, ◌<◌, List, [], ◌∷◌}
use Rattle.gix_refspec_lint.proofs.Common.{◌++◌, Some, map, refl, sym, ap, ◌∙◌, subst, arith, AllZip, Contains}
use Rattle.gix_refspec_lint.proofs.Common.{slice_get, same_Some, IsFirstCandidate, MatchesAs, Ref, SideKind, pattern}
use Rattle.gix_refspec_lint.proofs.Common.{full_name, object, partial, HasKind, IsAccepted, Reading, HasOneStar}
use Rattle.gix_refspec_lint.proofs.Common.{reading_of, RefSpecRef, lacks_no_pattern, one_word, AreKeptForward}
use Rattle.gix_refspec_lint.proofs.Common.{IsJoinedFrom, IsMadeFrom, Source, name, id, Mapped, one_kind, nothing_joined}
use Rattle.gix_refspec_lint.proofs.Common.{MakesForward, kept_exactly, sides_agree, CanBeWritten, IsCompleted, IsSound}
use Rattle.gix_refspec_lint.proofs.Common.{reading_once, completed_destination, contained_pair, far_there, ConflictFree}
use Rattle.gix_refspec_lint.proofs.Common.{AreExamples, Example, Fetches, IsExample, IsSourceExcluded, IsValidSource}
use Rattle.gix_refspec_lint.proofs.Common.{completed_excluded, ExamplesConflict, HasSound, refs_of, pair_of, some_at}
use Rattle.gix_refspec_lint.proofs.Common.{◌+◌, false, None, append-nil, AllByRecursion, AreAsked, Asked, HasVerdict}
use Rattle.gix_refspec_lint.proofs.Common.{IsPlanned, IsPlannedBesides, Wish, by_call, by_configuration, by_default}
use Rattle.gix_refspec_lint.proofs.Common.{nothing, tags_asked, without, Origin, PlanConflictFree, slice_get_within}
use Rattle.gix_refspec_lint.proofs.Common.{get_or_from_slice_get, map_split, map-id}
use Rattle.gix_refspec_lint.proofs.lemmas.IndexLemmas.{conflicts_shown, accepted_of, maps_of, still_excluded}
use Rattle.gix_refspec_lint.proofs.Common.{AreStorable, ConflictOver, tags_spec, head, map-append, map_each, of_element}
use Rattle.gix_refspec_lint.proofs.Common.{true, Bool, Option, ℕ, IsRefName, slice_get_read, length, take}
use Rattle.gix_refspec_lint.proofs.Common.{Contains-append_left, Contains-append_right, Ref, all_accepted, all_at}
use Rattle.gix_refspec_lint.proofs.Common.{all_join}
use Rattle.gix_refspec_text.proofs.lemmas.specs.DestinationLemmas.{all_tags_accepted}
use Rattle.gix_refspec.proofs.lemmas.validate.ConflictLemmas.{no_conflicts}
use Rattle.gix_refspec_lint.proofs.lemmas.IndexLemmas.{any_at, by_index, excluded_at, zip_of, zip_to}
use Rattle.gix_refspec_lint.proofs.lemmas.PatternLemmas.{spec_made, two_patterns}
use Rattle.gix_refspec_lint.proofs.lemmas.SourceLemmas.{destination_made, taken_as}
use Rattle.std.proofs.lemmas.List.Elements.{Contains-append_cases}
use Rattle.gix_refspec_lint.specs.Laws.Lint.{AreWhole, MatchConflictFree}
use Rattle.gix_refspec.specs.Matching.{RefNames.{HasRefNames, HaveRefNames, IsValidDestination}}
use Rattle.gix_refspec_text.specs.Specs.Reading.{fetched_alone}
use Rattle.gix_refspec_plan.specs.Matching.Plan.{AreMerges, Covers}
use Rattle.gix_refspec_text.proofs.lemmas.hits.CandidateLemmas.{first_once}
use Rattle.gix_refspec.proofs.lemmas.validate.FirstLemmas.{start_cases}
use Rattle.gix_refspec_plan.proofs.lemmas.plan.OpposedLemmas.{pair_in}
use Rattle.gix_refspec_match.proofs.lemmas.lists.JoinLemmas.{made_none, map_long}
use Rattle.gix_refspec_plan.specs.declared.Origin.TheVariants as origin
use Rattle.gix_refspec_plan.specs.declared.Verdict.TheVariants as verdict

-- ---- one spec maps one source to a destination

-- the source of a spec is a pattern only where its destination is one
dest_starred : (r c : Reading) (x e : List ℕ) → ∥ IsAccepted r ∥₁ → IsCompleted r c → c.source ≡ Some x
    → c.destination ≡ Some e → HasOneStar x → HasOneStar e
dest_starred r c x e accepted done source destination one =
    let (d, was, shape) = completed_destination r.destination c.destination e done.destination destination in
    let none : (y : List ℕ) → Lacks star y → ¬ (HasOneStar y) = λ y lacks also. lacks_no_pattern y also.0 also.1 lacks
    also.2 in
    search (rules, (sides_agree r accepted).both x d (sym done.source ∙ source) was, shape, none x, none d)

module _ (r c : Reading) (accepted : ∥ IsAccepted r ∥₁) (done : IsCompleted r c) (refs : List Ref) (d : List ℕ) where
  one_name_source : (kind : SideKind) (n m : List ℕ) (makes : MakesForward refs (name n) (Some d) c)
      (also : MakesForward refs (name m) (Some d) c)
      → HasKind makes.ends.near kind → MatchesAs kind makes.one.1 makes.one.4.word
      → MatchesAs kind also.one.1 also.one.4.word → n ≡ m
  one_name_source (pattern p t) n m makes also of holds same =
      let (e, far, becomes) = far_there makes.ends.far makes.one.4.word d makes.one.4.becomes in
      let one = dest_starred r c makes.ends.near e accepted done makes.has.near (makes.has.far ∙ far) (p, t, of) in
      let spec = two_patterns c p t one.0 one.1 e makes.has.positive
      (record { text = makes.ends.near; has = makes.has.near; split = of }) (makes.has.far ∙ far) one.2 in
      let (w, is, fits, there) = spec_made c p t spec refs n (Some d) makes in
      let (v, at, suits, again) = spec_made c p t spec refs m (Some d) also in
      is ∙ ap (λ x. p ++ (x ++ t)) (one_word one.0 one.1 d w v (same_Some _ _ fits) (same_Some _ _ suits)) ∙ sym at
  one_name_source (full_name x) n m makes also of holds same = sym makes.one.4.name ∙ holds.1 ∙ sym same.1
      ∙ also.one.4.name
  one_name_source (object bytes) n m makes also of holds same = absurd (makes.has.no_object bytes of)
  one_name_source (partial x) n m makes also of holds same =
      first_once refs x n m (subst (IsFirstCandidate refs x) makes.one.4.name (makes.one.4.takes.first x of))
      (subst (IsFirstCandidate refs x) also.one.4.name
      (also.one.4.takes.first x
      (subst (λ y. HasKind y (partial x)) (same_Some _ _ (sym makes.has.near ∙ also.has.near)) of)))

  pub one_source : (s t : Source) → MakesForward refs s (Some d) c → MakesForward refs t (Some d) c → s ≡ t
  one_source (name n) (name m) makes also =
      let takes = makes.one.4.takes.matches in
      ap name (one_name_source takes.kind n m makes also takes.of takes.is
      (taken_as c makes.ends.near takes.kind makes.has.near takes.of refs m (Some d) also))
  one_source (name n) (id bytes) makes also =
      absurd (makes.has.no_object bytes
      (subst (λ x. HasKind x (object bytes)) (same_Some _ _ (sym also.side ∙ makes.has.near)) also.object))
  one_source (id bytes) (name n) makes also =
      absurd (also.has.no_object bytes
      (subst (λ x. HasKind x (object bytes)) (same_Some _ _ (sym makes.side ∙ also.has.near)) makes.object))
  one_source (id bytes) (id others) makes also =
      let kinds : object bytes ≡ object others = one_kind makes.text (object bytes) (object others) makes.object
      (subst (λ x. HasKind x (object others)) (same_Some _ _ (sym also.side ∙ makes.side)) also.object) in
      cc

none_shown : (g : List Reading) (i j : ℕ) (r q : Reading) (e : Example) → AreExamples g [] → slice_get g i ≡ Some r
    → slice_get g j ≡ Some q → ¬ (IsExample g i j e)
none_shown g i j r q e none at also is =
    let below = slice_get_within g i r at in
    let Shown : ℕ → Reading → List Example → Type 0 = λ k p row. IsMadeFrom (λ l p x. IsExample g k l x) 0 g row in
    let row = nothing_joined Shown 0 _ _ _
    (subst (λ h. IsJoinedFrom Shown 0 h []) (sym (map-id g) ∙ map_split (λ (x : Reading). x) g i r below) none) in
    made_none (λ l p x. IsExample g i l x) 0 g
    (subst (λ k. Shown k r []) (omega (arith, map_long (λ (x : Reading). x) g i below)) row) j q
    (slice_get_within g j q also) e (subst (λ l. IsExample g i l e) (omega arith) is)

pub fetched_by : (g h : List Reading) (refs : List Ref) (kept : List Mapped) (m : Mapped) (d : List ℕ)
    → AllZip IsCompleted g h → AreKeptForward h refs kept → Contains kept m → IsSound m
    → m.destination ≡ Some d → (k : ℕ) × Fetches g refs k m.source (Some d)
fetched_by g h refs kept m d all are has sound to =
    let made = ((kept_exactly h refs).forward kept are m).0 (contained_pair kept m has) in
    let (k, c, at, makes) = any_at (MakesForward refs m.source m.destination) h made.0 in
    let maps = maps_of g h all k c at refs m.source (Some d)
    (subst (λ far. MakesForward refs m.source far c) to makes) in (
      k,
      record {
        maps =
            record { maps = maps; source = sound.source; destination = subst CanBeWritten to sound.destination };
        included =
            λ by. made.1 (still_excluded g h all m.source by);
      },
    )

same_fetched : (g : List Reading) (refs : List Ref) (i j : ℕ) (s t : Source) (d : List ℕ) → AreExamples g []
    → AreStorable refs
    → Fetches g refs i s (Some d) → Fetches g refs j t (Some d) → i < j → s ≢ t → ⊥
same_fetched g refs i j s t d none storable one other order differ =
    let c : ConflictOver g refs i j s t d = record { storable = storable; one = one; other = other; differ = differ } in
    let (e, shown) = conflicts_shown g i j order (refs, s, t, d, c) in
    none_shown g i j one.maps.maps.reading other.maps.maps.reading e none one.maps.maps.at other.maps.maps.at shown

-- a list of readings of which each is accepted
abbrev pub AreAccepted : List Reading → Type 0
AreAccepted g = (k : ℕ) (r : Reading) → slice_get g k ≡ Some r → ∥ IsAccepted r ∥₁

same_spec : (g : List Reading) → AreAccepted g → (refs : List Ref) (i j : ℕ) (s t : Source) (d : List ℕ)
    → Fetches g refs i s (Some d)
    → Fetches g refs j t (Some d) → i ≡ j → s ≡ t
same_spec g accepted refs i j s t d one other same =
    let a = one.maps.maps in
    let b = other.maps.maps in
    let readings : b.reading ≡ a.reading = same_Some _ _ (sym b.at ∙ ap (slice_get g) (sym same) ∙ a.at) in
    let completed : b.completed ≡ a.completed = reading_once a.reading b.completed a.completed
    (subst (λ r. IsCompleted r b.completed) readings b.is) a.is in
    one_source a.reading a.completed (accepted i a.reading a.at) a.is refs d s t a.makes
    (subst (MakesForward refs t (Some d)) completed b.makes)

-- so what is fetched to one destination is one source
one_fetched : (g : List Reading) → AreAccepted g → AreExamples g [] → (refs : List Ref) → AreStorable refs
    → (i j : ℕ) (s t : Source) (d : List ℕ)
    → Fetches g refs i s (Some d) → Fetches g refs j t (Some d) → s ≡ t
one_fetched g accepted none refs storable i j s t d one other =
    let alike = same_spec g accepted refs i j s t d one other in
    grind (
      arith,
      start_cases s t,
      same_fetched g refs i j s t d none storable one other,
      same_fetched g refs j i t s d none storable other one,
      alike,
    )

all_accepted_of : (specs : List RefSpecRef) → AreAccepted (map reading_of specs)
all_accepted_of specs k r at = accepted_of specs k r at

-- so it is with the spec of all tags behind them
pub accepted_with_tags : (specs : List RefSpecRef) (tags : Bool) → AreAccepted (map reading_of specs ++ tags_spec tags)
accepted_with_tags specs tags k r at =
    let Accepted : Reading → Type 0 = λ r. ∥ IsAccepted r ∥₁ in
    let one : AllByRecursion Accepted (tags_spec tags) = elim tags as
    (λ b. AllByRecursion Accepted (tags_spec b)) [ false ↦ tt | true ↦ (∣ all_tags_accepted ∣₁, tt) ] in
    all_at Accepted (map reading_of specs ++ tags_spec tags) k r
    (all_join Accepted (map reading_of specs) (tags_spec tags) (all_accepted specs) one) at

pub conflict_free : (specs : List RefSpecRef) → ConflictFree (map reading_of specs)
conflict_free specs none h refs kept all storable are m n has also sound sane (d, to, goes) =
    let g = map reading_of specs in
    let (i, one) = fetched_by g h refs kept m d all are has sound to in
    let (j, other) = fetched_by g h refs kept n d all are also sane goes in
    one_fetched g (all_accepted_of specs) none refs storable i j m.source n.source d one other

-- ---- mappings of `match_lhs`

whole_zip : (g : List Reading) → AreWhole g → AllZip IsCompleted g g
whole_zip [] all = tt
whole_zip (r ∷ g) all = (all.0, whole_zip g all.1)

-- what isn't left out is of the list, and valid
named_there : (l named : List Mapped) (m : Mapped) → HaveRefNames l named → Contains named m
    → Contains l m × HasRefNames m
named_there l named m are has =
    let Of : Mapped → Type 0 = λ x. Contains l x × HasRefNames x in
    of_element Of named m (each_made (λ k x made. (made ≡ x) × HasRefNames x) Of l named
    (λ j x y at (same, valid). rw same
    ((j, slice_get_within l j x at, get_or_from_slice_get l j x x at), valid)) are) has

sound_named : (m : Mapped) → HasRefNames m → m.destination ≢ Some head → IsSound m
sound_named m named other =
    record { source = named.source; destination = written m.destination named.destination other }
  where
    written : (d : Option (List ℕ)) → IsValidDestination d → d ≢ Some head → CanBeWritten d
    written None valid away = tt
    written (Some n) (inl below) away = below
    written (Some n) (inr is) away = absurd (away (ap Some is))

pub match_conflict_free : (specs : List RefSpecRef) → MatchConflictFree (map reading_of specs)
match_conflict_free specs none whole refs kept named storable are named_are away =
    let g = map reading_of specs in
    no_conflicts g named (λ d c.
    let (one, valid) = named_there kept named c.one named_are c.has_one in
    let (other, also) = named_there kept named c.other named_are c.has_other in
    let clear = λ (m : Mapped) (has : Contains named m). of_element (λ m. m.destination ≢ Some head) named m away has in
    let same = conflict_free specs none g refs kept (whole_zip g whole) storable are c.one c.other one other
    (sound_named c.one valid (clear c.one c.has_one)) (sound_named c.other also (clear c.other c.has_other))
    (d, c.one_to, c.other_to) in
    c.differ same)

-- ---- over the refs of an example both of its mappings are kept

fetched_kept : (g h : List Reading) (refs : List Ref) (kept : List Mapped) (k : ℕ) (s : Source) (d : List ℕ)
    → AllZip IsCompleted g h → AreKeptForward h refs kept → Fetches g refs k s (Some d) → HasSound kept s d
fetched_kept g h refs kept k s d all are f =
    let a = f.maps.maps in
    let excluded = λ (t : Source). elim t as (λ t. IsSourceExcluded h t → IsSourceExcluded g t)
    [ name n ↦ completed_excluded g h n all | id bytes ↦ λ none. none ] in
    let made = some_at (MakesForward refs s (Some d)) h k a.completed (zip_to g h all k a.reading a.completed a.at a.is)
    a.makes in
    let (m, there, same) = pair_in kept (pair_of s (Some d))
    (((kept_exactly h refs).forward kept are (pair_of s (Some d))).1 (made, (λ by. f.included (excluded s by)))) in (
      m,
      there,
      record {
        source = subst IsValidSource (sym same.source) f.maps.source;
        destination =
            subst CanBeWritten (sym same.destination) f.maps.destination;
      },
      same.source,
      same.destination,
    )

pub examples_conflict : (g : List Reading) → ExamplesConflict g
examples_conflict g i j e shown completed kept all are =
    let kept_by = fetched_kept g completed (refs_of e.one ++ refs_of e.other) kept in (
      kept_by i e.one e.destination all are shown.conflict.one,
      kept_by j e.other e.destination all are shown.conflict.other,
      shown.conflict.differ,
    )

-- ---- a plan of configured specs that never conflict has no update in conflict

readings_are : (origin_at : ℕ → Origin) (k : ℕ) (specs : List Reading) (asked : List Asked)
    → IsMadeFrom (λ j r a. (a ≡ record { reading = r; origin = origin_at j }) × Unit {0}) k specs asked
    → map (λ a. a.reading) asked ≡ specs
readings_are origin_at k [] asked made = ap (map (λ (a : Asked). a.reading)) made
readings_are origin_at k (r ∷ specs) asked (None, rest, none, more, is) =
    absurd (none (record { reading = r; origin = origin_at k }) (refl, tt))
readings_are origin_at k (r ∷ specs) asked (Some a, rest, makes, more, is) =
    ap (map (λ (a : Asked). a.reading)) is ∙ ap (λ q. q ∷ map (λ (a : Asked). a.reading) rest)
    (ap (λ (x : Asked). x.reading) makes.0) ∙ ap (λ l. r ∷ l) (readings_are origin_at (k + 1) specs rest more)

-- merged refs have no destination
merges_alone : (merges : List (List ℕ)) (mapped : List Mapped) (asked : List Asked) → AreMerges merges mapped asked
    → AllByRecursion (λ (r : Reading). r.destination ≡ None) (map (λ (a : Asked). a.reading) asked)
merges_alone merges mapped asked made =
    let Alone : Asked → Type 0 = λ a. a.reading.destination ≡ None in
    map_each Alone (λ (r : Reading). r.destination ≡ None) (λ (a : Asked). a.reading) (λ a none. none) asked
    (each_made (λ k n a. (a ≡ record { reading = fetched_alone n; origin = origin.Merge k }) × IsRefName n × ¬
    (Covers mapped n) × ¬ (Contains (take k merges) n)) Alone
    merges asked (λ j n a at (same, valid, uncovered, new). ap (λ (x : Asked). x.reading.destination) same) made)

-- what is asked for: the values, others without a destination, and all tags
pub record IsAskedAs (wish : Wish) (asked : List Asked) : Type 0 where
  pub others : List Reading
  pub are : map (λ a. a.reading) asked ≡ (wish.configured ++ others) ++ tags_spec wish.tags
  pub alone : AllByRecursion (λ (r : Reading). r.destination ≡ None) others

tags_read : (tags : Bool) → map (λ (a : Asked). a.reading) (tags_asked tags) ≡ tags_spec tags
tags_read false = refl
tags_read true = refl

asked_as : (wish : Wish) (refs : List Ref) (asked : List Asked) → wish.given ≡ [] → AreAsked wish refs asked
    → IsAskedAs wish asked
asked_as wish refs asked alone (by_call given is_given those is) = absurd (is_given alone)
asked_as wish refs asked alone (without all empty (by_default lacks also made) is) = record {
  others = fetched_alone head ∷ [];
  are = ap (map (λ (a : Asked). a.reading)) is ∙ map-append (λ (a : Asked). a.reading) all (tags_asked wish.tags)
      ∙ ap (λ l. map (λ (a : Asked). a.reading) l ++ map (λ (a : Asked). a.reading) (tags_asked wish.tags)) made ∙ ap
      (λ l. fetched_alone head ∷ l) (tags_read wish.tags)
      ∙ ap (λ l. (l ++ (fetched_alone head ∷ [])) ++ tags_spec wish.tags) (sym lacks);
  alone = (refl, tt);
}
asked_as wish refs asked alone (without all empty
    (by_configuration configured merges either those uncovered made) is) = record {
      others = map (λ (a : Asked). a.reading) merges;
      are = ap (map (λ (a : Asked). a.reading)) is ∙ map-append (λ (a : Asked). a.reading) all (tags_asked wish.tags)
          ∙ ap (λ l. l ++ map (λ (a : Asked). a.reading) (tags_asked wish.tags))
          (ap (map (λ (a : Asked). a.reading)) made ∙ map-append (λ (a : Asked). a.reading) configured merges
          ∙ ap (λ l. l ++ map (λ (a : Asked). a.reading) merges)
          (readings_are origin.Configured 0 wish.configured configured those))
          ∙ ap (λ l. (wish.configured ++ map (λ (a : Asked). a.reading) merges) ++ l) (tags_read wish.tags);
      alone = elim uncovered [
        | inl (unmerged, same) ↦ rw same tt
        | inr (specs, mapped, taken, are, merge) ↦ merges_alone wish.merges mapped merges merge
      ];
    }

-- two lists, and the same with others between them that have no destination
module _ (xs others ys : List Reading) (alone : AllByRecursion (λ (r : Reading). r.destination ≡ None) others) where
  among_all : (r : Reading) → Contains (xs ++ ys) r → Contains ((xs ++ others) ++ ys) r
  among_all r there = elim (Contains-append_cases xs ys r there) [
    | inl one ↦ Contains-append_left (xs ++ others) ys r (Contains-append_left xs others r one)
    | inr other ↦ Contains-append_right (xs ++ others) ys r other
  ]

  among_both : (r : Reading) → (r.destination ≢ None) → Contains ((xs ++ others) ++ ys) r → Contains (xs ++ ys) r
  among_both r some there = elim (Contains-append_cases (xs ++ others) ys r there) [
    | inr other ↦ Contains-append_right xs ys r other
    | inl front ↦ elim (Contains-append_cases xs others r front) [
      | inl one ↦ Contains-append_left xs ys r one
      | inr between ↦ absurd (some (of_element (λ (r : Reading). r.destination ≡ None) others r alone between))
    ]
  ]

pub index_of : (l : List Reading) (r : Reading) → Contains l r → (k : ℕ) × (slice_get l k ≡ Some r)
index_of l r (k, below, is) = (k, slice_get_read l (length l) k r refl below (sym is))

abbrev pub readings_of : List Asked → List Reading
readings_of asked = map (λ (a : Asked). a.reading) asked

module _ (wish : Wish) (refs : List Ref) (asked : List Asked) (told : IsAskedAs wish asked) (h : List Reading)
    (all : AllZip IsCompleted (readings_of asked) h)
    (kept : List Mapped) (are : AreKeptForward h refs kept) where
  abbrev g : List Reading
  g = wish.configured ++ tags_spec wish.tags

  excluded_too : (s : Source) → IsSourceExcluded g s → IsSourceExcluded (readings_of asked) s
  excluded_too (name n) by =
      let (k, r, at, one) = by_index g n by in
      let there = subst (λ l. Contains l r) (sym told.are)
      (among_all wish.configured told.others (tags_spec wish.tags) told.alone r
      (k, slice_get_within g k r at, get_or_from_slice_get g k r r at)) in
      let (j, here) = index_of (readings_of asked) r there in
      excluded_at (readings_of asked) j r n here one
  excluded_too (id bytes) none = none

  -- a mapping with a destination is of one of the values, or of all tags
  planned_by : (m : Mapped) (d : List ℕ) → Contains kept m → IsSound m → m.destination ≡ Some d
      → (k : ℕ) × Fetches g refs k m.source (Some d)
  planned_by m d has sound to =
      let made = ((kept_exactly h refs).forward kept are m).0 (contained_pair kept m has) in
      let (k, c, at, makes) = any_at (MakesForward refs m.source m.destination) h made.0 in
      let (r, here, done) = zip_of (readings_of asked) h all k c at in
      let makes_so = subst (λ far. MakesForward refs m.source far c) to makes in
      let target = destination_made refs m.source d c makes_so in
      let own = completed_destination r.destination c.destination target.0 done.destination target.2 in
      let some : r.destination ≢ None = λ none. let bad : Some own.0 ≡ None = sym own.1 ∙ none in cc in
      let there = among_both wish.configured told.others (tags_spec wish.tags) told.alone r some
      (subst (λ l. Contains l r) told.are
      (k, slice_get_within (readings_of asked) k r here, get_or_from_slice_get (readings_of asked) k r r here)) in
      let (j, at_value) = index_of g r there in (
        j,
        record {
          maps = record {
            maps = record { reading = r; at = at_value; completed = c; is = done; makes = makes_so };
            source = sound.source;
            destination = subst CanBeWritten to sound.destination;
          };
          included = λ by. made.1 (still_excluded (readings_of asked) h all m.source (excluded_too m.source by));
        },
      )

pub plan_free : (wish : Wish) → AreAccepted (wish.configured ++ tags_spec wish.tags) → PlanConflictFree wish
plan_free wish accepted none alone refs planned missing storable plan =
    let g = wish.configured ++ tags_spec wish.tags in
    let told = asked_as wish refs plan.asked alone plan.are_asked in
    let firsts = plan.are_firsts in
    let empty : plan.seconds ≡ [] =
    elim plan.are_seconds [
      | by_call positive negative taken given those others is are mapped ↦ absurd (given alone)
      | nothing none a b is ↦ is
    ] in
    let behind : plan.behind ≡ [] =
    subst (λ l. IsMadeFrom (λ k m p. IsPlannedBesides plan.tracking plan.indexes plan.firsts plan.seconds m p) 0 l
    plan.behind) empty plan.are_behind in
    subst (AllByRecursion (λ p. p.verdict ≢ verdict.InConflict))
    (sym (plan.all ∙ ap (λ l. plan.before ++ l) behind ∙ append-nil plan.before))
    (each_made (λ k m p. IsPlanned plan.asked plan.firsts plan.seconds m p) (λ p. p.verdict ≢ verdict.InConflict)
    plan.firsts plan.before (λ j m p at is conflicting.
    let contested : HasVerdict plan.firsts (plan.firsts ++ plan.seconds) m verdict.InConflict =
    subst (HasVerdict plan.firsts (plan.firsts ++ plan.seconds) m) conflicting is.verdict in
    let (n, also, sound, (d, to, goes), differ) = contested.1 in
    let has : Contains plan.firsts m = (
      j,
      slice_get_within plan.firsts j m at,
      get_or_from_slice_get plan.firsts j m m at,
    ) in
    let (i, one) = planned_by wish refs plan.asked told firsts.completed firsts.are plan.firsts firsts.kept m d has
    contested.0 to in
    let (k, other) = planned_by wish refs plan.asked told firsts.completed firsts.are plan.firsts firsts.kept n d also
    sound goes in
    differ (one_fetched g accepted none refs storable i k m.source n.source d one other))
    plan.are_before)
