-- The specs and the merged refs that are asked for, the items that are taken, and the origins of the specs whose source
-- no ref has.
use Rattle.gix_refspec_plan.proofs.Common.{fetched_alone, Merge, IsRefName, Covers, Contains, ◌≡◌, ◌≢◌, ◌⊎◌, ◌==◌, Bool}
use Rattle.gix_refspec_plan.proofs.Common.{true, false, ℕ, ◌+◌, ◌<◌, List, [], ◌∷◌, ◌++◌, map, take, get_or, length}
use Rattle.gix_refspec_plan.proofs.Common.{refl, sym, ap, ◌∙◌, arith, false≢true, map-append, Mapped, DeclaredAsked}
use Rattle.gix_refspec_plan.proofs.Common.{Origin, Reading, Ref, reading_of, Asked, asked_of, ◌↔◌, length-map}
use Rattle.gix_refspec_plan.proofs.Common.{IsFlagged, Option, None, Some, option_to_list, AllByRecursion}
use Rattle.gix_refspec_plan.proofs.Common.{length-take-le, take_more, All-from_recursion, RefSpecRef, IsMadeFrom}
use Rattle.gix_refspec_plan.proofs.Common.{MakesOf, AreMissing, LacksSource, made_next, MayBeMissing, ◌-◌, set}
use Rattle.gix_refspec_plan.proofs.Common.{replicate, cases_eq, get_or-replicate, get_or-set_other, get_or-set_same}
use Rattle.gix_refspec_plan.proofs.Common.{length-replicate, length-set, map_more, take_all, Contains-append_left}
use Rattle.gix_refspec_plan.proofs.Common.{Contains-push, Contains-push_cases, Mapping, mapped_of, IsSound, IsTakenAt}
use Rattle.gix_refspec_plan.proofs.Common.{FlagsTaken, rules, nil_from_length, all_tags, AllTags, drop}
use Rattle.std.proofs.lemmas.List.{length-drop, drop_more}

-- the spec of the merged ref at index k
abbrev pub Merges : List (List ℕ) → List Mapped → ℕ → List ℕ → Asked → Type 0
Merges merges mapped k n a = (a ≡ record { reading = fetched_alone n; origin = Merge k }) × IsRefName n
    × ¬ (Covers mapped n) × ¬ (Contains (take k merges) n)

pub some_mapped : {A X : Type 0} (f : A → X) (xs : List A) (b : Bool) → b ≡ (length xs == 0) → b ≡ false → map f xs ≢ []
some_mapped f xs b told is same = grind (arith, length-map xs f, ap length same)

pub none_mapped : {A X : Type 0} (f : A → X) (xs : List A) (b : Bool) → b ≡ (length xs == 0) → b ≡ true → map f xs ≡ []
none_mapped f xs b told is = grind (arith, length-map xs f, nil_from_length (map f xs))

pub one_more : (old new : List DeclaredAsked) (a : DeclaredAsked) (r : Reading) (o : Origin) → reading_of a.spec ≡ r
    → a.origin ≡ o → new ≡ old ++ a ∷ [] → map asked_of new ≡ map asked_of old ++ record { reading = r; origin = o }
    ∷ []
one_more old new a r o reading from more =
    let shown : asked_of a ≡ record { reading = r; origin = o } =
    (λ i. record { reading = reading i; origin = from i }) in
    ap (map asked_of) more ∙ map-append asked_of old (a ∷ []) ∙ ap (λ (x : Asked). map asked_of old ++ x ∷ []) shown

missing_below : (refs : List Ref) (len k : ℕ) (g : List Reading) (missing : List ℕ) → k + length g ≡ len
    → IsMadeFrom (λ n r made. (made ≡ n) × LacksSource refs r) k g missing → AllByRecursion (λ n. n < len) missing
missing_below refs len k [] missing long empty = rw empty tt
missing_below refs len k (r ∷ g) missing long (made, rest, here, more, is) = let later =
    missing_below refs len (k + 1) g rest (omega (arith, long)) more in rw is (grind (arith, here, later, long))

-- so an index that is missing is one of the specs
pub missing_within : (asked : List DeclaredAsked) (specs given : List RefSpecRef) (refs : List Ref)
    (missing indexes : List ℕ) (j : ℕ) → map reading_of specs ≡ map (λ a. a.reading) (map asked_of asked)
    → given ≡ specs → AreMissing (map reading_of given) refs missing → indexes ≡ missing → j < length indexes
    → get_or indexes j 0 < length asked
missing_within asked specs given refs missing indexes j readings same are listed below =
    let size : length (map reading_of given) ≡ length asked =
    grind (
      arith,
      length-map (map asked_of asked) (λ (a : Asked). a.reading),
      length-map asked asked_of,
      ap length readings,
      same,
    ) in
    All-from_recursion (λ (m : ℕ). m < length asked) indexes
    (rw listed (missing_below refs (length asked) 0 (map reading_of given) missing (omega (arith, size)) are)) j 0
    below

-- the origin of the spec at an index, unless it may be missing
abbrev pub Origins : List Asked → ℕ → ℕ → Origin → Type 0
Origins asked j index o = (o ≡ (get_or asked index (record { reading = all_tags; origin = AllTags })).origin)
    × ¬ (MayBeMissing o)

pub origin_next : (asked : List Asked) (indexes : List ℕ) (i d : ℕ) (old new : List Origin) (made : Option Origin)
    → i < length indexes → IsMadeFrom (Origins asked) 0 (take i indexes) old
    → MakesOf (Origins asked) i (get_or indexes i d) made → new ≡ old ++ option_to_list made
    → IsMadeFrom (Origins asked) 0 (take (i + 1) indexes) new
origin_next asked indexes i d old new made below so_far makes more =
    rw (take_more indexes i d below, more) (made_next (Origins asked) i (take i indexes) (get_or indexes i d) old made
    (length-take-le i indexes (omega arith)) so_far makes)

rest_of : (all : List Asked) (k : ℕ) (a : Asked) (asked : List Asked) → drop k all ≡ a ∷ asked
    → ((d : Asked) → get_or all k d ≡ a) × (drop (k + 1) all ≡ asked)
rest_of all k a asked from =
    let below : k < length all = omega (arith, ap length from, length-drop k all) in
    ((λ d. let split = drop_more all k d below in cc), let split = drop_more all k a below in cc)

lacking_here : (all : List Asked) (refs : List Ref) (k j n : ℕ) (a : Asked) (made : Option Origin) → (n ≡ k)
    × LacksSource refs a.reading → ((d : Asked) → get_or all k d ≡ a)
    → MakesOf (Origins all) j n made
    → MakesOf (λ i b o. (o ≡ b.origin) × ¬ (MayBeMissing o) × LacksSource refs b.reading) k a made
lacking_here all refs k j n a made here at of = grind (arith, at (record { reading = all_tags; origin = AllTags }))

-- of the specs from the index k on those whose source no ref has are lacking
pub lacking_made : (all : List Asked) (refs : List Ref) (k j : ℕ) (asked : List Asked) (indexes : List ℕ)
    (missing : List Origin) → drop k all ≡ asked
    → IsMadeFrom (λ n r made. (made ≡ n) × LacksSource refs r) k (map (λ a. a.reading) asked) indexes
    → IsMadeFrom (Origins all) j indexes missing
    → IsMadeFrom (λ i b o. (o ≡ b.origin) × ¬ (MayBeMissing o) × LacksSource refs b.reading) k asked missing
lacking_made all refs k j [] indexes missing from empty origins = rw empty at origins
lacking_made all refs k j (a ∷ asked) indexes missing from (None, rest, none, more, is) origins =
    let others = lacking_made all refs (k + 1) j asked rest missing (rest_of all k a asked from).1 more
    (rw is at origins) in
    (None, missing, (λ o of. none k (refl, of.2)), others, refl)
lacking_made all refs k j (a ∷ asked) indexes missing from (Some n, rest, here, more, is) origins =
    let (made, found, of, later, same) = rw is at origins in (
      made,
      found,
      lacking_here all refs k j n a made here (rest_of all k a asked from).0 of,
      lacking_made all refs (k + 1) (j + 1) asked rest found (rest_of all k a asked from).1 more later,
      same,
    )

taken_cases : (l : List Mapped) (m : Mapped) (k : ℕ) → IsTakenAt (l ++ m ∷ []) k
    ↔ (IsTakenAt l k ⊎ (IsSound m × (m.item ≡ Some k)))
taken_cases l m k = (
  (λ (n, has, sound, item). search (rules, Contains-push_cases l m n has)),
  (λ either. search (rules, Contains-append_left l (m ∷ []), Contains-push l m)),
)

-- the items of the mappings so far are flagged
abbrev pub AreTakenFlags : List Mapped → ℕ → List Bool → Type 0
AreTakenFlags mapped len flags = (length flags ≡ len) × FlagsTaken mapped len flags

pub none_taken : (len n : ℕ) (old flags : List Bool) → old ≡ [] → n ≡ 0 → flags ≡ take len old ++ replicate
    (len - n) false → AreTakenFlags [] len flags
none_taken len n old flags empty none resized =
    let are : flags ≡ replicate len false = grind (arith, resized, take_all {A = Bool} len []) in (
      ap length are ∙ length-replicate len false,
      record { each = λ k below. rw are (grind (arith, get_or-replicate len k false false below, false≢true)) },
    )

module _ (mappings : List Mapping) (i : ℕ) (m : Mapping) (len : ℕ) (flags : List Bool) (below : i < length mappings)
    (is : m ≡ get_or mappings i m)
    (so_far : AreTakenFlags (map mapped_of (take i mappings)) len flags) where
  with_mapping : (new : List Bool) → length new ≡ len
      → ((k : ℕ) → k < len → IsFlagged new k
      ↔ (IsFlagged flags k ⊎ (IsSound (mapped_of m) × ((mapped_of m).item ≡ Some k))))
      → AreTakenFlags (map mapped_of (take (i + 1) mappings)) len new
  with_mapping new long each =
      let whole : map mapped_of (take (i + 1) mappings) ≡ map mapped_of (take i mappings) ++ mapped_of m ∷ [] =
      map_more mapped_of mappings i m below
      ∙ ap (λ (x : Mapping). map mapped_of (take i mappings) ++ mapped_of x ∷ []) (sym is) in (
        long,
        record {
          each =
              λ k inside. rw whole
              (search (
                rules,
                taken_cases (map mapped_of (take i mappings)) (mapped_of m) k,
                so_far.1.each k inside,
                each k inside,
              ));
        },
      )

  pub taken_here : (j : ℕ) → IsSound (mapped_of m) → m.item_index ≡ Some j → j < len
      → AreTakenFlags (map mapped_of (take (i + 1) mappings)) len (set flags j true)
  taken_here j sound item inside = with_mapping (set flags j true) (length-set flags j true ∙ so_far.0)
      (λ k under. grind (
        arith,
        cases_eq k j,
        get_or-set_same flags j true false,
        get_or-set_other flags j k true false,
        sound,
        item,
        so_far.0,
      ))

  pub taken_same : ((k : ℕ) → k < len → IsSound (mapped_of m) → m.item_index ≢ Some k)
      → AreTakenFlags (map mapped_of (take (i + 1) mappings)) len flags
  taken_same none = with_mapping flags so_far.0 (λ k under. search (rules, none k under))

abbrev pub Indexes : List Mapped → ℕ → Ref → ℕ → Type 0
Indexes mapped k r index = (index ≡ k) × IsTakenAt mapped k

abbrev pub Refs : List Mapped → ℕ → Ref → Ref → Type 0
Refs mapped k r made = (made ≡ r) × IsTakenAt mapped k
