-- Conflicts, from sorted updates.
use Rattle.gix_refspec.proofs.Common.{not_below_itself, all_right, all_join, all_weaker, each_mapped, ◌≡◌, ◌⊎◌, inl}
use Rattle.gix_refspec.proofs.Common.{inr, ◌↔◌, ℕ, ◌+◌, ◌<◌, ◌≤◌, List, [], ◌∷◌, ◌++◌, Some, option_map, length, map}
use Rattle.gix_refspec.proofs.Common.{take, drop, get_or, refl, sym, ap, ◌∙◌, subst, arith, AllByRecursion, AllZip}
use Rattle.gix_refspec.proofs.Common.{Contains, slice_get, IsStrictlySortedBy, Less, nat_cmp, slice_cmp, length-map}
use Rattle.gix_refspec.proofs.Common.{length-take-le, map-append, take-append-drop, take_more, All-from_recursion}
use Rattle.gix_refspec.proofs.Common.{Contains-append_left, Contains-push, slice_get-map, slice_get_read}
use Rattle.gix_refspec.proofs.Common.{slice_get_within, Mapping, NameRef, SourceRef, Update, RefSpecRef, Reading}
use Rattle.gix_refspec.proofs.Common.{printed, reading_of, Source, Mapped, mapped_of, name_bytes, start_of, IsNameCopy}
use Rattle.gix_refspec.proofs.Common.{IsSourceCopy, AreConflicts, Conflict, IndexesFit, IsConflict, HasConflictAt}
use Rattle.gix_refspec.proofs.Common.{IsFirstTo, IsTextAt, AddsConflict, AreFirstUpdates, AreConflicting, HasUpdate}
use Rattle.gix_refspec.proofs.Common.{IsRun, IsFirstAt, IsConflictOf, update_cmp, updated_indexes, by_cases}
use Rattle.gix_refspec.proofs.Common.{recursion_from_All, get_or_default, all_left, IsMadeFrom, rules, All-contains}
use Rattle.gix_refspec.proofs.lemmas.MadeLemmas.{map_each}
use Rattle.gix_refspec.proofs.lemmas.validate.FirstLemmas.{Has, Increase, IsOfIndex, contested_from_firsts}
use Rattle.gix_refspec.proofs.lemmas.validate.FirstLemmas.{made_at_indexes, one_mapping, two_firsts}
use Rattle.gix_refspec.proofs.lemmas.validate.UpdateLemmas.{later, mapped_at, past_end, strict_left, strict_right}
use Rattle.gix_refspec.proofs.lemmas.validate.UpdateLemmas.{update_at, update_within, HasUpdate-append}
use Rattle.std.proofs.lemmas.Slice.Zip.{all_zipped_more}

-- the mappings at the indexes have these sources, and their specs these texts
pub record AreTold (g : List Reading) (l : List Mapped) (ns : List ℕ) (sources : List Source) (texts : List (List ℕ)) :
    Type 0 where
  pub sources_are : AllZip (IsOfIndex (λ m source. source ≡ m.source) l) ns sources
  pub texts_are : AllZip (IsOfIndex (λ m text. IsTextAt g m.spec text) l) ns texts

-- the indexes of updates of one destination are those of its updates
pub indexes_to_one : (x : List ℕ) (cs : List Update) (k : ℕ) → AllByRecursion (λ c. c.destination.now ≡ x) cs
    → Has (updated_indexes cs) k ↔ HasUpdate cs k x
indexes_to_one x [] k same = ((λ none. none), (λ none. none))
indexes_to_one x (c ∷ cs) k same = let rest = indexes_to_one x cs k same.1 in (
  (λ has. grind (arith, rest, same)),
  λ has. grind (arith, rest),
)

later_index : (x : List ℕ) (c y : Update) → c.destination.now ≡ x → y.destination.now ≡ x → update_cmp c y ≡ Less
    → c.index < y.index
later_index x c y to also less = grind (arith, later, not_below_itself)

-- and if the updates are sorted, the indexes are strictly increasing
pub indexes_rise : (x : List ℕ) (cs : List Update) → AllByRecursion (λ c. c.destination.now ≡ x) cs
    → IsStrictlySortedBy update_cmp cs → Increase (updated_indexes cs)
unfolding IsStrictlySortedBy
indexes_rise x [] same strict = tt
indexes_rise x (c ∷ cs) same strict = (each cs same.1 strict.0, indexes_rise x cs same.1 strict.1)
  where
    each : (ys : List Update) → AllByRecursion (λ y. y.destination.now ≡ x) ys
        → AllByRecursion (λ y. update_cmp c y ≡ Less) ys → AllByRecursion (λ n. c.index < n) (updated_indexes ys)
    each [] same2 less = tt
    each (y ∷ ys) same2 less = (later_index x c y same.0 same2.0 less.0, each ys same2.1 less.1)

pub conflicting_fits : (ms : List Mapping) (run : List Update) (i : ℕ) (d : Update)
    → AreConflicting (map mapped_of ms) run → i < length run → (get_or run i d).index < length ms
conflicting_fits ms run i d conflicting below =
    let c = get_or run i d in
    let to = All-from_recursion (λ (x : Update). x.destination.now ≡ conflicting.destination) run conflicting.same i d
    below in
    let first = (conflicting.are c.index).0
    (update_at run i c c.index conflicting.destination below (get_or_default run i c d below) refl to) in
    omega (arith, slice_get_within (map mapped_of ms) c.index first.0 first.1, length-map ms mapped_of)

-- the sources and texts of the updates of all sources of a destination are its conflict
pub conflict_from_conflicting : (g : List Reading) (l : List Mapped) (run : List Update) (d : List ℕ)
    (sources : List Source) (texts : List (List ℕ)) → (conflicting : AreConflicting l run)
    → AreTold g l (updated_indexes run) sources texts → d ≡ conflicting.destination
    → IsConflictOf g l run (record { destination = d; sources = sources; texts = texts })
conflict_from_conflicting g l run d sources texts conflicting told to =
    rw to (record {
      is = record {
        contested = two run conflicting.several rises (λ k. (at k).0);
        sources =
            made (λ m s. s ≡ m.source) sources told.sources_are;
        texts =
            made (λ m t. IsTextAt g m.spec t) texts told.texts_are;
      };
      same = conflicting.same;
    })
  where
    rises : Increase (updated_indexes run)
    rises = indexes_rise conflicting.destination run conflicting.same conflicting.order

    at : (k : ℕ) → Has (updated_indexes run) k ↔ IsFirstAt l k conflicting.destination
    at k = let one = indexes_to_one conflicting.destination run k conflicting.same in let are =
        conflicting.are k in ((λ has. are.0 (one.0 has)), λ first. one.1 (are.1 first))

    made : {Y : Type 0} (Q : Mapped → Y → Type 0) (ys : List Y) → AllZip (IsOfIndex Q l) (updated_indexes run) ys
        → IsMadeFrom (λ k m y. IsFirstTo conflicting.destination l k m × Q m y) 0 l ys
    made Q ys = made_at_indexes (λ k m. IsFirstTo conflicting.destination l k m) Q l 0 l (updated_indexes run) ys
        (λ j. let same : j ≡ 0 + j = omega arith in ap (slice_get l) same) (λ j m low is. (
          (λ there. let first = (at j).0 there in subst (λ (n : Mapped). IsFirstTo conflicting.destination l j n)
              (one_mapping l j first.0 m first.1 is) first.2),
          (λ first. (at j).1 (m, is, first)),
        )) rises (recursion_from_All (λ n. 0 ≤ n) (updated_indexes run) (λ k d below. omega arith))

    two : (cs : List Update) → 1 < length cs → Increase (updated_indexes cs)
        → ((k : ℕ) → Has (updated_indexes cs) k → IsFirstAt l k conflicting.destination)
        → HasConflictAt l conflicting.destination
    two (c ∷ y ∷ cs) several up first = contested_from_firsts l conflicting.destination c.index y.index up.0.0
        (first c.index (inl refl)) (first y.index (inr (inl refl)))
    two cs several up first = absurd (omega arith)

pub copied_name : (n m : NameRef) → IsNameCopy n m → name_bytes m ≡ name_bytes n
copied_name n m same = grind arith

pub copied_source : (a b : SourceRef) → IsSourceCopy a b → start_of b ≡ start_of a
copied_source a b copy = grind (arith, copied_name)

pub text_at : (specs : List RefSpecRef) (k : ℕ) (spec : RefSpecRef) (text : List ℕ) → k < length specs
    → spec ≡ get_or specs k spec → printed (reading_of spec) ≡ Some text → IsTextAt (map reading_of specs) k text
text_at specs k spec text below is prints = (
  reading_of spec,
  slice_get-map reading_of specs k ∙ ap (option_map reading_of)
      (slice_get_read specs (length specs) k spec refl below is),
  prints,
)

pub told_more : (g : List Reading) (ms : List Mapping) (run : List Update) (i : ℕ) (d : Update) (m : Mapping)
    (source : Source) (text : List ℕ) (sources : List Source) (texts : List (List ℕ)) → i < length run
    → (get_or run i d).index < length ms → m ≡ get_or ms (get_or run i d).index m → source ≡ start_of m.lhs
    → IsTextAt g m.spec_index text → AreTold g (map mapped_of ms) (updated_indexes (take i run)) sources texts
    → AreTold g (map mapped_of ms) (updated_indexes (take (i + 1) run)) (sources ++ source ∷ []) (texts ++ text ∷ [])
told_more g ms run i d m source text sources texts below fits is is_source is_text told =
    let l = map mapped_of ms in
    let here : slice_get l (get_or run i d).index ≡ Some (mapped_of m) =
    mapped_at ms (get_or run i d).index m fits is in
    let indexes : updated_indexes (take (i + 1) run) ≡ updated_indexes (take i run) ++ (get_or run i d).index ∷ [] =
    ap updated_indexes (take_more run i d below) ∙ map-append (λ (c : Update). c.index) (take i run)
    (get_or run i d ∷ []) in
    subst (λ (ns : List ℕ). AreTold g l ns (sources ++ source ∷ []) (texts ++ text ∷ [])) (sym indexes) (record {
      sources_are = all_zipped_more (IsOfIndex (λ m s. s ≡ m.source) l) (updated_indexes (take i run)) sources
          (get_or run i d).index source told.sources_are (mapped_of m, here, is_source);
      texts_are = all_zipped_more (IsOfIndex (λ m t. IsTextAt g m.spec t) l) (updated_indexes (take i run)) texts
          (get_or run i d).index text told.texts_are (mapped_of m, here, is_text);
    })

pub spec_fits : (specs : List RefSpecRef) (ms : List Mapping) (k : ℕ) (m : Mapping) → IndexesFit (map reading_of specs)
    (map mapped_of ms) → k < length ms → m ≡ get_or ms k m → m.spec_index < length specs
spec_fits specs ms k m fits below is =
    let told : m.spec_index < length (map reading_of specs) =
    each_mapped mapped_of (λ n. n.spec < length (map reading_of specs)) ms k m fits below is in
    omega (arith, told, length-map specs reading_of)

-- the conflicts of the first mappings whose updates aren't among the rest
pub record AreReported (g : List Reading) (l : List Mapped) (rest : List Update) (cs : List Conflict) : Type 0 where
  pub left : (k : ℕ) (d : List ℕ) → HasUpdate rest k d → IsFirstAt l k d
  pub all : (k : ℕ) (d : List ℕ) → IsFirstAt l k d → HasUpdate rest k d
      ⊎ AllByRecursion (λ c. slice_cmp nat_cmp d c.destination.now ≡ Less) rest
  pub order : IsStrictlySortedBy update_cmp rest
  pub each : AllByRecursion (IsConflict g l) cs
  pub below : AllByRecursion (λ c. AllByRecursion (λ x. slice_cmp nat_cmp c.destination x.destination.now ≡ Less) rest)
      cs
  pub rise : IsStrictlySortedBy (slice_cmp nat_cmp) (map (λ c. c.destination) cs)
  pub every : (d : List ℕ) → HasConflictAt l d → Contains (map (λ c. c.destination) cs) d
      ⊎ ((k : ℕ) × HasUpdate rest k d)

-- before the loop all updates are in the rest
pub reported_none : (g : List Reading) (l : List Mapped) (firsts : List Update) → AreFirstUpdates l firsts
    → AreReported g l firsts []
unfolding IsStrictlySortedBy
reported_none g l firsts are =
    let every = λ (d : List ℕ) (at : HasConflictAt l d). let two = two_firsts l d at in (are.are two.0 d).1 two.3 in
    record {
      left = λ k d. (are.are k d).0;
      all = λ k d first. inl ((are.are k d).1 first);
      order = are.order;
      each =
          tt;
      below = tt;
      rise = tt;
      every = λ d at. inr (_, every d at);
    }

-- and after it none is
pub all_reported : (g : List Reading) (l : List Mapped) (rest : List Update) (cs : List Conflict) → length rest ≡ 0
    → AreReported g l rest cs → AreConflicts g l cs
all_reported g l [] cs empty settled =
    let every = λ (d : List ℕ) (contested : HasConflictAt l d). by_cases (settled.every d contested) (λ told. told)
    (λ has. absurd has.1) in
    search (rules, every, settled.each, settled.rise)
all_reported g l (c ∷ rest) cs empty settled = absurd (omega arith)

not_beyond : (x : List ℕ) (cs : List Update) (k : ℕ)
    → AllByRecursion (λ c. slice_cmp nat_cmp x c.destination.now ≡ Less) cs → HasUpdate cs k x → ⊥
not_beyond x cs k beyond has =
    let (c, there, index, to) = update_within cs k x has in
    not_below_itself x
    (subst (λ (d : List ℕ). slice_cmp nat_cmp x d ≡ Less) to
    (All-contains (λ (u : Update). slice_cmp nat_cmp x u.destination.now ≡ Less) cs c
    (All-from_recursion _ cs beyond) there))

to_same : (x : List ℕ) (cs : List Update) (k : ℕ) (d : List ℕ) → AllByRecursion (λ c. c.destination.now ≡ x) cs
    → HasUpdate cs k d → d ≡ x
to_same x cs k d same has = let (c, there, index, to) = update_within cs k d has in sym to
    ∙ All-contains (λ (u : Update). u.destination.now ≡ x) cs c (All-from_recursion _ cs same) there

one_update_only : (x : List ℕ) (run : List Update) (j k : ℕ) → length run ≤ 1 → HasUpdate run j x → HasUpdate run k x
    → j ≡ k
one_update_only x [] j k few has also = absurd has
one_update_only x (c ∷ []) j k few has also = grind (arith, has, also)
one_update_only x (c ∷ y ∷ run) j k few has also = absurd (omega arith)

rise_more : (ds : List (List ℕ)) (x : List ℕ) → IsStrictlySortedBy (slice_cmp nat_cmp) ds
    → AllByRecursion (λ d. slice_cmp nat_cmp d x ≡ Less) ds → IsStrictlySortedBy (slice_cmp nat_cmp) (ds ++ x ∷ [])
unfolding IsStrictlySortedBy
rise_more [] x strict below = (tt, tt)
rise_more (d ∷ ds) x strict below = (
  all_join (λ y. slice_cmp nat_cmp d y ≡ Less) ds (x ∷ []) strict.0 (below.0, tt),
  rise_more ds x strict.1 below.1,
)

module _ (g : List Reading) (l : List Mapped) (run others : List Update) (cs : List Conflict) (split : IsRun run others)
    (settled : AreReported g l (run ++ others) cs) where
  -- the run has all first mappings to its destination
  firsts_of_run : 0 < length run → (k : ℕ) → HasUpdate run k split.destination ↔ IsFirstAt l k split.destination
  firsts_of_run some k = let at_start = All-from_recursion (λ (c : Update). c.destination.now ≡ split.destination) run
      split.same 0 past_end some in (
        (λ has. settled.left k split.destination ((HasUpdate-append run others k split.destination).1 (inl has))),
        (λ first. by_cases (settled.all k split.destination first)
            (λ has. by_cases ((HasUpdate-append run others k split.destination).0 has) (λ here. here)
            (λ there. absurd (not_beyond split.destination others k split.beyond there)))
            (λ past. absurd
            (not_below_itself split.destination
            (rw at_start at (All-from_recursion (λ c. slice_cmp nat_cmp split.destination c.destination.now ≡ Less) run
            (all_left _ run others past) 0 past_end some))))),
      )

  -- an update of a first mapping is among the others, or its destination is less than all of theirs
  behind_run : (k : ℕ) (d : List ℕ) → IsFirstAt l k d → HasUpdate others k d
      ⊎ AllByRecursion (λ c. slice_cmp nat_cmp d c.destination.now ≡ Less) others
  behind_run k d first = by_cases (settled.all k d first)
      (λ has. by_cases ((HasUpdate-append run others k d).0 has)
      (λ here. inr (rw (to_same split.destination run k d split.same here) split.beyond)) (λ there. inl there))
      (λ past. inr (all_right (λ c. slice_cmp nat_cmp d c.destination.now ≡ Less) run others past))

  all_still_below :
      AllByRecursion (λ c. AllByRecursion (λ x. slice_cmp nat_cmp c.destination x.destination.now ≡ Less) others) cs
  all_still_below =
      all_weaker _ _ (λ (c : Conflict) below. all_right (λ x. slice_cmp nat_cmp c.destination x.destination.now ≡ Less)
      run others below) cs settled.below

  contested_cases : (d : List ℕ) → HasConflictAt l d → (d ≡ split.destination)
      ⊎ (Contains (map (λ c. c.destination) cs) d ⊎ ((k : ℕ) × HasUpdate others k d))
  contested_cases d contested = by_cases (settled.every d contested) (λ told. inr (inl told))
      (λ has. by_cases ((HasUpdate-append run others has.0 d).0 has.1)
      (λ here. inl (to_same split.destination run has.0 d split.same here)) (λ there. inr (inr (has.0, there))))

  -- a run of one update adds no conflict
  skipped : 0 < length run → length run ≤ 1 → AreReported g l others cs
  skipped some few =
      let every = λ (d : List ℕ) (contested : HasConflictAt l d). by_cases (contested_cases d contested) (λ to. absurd (
      let two = two_firsts l split.destination (rw to at contested) in
      two.2 (one_update_only split.destination run two.0 two.1 few ((firsts_of_run some two.0).1 two.3)
      ((firsts_of_run some two.1).1 two.4))
      )) (λ other. other) in
      search (
        rules,
        settled.left,
        HasUpdate-append run others,
        behind_run,
        strict_right update_cmp run others,
        all_still_below,
        every,
      )

  -- a run of several updates adds one
  reported : (c : Conflict) → 1 < length run → IsConflictOf g l run c → AreReported g l others (cs ++ c ∷ [])
  reported c several over =
      let first : (P : Update → Type 0) → AllByRecursion P run → P (get_or run 0 past_end) =
      λ P all. All-from_recursion P run all 0 past_end (omega (arith, several)) in
      let at_start : (get_or run 0 past_end).destination.now ≡ c.destination =
      first (λ x. x.destination.now ≡ c.destination) over.same in
      let to : c.destination ≡ split.destination = sym at_start ∙ first (λ x. x.destination.now ≡ split.destination)
      split.same in
      let destinations : map (λ (y : Conflict). y.destination) (cs ++ c ∷ []) ≡ map (λ (y : Conflict). y.destination) cs
      ++ c.destination ∷ [] = map-append (λ (y : Conflict). y.destination) cs (c ∷ []) in record {
        left = λ k d has. settled.left k d ((HasUpdate-append run others k d).1 (inr has));
        all = behind_run;
        order = strict_right update_cmp run others settled.order;
        each = all_join (IsConflict g l) cs (c ∷ []) settled.each (over.is, tt);
        below = all_join (λ y. AllByRecursion (λ z. slice_cmp nat_cmp y.destination z.destination.now ≡ Less) others) cs
            (c ∷ []) all_still_below (rw to split.beyond, tt);
        rise = rw destinations (rise_more (map (λ (y : Conflict). y.destination) cs) c.destination settled.rise
            (map_each _ (λ d. slice_cmp nat_cmp d c.destination ≡ Less) (λ (y : Conflict). y.destination)
            (λ y below. rw at_start at (first (λ x. slice_cmp nat_cmp y.destination x.destination.now ≡ Less)
            (all_left _ run others below))) cs settled.below));
        every = λ d contested. rw destinations (by_cases (contested_cases d contested)
            (λ is. inl (rw (is ∙ sym to) (Contains-push (map (λ (y : Conflict). y.destination) cs) c.destination)))
            (λ other. by_cases other
            (λ told. inl (Contains-append_left (map (λ (y : Conflict). y.destination) cs) (c.destination ∷ []) d
            told)) (λ there. inr there)));
      }

pub conflicting_of_run : (g : List Reading) (l : List Mapped) (rest : List Update) (n : ℕ) (cs : List Conflict)
    → 1 < length (take n rest) → (split : IsRun (take n rest) (drop n rest)) → AreReported g l rest cs
    → AreConflicting l (take n rest)
conflicting_of_run g l rest n cs several split settled =
    let whole : AreReported g l (take n rest ++ drop n rest) cs = rw take-append-drop settled in
    search (
      rules,
      firsts_of_run g l (take n rest) (drop n rest) cs split whole (omega (arith, several)),
      strict_left update_cmp (take n rest) (drop n rest) whole.order,
    )

-- the step of the loop: after a run has added its conflict, if any, the others are the rest
pub reported_more : (g : List Reading) (l : List Mapped) (rest : List Update) (n : ℕ) (cs new : List Conflict) → 0 < n
    → n ≤ length rest → IsRun (take n rest) (drop n rest) → AddsConflict g l (take n rest) cs new
    → AreReported g l rest cs → AreReported g l (drop n rest) new
reported_more g l rest n cs new some fits split added settled =
    let whole : AreReported g l (take n rest ++ drop n rest) cs = rw take-append-drop settled in
    by_cases added
    (λ few. rw few.1
    (skipped g l (take n rest) (drop n rest) cs split whole (omega (arith, some, length-take-le n rest fits))
    few.0))
    (λ more. rw more.3 (reported g l (take n rest) (drop n rest) cs split whole more.0 more.1 more.2))

pub no_conflicts : (g : List Reading) (l : List Mapped) → ((d : List ℕ) → ¬ (HasConflictAt l d)) → AreConflicts g l []
unfolding IsStrictlySortedBy
no_conflicts g l free = record { each = tt; every = λ d contested. absurd (free d contested); order = tt }

pub free_empty : (g : List Reading) (ms : List Mapping) → length ms ≡ 0 → AreConflicts g (map mapped_of ms) []
free_empty g [] empty = no_conflicts g [] (λ d c. let inside = c.has_one.1 in omega (arith, inside))
free_empty g (m ∷ ms) empty = absurd (omega arith)
