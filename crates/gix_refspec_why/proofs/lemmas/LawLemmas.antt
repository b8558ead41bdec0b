-- The fates of a ref, the mappings that are kept, and the plan of a fetch of what is configured.
use Rattle.gix_refspec_why.proofs.Common.{◌≡◌, ◌≢◌, ◌<◌, ◌+◌, ◌++◌, ◌∷◌, ◌∙◌, [], ℕ, zero, suc, List, Option}
use Rattle.gix_refspec_why.proofs.Common.{None, Some, IsSome, inl, inr, refl, sym, ap, subst, arith, append-nil}
use Rattle.gix_refspec_why.proofs.Common.{false≢true, get_or, length, map, take, slice_get, slice_get-get_or}
use Rattle.gix_refspec_why.proofs.Common.{slice_get_within, slice_get_read, get_or_from_slice_get, AllByRecursion}
use Rattle.gix_refspec_why.proofs.Common.{AllZip, All-contains, All-from_recursion, Contains, Reading}
use Rattle.gix_refspec_why.proofs.Common.{Ref, HasName, Mapped, name, IsExcluded, IsExcludedBy}
use Rattle.gix_refspec_why.proofs.Common.{IsSourceExcluded, IsMadeFrom, AreKeptForward, MakesForward, any_at}
use Rattle.gix_refspec_why.proofs.Common.{kept_exactly, IsRefName, IsValidSource, CanBeWritten, IsCompleted}
use Rattle.gix_refspec_why.proofs.Common.{IsSound, HasFate, HaveFates, IsContestedBy}
use Rattle.gix_refspec_why.proofs.Common.{IsEarlierMaker, IsExplained, IsObstructedBy}
use Rattle.gix_refspec_why.proofs.Common.{MapsTo}
use Rattle.gix_refspec_why.proofs.lemmas.SourceLemmas.{maps_once, missed_unmapped, negative_unmapped}
use Rattle.gix_refspec_why.proofs.lemmas.RivalLemmas.{fetched_at, fetched_kept, has_own, made_kept, rival_of}
use Rattle.gix_refspec_why.specs.Matching.Why.{Effect}
use Rattle.gix_refspec_why.specs.Laws.Why.{IsMapped, IsWrittenBySome, MappedExactly, WritesFrom, WrittenExactly}
use Rattle.gix_refspec_why.specs.Laws.Why.{configured_alone}
use Rattle.gix_refspec_why.specs.declared.Fate.{Fate}
use Rattle.gix_refspec_why.specs.declared.Fate.TheVariants as fate
use Rattle.gix_refspec_why.specs.declared.Rival.{Rival}
use Rattle.gix_refspec_match.proofs.lemmas.duplicates.FlagLemmas.{some_element}
use Rattle.gix_refspec_plan.specs.declared.Origin.{Origin}
use Rattle.gix_refspec_plan.specs.declared.Origin.TheVariants.{Configured}
use Rattle.gix_refspec_plan.specs.declared.Verdict.{Verdict}
use Rattle.gix_refspec_plan.specs.declared.Verdict.TheVariants as verdict
use Rattle.gix_refspec_plan.specs.Matching.Plan.{AreAsked, AreConfigured, AreUncovered, Asked}
use Rattle.gix_refspec_plan.specs.Matching.Plan.{HasVerdict, IsContested, IsObstructed, IsPlan, IsPlanned}
use Rattle.gix_refspec_plan.specs.Matching.Plan.{IsPlannedBesides, IsTracked, Planned}
use Rattle.gix_refspec_plan.proofs.lemmas.plan.JudgeLemmas.{mappings_of}
use Rattle.gix_refspec_plan.proofs.lemmas.plan.MadeLemmas.{made_from, made_has}
use Rattle.gix_refspec_plan.proofs.lemmas.plan.OnePlanLemmas.{completed_once, none_merged}
use Rattle.gix_refspec.proofs.lemmas.keep.FilterLemmas.{name_there}

-- what holds of each element before an index
all_below : {X : Type 0} (P : X → Type 0) (xs : List X) (j k : ℕ) (x : X) → AllByRecursion P (take k xs)
    → slice_get xs j ≡ Some x → j < k → P x
all_below P [] j k x all at below = absurd (cc (at))
all_below P (y ∷ xs) j zero x all at below = absurd (omega (arith, below))
all_below P (y ∷ xs) zero (suc k) x all at below = let same : y ≡ x = cc (at) in subst P same all.0
all_below P (y ∷ xs) (suc j) (suc k) x all at below = all_below P xs j k x all.1 at (omega (arith, below))

-- an element of a list at least as long
element_at : {X : Type 0} (xs : List X) (k : ℕ) → k < length xs → (x : X) × (slice_get xs k ≡ Some x)
element_at xs k below = (get_or xs k (some_element xs k below), slice_get-get_or xs k (some_element xs k below) below)

contains_at : {X : Type 0} (xs : List X) (k : ℕ) (x : X) → slice_get xs k ≡ Some x → Contains xs x
contains_at xs k x at = (k, slice_get_within xs k x at, get_or_from_slice_get xs k x x at)

excluded_at : (g : List Reading) (n : List ℕ) (k : ℕ) (r : Reading) → slice_get g k ≡ Some r → IsExcludedBy n r
    → IsExcluded g n
excluded_at [] n k r at by = absurd (cc (at))
excluded_at (q ∷ g) n zero r at by = let same : q ≡ r = cc (at) in inl (subst (IsExcludedBy n) (sym same) by)
excluded_at (q ∷ g) n (suc k) r at by = inr (excluded_at g n k r at by)

-- what maps a ref has it among the refs
pub maps_listed : (refs : List Ref) (n : List ℕ) (d : Option (List ℕ)) (r : Reading) → MapsTo refs n d r
    → HasName refs n
maps_listed refs n d r maps = subst (HasName refs) maps.one.4.name
    (name_there refs maps.one.1 (maps.one.0, maps.one.2, maps.one.3))

module _ (c : List Reading) (refs : List Ref) (n : List ℕ) (effects : List Effect) (have : HaveFates c refs n effects)
  where
    effect_at : (k : ℕ) (r : Reading) → slice_get c k ≡ Some r
        → (e : Effect) × (slice_get effects k ≡ Some e) × HasFate c refs n k r e.destination e.fate
    effect_at k r at =
        let below = slice_get_within c k r at in
        let count = have.count in
        let (e, there) = element_at effects k (omega (arith, below, count)) in
        (e, there, have.each k r e at there)

    reading_at : (e : Effect) → Contains effects e
        → (k : ℕ) × (r : Reading) × (slice_get c k ≡ Some r) × HasFate c refs n k r e.destination e.fate
    reading_at e (k, below, at) =
        let count = have.count in
        let (r, there) = element_at c k (omega (arith, below, count)) in
        (k, r, there, have.each k r e there (slice_get_read effects (length effects) k e refl below (sym at)))

    module _ (d : Option (List ℕ)) (included : ¬ (IsExcluded c n)) where
      -- a spec that maps the ref while none excludes it has one of these fates
      mapped_fate : (k : ℕ) (r : Reading) (e : Option (List ℕ)) (f : Fate) → MapsTo refs n d r
          → HasFate c refs n k r e f
          → IsMapped f × (e ≡ d)
      mapped_fate k r e (fate.Unmatched m) maps is = absurd (missed_unmapped refs n d r maps m is.1)
      mapped_fate k r e (fate.Excludes word) maps is = absurd (negative_unmapped refs n d r is.1.negative maps)
      mapped_fate k r e (fate.Excluded by) maps is =
          absurd (included (excluded_at c n _ is.1.0 is.1.1.at is.1.1.holds))
      mapped_fate k r e fate.InvalidName maps is = (tt, maps_once refs n r e d is.0.maps maps)
      mapped_fate k r e fate.InvalidDestination maps is = (tt, maps_once refs n r e d is.0.maps maps)
      mapped_fate k r e (fate.Duplicate j) maps is = (tt, maps_once refs n r e d is.0.maps.maps maps)
      mapped_fate k r e (fate.InConflict rival) maps is = (tt, maps_once refs n r e d is.0.maps.maps.maps maps)
      mapped_fate k r e (fate.DirectoryConflict rival) maps is = (tt, maps_once refs n r e d is.0.maps.maps.maps maps)
      mapped_fate k r e fate.Written maps is = (tt, maps_once refs n r e d is.0.maps.maps.maps maps)

      module _ (named : IsRefName n) (writable : CanBeWritten d)
          (free : (rival : Rival) → ¬ (IsContestedBy c refs n d rival))
          (clear : (rival : Rival) → ¬ (IsObstructedBy c refs d rival)) where
        abbrev Found : Type 0
        Found = (e : Effect) × Contains effects e × (e.fate ≡ fate.Written)

        -- nothing is in the way of the ref, so it is written unless an earlier spec does that
        by_fate : (k : ℕ) (r : Reading) (e : Effect) (f : Fate) → e.fate ≡ f → Contains effects e → MapsTo refs n d r
            → HasFate c refs n k r d f → ((j : ℕ) → IsEarlierMaker c refs n d k j → Found) → Found
        by_fate k r e (fate.Unmatched m) is inside maps has earlier = absurd (missed_unmapped refs n d r maps m has.1)
        by_fate k r e (fate.Excludes word) is inside maps has earlier =
            absurd (negative_unmapped refs n d r has.1.negative maps)
        by_fate k r e (fate.Excluded by) is inside maps has earlier =
            absurd (included (excluded_at c n _ has.1.0 has.1.1.at has.1.1.holds))
        by_fate k r e fate.InvalidName is inside maps has earlier = absurd (has.1 named)
        by_fate k r e fate.InvalidDestination is inside maps has earlier = absurd (has.2 writable)
        by_fate k r e (fate.Duplicate j) is inside maps has earlier = earlier j has.1
        by_fate k r e (fate.InConflict rival) is inside maps has earlier = absurd (free rival has.1)
        by_fate k r e (fate.DirectoryConflict rival) is inside maps has earlier = absurd (clear rival has.2)
        by_fate k r e fate.Written is inside maps has earlier = (e, inside, is)

        found_at : (k : ℕ) (r : Reading) → slice_get c k ≡ Some r → MapsTo refs n d r
            → ((j : ℕ) → IsEarlierMaker c refs n d k j → Found) → Found
        found_at k r at maps earlier =
            let (e, there, has) = effect_at k r at in
            let same = (mapped_fate k r e.destination e.fate maps has).1 in
            by_fate k r e e.fate refl (contains_at effects k e there) maps
            (subst (λ d. HasFate c refs n k r d e.fate) same has)
            earlier

        found : (k : ℕ) (r : Reading) → slice_get c k ≡ Some r → MapsTo refs n d r → Found
        found k r at maps = found_at k r at maps (λ j (below, (q, first)). found_at j q first.at first.holds
            (λ i (lower, (p, other)). absurd (all_below (λ q. ¬ (MapsTo refs n d q)) c i j p first.before other.at lower
            other.holds)))

    -- a fate from `InvalidName` on is that of a spec that maps the ref, which none excludes
    mapped_made : (k : ℕ) (r : Reading) (d : Option (List ℕ)) (f : Fate) → IsMapped f → HasFate c refs n k r d f
        → MapsTo refs n d r × ¬ (IsExcluded c n)
    mapped_made k r d (fate.Unmatched m) mapped is = absurd mapped
    mapped_made k r d (fate.Excludes word) mapped is = absurd mapped
    mapped_made k r d (fate.Excluded by) mapped is = absurd mapped
    mapped_made k r d fate.InvalidName mapped is = (is.0.maps, is.0.included)
    mapped_made k r d fate.InvalidDestination mapped is = (is.0.maps, is.0.included)
    mapped_made k r d (fate.Duplicate j) mapped is = (is.0.maps.maps, is.0.maps.included)
    mapped_made k r d (fate.InConflict rival) mapped is = (is.0.maps.maps.maps, is.0.maps.maps.included)
    mapped_made k r d (fate.DirectoryConflict rival) mapped is = (is.0.maps.maps.maps, is.0.maps.maps.included)
    mapped_made k r d fate.Written mapped is = (is.0.maps.maps.maps, is.0.maps.maps.included)

-- ---- what is explained of a ref that is listed

listed_fates : (g c : List Reading) (refs : List Ref) (n : List ℕ) (index : Option ℕ) (effects : List Effect)
    → AllZip IsCompleted g c → IsExplained g refs n index effects → IsSome index → HaveFates c refs n effects
listed_fates g c refs n None effects are why some = absurd (false≢true some)
listed_fates g c refs n (Some i) effects are why some =
    let same = completed_once g why.are.completed c why.are.are are in
    subst (λ c. HaveFates c refs n effects) same
    (subst (λ all. HaveFates why.are.completed all n effects) why.have.0 why.are.have)

listed_index : (g : List Reading) (refs : List Ref) (n : List ℕ) (index : Option ℕ) (effects : List Effect)
    → IsExplained g refs n index effects → HasName refs n → IsSome index
listed_index g refs n None effects why has = absurd (why.have.0 has)
listed_index g refs n (Some i) effects why has = refl

pub mapped_exactly : (g : List Reading) (refs : List Ref) (n : List ℕ) → MappedExactly g refs n
mapped_exactly g refs n kept index effects d mapped why =
    let exactly = (kept_exactly mapped.completed refs).forward kept mapped.kept
    (record { item = None; source = name n; destination = d; spec = 0 }) in (
      (λ has.
          let ((k, r, below, at, makes), included) = exactly.0 has in
          let here = slice_get_read mapped.completed (length mapped.completed) k r refl below (sym at) in
          let some = listed_index g refs n index effects why (maps_listed refs n d r makes) in
          let have = listed_fates g mapped.completed refs n index effects mapped.are why some in
          let (e, there, is) = effect_at mapped.completed refs n effects have k r here in
          let (is_mapped, same) = mapped_fate mapped.completed refs n effects have d included k r e.destination e.fate
          makes
          is in
          (some, (e, contains_at effects k e there, is_mapped, same))),
      (λ (some, (e, inside, is_mapped, same)).
          let have = listed_fates g mapped.completed refs n index effects mapped.are why some in
          let (k, r, at, is) = reading_at mapped.completed refs n effects have e inside in
          let (makes, included) = mapped_made mapped.completed refs n effects have k r e.destination e.fate is_mapped
          is in
          exactly.1 (
            any_at (MakesForward refs (name n) d) mapped.completed k r at (subst (λ d. MapsTo refs n d r) same makes),
            included,
          )),
    )

-- ---- the plan of a fetch of what is configured

those_readings : (k : ℕ) (g : List Reading) (asked : List Asked)
    → IsMadeFrom (λ k r a. (a ≡ record { reading = r; origin = Configured k }) × Unit {0}) k g asked
    → map (λ a. a.reading) asked ≡ g
those_readings k [] asked empty = ap (map (λ (a : Asked). a.reading)) empty
those_readings k (r ∷ g) asked (None, rest, none, more, is) =
    absurd (none (record { reading = r; origin = Configured k }) (refl, tt))
those_readings k (r ∷ g) asked (Some a, rest, one, more, is) =
    let here = ap (λ (a : Asked). a.reading) one.0 in
    let later = those_readings (k + 1) g rest more in
    let all = ap (map (λ (a : Asked). a.reading)) is in
    cc (here, later, all)

none_uncovered : (g : List Reading) (refs : List Ref) (merges : List Asked)
    → AreUncovered (configured_alone g) refs merges → merges ≡ []
none_uncovered g refs merges (inl (none, is)) = is
none_uncovered g refs merges (inr (specs, mapped, those, are, made)) = none_merged [] mapped merges refl made

asked_readings : (g : List Reading) (refs : List Ref) (asked : List Asked) → g ≢ []
    → AreAsked (configured_alone g) refs asked → map (λ a. a.reading) asked ≡ g
asked_readings g refs asked some (AreAsked.by_call given given_some those is) = absurd (given_some refl)
asked_readings g refs asked some
    (AreAsked.without all none (AreConfigured.by_configuration configured merges any those uncovered joined) is) =
    let empty = none_uncovered g refs merges uncovered in
    let alone : asked ≡ configured = is ∙ append-nil all ∙ joined ∙ ap (λ l. configured ++ l) empty
    ∙ append-nil configured in
    ap (map (λ (a : Asked). a.reading)) alone ∙ those_readings 0 g configured those
asked_readings g refs asked some (AreAsked.without all none (AreConfigured.by_default empty alone only) is) =
    absurd (some empty)

none_tracked : (g : List Reading) (refs : List Ref) (asked : List Asked) (indexes : List ℕ) (l : List Mapped)
    → IsTracked (configured_alone g) refs asked indexes l → l ≡ []
none_tracked g refs asked indexes l (IsTracked.by_call positive negative taken some are_p are_n all are_t mapped) =
    absurd (some refl)
none_tracked g refs asked indexes l (IsTracked.nothing none no_specs no_indexes no_mappings) = no_mappings

module _ (g : List Reading) (refs : List Ref) (planned : List Planned) (missing : List Origin) (some : g ≢ [])
    (plan : IsPlan (configured_alone g) refs planned missing) where
  abbrev completed : List Reading
  completed = plan.are_firsts.completed

  are_completed : AllZip IsCompleted g completed
  are_completed = subst (λ g. AllZip IsCompleted g completed) (asked_readings g refs plan.asked some plan.are_asked)
      plan.are_firsts.are

  no_seconds : plan.seconds ≡ []
  no_seconds = none_tracked g refs plan.tracking plan.indexes plan.seconds plan.are_seconds

  no_behind : plan.behind ≡ []
  no_behind = subst (λ (l : List Mapped). IsMadeFrom
      (λ k m p. IsPlannedBesides plan.tracking plan.indexes plan.firsts plan.seconds m p) 0 l plan.behind) no_seconds
      plan.are_behind

  all_before : planned ≡ plan.before
  all_before = plan.all ∙ ap (λ l. plan.before ++ l) no_behind ∙ append-nil plan.before

  all_firsts : plan.firsts ++ plan.seconds ≡ plan.firsts
  all_firsts = ap (λ l. plan.firsts ++ l) no_seconds ∙ append-nil plan.firsts

  -- an update that is written is of a mapping that nothing stands in the way of
  written_kept : (p : Planned) → Contains planned p → p.verdict ≡ verdict.Written
      → (m : Mapped) × Contains plan.firsts m × (m.source ≡ p.source) × IsSound m × ¬ (IsContested plan.firsts m)
      × ¬ (IsObstructed plan.firsts m)
  written_kept p has is =
      let (k, m, inside, made) = made_from (λ k m p. IsPlanned plan.asked plan.firsts plan.seconds m p) 0 plan.firsts
      plan.before p plan.are_before (subst (λ l. Contains l p) all_before has) in
      let (sound, free, clear) = subst (HasVerdict plan.firsts (plan.firsts ++ plan.seconds) m) is made.verdict in
      (m, inside, sym made.source, sound, free, subst (λ l. ¬ (IsObstructed l m)) all_firsts clear)

  -- and such a mapping makes such an update
  kept_written : (m : Mapped) → Contains plan.firsts m → IsSound m → ¬ (IsContested plan.firsts m)
      → ¬ (IsObstructed plan.firsts m)
      → (p : Planned) × Contains planned p × ((p.source ≡ m.source) × (p.verdict ≡ verdict.Written))
  kept_written m inside sound free clear =
      let fit = All-contains (λ (x : Mapped). x.spec < length plan.asked) plan.firsts m
      (All-from_recursion (λ (x : Mapped). x.spec < length plan.asked) plan.firsts
      (mappings_of plan.asked refs plan.firsts plan.are_firsts).fit) inside in
      let (a, at) = element_at plan.asked m.spec fit in
      let one = subst (λ l. ¬ (IsObstructed l m)) (sym all_firsts) clear in
      let (p, has, is) = made_has (λ k m p. IsPlanned plan.asked plan.firsts plan.seconds m p)
      (λ p. (p.source ≡ m.source) × (p.verdict ≡ verdict.Written)) 0 plan.firsts plan.before m plan.are_before inside
      (λ k. (
        record {
          source = m.source;
          item = m.item;
          destination = m.destination;
          origin = a.origin;
          verdict =
              verdict.Written;
        },
        record {
          source = refl;
          item = refl;
          destination = refl;
          origin = (a, at, refl);
          verdict = (sound, free, one);
        },
      ))
      (λ k p made. (made.source, only p.verdict made.verdict)) in
      (p, subst (λ l. Contains l p) (sym all_before) has, is)
    where
      only : (v : Verdict) → HasVerdict plan.firsts (plan.firsts ++ plan.seconds) m v → v ≡ verdict.Written
      only verdict.Written is = refl
      only (verdict.LeftOut side) is = absurd (grind (arith, sound, is))
      only verdict.InConflict is = absurd (free is.1)
      only verdict.Overruled is = absurd is
      only verdict.DirectoryConflict is = absurd (clear (subst (λ l. IsObstructed l m) all_firsts is.2))

  module _ (n : List ℕ) (index : Option ℕ) (effects : List Effect) (why : IsExplained g refs n index effects) where
    kept : AreKeptForward completed refs plan.firsts
    kept = plan.are_firsts.kept

    written_fate : WritesFrom planned n → IsWrittenBySome index effects
    written_fate (p, has, from, is) =
        let (m, inside, same, sound, free, clear) = written_kept p has is in
        let source : m.source ≡ name n = same ∙ from in
        let ((k, r, below, at, makes), included) = ((kept_exactly completed refs).forward plan.firsts kept m).0
        (has_own completed refs plan.firsts kept m inside) in
        let maps : MapsTo refs n m.destination r = subst (λ s. MakesForward refs s m.destination r) source makes in
        let here = slice_get_read completed (length completed) k r refl below (sym at) in
        let listed = listed_index g refs n index effects why (maps_listed refs n m.destination r maps) in
        let have = listed_fates g completed refs n index effects are_completed why listed in (
          listed,
          found completed refs n effects have m.destination
              (subst (λ s. ¬ (IsSourceExcluded completed s)) source included)
              (subst IsValidSource source sound.source) sound.destination
              (λ rival (e, s, to, other, fetched).
              let (x, in_x, writes, x_from) = fetched_kept completed refs plan.firsts kept s e rival fetched in
              free (x, in_x, writes.0, (e, to, writes.1), λ same. other (sym x_from ∙ sym same ∙ source)))
              (λ rival (e, d, s, to, nested, fetched).
              let (x, in_x, writes, x_from) = fetched_kept completed refs plan.firsts kept s d rival fetched in
              clear (x, in_x, writes.0, (e, d, to, writes.1, nested)))
              k r here maps,
        )

    fate_written : IsWrittenBySome index effects → WritesFrom planned n
    fate_written (listed, (e, inside, is)) =
        let have = listed_fates g completed refs n index effects are_completed why listed in
        let (k, r, at, has) = reading_at completed refs n effects have e inside in
        let (first, free, clear) = subst (HasFate completed refs n k r e.destination) is has in
        let (m, in_m, from, to) = made_kept completed refs plan.firsts kept (name n) e.destination k r at
        first.maps.maps.maps
        first.maps.maps.included in
        let (p, in_p, (source, written)) = kept_written m in_m
        (record {
          source = subst IsValidSource (sym from) first.maps.name;
          destination = subst CanBeWritten (sym to) first.maps.destination;
        })
        (λ (x, in_x, sound, (d, m_to, x_to), differ). free (rival_of x) (
          d,
          x.source,
          sym to ∙ m_to,
          (λ same. differ (from ∙ sym same)),
          fetched_at completed refs plan.firsts kept x d (rival_of x) in_x (sound, x_to)
              (record { spec = refl; item = refl }),
        ))
        (λ (x, in_x, sound, (d, other, m_to, x_to, nested)). clear (rival_of x) (
          d,
          other,
          x.source,
          sym to ∙ m_to,
          nested,
          fetched_at completed refs plan.firsts kept x other (rival_of x) in_x (sound, x_to)
              (record { spec = refl; item = refl }),
        )) in
        (p, in_p, source ∙ from, written)

pub written_exactly : (g : List Reading) (refs : List Ref) (n : List ℕ) → WrittenExactly g refs n
written_exactly g refs n planned missing index effects some plan why = (
  written_fate g refs planned missing some plan n index effects why,
  fate_written g refs planned missing some plan n index effects why,
)
