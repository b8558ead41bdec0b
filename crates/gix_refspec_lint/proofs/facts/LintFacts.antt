use Rattle.gix_refspec_lint.proofs.Common.{every, heads_split, origin_split, other_byte, other_first, short_kind}
use Rattle.gix_refspec_lint.proofs.Common.{short_no_id, split_at_end, false, false≢true, ◌≡◌, ◌≢◌, inl, inr, ℕ, List}
use Rattle.gix_refspec_lint.proofs.Common.{[], ◌∷◌, ◌++◌, Option, None, Some, codes, refl, sym, ◌∙◌, subst, arith}
use Rattle.gix_refspec_lint.proofs.Common.{AllByRecursion, Contains, slice_get, same_Some, BeginsWith, Source}
use Rattle.gix_refspec_lint.proofs.Common.{Lacks-here, HasName, Ref, Excludes, by_pattern, the_name, fetched, Forced}
use Rattle.gix_refspec_lint.proofs.Common.{Normal, Negative, Reading, star, IsSplit, Lacks, Lacks-tested}
use Rattle.gix_refspec_lint.proofs.Common.{lacks_no_pattern, AreKeptForward, Mapped, HasPair, IsExcluded, IsExcludedBy}
use Rattle.gix_refspec_lint.proofs.Common.{id, name, MakesForward, IsRefName, one_name, CanBeWritten, IsCompleted}
use Rattle.gix_refspec_lint.proofs.Common.{IsPlan, IsSound, Planned, list_any, ◌==◌, slash, reading_once}
use Rattle.gix_refspec_lint.proofs.Common.{IsSourceExcluded, HasKind, full_name, object, Takes, named_some, Origin}
use Rattle.gix_refspec_lint.proofs.Common.{ConflictFree, ConflictsShown, ExamplesConflict, HasSound}
use Rattle.gix_refspec_lint.proofs.Common.{IdleExclusionLeftOut, IdleLeftOut, PlanConflictFree, AreExamples, AreIdle}
use Rattle.gix_refspec_lint.proofs.Common.{Fetches, AreValid, DoesBefore, Example, IsExample, IsIdleBy, IsIdleExclusion}
use Rattle.gix_refspec_lint.proofs.Common.{Maps, MapsSoundly, refs_of, IsFree, AreIdleExclusions, Wish}
use Rattle.gix_refspec_lint.proofs.lemmas.IdleLemmas.{one_far, each_named}
use Rattle.gix_refspec_lint.proofs.lemmas.IndexLemmas.{made_there}
use Rattle.gix_refspec_lint.proofs.lemmas.PatternLemmas.{spec_maps, two_patterns, word_of}
use Rattle.gix_refspec_lint.proofs.lemmas.SourceLemmas.{sources_there}
use Rattle.gix_refspec_lint.specs.Matching.Lint.{ExcludesOne}
use Rattle.gix_refspec_match.proofs.facts.CandidateFacts.{x_kind}
use Rattle.gix_refspec_text.proofs.lemmas.hits.CandidateLemmas.{taken_by_first}
use Rattle.gix_refspec_text.proofs.lemmas.texts.TestedLemmas.{IsName-tested, is_suspect}
use Rattle.gix_refspec.specs.Matching.Validation.{ShareDestination}
use Rattle.gix_refspec_plan.proofs.lemmas.plan.MadeLemmas.{one_in}
use Rattle.gix_refspec_lint.proofs.Common.{AreStorable, IsPositive, IsUnused, pattern}
use Rattle.gix_refspec_lint.proofs.lemmas.RequiredLemmas.{dispensable_never, never_missing}
use Rattle.gix_refspec_lint.proofs.lemmas.StorableLemmas.{pair_storable}
use Rattle.gix_refspec_match.specs.Matching.Missing.{LacksSource}
use Rattle.gix_refspec_text.specs.Specs.Reading.{Mode}
use Rattle.gix_refspec_lint.specs.Matching.Lint.{IsCoveredBy}
use Rattle.gix_refspec_lint.specs.declared.Reason.TheVariants as reason
use Rattle.gix_refspec_plan.specs.declared.Verdict.TheVariants as verdict

abbrev pub pulls : Reading
pulls = fetched Forced (codes "refs/pull/*/head") (Some (codes "refs/remotes/origin/pr/*"))

abbrev pub no : List ℕ → Reading
no x = fetched Negative x None

abbrev pub no_main : Reading
no_main = no (codes "main")

abbrev to_x : List ℕ → Reading
to_x x = fetched Normal x (Some (codes "refs/x"))

abbrev pub seven : Example
seven = record {
  first = 0;
  second = 1;
  one = name (codes "refs/heads/pr/7");
  other = name (codes "refs/pull/7/head");
  destination = codes "refs/remotes/origin/pr/7";
}

pub split_as : (a b : List ℕ) → list_any (λ c. c == star) a ≡ false → list_any (λ c. c == star) b ≡ false
    → IsSplit a b (a ++ (star ∷ b))
split_as a b one other = record { starred = refl; first = Lacks-tested star a one; last = Lacks-tested star b other }

completed_in : (mode : Mode) (x a b : List ℕ)
    → IsCompleted (fetched mode x (Some (a ++ (star ∷ b)))) (fetched mode x (Some (a ++ (star ∷ b))))
completed_in mode x a b =
    record {
      operation = refl;
      mode = refl;
      source = refl;
      destination = inl (record { before = a; after = b; here = refl }, refl);
    }

pub completed_as : (x a b : List ℕ)
    → IsCompleted (fetched Forced x (Some (a ++ (star ∷ b)))) (fetched Forced x (Some (a ++ (star ∷ b))))
completed_as x a b = completed_in Forced x a b

pub every_completed : IsCompleted every every
every_completed = completed_as _ (codes "refs/remotes/origin/") []

pub below : (x : List ℕ) → is_suspect slash (codes "refs/" ++ x) ≡ false → CanBeWritten (Some (codes "refs/" ++ x))
below x fine = (record { after = x; here = refl }, IsName-tested (codes "refs/" ++ x) fine)

pub maps_in : (mode : Mode) → IsPositive mode → (p t a b w : List ℕ) → IsSplit p t (p ++ (star ∷ t))
    → IsSplit a b (a ++ (star ∷ b)) → (refs : List Ref) → HasName refs (p ++ (w ++ t)) → (g : List Reading) (k : ℕ)
    → slice_get g k ≡ Some (fetched mode (p ++ (star ∷ t)) (Some (a ++ (star ∷ b))))
    → IsRefName (p ++ (w ++ t)) → CanBeWritten (Some (a ++ (w ++ b))) → MapsSoundly g refs k (name (p ++ (w ++ t)))
    (Some (a ++ (w ++ b)))
maps_in mode positive p t a b w source destination refs there g k at valid written =
    let spec = two_patterns _ p t a b _ positive (record { text = _; has = refl; split = source }) refl destination in
    let maps : Maps g refs k (name (p ++ (w ++ t)))
    (Some (a ++ (w ++ b))) = record {
      reading = _;
      at = at;
      completed = _;
      is = completed_in mode _ a b;
      makes = spec_maps _ p t spec refs w there;
    } in
    record { maps = maps; source = valid; destination = written }

abbrev pub both : List Ref
both = refs_of seven.one ++ refs_of seven.other

pub heads_seven : (g : List Reading) (k : ℕ) → slice_get g k ≡ Some every
    → MapsSoundly g both k seven.one (Some seven.destination)
heads_seven g k at =
    maps_in Forced tt _ [] (codes "refs/remotes/origin/") [] (codes "pr/7") heads_split origin_split both
    (inl refl) g k at (inl (below (codes "heads/pr/7") refl)) (below _ refl)

pub none_negative : (r : Reading) → r.mode ≡ Forced → (n : List ℕ) → ¬ (IsExcluded (every ∷ r ∷ []) n)
none_negative r forced n by = grind arith

pub excluded : (p n w : List ℕ) → IsSplit p [] (p ++ codes "*") → n ≡ p ++ (w ++ [])
    → IsExcludedBy n (no (p ++ codes "*"))
excluded p n w split fits = record { negative = refl; text = _; source = refl; excludes = by_pattern p [] w split fits }

pr_excluded : IsExcludedBy (codes "refs/heads/pr/7") (no (codes "refs/heads/pr/*"))
pr_excluded = excluded (codes "refs/heads/pr/") _ (codes "7") (split_at_end _ refl) refl

main_no_ref : ¬ (IsRefName (codes "main"))
main_no_ref (inl (begins, named)) = other_first 109 (codes "ain") (λ same. omega (arith, same)) begins
main_no_ref (inr same) = other_byte 0 (codes "main") (codes "HEAD") (λ equal. omega (arith, equal)) same

pub made_by : {g : List Reading} {refs : List Ref} {k : ℕ} {s : Source} {d : Option (List ℕ)} (r : Reading)
    → slice_get g k ≡ Some r → IsCompleted r r → Maps g refs k s d → MakesForward refs s d r
made_by r at done m = rw (reading_once r m.completed r (rw (same_Some _ _ (sym m.at ∙ at)) at m.is) done) at m.makes

-- a branch in the folder of the pull requests, and the pull request of its name, are an example of a conflict
pub example : IsExample (every ∷ pulls ∷ []) 0 1 seven
example =
    let pull = maps_in Forced tt (codes "refs/pull/") (codes "/head") (codes "refs/remotes/origin/pr/") [] (codes "7")
    (split_as _ _ refl refl) (split_as _ _ refl refl)
    both (inr (inl refl)) (every ∷ pulls ∷ []) 1 refl (inl (below _ refl)) (below _ refl) in
    let differ : name (codes "refs/heads/pr/7") ≢ name (codes "refs/pull/7/head") =
    λ same. other_byte 5 (codes "refs/heads/pr/7") (codes "refs/pull/7/head") (λ equal. omega (arith, equal))
    (one_name _ _ same) in
    let included = none_negative pulls refl in
    let one : Fetches (every ∷ pulls ∷ []) both 0 seven.one (Some seven.destination) =
    record { maps = heads_seven (every ∷ pulls ∷ []) 0 refl; included = included _ } in
    let storable = pair_storable (codes "refs/heads/pr/7") (codes "refs/pull/7/head")
    (λ d. other_byte 5 (codes "refs/pull/7/head") (codes "refs/heads/pr/7/" ++ d.after)
    (λ equal. omega (arith, equal)) d.here)
    (λ d. other_byte 5 (codes "refs/heads/pr/7") (codes "refs/pull/7/head/" ++ d.after)
    (λ equal. omega (arith, equal)) d.here) in
    record {
      first = refl;
      second = refl;
      order = omega arith;
      conflict = record {
        storable = storable;
        one = one;
        other = record { maps = pull; included = included _ };
        differ = differ;
      };
    }

-- but not if a negative spec excludes one of the two, nor with the specs the other way round; so a conflict is listed
-- once
pub no_example : ¬ (IsExample (every ∷ pulls ∷ no (codes "refs/heads/pr/*") ∷ []) 0 1 seven)
    × ¬ (IsExample (every ∷ pulls ∷ []) 1 0 seven)
    × ¬ (IsExample (every ∷ pulls ∷ []) 1 0
    (record { first = 1; second = 0; one = seven.other; other = seven.one; destination = seven.destination }))
no_example = (
  (λ e. e.conflict.one.included (inr (inr (inl pr_excluded)))),
  (λ e. omega (arith, e.order)),
  λ e. omega (arith, e.order),
)

-- a pattern is never missing
pub every_never : (refs : List Ref) → ¬ (LacksSource refs every)
every_never =
    never_missing every (codes "refs/heads/*") (pattern (codes "refs/heads/") []) refl heads_split (λ m same. cc)
    (λ m same. cc)

-- of two equal specs the second is idle, and not the first, nor is it explained by itself
pub second_idle : IsIdleBy (every ∷ every ∷ []) 1 (reason.Duplicate 0)
    × ((h : ℕ) → ¬ (IsIdleBy (every ∷ every ∷ []) 0 (reason.Duplicate h)))
    × ¬ (IsIdleBy (every ∷ every ∷ []) 1 (reason.Duplicate 1))
second_idle =
    let first = heads_seven (every ∷ every ∷ []) 0 refl in
    let fetches : Fetches (every ∷ every ∷ []) both 1 seven.one (Some seven.destination) =
    record {
      maps = heads_seven (every ∷ every ∷ []) 1 refl;
      included = none_negative every refl
          (codes "refs/heads/pr/7");
    } in
    let always : IsCoveredBy (every ∷ every ∷ []) 1 0 = λ refs s d valid f. let m =
    f.maps.maps in record { reading = _; at = m.at; completed = _; is = m.is; makes = m.makes } in
    let shown : DoesBefore (every ∷ every ∷ []) 1 0 = record {
      refs = both;
      source = _;
      destination = _;
      fetches = fetches;
      before = omega arith;
      maps = first.maps;
    } in
    ((always, shown), (λ h is. omega (arith, is.1.before)), λ is. omega (arith, is.1.before))

names_no_ref : (g : List Reading) (merges : List (List ℕ)) → IsIdleExclusion g merges no_main
names_no_ref g merges = record {
  negative = refl;
  excludes = λ refs i n d maps by. by_case n by.text by.source by.excludes maps.source;
  merged = λ n m by. by_case n by.text by.source by.excludes m.valid;
}
  where
    by_case : (n x : List ℕ) → Some (codes "main") ≡ Some x → Excludes x n → ¬ (IsRefName n)
    by_case n x is (the_name lacks same) valid = main_no_ref (subst IsRefName (same ∙ sym (same_Some _ _ is)) valid)
    by_case n x is (by_pattern before after word split fits) valid = lacks_no_pattern x before after
        (subst (Lacks star) (same_Some _ _ is) (Lacks-tested star (codes "main") refl)) split

-- a negative spec without `refs/` names no branch, also where a spec maps `main`, and one of a branch excludes
-- something
pub excludes_none : IsIdleExclusion (every ∷ no_main ∷ []) [] no_main × ¬
    (IsIdleExclusion (every ∷ no (codes "refs/heads/pr/*") ∷ []) [] (no (codes "refs/heads/pr/*")))
    × IsIdleExclusion (to_x (codes "main") ∷ no_main ∷ []) [] no_main
excludes_none = (
  names_no_ref _ [],
  (λ idle. idle.excludes both 0 (codes "refs/heads/pr/7") (Some seven.destination)
      (heads_seven _ 0 refl) pr_excluded),
  names_no_ref _ [],
)

-- so it is also where a branch merges a value `main`, which isn't a full name
pub excludes_no_branch : IsIdleExclusion (every ∷ no_main ∷ []) (codes "main" ∷ []) no_main
excludes_no_branch = names_no_ref _ _

abbrev all_excluded : List Reading
all_excluded = every ∷ no_main ∷ no (codes "refs/heads/*") ∷ []

-- what is always excluded is so by a spec that excludes one of its sources, and not by any negative spec
pub excluded_by : IsIdleBy all_excluded 0 (reason.Excluded 2) × ¬ (IsIdleBy all_excluded 0 (reason.Excluded 1))
excluded_by =
    let by = excluded (codes "refs/heads/") (codes "refs/heads/pr/7") (codes "pr/7") heads_split refl in
    let shown : ExcludesOne all_excluded 0 2 =
    record {
      refs = both;
      source = _;
      destination = _;
      maps = heads_seven all_excluded 0 refl;
      negative = _;
      at =
          refl;
      excludes = by;
    } in
    let other = λ (is : IsIdleBy all_excluded 0 (reason.Excluded 1)).
    (names_no_ref all_excluded []).excludes is.1.refs 0 is.1.source is.1.destination is.1.maps
    (subst (IsExcludedBy is.1.source) (sym (same_Some _ _ is.1.at)) is.1.excludes) in
    (((λ refs s d f. f.included (by_source refs s d (made_by every refl every_completed f.maps.maps))), shown), other)
  where
    by_source : (refs : List Ref) (s : Source) (d : Option (List ℕ)) → MakesForward refs s d every
        → IsSourceExcluded all_excluded s
    by_source refs (id bytes) d makes =
        absurd (makes.object.1 (subst (BeginsWith (codes "refs/")) (same_Some _ _ makes.side)
        (record { after = codes "heads/*"; here = refl })))
    by_source refs (name n) d makes =
        let (w, some, fits) = word_of every refs n d makes (codes "refs/heads/") []
        (record { text = codes "refs/heads/*"; has = refl; split = heads_split }) in
        inr (inr (inl (excluded (codes "refs/heads/") n w heads_split fits)))

-- so it is listed as idle, and neither of the negative specs, which map nothing either
pub idle_listed : AreIdle all_excluded (record { spec = 0; reason = reason.Excluded 2; required = false } ∷ [])
idle_listed =
    let told : IsUnused all_excluded 0
    (record { spec = 0; reason = reason.Excluded 2; required = false }) = record {
      spec = refl;
      reason = excluded_by.0;
      required = dispensable_never all_excluded 0 every refl every_never;
    } in (
      Some (record { spec = 0; reason = reason.Excluded 2; required = false }),
      [],
      (tt, told),
      (None, [], (λ u is. is.0), (None, [], (λ u is. is.0), refl, refl), refl),
      refl,
    )

-- the same destination for `main` and for `refs/main`: as no valid ref is named `main`, the first spec takes the
-- second's ref
abbrev full : List ℕ
full = codes "refs/main"

abbrev pub main_twice : List Reading
main_twice = to_x (codes "main") ∷ to_x full ∷ []

full_kind : HasKind full (full_name full)
full_kind = (refl, Lacks-tested star full refl, record { after = codes "main"; here = refl })

x_completed : (x : List ℕ) → IsCompleted (to_x x) (to_x x)
x_completed x = record {
  operation = refl;
  mode = refl;
  source = refl;
  destination =
      inr (Lacks-tested star (codes "refs/x") refl, refl);
}

maps_full : (x : List ℕ) (k : ℕ) → slice_get main_twice k ≡ Some (to_x x)
    → ((bytes : List ℕ) → ¬ (HasKind x (object bytes))) → (refs : List Ref) → HasName refs full
    → ((r : Ref) → r.name ≡ full → Takes refs x r None) → Maps main_twice refs k (name full) (Some (codes "refs/x"))
maps_full x k at no_object refs there takes =
    let makes : MakesForward refs (name full) (Some (codes "refs/x")) (to_x x) = record {
      ends = record { near = x; far = Some (codes "refs/x") };
      has = record { positive = tt; near = refl; far = refl; no_object = no_object };
      one = named_some _ refs full there
          (λ r named. record {
            word = None;
            name = named;
            takes = takes r named;
            becomes =
                (full_name (codes "refs/x"), x_kind, refl);
          });
    } in
    record { reading = to_x x; at = at; completed = to_x x; is = x_completed x; makes = makes }

maps_first : (refs : List Ref) → AreValid refs → HasName refs full → Maps main_twice refs 0 (name full)
    (Some (codes "refs/x"))
maps_first refs valid there =
    let absent = λ (has : HasName refs (codes "main")). main_no_ref
    (each_named IsRefName refs (codes "main") valid has) in
    maps_full (codes "main") 0 refl (λ bytes kind. short_no_id bytes kind.2) refs there
    (λ r named. taken_by_first refs (codes "main") r short_kind
    (rw named (record {
      earlier = codes "main" ∷ [];
      later = _;
      here = refl;
      absent = (absent, tt);
      present =
          there;
    })))

maps_second : (refs : List Ref) → HasName refs full → Maps main_twice refs 1 (name full) (Some (codes "refs/x"))
maps_second refs there =
    maps_full full 1 refl (λ bytes kind. kind.1 full_kind.2) refs there
    (λ r named. record {
      matches = record { kind = full_name full; of = full_kind; is = (refl, named) };
      first =
          λ m short. absurd (short.2 full_kind.2);
    })

pub full_name_idle : IsIdleBy main_twice 1 (reason.Duplicate 0)
full_name_idle =
    let valid : AreValid (refs_of (name full)) = (inl (below _ refl), tt) in
    let sound : MapsSoundly main_twice (refs_of (name full)) 1 (name full) (Some (codes "refs/x")) =
    record { maps = maps_second _ (inl refl); source = inl (below _ refl); destination = below _ refl } in
    let fetches : Fetches main_twice (refs_of (name full)) 1 (name full) (Some (codes "refs/x")) =
    record { maps = sound; included = λ by. grind arith } in (
      earlier,
      record {
        refs = _;
        source = _;
        destination = _;
        fetches = fetches;
        before = omega arith;
        maps = maps_first _ valid (inl refl);
      },
    )
  where
    earlier : IsCoveredBy main_twice 1 0
    earlier refs s d valid f =
        let makes = made_by (to_x full) refl (x_completed full) f.maps.maps in
        let is = one_in (name full) s (sources_there (to_x full) full refl refs d (full_name full) _ full_kind
        (λ b a. lacks_no_pattern full b a full_kind.1) refl s makes) in
        let here : MakesForward refs (name full) d (to_x full) = rw is at makes in
        let own = made_by (to_x full) refl (x_completed full) (maps_second (refs_of (name full)) (inl refl)) in
        rw (is, sym (one_far _ refs (name full) _ d (to_x full) own here))
        (maps_first refs valid (made_there refs (name full) d (to_x full) here))

-- any byte may be free, but no larger number, no star, no letter of the folders, and none that a side has
pub free : IsFree [] 255 × ¬ (IsFree [] 256) × ¬ (IsFree [] 42) × ¬ (IsFree [] 114) × ¬ (IsFree (every ∷ []) 105)
free = grind (arith, false≢true, Lacks-here)

-- of two equal specs one is enough
pub one_enough : IdleLeftOut (every ∷ every ∷ []) → AreIdle (every ∷ every ∷ [])
    (record { spec = 1; reason = reason.Duplicate 0; required = false } ∷ []) → (refs : List Ref)
    (kept rest : List Mapped) → AreValid refs
    → AreKeptForward (every ∷ every ∷ []) refs kept → AreKeptForward (every ∷ []) refs rest → (m : Mapped) → IsSound m
    → HasPair kept m → HasPair rest m
one_enough law idle refs kept rest valid of_all of_rest m sound has =
    let told = (law (record { spec = 1; reason = reason.Duplicate 0; required = false } ∷ []) _ idle
    (0, omega arith, refl) refs valid).0 (every ∷ every ∷ []) (every_completed, (every_completed, tt)) in
    (told kept rest of_all of_rest m sound).1 has

-- and a negative spec that names no branch keeps none away
pub main_kept : IdleExclusionLeftOut (every ∷ no_main ∷ []) [] → (refs : List Ref) (kept rest : List Mapped)
    → AreKeptForward (every ∷ no_main ∷ []) refs kept → AreKeptForward (every ∷ []) refs rest
    → (m : Mapped) → IsSound m → HasPair rest m → HasPair kept m
main_kept law refs kept rest of_all of_rest m sound has =
    let idle : AreIdleExclusions (every ∷ no_main ∷ []) []
    (1 ∷ []) = (
      None,
      1 ∷ [],
      (λ k both. let is : Forced ≡ Negative = both.1.negative in cc),
      (Some 1, [], (refl, excludes_none.0), refl, refl),
      refl,
    ) in
    let told = law (1 ∷ []) 1 idle (0, omega arith, refl) [] (every ∷ no_main ∷ []) refs tt
    (every_completed, (record { operation = refl; mode = refl; source = refl; destination = refl }, tt)) in
    (told kept rest of_all of_rest m sound).0 has

-- a conflict over some refs has an example, and a fetch from the remote of an example keeps a mapping of each of its
-- sources
pub conflict_shown : (ConflictsShown (every ∷ pulls ∷ []) → (e : Example) × IsExample (every ∷ pulls ∷ []) 0 1 e)
    × (ExamplesConflict (every ∷ pulls ∷ []) → (kept : List Mapped) → AreKeptForward (every ∷ pulls ∷ []) both kept
    → HasSound kept seven.one seven.destination × HasSound kept seven.other seven.destination)
conflict_shown = (
  (λ law. law 0 1 (omega arith) (both, seven.one, seven.other, seven.destination, example.conflict)),
  λ law kept are. let told = law 0 1 seven example (every ∷ pulls ∷ []) kept
      (every_completed, (completed_as _ (codes "refs/remotes/origin/pr/") [], tt)) are in (told.0, told.1),
)

abbrev pulled : Wish
pulled = record { given = []; configured = every ∷ []; merges = codes "refs/heads/dev" ∷ []; tags = false }

-- one spec has none, so neither its mappings nor the updates of a plan conflict
pub one_source : (ConflictFree (every ∷ []) → (refs : List Ref) (kept : List Mapped) → AreStorable refs
    → AreKeptForward (every ∷ []) refs kept → (m n : Mapped) → Contains kept m → Contains kept n → IsSound m
    → IsSound n
    → ShareDestination m n → m.source ≡ n.source)
    × (PlanConflictFree pulled → (refs : List Ref) (planned : List Planned) (missing : List Origin) → AreStorable refs
    → IsPlan pulled refs planned missing → AllByRecursion (λ p. p.verdict ≢ verdict.InConflict) planned)
one_source =
    let none : AreExamples (every ∷ []) [] = (
      [],
      [],
      (None, [], (λ e shown. omega (arith, shown.order)), refl, refl),
      refl,
      refl,
    ) in (
      (λ law refs kept storable are. law none (every ∷ []) refs kept (every_completed, tt) storable are),
      λ law refs planned missing storable plan. law none refl refs planned missing storable plan,
    )
