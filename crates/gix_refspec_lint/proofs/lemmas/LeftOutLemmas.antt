-- Negative specs that exclude nothing.
use Rattle.gix_refspec_lint.proofs.Common.{◌↔◌, IsAlwaysEarlier, CanBeWritten, each_made, cases_eq, ◌≡◌, inl, inr, ℕ}
use Rattle.gix_refspec_lint.proofs.Common.{◌+◌, ◌≤◌, Bool, true, false, MatchBool, not, drop, List, [], ◌∷◌, ◌++◌}
use Rattle.gix_refspec_lint.proofs.Common.{Option, None, Some, refl, sym, ap, ◌∙◌, subst, AllByRecursion, AllZip, Any}
use Rattle.gix_refspec_lint.proofs.Common.{slice_get, Fits, by_pattern, IsAccepted, Reading, Negative, IsSplit}
use Rattle.gix_refspec_lint.proofs.Common.{IsMadeFrom, MakesOf, Source, name, id, IsExcludedBy, IsSourceExcluded}
use Rattle.gix_refspec_lint.proofs.Common.{some_at, IsCompleted, ref_named, same_excluded, IsFree, IsIdleExclusion}
use Rattle.gix_refspec_lint.proofs.Common.{ExcludesFrom, ExcludesSome, HasSourcePattern, ShareSources, words_with}
use Rattle.gix_refspec_lint.proofs.Common.{IsOverlap, Common, of_element, ◌≢◌, zero, suc, arith, Contains, same_Some}
use Rattle.gix_refspec_lint.proofs.Common.{Ref, IsPositive, Mapped, IsExcluded, MakesForward, IsValidSource}
use Rattle.gix_refspec_lint.proofs.Common.{kept_exactly, IsSound, IdleExclusionLeftOut, IdleLeftOut, AreValid, Fetches}
use Rattle.gix_refspec_lint.proofs.Common.{IsIdleBy, Reason, MapsSoundly}
use Rattle.gix_refspec_lint.proofs.lemmas.DecideLemmas.{decide}
use Rattle.gix_refspec_lint.proofs.lemmas.IndexLemmas.{maps_of, excluded_same, zip_to, any_at, excluded_at, zip_of}
use Rattle.gix_refspec_lint.proofs.lemmas.IndexLemmas.{still_excluded, completed_at, by_index}
use Rattle.gix_refspec_lint.proofs.lemmas.OneSpecLemmas.{makes_positive, own_name, excludes_by, text_excludes}
use Rattle.gix_refspec_lint.proofs.lemmas.OneSpecLemmas.{fits_excluded}
use Rattle.gix_refspec_lint.proofs.lemmas.PatternLemmas.{pattern_spec, spec_made}
use Rattle.gix_refspec_lint.proofs.lemmas.RunLemmas.{each_deciding}
use Rattle.gix_refspec_lint.specs.Laws.Lint.{without}
use Rattle.gix_refspec_lint.proofs.Common.{IsMerged, IsUnused, MatchBool-at_false}
use Rattle.gix_refspec_match.specs.Matching.Missing.{LacksSource}
use Rattle.gix_refspec_lint.specs.Laws.Lint.{HasMissing}
use Rattle.gix_refspec_lint.specs.Matching.Lint.{IsDispensable, IsRequired}
use Rattle.gix_refspec_lint.specs.Private.Idles.{AreMergedRefs}
use Rattle.gix_refspec_lint.proofs.Common.{merged_text, codes, head, star, Lacks, Lacks-tested, lacks_no_pattern}
use Rattle.gix_refspec_lint.proofs.Common.{IsRefName, IsCandidate, candidates, candidate_contained, slice_get_read}
use Rattle.gix_refspec_lint.proofs.Common.{length, slice_get_within, get_or_from_slice_get}
use Rattle.gix_refspec_lint.proofs.lemmas.SourceLemmas.{taken_cases}
use Rattle.gix_refspec_lint.specs.Laws.Lint.{IsFetchOfMerged}
use Rattle.std.proofs.lemmas.List.Elements.{Contains-append_cases}
use Rattle.gix_refspec_text.proofs.lemmas.parsing.SideLemmas.{Lacks-name}
use Rattle.gix_refspec_lint.specs.declared.Reason.TheVariants as reason

-- what a negative spec excludes is a name
excluded_name : (negative c : Reading) → ExcludesSome negative c → (n : List ℕ) × ExcludesFrom negative c (name n)
    × IsExcludedBy n negative
excluded_name negative c (id bytes, e) = absurd e.excludes
excluded_name negative c (name n, e) = (n, e, elim e.excludes [ inl by ↦ by | inr none ↦ absurd none ])

-- what is excluded and mapped is so at a name that decides; by what is found in the overlaps, and not with the words
pub shared_told : (g : List Reading) (z : ℕ) (free : IsFree g z) (negative c : Reading) (common : Common)
    → negative.mode ≡ Negative → ∥ IsAccepted c ∥₁ → ShareSources negative c common → (does : Bool)
    → AllByRecursion (λ w. ¬ (ExcludesFrom negative c (name (common.prefix.now ++ (w ++ common.suffix.now)))))
    (words_with z)
    → MatchBool does (ExcludesSome negative c)
    ((k : ℕ) → k ≤ common.most → IsOverlap common.prefix.now common.suffix.now k
    → ¬ (ExcludesFrom negative c (name (common.prefix.now ++ drop k common.suffix.now))))
    → MatchBool does (ExcludesSome negative c) (¬ (ExcludesSome negative c))
shared_told g z free negative c common is accepted share true by_word some = some
shared_told g z free negative c common is accepted share false by_word none = λ some.
    let (m, e, by) = excluded_name negative c some in
    let one = share.one in
    let (v, fits) = fits_excluded one.text share.before share.after m one.split
    (text_excludes negative one.text is one.has m e.excludes) in
    let spec = pattern_spec c share.prefix share.suffix accepted e.makes.makes.has.positive share.other in
    let d = decide g z free c share.prefix share.suffix spec share.before share.after common.prefix.now
    common.suffix.now common.most share.shared.prefix share.shared.suffix share.shared.most
    e.refs m e.destination v fits e.makes in
    let too = excludes_by negative one.text is one.has d.source
    (by_pattern share.before share.after d.word one.split d.fits) in
    each_deciding (λ n. ¬ (ExcludesFrom negative c (name n))) (words_with z) common.prefix.now common.suffix.now
    common.most by_word none d.source d.deciding
    (record {
      refs = ref_named d.source ∷ [];
      destination = d.destination;
      makes = d.sound (ref_named d.source ∷ [])
          (inl refl);
      excludes = too;
    })

-- without a star only its own name
pub plain_only : (negative c : Reading) (x : List ℕ) (b : Bool) → negative.mode ≡ Negative → negative.source ≡ Some x
    → ((y before after : List ℕ) → negative.source ≡ Some y → ¬ (IsSplit before after y))
    → MatchBool b (ExcludesFrom negative c (name x)) (¬ (ExcludesFrom negative c (name x)))
    → MatchBool b (ExcludesSome negative c) (¬ (ExcludesSome negative c))
plain_only negative c x true is has none e = (name x, e)
plain_only negative c x false is has none not_x = λ some.
    let (m, e, by) = excluded_name negative c some in
    not_x (subst (λ n. ExcludesFrom negative c (name n))
    (sym (own_name x m (λ before after. none x before after has) (text_excludes negative x is has m e.excludes))) e)

pub none_apart : (negative c : Reading) (a b p t : List ℕ) → negative.mode ≡ Negative → ∥ IsAccepted c ∥₁
    → HasSourcePattern negative a b → HasSourcePattern c p t → ((n v w : List ℕ) → Fits a b n v → Fits p t n w → ⊥)
    → ¬ (ExcludesSome negative c)
none_apart negative c a b p t is accepted one other apart some =
    let (m, e, by) = excluded_name negative c some in
    let (v, fits) = fits_excluded one.text a b m one.split (text_excludes negative one.text is one.has m e.excludes) in
    let (w, source, far, there) = spec_made c p t (pattern_spec c p t accepted e.makes.makes.has.positive other) e.refs
    m e.destination e.makes.makes in
    apart m v w fits source

pub idle_told : (g h : List Reading) (merges : List (List ℕ)) → AllZip IsCompleted g h → (c : Reading)
    → c.mode ≡ Negative → ((n : List ℕ) → IsMerged merges n → ¬ (IsExcludedBy n c))
    → (b : Bool) → MatchBool b (Any (ExcludesSome c) h) (¬ (Any (ExcludesSome c) h))
    → MatchBool (not b) (IsIdleExclusion g merges c) (¬ (IsIdleExclusion g merges c))
idle_told g h merges all c is none_merged true any = λ idle.
    let (k, e, at, some) = any_at (ExcludesSome c) h any in
    let (n, from, by) = excluded_name c e some in
    idle.excludes from.refs k n from.destination
    (record {
      maps = maps_of g h all k e at from.refs (name n) from.destination from.makes.makes;
      source =
          from.makes.source;
      destination = from.makes.destination;
    }) by
idle_told g h merges all c is none_merged false none = record {
  negative = is;
  excludes = λ refs i n d m by.
      let from : ExcludesFrom c m.maps.completed (name n) =
      record {
        refs = refs;
        destination = d;
        makes = record {
          makes = m.maps.makes;
          source = m.source;
          destination =
              m.destination;
        };
        excludes = inl by;
      } in
      none (some_at (ExcludesSome c) h i m.maps.completed
      (zip_to g h all i m.maps.reading m.maps.completed m.maps.at m.maps.is) (name n, from));
  merged = none_merged;
}

-- what excludes one of the merged refs isn't idle
pub merged_told : (merges : List (List ℕ)) (sources : List Source) (c : Reading) → AreMergedRefs merges sources
    → Any (IsSourceExcluded (c ∷ [])) sources → (n : List ℕ) × IsMerged merges n × IsExcludedBy n c
merged_told merges sources c are any =
    let (k, s, below, is, by) = any in
    let (n, same, merged) = are.only s (k, below, is) in
    (n, merged, elim (subst (IsSourceExcluded (c ∷ [])) same by) [ inl one ↦ one | inr none ↦ absurd none ])

pub none_told : (merges : List (List ℕ)) (sources : List Source) (c : Reading) → AreMergedRefs merges sources
    → ¬ (Any (IsSourceExcluded (c ∷ [])) sources) → (n : List ℕ) → IsMerged merges n → ¬ (IsExcludedBy n c)
none_told merges sources c are none n merged by =
    let (k, below, is) = are.has n merged in
    none (k, name n, below, is, inl by)

pub made_completed : {Y : Type 0} (R : ℕ → Reading → Y → Type 0)
    → ((k : ℕ) (r c : Reading) (y : Y) → IsCompleted r c → R k r y ↔ R k c y)
    → (g h : List Reading) (k : ℕ) (ys : List Y) → AllZip IsCompleted g h → IsMadeFrom R k h ys → IsMadeFrom R k g ys
made_completed R same [] [] k ys all made = made
made_completed R same [] (c ∷ h) k ys all made = absurd all
made_completed R same (r ∷ g) [] k ys all made = absurd all
made_completed R same (r ∷ g) (c ∷ h) k ys all (one, rest, of, more, is) =
    let back = elim one as (λ o. MakesOf R k c o → MakesOf R k r o)
    [ None ↦ λ none y has. none y ((same k r c y all.0).0 has) | Some y ↦ (same k r c y all.0).1 ] in
    (one, rest, back of, made_completed R same g h (k + 1) rest all.1 more, is)

abbrev pub IsIdleOne : List Reading → List (List ℕ) → ℕ → Reading → ℕ → Type 0
IsIdleOne g merges k r made = (made ≡ k) × IsIdleExclusion g merges r

pub idle_completed : (g h : List Reading) (merges : List (List ℕ)) (idle : List ℕ) → AllZip IsCompleted g h
    → IsMadeFrom (IsIdleOne g merges) 0 h idle → IsMadeFrom (IsIdleOne g merges) 0 g idle
idle_completed g h merges idle all made =
    made_completed (IsIdleOne g merges) (λ k r c y done. (
      (λ both. (
        both.0,
        record {
          negative = done.mode ∙ both.1.negative;
          excludes = λ refs i n d maps by. both.1.excludes refs i n d maps (same_excluded r c n done by);
          merged = λ n one by. both.1.merged n one (same_excluded r c n done by);
        },
      )),
      (λ both. (
        both.0,
        record {
          negative = sym done.mode ∙ both.1.negative;
          excludes = λ refs i n d maps by. both.1.excludes refs i n d maps (excluded_same r c n done by);
          merged = λ n one by. both.1.merged n one (excluded_same r c n done by);
        },
      )),
    )) g h 0 idle all made

-- no mapping of an idle spec is one that no earlier spec makes
pub idle_earlier : (g : List Reading) (k : ℕ) (r : Reason) → IsIdleBy g k r → IsAlwaysEarlier g k
idle_earlier g k reason.Invalid never = λ refs s d valid f. absurd (never refs s d f.maps)
idle_earlier g k (reason.Excluded n) idle = λ refs s d valid f. absurd (idle.0 refs s d f)
idle_earlier g k (reason.Duplicate h) idle = λ refs s d valid f. (h, idle.1.before, idle.0 refs s d valid f)
idle_earlier g k reason.Duplicates idle = idle.0

-- ---- an idle spec can be left out

later_any : (P : Reading → Type 0) (x : Reading) (l : List Reading) → Any P l → Any P (x ∷ l)
later_any P x l (k, y, below, is, holds) = (suc k, y, omega (arith, below), is, holds)

stays_any : (P : Reading → Type 0) (l : List Reading) (k j : ℕ) (x : Reading) → j ≢ k → slice_get l j ≡ Some x → P x
    → Any P (without k l)
stays_any P [] k j x other at holds = absurd (cc (at))
stays_any P (y ∷ l) zero zero x other at holds = absurd (other refl)
stays_any P (y ∷ l) zero (suc j) x other at holds = some_at P l j x at holds
stays_any P (y ∷ l) (suc k) zero x other at holds = (zero, x, omega arith, same_Some _ _ at, holds)
stays_any P (y ∷ l) (suc k) (suc j) x other at holds = later_any P y (without k l)
    (stays_any P l k j x (λ same. other (ap suc same)) at holds)

was_any : (P : Reading → Type 0) (l : List Reading) (k : ℕ) → Any P (without k l) → Any P l
was_any P [] k any = any
was_any P (y ∷ l) zero any = later_any P y l any
was_any P (y ∷ l) (suc k) (zero, x, below, is, holds) = (zero, x, omega arith, is, holds)
was_any P (y ∷ l) (suc k) (suc j, x, below, is, holds) =
    later_any P y l (was_any P l k (j, x, omega (arith, below), is, holds))

any_excluded : (l : List Reading) (n : List ℕ) → IsExcluded l n ↔ Any (IsExcludedBy n) l
any_excluded l n = (
  (λ by. let (j, r, at, of) = by_index l n by in some_at (IsExcludedBy n) l j r at of),
  λ any. let (k, r, at, by) = any_at (IsExcludedBy n) l any in excluded_at l k r n at by,
)

was_source : (l : List Reading) (k : ℕ) (s : Source) → IsSourceExcluded (without k l) s → IsSourceExcluded l s
was_source l k (name n) by = (any_excluded l n).1 (was_any (IsExcludedBy n) l k ((any_excluded (without k l) n).0 by))
was_source l k (id bytes) none = none

-- what isn't only at index k is elsewhere
elsewhere : (P : Reading → Type 0) (l : List Reading) (k : ℕ)
    → ((x : Reading) → slice_get l k ≡ Some x → P x → Any P (without k l)) → Any P l → Any P (without k l)
elsewhere P l k there any =
    let (j, x, at, holds) = any_at P l any in
    elim (cases_eq j k) [ inr other ↦ stays_any P l k j x other at holds | inl same ↦ there x (rw same at at) holds ]

-- a positive spec excludes nothing
stays_source : (l : List Reading) (k : ℕ) (c : Reading) (s : Source) → slice_get l k ≡ Some c → IsPositive c.mode
    → IsSourceExcluded l s → IsSourceExcluded (without k l) s
stays_source l k c (name n) at positive by =
    (any_excluded (without k l) n).1
    (elsewhere (IsExcludedBy n) l k
    (λ x is of. absurd (subst IsPositive (ap (λ (q : Reading). q.mode) (same_Some _ _ (sym at ∙ is)) ∙ of.negative)
    positive)) ((any_excluded l n).0 by))
stays_source l k c (id bytes) at positive none = none

made_of : {Y : Type 0} (P : ℕ → Reading → Y → Type 0) (g : List Reading) (idle : List Y) (u : Y) → IsMadeFrom P 0 g idle
    → Contains idle u → (j : ℕ) × (r : Reading) × (slice_get g j ≡ Some r) × P j r u
made_of {Y} P g idle u made there =
    let Q : Y → Type 0 = λ v. (j : ℕ) × (r : Reading) × (slice_get g j ≡ Some r) × P j r v in of_element Q idle u
    (each_made P Q g idle (λ j r y at makes. (j, r, at, makes)) made) there

-- a fetch of an idle spec is one of an earlier spec
still_made : (g h : List Reading) → AllZip IsCompleted g h → (refs : List Ref) → AreValid refs → (k : ℕ) (r : Reason)
    → IsIdleBy g k r → (m : Mapped) → IsSound m → ¬ (IsSourceExcluded h m.source)
    → Any (MakesForward refs m.source m.destination) h → Any (MakesForward refs m.source m.destination) (without k h)
still_made g h all refs valid k r idle m sound included any = elsewhere (MakesForward refs m.source m.destination) h k
    (λ c at makes.
    let maps = maps_of g h all k c at refs m.source m.destination makes in
    let f : Fetches g refs k m.source m.destination =
    record {
      maps = record { maps = maps; source = sound.source; destination = sound.destination };
      included =
          λ by. included (still_excluded g h all m.source by);
    } in
    let (j, below, n) = idle_earlier g k r idle refs m.source m.destination valid f in
    stays_any (MakesForward refs m.source m.destination) h k j n.completed (λ same. omega (arith, same, below))
    (zip_to g h all j n.reading n.completed n.at n.is) n.makes) any

-- without a spec that isn't required a source is missing where one is with it
missing_alike : (g : List Reading) (k : ℕ) (refs : List Ref) → AreValid refs → IsDispensable g k
    → HasMissing g refs ↔ HasMissing (without k g) refs
missing_alike g k refs fine free = (
  (λ any. elsewhere (LacksSource refs) g k (λ r at lacking.
      let (j, other, one) = free refs fine (record { reading = r; at = at; lacks = lacking }) in
      stays_any (LacksSource refs) g k j one.reading other one.at one.lacks) any),
  (λ any. was_any (LacksSource refs) g k any),
)

pub idle_left_out : (g : List Reading) → IdleLeftOut g
idle_left_out g idle u are there refs valid =
    let (j, q, at, (positive, told)) = made_of (λ i r v. IsPositive r.mode × IsUnused g i v) g idle u are there in
    let index : j ≡ u.spec = sym told.spec in
    let here : slice_get g u.spec ≡ Some q = subst (λ i. slice_get g i ≡ Some q) index at in
    let reason_is : IsIdleBy g u.spec u.reason = subst (λ i. IsIdleBy g i u.reason) index told.reason in
    let required_is : MatchBool u.required (IsRequired g u.spec) (IsDispensable g u.spec) = subst
    (λ i. MatchBool u.required (IsRequired g i) (IsDispensable g i)) index told.required in (
      (λ h all kept rest of_all of_rest m sound.
          let whole = (kept_exactly h refs).forward kept of_all m in
          let part = (kept_exactly (without u.spec h) refs).forward rest of_rest m in (
            (λ has. let made = part.0 has in whole.1 (
              was_any (MakesForward refs m.source m.destination) h u.spec made.0,
              λ by.
                  let (c, there, done) = completed_at g h all u.spec q here in made.1
                  (stays_source h u.spec c m.source there (subst IsPositive (sym done.mode) positive) by),
            )),
            (λ has. let made = whole.0 has in part.1 (
              still_made g h all refs valid u.spec u.reason reason_is m sound made.1 made.0,
              λ by. made.1 (was_source h u.spec m.source by),
            )),
          )),
      (λ unneeded. missing_alike g u.spec refs valid
          (MatchBool-at_false (IsRequired g u.spec) (IsDispensable g u.spec) unneeded required_is)),
    )

-- ---- idle negative specs

-- a merged ref is its own text
own_text : (n : List ℕ) → IsRefName n → merged_text n ≡ n
own_text [] (inl (begins, named)) = let bad : [] ≡ codes "refs/" ++ begins.after = begins.here in absurd (cc (bad))
own_text [] (inr is) = absurd (cc (is))
own_text (b ∷ x) valid = refl

name_lacks : (n : List ℕ) → IsRefName n → Lacks star n
name_lacks n (inl (begins, named)) = Lacks-name n named
name_lacks n (inr is) = subst (Lacks star) (sym is) (Lacks-tested star head refl)

-- what the fetch of a merged ref takes is a merged ref
merged_taken : (merges : List (List ℕ)) (r c : Reading) → IsFetchOfMerged merges r → IsCompleted r c
    → (refs : List Ref) (n : List ℕ) (d : Option (List ℕ)) → MakesForward refs (name n) d c
    → IsRefName n → IsMerged merges n
merged_taken merges r c (m, has, valid, is) done refs n d makes good =
    let near : makes.ends.near ≡ m = same_Some _ _
    (sym makes.has.near ∙ done.source ∙ ap (λ (q : Reading). q.source) is) in
    let listed : Contains (candidates m) n = elim (taken_cases c refs n d makes) [
      | inl (p, t, split) ↦ absurd (lacks_no_pattern m p t (name_lacks m valid) (subst (IsSplit p t) near split))
      | inr (inl same) ↦ (zero, omega arith, sym near ∙ sym same)
      | inr (inr one) ↦ candidate_contained m n (subst (λ x. IsCandidate x n) near one)
    ] in
    record {
      value = m;
      has = has;
      candidate = subst (λ x. Contains (candidates x) n) (sym (own_text m valid)) listed;
      valid = good;
    }

module _ (g others h : List Reading) (merges : List (List ℕ))
    (merged : AllByRecursion (IsFetchOfMerged merges) others) (all : AllZip IsCompleted (g ++ others) h)
    (refs : List Ref) (k : ℕ) (q : Reading) (here : slice_get (g ++ others) k ≡ Some q)
    (idle : IsIdleExclusion g merges q) where
  of_index : (c : Reading) → slice_get h k ≡ Some c → IsCompleted q c × (c.mode ≡ Negative)
  of_index c at = grind (arith, zip_of, same_Some)

  -- what makes a mapping is another spec
  makes_elsewhere : (s : Source) (d : Option (List ℕ)) → Any (MakesForward refs s d) h
      → Any (MakesForward refs s d) (without k h)
  makes_elsewhere s d any = elsewhere (MakesForward refs s d) h k
      (λ c at makes. absurd (subst IsPositive (of_index c at).1 (makes_positive refs s d c makes))) any

  -- the idle one excludes no source of a sound mapping
  excludes_none : (n : List ℕ) (d : Option (List ℕ)) → IsRefName n → CanBeWritten d → (r c : Reading)
      → Contains (g ++ others) r → IsCompleted r c → MakesForward refs (name n) d c → ¬ (IsExcludedBy n q)
  excludes_none n d valid written r c there done makes by = elim (Contains-append_cases g others r there) [
    | inl (i, below, is) ↦
        let at : slice_get g i ≡ Some r = slice_get_read g (length g) i r refl below (sym is) in
        let maps : MapsSoundly g refs i
        (name n) d = record {
          maps = record { reading = r; at = at; completed = c; is = done; makes = makes };
          source = valid;
          destination = written;
        } in
        idle.excludes refs i n d maps by
    | inr other ↦ idle.merged n (merged_taken merges r c
        (of_element (IsFetchOfMerged merges) others r merged other) done refs n d makes valid) by
  ]

  -- and what excludes its source is another one
  excluded_elsewhere : (s : Source) (d : Option (List ℕ)) → IsValidSource s → CanBeWritten d
      → Any (MakesForward refs s d) h → IsSourceExcluded h s → IsSourceExcluded (without k h) s
  excluded_elsewhere (id bytes) d valid written any none = none
  excluded_elsewhere (name n) d valid written any by = (any_excluded (without k h) n).1
      (elsewhere (IsExcludedBy n) h k (λ c at excludes.
      let (i, e, there, makes) = any_at (MakesForward refs (name n) d) h any in
      let (r, at_r, done) = zip_of (g ++ others) h all i e there in
      let has : Contains (g ++ others) r = (
        i,
        slice_get_within (g ++ others) i r at_r,
        get_or_from_slice_get (g ++ others) i r r at_r,
      ) in
      absurd (excludes_none n d valid written r e has done makes (same_excluded q c n (of_index c at).0 excludes)))
      ((any_excluded h n).0 by))

-- a reading at an index is there with others behind
still_at : (g others : List Reading) (k : ℕ) (q : Reading) → slice_get g k ≡ Some q → slice_get (g ++ others) k ≡ Some q
still_at [] others k q at = absurd (cc (at))
still_at (x ∷ g) others zero q at = at
still_at (x ∷ g) others (suc k) q at = still_at g others k q at

pub idle_exclusion_left_out : (g : List Reading) (merges : List (List ℕ)) → IdleExclusionLeftOut g merges
idle_exclusion_left_out g merges idle k are there others h refs merged all kept rest of_all of_rest m sound =
    let (j, q, at, (same, is)) = made_of (IsIdleOne g merges) g idle k are there in
    let own : slice_get g k ≡ Some q = subst (λ i. slice_get g i ≡ Some q) (omega (arith, same)) at in
    let here = still_at g others k q own in
    let whole = (kept_exactly h refs).forward kept of_all m in
    let part = (kept_exactly (without k h) refs).forward rest of_rest m in (
      (λ has.
          let made = part.0 has in
          let any = was_any (MakesForward refs m.source m.destination) h k made.0 in
          whole.1 (
            any,
            λ by. made.1 (excluded_elsewhere g others h merges merged all refs k q here is m.source m.destination
                sound.source sound.destination any by),
          )),
      (λ has. let made = whole.0 has in part.1 (
        makes_elsewhere g others h merges merged all refs k q here is m.source m.destination made.0,
        λ by. made.1 (was_source h k m.source by),
      )),
    )
