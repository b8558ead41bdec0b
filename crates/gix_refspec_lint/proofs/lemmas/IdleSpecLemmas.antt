-- Why a spec does nothing, from what becomes of its mappings at the names that decide.
use Rattle.gix_refspec_lint.proofs.Common.{candidates, candidate_contained, ◌≡◌, ◌≢◌, inl, inr, ℕ, ◌+◌, ◌<◌}
use Rattle.gix_refspec_lint.proofs.Common.{option_to_list, take, List, [], ◌∷◌, ◌++◌, Option, None, Some, codes, length}
use Rattle.gix_refspec_lint.proofs.Common.{map, get_or, append-nil, refl, sym, ◌∙◌, subst, arith, AllByRecursion}
use Rattle.gix_refspec_lint.proofs.Common.{AllZip, Contains, slice_get, same_Some, Ref, HasName, IsCandidate}
use Rattle.gix_refspec_lint.proofs.Common.{IsPositive, Reading, star, IsSplit, Lacks, reading_of, RefSpecRef}
use Rattle.gix_refspec_lint.proofs.Common.{lacks_no_pattern, all_join, all_right, Lacks-here, first_once, IsMadeFrom}
use Rattle.gix_refspec_lint.proofs.Common.{MakesOf, Source, name, id, IsSourceExcluded, some_element, made_more}
use Rattle.gix_refspec_lint.proofs.Common.{MakesForward, IsCompleted, AreIdle, IsFree, IsIdleBy, Maps, MapsSoundly}
use Rattle.gix_refspec_lint.proofs.Common.{Unused, Explains, HasSourcePattern, IsShown, IsWhy, IsDeciding}
use Rattle.gix_refspec_lint.proofs.Common.{IsLongerPrefix, IsLongerSuffix, words_with, of_element, refs_of}
use Rattle.gix_refspec_lint.proofs.Common.{MakesSoundly}
use Rattle.gix_refspec_lint.proofs.lemmas.ByteLemmas.{excluded_moved, fits_byte, lacks_refs, lacks_mid}
use Rattle.gix_refspec_lint.proofs.lemmas.DecideLemmas.{Decided, IsMovedFar, decide}
use Rattle.gix_refspec_lint.proofs.lemmas.IndexLemmas.{zip_to, reading_at, of_maps, accepted_of, one_completed, maps_as}
use Rattle.gix_refspec_lint.proofs.lemmas.LeftOutLemmas.{made_completed, idle_earlier}
use Rattle.gix_refspec_lint.proofs.lemmas.MovedLemmas.{lacks_destination, lacks_parts, lacks_source}
use Rattle.gix_refspec_lint.proofs.lemmas.PatternLemmas.{HasShape, pattern_spec, spec_made, spec_maps, PatternSpec}
use Rattle.gix_refspec_lint.proofs.lemmas.SourceLemmas.{taken_cases}
use Rattle.gix_refspec_lint.proofs.lemmas.WordLemmas.{between, within}
use Rattle.gix_refspec_lint.proofs.Common.{IsAtWork, IsUnused, true, false, false≢true, is_some}
use Rattle.gix_refspec_lint.specs.Matching.Lint.{IsCoveredBy}
use Rattle.gix_refspec_lint.specs.Private.Idles.{IsAlwaysMapped, IsCovering, IsIdleAs, IsWhyBeside, alone_at}
use Rattle.gix_refspec_lint.specs.Private.Idles.{earlier_than}
use Rattle.gix_refspec_lint.specs.declared.idle.{Idleness.Idleness, Others.Others}
use Rattle.gix_refspec_lint.specs.declared.idle.Idleness.TheVariants as idleness
use Rattle.gix_refspec_lint.specs.declared.Reason.TheVariants as reason

pub idle_by : (g : List Reading) (others : Others) (k : ℕ) (r : Idleness) → ((s : Source) → Explains g others k s r)
    → IsShown g others k r → IsIdleAs g others k r
idle_by g others k idleness.Invalid explains shown = λ refs s d. explains s refs d
idle_by g others k (idleness.Excluded n) explains shown = ((λ refs s d. explains s refs d), shown)
idle_by g others k (idleness.Duplicate h) explains shown = ((λ refs s d. explains s refs d), shown)

pub explains_if : (g : List Reading) (others : Others) (k : ℕ) (s : Source) (r : Idleness)
    → ((refs : List Ref) (d : Option (List ℕ)) → MapsSoundly g refs k s d → Explains g others k s r)
    → Explains g others k s r
explains_if g others k s idleness.Invalid why = λ refs d m. why refs d m refs d m
explains_if g others k s (idleness.Excluded n) why = λ refs d f. why refs d f.maps refs d f
explains_if g others k s (idleness.Duplicate h) why = λ refs d valid f. why refs d f.maps refs d valid f

pub why_beside : (g : List Reading) (others : Others) (k : ℕ) (c : Reading) → IsPositive c.mode
    → (why : Option Idleness) → IsWhy g others k why → IsWhyBeside g others k c why
why_beside g others k c positive None works = λ also. works
why_beside g others k c positive (Some r) idle = (positive, idle)

-- what is told of a spec that is idle, or isn't
pub why_some : (g : List Reading) (others : Others) (k : ℕ) (c : Reading) (why : Option Idleness) → is_some why ≡ true
    → IsWhyBeside g others k c why → (r : Idleness) × IsIdleAs g others k r
why_some g others k c None some told = absurd (false≢true some)
why_some g others k c (Some r) some told = (r, told.1)

pub why_none : (g : List Reading) (others : Others) (k : ℕ) (c : Reading) (why : Option Idleness)
    → is_some why ≡ false → IsPositive c.mode → IsWhyBeside g others k c why → IsAtWork g others k
why_none g others k c None none positive told = told positive
why_none g others k c (Some r) none positive told = absurd (false≢true (sym none))

-- ---- the whole reason

-- an idle spec fetches nothing that the others don't map
idle_mapped : (g : List Reading) (others : Others) (k : ℕ) (r : Idleness) → IsIdleAs g others k r
    → IsAlwaysMapped g others k
idle_mapped g others k idleness.Invalid never = λ refs s d valid f. absurd (never refs s d f.maps)
idle_mapped g others k (idleness.Excluded n) idle = λ refs s d valid f. absurd (idle.0 refs s d f)
idle_mapped g others k (idleness.Duplicate h) idle = idle.0

-- if the only other one is at index h, it covers the spec
pub covered : (g : List Reading) (k h : ℕ) (r : Idleness) → IsIdleAs g (alone_at h) k r → IsCoveredBy g k h
covered g k h r idle refs s d valid f =
    let (i, (from, to), maps) = idle_mapped g (alone_at h) k r idle refs s d valid f in
    let same : i ≡ h = omega (arith, from, to) in
    subst (λ j. Maps g refs j s d) same maps

pub duplicate_of : (g : List Reading) (k i h : ℕ) → IsIdleAs g (earlier_than k) k (idleness.Duplicate i)
    → IsCovering g k (Some h) → IsIdleBy g k (reason.Duplicate h)
duplicate_of g k i h (always, one) (below, (why, idle)) =
    let by = covered g k h why idle in (
      by,
      record {
        refs = one.refs;
        source = one.source;
        destination = one.destination;
        fetches = one.fetches;
        before = below;
        maps = by one.refs one.source one.destination one.valid one.fetches;
      },
    )

pub duplicates_of : (g : List Reading) (k i : ℕ) → IsIdleAs g (earlier_than k) k (idleness.Duplicate i)
    → IsCovering g k None → IsIdleBy g k reason.Duplicates
duplicates_of g k i (always, one) none = (
  (λ refs s d valid f. let (h, (from, below), maps) = always refs s d valid f in (h, below, maps)),
  (λ h below.
      let w = none h below in
      record {
        refs = w.refs;
        valid = w.valid;
        source = w.source;
        destination = w.destination;
        fetches = w.fetches;
        unmapped = w.first h (omega arith, omega arith);
      }),
)

-- ---- what takes a name with the free byte

module _ (z : ℕ) (g : List Reading) (free : IsFree g z) where
  -- no candidate of a partial name without the byte has it, so only a pattern takes a name with it
  candidate_lacks : (x n : List ℕ) → Lacks z x → IsCandidate x n → Lacks z n
  candidate_lacks x n lacks one =
      let join : (a b : List ℕ) → Lacks z a → Lacks z b → Lacks z (a ++ b) = λ a b. all_join (λ c. c ≢ z) a b in
      let refs = lacks_refs z free.usable in
      let tags = lacks_mid z free.usable [] (codes "refs/tags/") _ refl in
      let heads = join (codes "refs/") (codes "heads/") refs
      (lacks_mid z free.usable (codes "refs/tags/") (codes "heads/") _ refl) in
      let remotes = join (codes "refs/") (codes "remotes/") refs
      (lacks_mid z free.usable (codes "refs/tags/heads/") (codes "remotes/") _ refl) in
      let last = join (codes "refs/remotes/") (x ++ codes "/HEAD") remotes
      (join x (codes "/HEAD") lacks
      (lacks_mid z free.usable (codes "refs/tags/heads/remotes") (codes "/HEAD") _ refl)) in
      let add : (f : List ℕ) → Lacks z f → Lacks z (f ++ x) = λ f front. join f x front lacks in
      let all : AllByRecursion (Lacks z) (candidates x) = (
        lacks,
        (
          add (codes "refs/") refs,
          (
            add (codes "refs/tags/") tags,
            (add (codes "refs/heads/") heads, (add (codes "refs/remotes/") remotes, (last, tt))),
          ),
        ),
      ) in
      of_element (Lacks z) (candidates x) n all (candidate_contained x n one)

  -- and takes each word in place of the byte
  module _ (cs : List RefSpecRef) (all : AllZip IsCompleted g (map reading_of cs)) (few refs : List Ref) (h : ℕ)
      (front back word : List ℕ) (d e : Option (List ℕ)) (k : Reading) (prefix : List ℕ)
      (maps : Maps g few h (name (front ++ (z ∷ back))) e) (there : HasName refs (front ++ (word ++ back)))
      (lacks_front : Lacks z front) (lacks_prefix : Lacks z prefix)
      (far : IsMovedFar z k prefix word d e) (lacks_far : (x a b : List ℕ) → k.destination ≡ Some x → IsSplit a b x
      → Lacks z x) where
    near_lacks : Lacks z maps.makes.ends.near
    near_lacks = lacks_source g z free h maps.reading maps.completed maps.makes.ends.near maps.at maps.is
        maps.makes.has.near

    moved_back : (p t : List ℕ) → IsSplit p t maps.makes.ends.near → Maps g refs h (name (front ++ (word ++ back))) d
    moved_back p t split =
        let accepted = accepted_of cs h maps.completed
        (zip_to g (map reading_of cs) all h maps.reading maps.completed maps.at maps.is) in
        let spec = pattern_spec maps.completed p t accepted maps.makes.has.positive
        (record { text = maps.makes.ends.near; has = maps.makes.has.near; split = split }) in
        let (w, source, is_far, own) = spec_made maps.completed p t spec few (front ++ (z ∷ back)) e maps.makes in
        let sides = lacks_parts g z free maps.makes.ends.near p t near_lacks split in
        let (u, v, before, after, word_is) = fits_byte z free.usable p t front back w sides.0 sides.1 source in
        let whole : front ++ (word ++ back) ≡ p ++ ((u ++ (word ++ v)) ++ t) =
        within p t front back u v word before after in
        maps_as maps (subst (λ o. MakesForward refs (name (front ++ (word ++ back))) o maps.completed)
        (destination spec.shape far u v w before word_is is_far)
        (subst (λ n. MakesForward refs (name n) (spec.far (u ++ (word ++ v))) maps.completed) (sym whole)
        (spec_maps maps.completed p t spec refs (u ++ (word ++ v)) (subst (HasName refs) whole there))))
      where
        destination : {far_of : List ℕ → Option (List ℕ)} → HasShape maps.completed far_of
            → IsMovedFar z k prefix word d e → (u v w : List ℕ) → front ≡ p ++ u → w ≡ u ++ (z ∷ v) → e ≡ far_of w
            → far_of (u ++ (word ++ v)) ≡ d
        destination (inl none) (inl (no_d, no_e)) u v w before word_is is_far = none (u ++ (word ++ v)) ∙ sym no_d
        destination (inl none) (inr (f, l, some_d, some_e, lacks)) u v w before word_is is_far = absurd (cc (none w))
        destination (inr one) (inl (no_d, no_e)) u v w before word_is is_far = absurd (cc (one.is w))
        destination (inr one) (inr (f, l, some_d, some_e, lacks)) u v w before word_is is_far =
            let same : one.before ++ (w ++ one.after) ≡ f ++ (z ∷ l) =
            same_Some _ _ (sym (one.is w) ∙ sym is_far ∙ some_e) in
            let split_byte : (one.before ++ u) ++ (z ∷ (v ++ one.after)) ≡ f ++ (z ∷ l) =
            between one.before u (z ∷ []) v one.after ∙ rw word_is at same in
            let side = lacks_destination g z free h maps.reading maps.completed one.side one.before one.after maps.at
            maps.is one.has one.split in
            let texts = lacks_parts g z free one.side one.before one.after side one.split in
            let lacks_u : Lacks z u = all_right (λ c. c ≢ z) p u (subst (Lacks z) before lacks_front) in
            let both = first_once z (one.before ++ u) f (v ++ one.after) l
            (all_join (λ c. c ≢ z) one.before u texts.0 lacks_u) (lacks lacks_prefix lacks_far) split_byte in
            let moved = between one.before u word v one.after in
            cc (one.is (u ++ (word ++ v)), both.0, both.1, moved, some_d)

    pub maps_back : Maps g refs h (name (front ++ (word ++ back))) d
    maps_back = elim (taken_cases maps.completed few (front ++ (z ∷ back)) e maps.makes) [
      | inl (p, t, split) ↦ moved_back p t split
      | inr (inl is) ↦ absurd (Lacks-here z front back (subst (Lacks z) (sym is) near_lacks))
      | inr (inr one) ↦
          absurd (Lacks-here z front back (candidate_lacks maps.makes.ends.near (front ++ (z ∷ back)) near_lacks one))
    ]

  -- ---- all sources of a pattern

  module _ (cs : List RefSpecRef) (all : AllZip IsCompleted g (map reading_of cs)) (others : Others) (k : ℕ)
      (c : Reading) (at : slice_get (map reading_of cs) k ≡ Some c) (positive : IsPositive c.mode) (p t : List ℕ)
      (source : HasSourcePattern c p t) where
    spec : PatternSpec c p t
    spec = pattern_spec c p t (accepted_of cs k c at) positive source

    -- the name that decides for a sound mapping
    found : (refs : List Ref) (n : List ℕ) (d : Option (List ℕ)) → MapsSoundly g refs k (name n) d
        → (q : Decided z c p t p t 0 n d)
        × ((few : List Ref) → HasName few q.source → MapsSoundly g few k (name q.source) q.destination)
    found refs n d m =
        let makes = of_maps g (map reading_of cs) all k c at refs (name n) d m.maps in
        let (v, fits, far, there) = spec_made c p t spec refs n d makes in
        let begins : IsLongerPrefix p p p = record {
          one = record { after = []; here = sym (append-nil p) };
          other =
              record { after = []; here = sym (append-nil p) };
          is = inl refl;
        } in
        let ends : IsLongerSuffix t t t =
        record {
          one = record { before = []; here = refl };
          other = record { before = []; here = refl };
          is =
              inl refl;
        } in
        let sound : MakesSoundly refs (name n) d c =
        record { makes = makes; source = m.source; destination = m.destination } in
        let q = decide g z free c p t spec p t p t 0 begins ends (λ k in_prefix in_suffix one other. omega (arith, one))
        refs n d v fits sound in
        let same = sym (one_completed g (map reading_of cs) all k c at m.maps) in (
          q,
          λ few has. let o =
              q.sound few has in
              record {
                maps = maps_as m.maps (subst (MakesForward few (name q.source) q.destination) same o.makes);
                source = o.source;
                destination = o.destination;
              },
        )

    -- no spec excludes it, if none excludes the source
    included_there : (n : List ℕ) (d : Option (List ℕ)) (q : Decided z c p t p t 0 n d)
        → ¬ (IsSourceExcluded g (name n)) → ¬ (IsSourceExcluded g (name q.source))
    included_there n d q none by = grind (arith, excluded_moved)

    named : (r : Idleness) → ((n : List ℕ) → IsDeciding (words_with z) p t 0 n → Explains g others k (name n) r)
        → (n : List ℕ) → Explains g others k (name n) r
    named idleness.Invalid decides n = λ refs d m.
        let (q, maps) = found refs n d m in
        decides q.source q.deciding (refs_of (name q.source)) q.destination (maps (refs_of (name q.source)) (inl refl))
    named (idleness.Excluded j) decides n = λ refs d f. let (q, maps) = found refs n d f.maps in
        decides q.source q.deciding (refs_of (name q.source)) q.destination
        (record { maps = maps (refs_of (name q.source)) (inl refl); included = included_there n d q f.included })
    named (idleness.Duplicate j) decides n = λ refs d valid f. let (q, maps) = found refs n d f.maps in elim q.moved [
      | inl (same, also) ↦ subst (λ x. Explains g others k (name x) (idleness.Duplicate j)) same
          (decides q.source q.deciding) refs d valid f
      | inr moved ↦
          let few = refs_of (name q.source) in
          let sound = maps few (inl refl) in
          let (i, below, earlier) = decides q.source q.deciding few q.destination (sound.source, tt)
          (record { maps = sound; included = included_there n d q f.included }) in
          let r = f.maps.maps.reading in
          let same = one_completed g (map reading_of cs) all k c at f.maps.maps in
          let done : IsCompleted r c = subst (IsCompleted r) same f.maps.maps.is in
          let prefix = (lacks_parts g z free source.text p t
          (lacks_source g z free k r c source.text f.maps.maps.at done source.has) source.split).0 in
          let present =
          (spec_made c p t spec refs n d (subst (MakesForward refs (name n) d) same f.maps.maps.makes)).3 in (
            i,
            below,
            subst (λ x. Maps g refs i (name x) d) (sym moved.was)
                (maps_back cs all few refs i moved.front moved.back moved.word d q.destination c p
                (subst (λ x. Maps g few i (name x) q.destination) moved.is earlier)
                (subst (HasName refs) moved.was present)
                (moved.lacks prefix) prefix moved.far
                (λ x a b has split. lacks_destination g z free k r c x a b f.maps.maps.at done has split)),
          )
    ]

    -- what explains the names with the words explains all
    pub words_explain : (r : Idleness)
        → AllByRecursion (λ w. Explains g others k (name (p ++ (w ++ t))) r) (words_with z) → (s : Source)
        → Explains g others k s r
    words_explain r explained (name n) = named r (λ m deciding. elim deciding [
      | inl (w, there, is) ↦ subst (λ x. Explains g others k (name x) r) (sym is)
          (of_element (λ w. Explains g others k (name (p ++ (w ++ t))) r) (words_with z) w explained there)
      | inr (l, none, overlap, is) ↦ absurd (omega (arith, none, overlap.some))
    ]) n
    words_explain r explained (id bytes) = explains_if g others k (id bytes) r (λ refs d m.
        let makes = of_maps g (map reading_of cs) all k c at refs (id bytes) d m.maps in
        let near : makes.text ≡ source.text = same_Some _ _ (sym makes.side ∙ source.has) in
        absurd (lacks_no_pattern source.text p t (subst (Lacks star) near makes.object.0) source.split))

pub sources_explain : (g : List Reading) (cs : List RefSpecRef) (all : AllZip IsCompleted g (map reading_of cs))
    (others : Others) (k : ℕ) (e : Reading) → slice_get (map reading_of cs) k ≡ Some e → (sources : List Source)
    → ((refs : List Ref) (s : Source) (d : Option (List ℕ)) → MakesForward refs s d e → Contains sources s)
    → (r : Idleness) → AllByRecursion (λ s. Explains g others k s r) sources → (s : Source) → Explains g others k s r
sources_explain g cs all others k e also sources has r explained s = explains_if g others k s r (λ refs d m.
    of_element (λ t. Explains g others k t r) sources s explained
    (has refs s d (of_maps g (map reading_of cs) all k e also refs s d m.maps)))

abbrev pub IsIdleAt : List Reading → ℕ → Reading → Unused → Type 0
IsIdleAt g k c u = IsPositive c.mode × IsUnused g k u

pub idle_of : (g h : List Reading) (idle : List Unused) → AllZip IsCompleted g h → IsMadeFrom (IsIdleAt g) 0 h idle
    → AreIdle g idle
idle_of g h idle all made =
    made_completed (IsIdleAt g) (λ k r c u done. (
      (λ is. (subst IsPositive (sym done.mode) is.0, is.1)),
      λ is. (subst IsPositive done.mode is.0, is.1),
    )) g h 0 idle all made

-- what is known of one more spec
abbrev pub IsTold : List Reading → ℕ → Reading → Option Unused → Type 0
IsTold g k c None = IsPositive c.mode → IsAtWork g (earlier_than k) k
IsTold g k c (Some u) = IsIdleAt g k c u

-- one more spec, if it is idle
pub idle_next : (g : List Reading) (cs : List RefSpecRef) (i : ℕ) (ys zs : List Unused) (one : Option Unused)
    → i < length cs → ((c : Reading) → slice_get (map reading_of cs) i ≡ Some c → IsTold g i c one)
    → IsMadeFrom (IsIdleAt g) 0 (map reading_of (take i cs)) ys → zs ≡ ys ++ option_to_list one
    → IsMadeFrom (IsIdleAt g) 0 (map reading_of (take (i + 1) cs)) zs
idle_next g cs i ys zs one below told so_far more =
    let d = some_element cs i below in
    let c = reading_of (get_or cs i d) in
    let makes = elim one as (λ w. IsTold g i c w → MakesOf (IsIdleAt g) i c w) [
      | None ↦ λ works u is.
          let w = works is.0 in
          let (j, before, maps) = idle_earlier g i u.reason is.1.reason w.refs w.source w.destination w.valid
          w.fetches in
          w.first j (omega arith, before) maps
      | Some u ↦ λ idle. idle
    ] in
    made_more (IsIdleAt g) reading_of cs i d ys zs one below so_far (makes (told c (reading_at cs i d below))) more
