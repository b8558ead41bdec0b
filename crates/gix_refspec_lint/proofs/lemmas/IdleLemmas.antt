-- Specs that never do anything, source by source.
use Rattle.gix_refspec_lint.proofs.Common.{Fetches, map_each, item_named, ◌≡◌, ◌⊎◌, inl, inr, ℕ, zero, suc, ◌<◌, Bool}
use Rattle.gix_refspec_lint.proofs.Common.{true, false, MatchOption, Bor, List, [], ◌∷◌, ◌++◌, Option, None, Some}
use Rattle.gix_refspec_lint.proofs.Common.{codes, length, map, take, drop, get_or, append_assoc, refl, sym, ap, ◌∙◌}
use Rattle.gix_refspec_lint.proofs.Common.{subst, arith, IsTrue, nat_eq, AllByRecursion, Contains, ends_with, is_some}
use Rattle.gix_refspec_lint.proofs.Common.{false≢true, Decides-eqb, map-append, Contains-append_left}
use Rattle.gix_refspec_lint.proofs.Common.{Contains-append_right, same_Some, ends_is, bstring_bytes, BString, Ref}
use Rattle.gix_refspec_lint.proofs.Common.{MatchesAs, SideKind, pattern, object, partial, HasKind, Fits, candidates}
use Rattle.gix_refspec_lint.proofs.Common.{Reading, IsSplit, EndsWith, Source, name, candidate_cases, map_split}
use Rattle.gix_refspec_lint.proofs.Common.{MakesForward, IsRefName, AreAllowed, AreTriedBefore, Explains}
use Rattle.gix_refspec_lint.proofs.Common.{Contains-push_cases, of_element, ◌+◌, ◌≤◌, AllZip, slice_get, HasName}
use Rattle.gix_refspec_lint.proofs.Common.{IsFirstCandidate, upto, one_kind, IsCompleted, ref_named, AreValid, Maps}
use Rattle.gix_refspec_lint.proofs.Common.{refs_of, AreAbsent, AreFreeing, ArePreferred, refs_with, one_word, all_join}
use Rattle.gix_refspec_lint.proofs.Common.{IsFilled, id, IsExcludedBy, IsSourceExcluded, HaveSameNames, IsValidSource}
use Rattle.gix_refspec_lint.proofs.Common.{MapsSoundly, IsAtWork, IsShown, MakesSoundly, all_right, mapped_there}
use Rattle.gix_refspec_lint.proofs.lemmas.FoundLemmas.{makes_also}
use Rattle.gix_refspec_lint.proofs.lemmas.IndexLemmas.{made_there, own_among, named_in, makes_again, zip_to}
use Rattle.gix_refspec_lint.proofs.lemmas.IndexLemmas.{one_completed, all_listed, maps_as, maps_of, of_maps}
use Rattle.gix_refspec_lint.proofs.lemmas.IndexLemmas.{excluded_at}
use Rattle.gix_refspec_lint.proofs.lemmas.PatternLemmas.{word_of, destination_once}
use Rattle.gix_refspec_lint.proofs.lemmas.SourceLemmas.{taken_as, taken_cases}
use Rattle.gix_refspec_text.proofs.lemmas.lists.LacksLemmas.{first_with}
use Rattle.gix_refspec.proofs.lemmas.keep.FilterLemmas.{name_there}
use Rattle.gix_refspec_lint.specs.{Private.Idles.IsOther, declared.idle.{Idleness.Idleness, Others.Others}}
use Rattle.gix_refspec_lint.specs.declared.idle.Idleness.TheVariants as idleness

-- the last of the reasons explains what each explains
pub duplicate_any : (g : List Reading) (others : Others) (k : ℕ) (s : Source) (r : Idleness) (h : ℕ)
    → Explains g others k s r → Explains g others k s (idleness.Duplicate h)
duplicate_any g others k s idleness.Invalid h none = λ refs d valid f. absurd (none refs d f.maps)
duplicate_any g others k s (idleness.Excluded n) h none = λ refs d valid f. absurd (none refs d f)
duplicate_any g others k s (idleness.Duplicate i) h mapped = mapped

pub fits_taken : (r : Reading) (x : List ℕ) → r.source ≡ Some x → (refs : List Ref) (n : List ℕ) (d : Option (List ℕ))
    (before after : List ℕ) (word : Option (Bor (List ℕ))) → ((y : List ℕ) × (Some x ≡ Some y) × IsSplit before after y)
    → MatchOption word ((w : List ℕ) → ¬ (Fits before after n w)) (λ w. Fits before after n w.now)
    → MakesForward refs (name n) d r → IsTrue (is_some word)
fits_taken r x has refs n d before after (Some w) parts fits makes = refl
fits_taken r x has refs n d before after None (y, is, split) none makes =
    let (w, some, fits) = word_of r refs n d makes before after (record { text = y; has = has ∙ is; split = split }) in
    absurd (none w fits)

-- the name of a candidate ends with the partial one, or it is the head of a remote
pub ends_taken : (r : Reading) (x : List ℕ) → r.source ≡ Some x
    → ((y before after : List ℕ) → Some x ≡ Some y → ¬ (IsSplit before after y)) → (refs : List Ref) (n : List ℕ)
    (d : Option (List ℕ)) → MakesForward refs (name n) d r
    → EndsWith x n ⊎ EndsWith (codes "/HEAD") n
ends_taken r x has plain refs n d makes =
    let near : makes.ends.near ≡ x = same_Some _ _ (sym makes.has.near ∙ has) in
    elim (taken_cases r refs n d makes) [
      | inl (p, t, split) ↦ absurd (plain x p t refl (subst (IsSplit p t) near split))
      | inr (inl is) ↦ inl (record { before = []; here = is ∙ near })
      | inr (inr one) ↦ elim (candidate_cases makes.ends.near n one) [
        | inl (before, folder, is) ↦ inl (record { before = before; here = is ∙ ap (λ y. before ++ y) near })
        | inr is ↦ inr
            (record {
              before = codes "refs/remotes/" ++ makes.ends.near;
              here = is
                  ∙ sym (append_assoc (codes "refs/remotes/") makes.ends.near (codes "/HEAD"));
            })
      ]
    ]

pub ends_told : (x head n : List ℕ) (b c : Bool) → b ≡ ends_with nat_eq n x → c ≡ ends_with nat_eq n head → b ≡ false
    → EndsWith x n ⊎ EndsWith head n → c ≡ true
ends_told x head n b c tells also none ends =
    grind (arith, ends, ends_is Decides-eqb n x b tells, ends_is Decides-eqb n head c also, false≢true)

pub none_tried : (x n : List ℕ) → AllByRecursion (λ y. ¬ (y ≡ n)) (candidates x) → (names : List (List ℕ))
    → AreTriedBefore x n names
none_tried x n none names =
    record {
      some = λ earlier later here first. absurd
          ((all_right (λ y. ¬ (y ≡ n)) earlier (n ∷ later) (subst (AllByRecursion (λ y. ¬ (y ≡ n))) here none)).0 refl);
    }

pub tried_at : (x n : List ℕ) (texts : List BString) (i : ℕ) (b : BString) (names : List (List ℕ))
    → map bstring_bytes texts ≡ candidates x → i < length texts → b ≡ get_or texts i b → bstring_bytes b ≡ n
    → AllByRecursion (λ y. ¬ (y ≡ n)) (map bstring_bytes (take i texts)) → names ≡ map bstring_bytes (take i texts)
    → AreTriedBefore x n names
tried_at x n texts i b names all below at is none same =
    let before = map bstring_bytes (take i texts) in
    let after = map bstring_bytes (drop (suc i) texts) in
    let whole : candidates x ≡ before ++ (n ∷ after) = sym all ∙ map_split bstring_bytes texts i b below
    ∙ ap (λ y. before ++ (y ∷ after)) (ap bstring_bytes (sym at) ∙ is) in
    record {
      some = λ earlier later here first.
          same ∙ (first_with (λ y. y ≡ n) before earlier n n after later none
          (all_listed (λ y. ¬ (y ≡ n)) earlier (λ y there is. first (subst (Contains earlier) is there))) refl refl
          (sym whole ∙ here)).0;
    }

module _ (old : List (List ℕ)) (others : List BString) (away : List (List ℕ)) (now : List BString) (b : BString)
    (so_far : AreAllowed old (map bstring_bytes others) away (map bstring_bytes now)) where
  abbrev n : List ℕ
  n = bstring_bytes b

  pub allowed_more : (new : List BString) → new ≡ now ++ b ∷ [] → IsRefName n × ¬ (Contains away n)
      → AreAllowed old (map bstring_bytes (others ++ b ∷ [])) away (map bstring_bytes new)
  allowed_more new is allowed =
      let last = Contains-append_right (map bstring_bytes now) (n ∷ []) in
      let more = λ (m : List ℕ). Contains-append_left (map bstring_bytes now) (n ∷ []) m in
      rw (is, map-append bstring_bytes others (b ∷ []), map-append bstring_bytes now (b ∷ [])) (record {
        has_old = λ m there. more m (so_far.has_old m there);
        has = λ m there valid free. elim (Contains-push_cases (map bstring_bytes others) n m there)
            [ inl earlier ↦ more m (so_far.has m earlier valid free) | inr same ↦ last m (zero, omega arith, same) ];
        only = λ m there. elim (Contains-push_cases (map bstring_bytes now) n m there) [
          | inl earlier ↦ so_far.only m earlier
          | inr same ↦
              inr (subst (λ x. IsRefName x × ¬ (Contains away x)) same allowed)
        ];
      })

  pub allowed_there : Contains (map bstring_bytes now) n → AreAllowed old (map bstring_bytes (others ++ b ∷ [])) away
      (map bstring_bytes now)
  allowed_there there_now = rw (map-append bstring_bytes others (b ∷ [])) (record {
    has_old = so_far.has_old;
    has = λ m there valid free. elim (Contains-push_cases (map bstring_bytes others) n m there) [
      | inl earlier ↦ so_far.has m earlier valid free
      | inr same ↦ subst (Contains (map bstring_bytes now)) same
          there_now
    ];
    only = so_far.only;
  })

  pub allowed_same : ¬ (IsRefName n × ¬ (Contains away n)) → AreAllowed old (map bstring_bytes (others ++ b ∷ [])) away
      (map bstring_bytes now)
  allowed_same none = rw (map-append bstring_bytes others (b ∷ [])) (record {
    has_old = so_far.has_old;
    has = λ m there valid free. elim (Contains-push_cases (map bstring_bytes others) n m there)
        [ inl earlier ↦ so_far.has m earlier valid free | inr same ↦ absurd (none (rw same (valid, free))) ];
    only = so_far.only;
  })

-- ---- the refs that a spec prefers to a source, and beside which earlier specs don't take it

-- a source that isn't partial takes the name wherever it is
pub preferred_by : (r : Reading) (x n : List ℕ) (k : SideKind) (names : List (List ℕ)) → r.source ≡ Some x → HasKind x k
    → ((m : List ℕ) → ¬ (k ≡ partial m)) → names ≡ [] → ArePreferred r (name n) names
preferred_by r x n k names has kind plain none = subst (ArePreferred r (name n)) (sym none) (record {
  absent = λ refs d makes. tt;
  enough = λ refs few d makes there absent. makes_again refs few n d r (there n (inl refl)) makes
      (λ m of. absurd
      (plain m (one_kind x k (partial m) kind
      (subst (λ y. HasKind y (partial m)) (same_Some _ _ (sym makes.has.near ∙ has)) of))));
})

-- a partial one prefers the candidates before the name
pub preferred_partial : (r : Reading) (x n : List ℕ) (names : List (List ℕ)) → r.source ≡ Some x → HasKind x (partial x)
    → AreTriedBefore x n names → ArePreferred r (name n) names
preferred_partial r x n names has kind tried = record {
  absent = λ refs d makes. (first refs d makes).1;
  enough = λ refs few d makes there none.
      let (later, absent, here) = first refs d makes in
      makes_again refs few n d r (there n (inl refl)) makes
      (λ m of. subst (λ y. IsFirstCandidate few y n) (sym (of.0 ∙ same_Some _ _ (sym makes.has.near ∙ has)))
      (record { earlier = names; later = later; here = here; absent = none; present = there n (inl refl) }));
}
  where
    -- the name is the first candidate, and these are before it
    first : (refs : List Ref) (d : Option (List ℕ)) → MakesForward refs (name n) d r → (later : List (List ℕ))
        × AreAbsent names refs × (candidates x ≡ names ++ (n ∷ later))
    first refs d makes =
        let (k, item, below, is, paired) = makes.one in
        let one : IsFirstCandidate refs x n = subst (IsFirstCandidate refs x) paired.name
        (paired.takes.first x
        (subst (λ y. HasKind y (partial x)) (same_Some _ _ (sym has ∙ makes.has.near)) kind)) in
        let same : names ≡ one.earlier = tried.some one.earlier one.later one.here
        (λ has. of_element (λ m. ¬ (HasName refs m)) one.earlier n one.absent has one.present) in (
          one.later,
          subst (λ l. AreAbsent l refs) (sym same) one.absent,
          one.here ∙ ap (λ l. l ++ (n ∷ one.later))
              (sym same),
        )

-- ---- beside other refs

pub each_named : (P : List ℕ → Type 0) (refs : List Ref) (m : List ℕ) → AllByRecursion (λ (r : Ref). P r.name) refs
    → HasName refs m → P m
each_named P refs m all has = let (r, there, is) = item_named refs m has in subst P is
    (of_element (λ (r : Ref). P r.name) refs r all there)

-- the names are valid and not kept away, and those that others so far prefer are among them
pub record FreesSoFar (h : List Reading) (s : Source) (away : List (List ℕ)) (names : List (List ℕ))
    (from k : ℕ) : Type 0 where
  pub allowed : (n : List ℕ) → Contains names n → IsRefName n × ¬ (Contains away n)
  pub preferred : (i : ℕ) (c : Reading) → from ≤ i → i < k → slice_get h i ≡ Some c
      → (others : List (List ℕ)) × ArePreferred c s others × ((n : List ℕ) → Contains others n → IsRefName n
      → ¬ (Contains away n) → Contains names n)

pub frees_none : (h : List Reading) (s : Source) (away names : List (List ℕ)) (from : ℕ) → names ≡ []
    → FreesSoFar h s away names from from
frees_none h s away names from none =
    rw none (record {
      allowed = λ n (k, below, is). absurd (omega (arith, below));
      preferred = λ i c after below here. absurd (omega (arith, after, below));
    })

pub frees_next : (h : List Reading) (s : Source) (away names others new : List (List ℕ)) (from k : ℕ) (c : Reading)
    → slice_get h k ≡ Some c → ArePreferred c s others
    → AreAllowed names others away new → FreesSoFar h s away names from k → FreesSoFar h s away new from (k + 1)
frees_next h s away names others new from k c at preferred allowed so_far = record {
  allowed = λ n there. elim (allowed.only n there) [ inl old ↦ so_far.allowed n old | inr added ↦ added ];
  preferred = λ i e after below here. elim (upto i k below) [
    | inl earlier ↦ let (list, are, has) = so_far.preferred i e after earlier here in
        (list, are, λ n there valid free. allowed.has_old n (has n there valid free))
    | inr same ↦ (others, rw (same_Some _ _ (sym here ∙ ap (slice_get h) same ∙ at)) preferred, allowed.has)
  ];
}

-- so the names free others
pub freeing : (g h : List Reading) (all : AllZip IsCompleted g h) (others : Others) (j k : ℕ) (s : Source)
    (away names : List (List ℕ)) (c : Reading) → slice_get h k ≡ Some c → others.to ≤ j
    → ArePreferred c s away → FreesSoFar h s away names others.from j → AreFreeing g others k s names
freeing g h all others j k s away names c at fewer preferred so_far = record {
  valid = all_listed IsRefName names (λ m there. (so_far.allowed m there).0);
  keeps = λ refs d m.
      let makes = of_maps g h all k c at refs s d m in
      let named = map_each (Contains names) (λ (r : Ref). Contains names r.name) ref_named (λ n there. there) names
      (all_listed (Contains names) names (λ n there. there)) in
      maps_as m (rw (one_completed g h all k c at m)
      (preferred.enough refs (refs_with s names) d makes
      (λ n own. (named_in (refs_of s) (map ref_named names) n).1 (inl own))
      (all_listed (λ n. ¬ (HasName (refs_with s names) n)) away
      (λ n there has. elim ((named_in (refs_of s) (map ref_named names) n).0 has) [
        | inl own ↦ of_element (λ m. ¬ (HasName refs m)) away n (preferred.absent refs d makes) there
            (own_among refs s (made_there refs s d c makes) n own)
        | inr other ↦ (so_far.allowed n (each_named (Contains names) (map ref_named names) n named other)).1 there
      ]))));
  frees = λ refs i d e valid m (after, below) other.
      let makes = of_maps g h all k c at refs s d m in
      let before : i < j = omega (arith, below, fewer) in
      let (list, are, has) = so_far.preferred i other.completed after before
      (zip_to g h all i other.reading other.completed other.at other.is) in
      maps_as other (are.enough (refs_with s names) refs e other.makes
      (own_among refs s (made_there refs s d c makes)) (all_listed (λ n. ¬ (HasName refs n)) list (λ n there present.
      let free = has n there (each_named IsRefName refs n valid present)
      (λ kept. of_element (λ m. ¬ (HasName refs m)) away n (preferred.absent refs d makes) kept present) in
      of_element (λ m. ¬ (HasName (refs_with s names) m)) list n (are.absent (refs_with s names) e other.makes) there
      ((named_in (refs_of s) (map ref_named names) n).1
      (inr (name_there (map ref_named names) (ref_named n) (mapped_there ref_named names n free)))))));
}

-- ---- why a spec does nothing with a source, beside refs that free others

same_words : (k : SideKind) (a b : Ref) (v w : Option (List ℕ)) → a.name ≡ b.name
    → ((bytes : List ℕ) → ¬ (k ≡ object bytes)) → MatchesAs k a v → MatchesAs k b w → v ≡ w
same_words (pattern before after) a b (Some v) (Some w) same none of_a of_b =
    ap Some (one_word before after b.name v w (rw same at of_a) of_b)
same_words (object bytes) a b v w same none of_a of_b = absurd (none bytes refl)
same_words k a b v w same none of_a of_b = grind (arith, of_a, of_b)

pub one_far : (A B : List Ref) (s : Source) (d e : Option (List ℕ)) (c : Reading) → MakesForward A s d c
    → MakesForward B s e c → d ≡ e
one_far A B (id bytes) d e c one other = destination_once c None d e one.becomes other.becomes
one_far A B (name n) d e c one other =
    let a = one.one.4 in
    let b = other.one.4 in
    let kind = a.takes.matches.kind in
    let words : a.word ≡ b.word = same_words kind one.one.1 other.one.1 a.word b.word (a.name ∙ sym b.name)
    (λ bytes same. one.has.no_object bytes (subst (HasKind one.ends.near) same a.takes.matches.of))
    a.takes.matches.is (taken_as c one.ends.near kind one.has.near a.takes.matches.of B n e other) in
    destination_once c b.word d e
    (subst (λ w. IsFilled c.destination w d) words (subst (λ x. IsFilled x a.word d) (sym one.has.far) a.becomes))
    (subst (λ x. IsFilled x b.word e) (sym other.has.far) b.becomes)

pub maps_also : (g : List Reading) (A B : List Ref) (k : ℕ) (s : Source) (d : Option (List ℕ)) → HaveSameNames A B
    → Maps g A k s d → Maps g B k s d
maps_also g A B k s d same m = maps_as m (makes_also A B s d m.completed same m.makes)

module _ (g cs : List Reading) (all : AllZip IsCompleted g cs) (others : Others) (k : ℕ) (c : Reading)
    (here : slice_get cs k ≡ Some c)
    (s : Source) (names : List (List ℕ)) (freeing : AreFreeing g others k s names) (items : List Ref)
    (same : HaveSameNames items (refs_with s names)) where
  abbrev refs : List Ref
  refs = refs_with s names

  pub explains_invalid : ((d : Option (List ℕ)) → ¬ (MakesSoundly items s d c)) → Explains g others k s idleness.Invalid
  explains_invalid none = grind (arith, makes_also, of_maps)

  module _ (e : Option (List ℕ)) (makes : MakesSoundly items s e c) where
    maps : MapsSoundly g refs k s e
    maps = record {
      maps = maps_of g cs all k c here refs s e (makes_also items refs s e c same makes.makes);
      source =
          makes.source;
      destination = makes.destination;
    }

    pub shows_excluded : (n : List ℕ) (j : ℕ) (r : Reading) → s ≡ name n → slice_get g j ≡ Some r → IsExcludedBy n r
        → Explains g others k s (idleness.Excluded j) × IsShown g others k (idleness.Excluded j)
    shows_excluded n j r named at by = (
      (λ A d f. f.included (subst (IsSourceExcluded g) (sym named) (excluded_at g j r n at by))),
      record {
        refs = refs;
        source = n;
        destination = e;
        maps = subst (λ t. MapsSoundly g refs k t e) named maps;
        negative = r;
        at = at;
        excludes = by;
      },
    )

    module _ (included : ¬ (IsSourceExcluded g s)) where
      fetches : AreValid refs × Fetches g refs k s e
      fetches =
          let own = elim s as (λ t. IsValidSource t → AreValid (refs_of t)) [
            | name n ↦ λ fine. (fine, tt)
            | id bytes ↦
                λ fine. tt
          ] in
          let rest = map_each IsRefName (λ (r : Ref). IsRefName r.name) ref_named
          (λ n fine. fine) names freeing.valid in (
            all_join (λ (r : Ref). IsRefName r.name) (refs_of s) (map ref_named names) (own makes.source) rest,
            record { maps = maps; included = included },
          )

      pub is_at_work : ((h : ℕ) → IsOther others h → ¬ (Maps g items h s e)) → IsAtWork g others k
      is_at_work none = record {
        refs = refs;
        valid = fetches.0;
        source = s;
        destination = e;
        fetches = fetches.1;
        first = λ h before m. none h before (maps_also g refs items h s e (sym same) m);
      }

      pub shows_duplicate : (h : ℕ) → IsOther others h → Maps g items h s e
          → Explains g others k s (idleness.Duplicate h) × IsShown g others k (idleness.Duplicate h)
      shows_duplicate h before m =
          let also = maps_also g items refs h s e same m in
          let one : (A : List Ref) (d : Option (List ℕ)) → Maps g A k s d → d ≡ e = λ A d m. one_far A items s d e c
          (of_maps g cs all k c here A s d m) makes.makes in (
            (λ A d fine f. (h, before, rw (one A d f.maps.maps) (freeing.frees A h d e fine f.maps.maps before also))),
            record {
              refs = refs;
              valid = fetches.0;
              source = s;
              destination = e;
              fetches = fetches.1;
              other = before;
              maps = also;
            },
          )
