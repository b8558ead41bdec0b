-- What specs say of a local ref, by the names that they write and by their patterns, and what one more of them writes.
use Rattle.gix_refspec_plan.proofs.Common.{IsCompleted, ◌≡◌, ◌⊎◌, inl, inr, ℕ, ◌+◌, ◌<◌, List, [], ◌++◌, Option, None}
use Rattle.gix_refspec_plan.proofs.Common.{Some, codes, get_or, length, take, refl, sym, ap, ◌∙◌, subst, Bor}
use Rattle.gix_refspec_plan.proofs.Common.{AllByRecursion, Contains, get_or_default, take_more, Pattern, star}
use Rattle.gix_refspec_plan.proofs.Common.{BeginsWith, Lacks, HasStar, IsSplit, Reading, with_destination, IsAccepted}
use Rattle.gix_refspec_plan.proofs.Common.{IsPositive, SideKind, pattern, full_name, object, partial, HasKind, Fits}
use Rattle.gix_refspec_plan.proofs.Common.{written_name_of, Matches, MatchesAs, split_once, Lacks-here}
use Rattle.gix_refspec_plan.proofs.Common.{Lacks-ContainsText, Exclusions, IsMadeFrom, IsExcluded, AreExclusionsAt}
use Rattle.gix_refspec_plan.proofs.Common.{AreExclusionsOf, ExcludeName, same_side, CanWrite, IsSourceOf, IsWritable}
use Rattle.gix_refspec_plan.proofs.Common.{ref_named, HasNameState, HasParts, HasPatternState, HasState}
use Rattle.gix_refspec_plan.proofs.Common.{IsPatternSource, WritesName, WritesNameFrom, WritesPattern, sides_agree}
use Rattle.gix_refspec_plan.proofs.Common.{Excluded, Included, Unwritable, rules, matches_as, arith, Bool, cond, ◌∷◌}
use Rattle.gix_refspec_plan.proofs.Common.{MatchOption, append-nil, bytes_eq, option_flatten, option_or, bytes_decides}
use Rattle.gix_refspec_plan.proofs.Common.{false≢true, Contains-append_left, Contains-push, made_next, AddsName}
use Rattle.gix_refspec_plan.proofs.Common.{AddsPattern, AreWriters, state_for, option_to_list, true, false}
use Rattle.gix_refspec_plan.specs.declared.stale.State.{State}
use Rattle.gix_refspec_plan.specs.declared.stale.Writers.{Writers}
use Rattle.gix_refspec_plan.proofs.lemmas.plan.MadeLemmas.{push_all, made_has, made_from}
use Rattle.gix_refspec_plan.proofs.lemmas.stale.FetchedLemmas.{accepted_in, completed_destination, no_object_named}
use Rattle.gix_refspec_plan.proofs.lemmas.stale.FetchedLemmas.{written_below, written_lacks}
use Rattle.gix_refspec_plan.proofs.lemmas.stale.SourceLemmas.{ExcludesNamed}

abbrev slice : List ℕ → Bor (List ℕ)
slice x = record { ref_ptr = (0, 0); now = x }

pub side_cases : (side : Option (List ℕ)) → (side ≡ None) ⊎ ((x : List ℕ) × (side ≡ Some x))
side_cases None = inl refl
side_cases (Some x) = inr (x, refl)

pub some_pattern : (r : Reading) (d before after : List ℕ) → ∥ IsAccepted r ∥₁ → IsPositive r.mode
    → r.destination ≡ Some d → IsSplit before after d → (p : Pattern) × WritesPattern r p
some_pattern r d before after accepted positive has split =
    let writes : (parts : Option (Bor (List ℕ) × Bor (List ℕ))) → HasParts r.source parts → (p : Pattern)
    × WritesPattern r p = λ parts source. (
      record { before = slice before; after = slice after; source = parts },
      record { positive = positive; destination = d; has = has; split = split; source = source },
    ) in
    elim (side_cases r.source) [
      | inl none ↦ writes None (λ x b a is other. let never : None ≡ Some x = sym none ∙ is in cc (never))
      | inr (x, source) ↦ elim ((sides_agree r accepted).both x d source has) [
        | inl (one_x, one_d) ↦ writes (Some (slice one_x.0, slice one_x.1)) (x, source, one_x.2)
        | inr (lacks_x, lacks_d) ↦ absurd (Lacks-here star before after (subst (Lacks star) split.starred lacks_d))
      ]
    ]

pub pattern_writes : (r : Reading) (p : Pattern) (n word : List ℕ) → WritesPattern r p
    → Fits p.before.now p.after.now n word → CanWrite r n (Some word)
pattern_writes r p n word by fits =
    let is : IsCompleted r r = record {
      operation = refl;
      mode = refl;
      source = refl;
      destination =
          rw by.has (inl (record { before = p.before.now; after = p.after.now; here = by.split.starred }, refl));
    } in
    let matches : Matches by.destination (ref_named n) (Some word) =
    record { kind = pattern p.before.now p.after.now; of = by.split; is = fits } in
    record {
      positive = by.positive;
      completed = r;
      is = is;
      destination = by.destination;
      has = by.has;
      matches =
          matches;
    }

pub name_writes : (r : Reading) (n : List ℕ) → WritesName r n → CanWrite r n None
name_writes r n by =
    let full = written_name_of by.destination in
    let matches : Matches full (ref_named n) None =
    record {
      kind = full_name full;
      of =
          (refl, written_lacks by.destination by.lacks, written_below by.destination);
      is = (refl, by.is);
    } in
    let is : IsCompleted r (with_destination r full) =
    record { operation = refl; mode = refl; source = refl; destination = rw by.has (inr (by.lacks, refl)) } in
    record {
      positive = by.positive;
      completed = with_destination r full;
      is = is;
      destination = full;
      has = refl;
      matches = matches;
    }

pub writes_cases : (r : Reading) (n : List ℕ) (word : Option (List ℕ)) → CanWrite r n word
    → (WritesName r n × (word ≡ None)) ⊎ ((d : List ℕ) × (before : List ℕ) × (after : List ℕ) × (w : List ℕ)
    × (r.destination ≡ Some d) × IsSplit before after d × (word ≡ Some w) × Fits before after n w)
writes_cases r n word by =
    let (x, was, shape) = completed_destination r.destination by.completed.destination by.destination by.is.destination
    by.has in
    by_kind x was shape by.matches.kind by.matches.of word by.matches.is
  where
    by_kind : (x : List ℕ) → r.destination ≡ Some x → (HasStar x × (x ≡ by.destination))
        ⊎ (Lacks star x × (written_name_of x ≡ by.destination)) → (k : SideKind) → HasKind by.destination k
        → (v : Option (List ℕ)) → MatchesAs k (ref_named n) v
        → (WritesName r n × (v ≡ None)) ⊎ ((d : List ℕ) × (before : List ℕ) × (after : List ℕ) × (w : List ℕ)
        × (r.destination ≡ Some d) × IsSplit before after d × (v ≡ Some w) × Fits before after n w)
    by_kind x was (inl (has, same)) (pattern before after) of None holds = absurd holds
    by_kind x was (inl (has, same)) (pattern before after) of (Some w) holds =
        inr (by.destination, before, after, w, was ∙ ap Some same, of, refl, holds)
    by_kind x was (inl (has, same)) k of v holds =
        absurd (search (rules, Lacks-ContainsText star by.destination, subst HasStar same has))
    by_kind x was (inr (lacks, same)) (pattern before after) of v holds =
        absurd (Lacks-here star before after (subst (Lacks star) (same ∙ of.starred) (written_lacks x lacks)))
    by_kind x was (inr (lacks, same)) (full_name m) of v holds =
        inl (
          record {
            positive = by.positive;
            destination = x;
            has = was;
            lacks = lacks;
            is = holds.1 ∙ of.0
                ∙ sym same;
          },
          holds.0,
        )
    by_kind x was (inr (lacks, same)) (object bytes) of v holds =
        absurd (no_object_named by.destination n v bytes of holds)
    by_kind x was (inr (lacks, same)) (partial m) of v holds =
        absurd (of.2 (subst (BeginsWith (codes "refs/")) same (written_below x)))

pub word_taken : (x s w : List ℕ) → Matches x (ref_named s) (Some w) → (before : List ℕ) × (after : List ℕ)
    × IsSplit before after x × Fits before after s w
word_taken x s w matches = grind (arith, matches.is, matches.of)

-- a source that takes a ref with a word is the pattern by which the spec writes
source_taken : (side : Option (List ℕ)) (found : Option (Bor (List ℕ) × Bor (List ℕ))) (x s w : List ℕ) → side ≡ Some x
    → HasParts side found → Matches x (ref_named s) (Some w)
    → (parts : Bor (List ℕ) × Bor (List ℕ)) × (found ≡ Some parts) × (s ≡ parts.0.now ++ (w ++ parts.1.now))
source_taken side None x s w source none matches = let (before, after, split, fits) = word_taken x s w matches in absurd
    (none x before after source split)
source_taken side (Some parts) x s w source (y, is, split) matches = (
  parts,
  refl,
  matches_as y (pattern parts.0.now parts.1.now) (ref_named s) (Some w) split
      (rw (same_side side x y source is) at matches),
)

-- no ref is excluded from which the pattern writes n
abbrev IncludesSources : Exclusions → List ℕ → Pattern → Type 0
IncludesSources es n p = (s : List ℕ) → IsPatternSource p n s → ¬ (ExcludeName es s)

-- whether the names of a group or some of its patterns write n
abbrev pub IsWrittenAmong : Exclusions → List Reading → List Pattern → List ℕ → State → Type 0
IsWrittenAmong es g ps n Unwritable = ((r : Reading) → Contains g r → ¬ (WritesName r n))
    × ((p : Pattern) → Contains ps p → HasPatternState es p n Unwritable)
IsWrittenAmong es g ps n Included = IsWritable g n
IsWrittenAmong es g ps n (Excluded k) = ⊥

-- and that none of them says that a ref is excluded
abbrev pub HasStateAmong : Exclusions → List Reading → List Pattern → List ℕ → State → Type 0
HasStateAmong es g ps n s = ((r : Reading) (s : List ℕ) → Contains g r → WritesNameFrom r n s → ¬ (ExcludeName es s))
    × ((p : Pattern) → Contains ps p → IncludesSources es n p) × IsWrittenAmong es g ps n s

module _ (g : List Reading) (accepted : AllByRecursion (λ r. ∥ IsAccepted r ∥₁) g) (es : Exclusions) (ps : List Pattern)
    (are : IsMadeFrom (λ k q x. WritesPattern q x) 0 g ps) (n : List ℕ) where
  its_pattern : (r : Reading) (d before after w : List ℕ) → Contains g r → IsPositive r.mode → r.destination ≡ Some d
      → IsSplit before after d → Fits before after n w → (p : Pattern) × Contains ps p × WritesPattern r p
      × Fits p.before.now p.after.now n w
  its_pattern r d before after w inside positive has split fits =
      let (some, writes) = some_pattern r d before after (accepted_in g r accepted inside) positive has split in
      let (p, there, of) = made_has (λ k q x. WritesPattern q x) (WritesPattern r) 0 g ps r are inside
      (λ j. (some, writes)) (λ j x by. by) in
      let same : d ≡ of.destination = same_side r.destination d of.destination has of.has in
      let once = split_once of.destination before after p.before.now p.after.now
      (subst (IsSplit before after) same split) of.split in (
        p,
        there,
        of,
        subst (λ (x : List ℕ). Fits x p.after.now n w) once.0
            (subst (λ (x : List ℕ). Fits before x n w) once.1 fits),
      )

  -- where no name is n and no pattern matches it, no spec can write it
  no_writer : HasStateAmong es g ps n Unwritable → ¬ (IsWritable g n)
  no_writer (included, sources, (names, patterns)) (r, word, inside, by) = elim (writes_cases r n word by) [
    | inl (name, none) ↦ names r inside name
    | inr (d, before, after, w, has, split, some, fits) ↦ let (p, there, of, so) =
        its_pattern r d before after w inside by.positive has split fits in patterns p there w so
  ]

  -- where none of the refs of names and patterns is excluded, none is from which n could be written
  all_included : AreExclusionsOf g es → HasStateAmong es g ps n Included → (s : List ℕ) → IsSourceOf g n s
      → ¬ (IsExcluded g s)
  all_included whole (names, patterns, writable) s (r, inside, from) excluded =
      elim (writes_cases r n from.word from.writes) [
        | inl (name, none) ↦
            names r s inside
            (record {
              writes = name;
              named =
                  record {
                    source = from.source;
                    is = from.is;
                    stands = subst (Matches from.source (ref_named s)) none
                        from.matches;
                  };
            }) ((whole s).1 excluded)
        | inr (d, before, after, w, has, split, some, fits) ↦
            let (p, there, of, so) = its_pattern r d before after w inside from.writes.positive has split fits in
            let (parts, is, same) = source_taken r.source p.source from.source s w from.is of.source
            (subst (Matches from.source (ref_named s)) some from.matches) in
            patterns p there s (record { word = w; fits = so; parts = parts; has = is; is = same })
            ((whole s).1 excluded)
      ]

  pub all_among : AreExclusionsOf g es → (s : State) → HasStateAmong es g ps n s → HasState g n s
  all_among whole s among = grind (arith, no_writer, all_included whole)

  module _ (i : ℕ) (d : Pattern) (below : i < length ps) where
    abbrev p : Pattern
    p = get_or ps i d

    its_reading : (r : Reading) × Contains g r × WritesPattern r p
    its_reading = let (k, r, inside, by) = made_from (λ k q x. WritesPattern q x) 0 g ps p are
        (i, below, get_or_default ps i p d below) in (r, inside, by)

    -- which doesn't match n
    pub next_unfit : (s : State) → HasStateAmong es g (take i ps) n s → HasPatternState es p n Unwritable
        → HasStateAmong es g (take (i + 1) ps) n s
    next_unfit s (names, patterns, known) unfit = (
      names,
      rw (take_more ps i d below)
          (push_all (IncludesSources es n) (take i ps) p patterns (λ t from. absurd (unfit from.word from.fits))),
      by s known,
    )
      where
        by : (s : State) → IsWrittenAmong es g (take i ps) n s → IsWrittenAmong es g (take (i + 1) ps) n s
        by Unwritable (no_name, no_pattern) = (
          no_name,
          rw (take_more ps i d below)
              (push_all (λ q. HasPatternState es q n Unwritable) (take i ps) p no_pattern unfit),
        )
        by s known = known

    -- which does, and excludes no ref from which it writes it
    pub next_fit : (s : State) → HasStateAmong es g (take i ps) n s → HasPatternState es p n Included
        → HasStateAmong es g (take (i + 1) ps) n Included
    next_fit s (names, patterns, known) ((word, fits), included) =
        let (r, inside, by) = its_reading in (
          names,
          rw (take_more ps i d below) (push_all (IncludesSources es n) (take i ps) p patterns included),
          (r, Some word, inside, pattern_writes r p n word by fits),
        )

    -- which excludes one
    pub next_excluded : AreExclusionsAt g es → (k : ℕ) → HasPatternState es p n (Excluded k) → HasState g n (Excluded k)
    next_excluded at k (s, from, excluded) =
        let (r, inside, by) = its_reading in
        let (x, source, split) = subst (HasParts r.source) from.has by.source in
        let matches : Matches x (ref_named s) (Some from.word) =
        record { kind = pattern from.parts.0.now from.parts.1.now; of = split; is = from.is } in (
          s,
          (
            r,
            inside,
            record {
              word = Some from.word;
              writes = pattern_writes r p n from.word by from.fits;
              source =
                  x;
              is = source;
              matches = matches;
            },
          ),
          at s k excluded,
        )

module _ (es : Exclusions) (g : List Reading) (r : Reading) where
  included_more : (n : List ℕ) → ((q : Reading) (s : List ℕ) → Contains g q → WritesNameFrom q n s
      → ¬ (ExcludeName es s)) → ((s : List ℕ) → WritesNameFrom r n s → ¬ (ExcludeName es s))
      → (q : Reading) (s : List ℕ) → Contains (g ++ r ∷ []) q → WritesNameFrom q n s → ¬ (ExcludeName es s)
  included_more n others last q s there = push_all (λ q. (t : List ℕ) → WritesNameFrom q n t → ¬ (ExcludeName es t)) g r
      (λ q before t. others q t before) last q there s

  name_stays : (n : List ℕ) (o : Option (Option ℕ)) → ¬ (WritesName r n) → HasNameState es g n o
      → HasNameState es (g ++ r ∷ []) n o
  name_stays n None apart state = push_all (λ q. ¬ (WritesName q n)) g r state apart
  name_stays n (Some None) apart ((q, at, writes), included) = (
    (q, Contains-append_left g (r ∷ []) q at, writes),
    included_more n included (λ s from. absurd (apart from.writes)),
  )
  name_stays n (Some (Some k)) apart (q, s, at, from, excluded) =
      (q, s, Contains-append_left g (r ∷ []) q at, from, excluded)

  name_written : (n : List ℕ) (o : Option (Option ℕ)) (e : Option ℕ) → WritesName r n → ExcludesNamed es r e
      → HasNameState es g n o → HasNameState es (g ++ r ∷ []) n (Some (option_or (option_flatten o) e))
  name_written n (Some (Some k)) e writes excluded (q, s, at, from, excluded_by) =
      (q, s, Contains-append_left g (r ∷ []) q at, from, excluded_by)
  name_written n o (Some k) writes (s, named, excluded) state =
      (r, s, Contains-push g r, record { writes = writes; named = named }, excluded)
  name_written n None None writes included state = (
    (r, Contains-push g r, writes),
    included_more n (λ q s before from. absurd (state q before from.writes))
        (λ s from. included s from.named),
  )
  name_written n (Some None) None writes included (some, others) =
      ((r, Contains-push g r, writes), included_more n others (λ s from. included s from.named))

  pub names_more : (n : List ℕ) (e : Option ℕ) (old new : List ℕ → Option (Option ℕ)) → WritesName r n
      → ExcludesNamed es r e
      → ((m : List ℕ) → new m ≡ cond (bytes_eq n m) (Some (option_or (option_flatten (old n)) e)) (old m))
      → ((m : List ℕ) → HasNameState es g m (old m)) → (m : List ℕ) → HasNameState es (g ++ r ∷ []) m (new m)
  names_more n e old new writes excluded updates state m = subst (HasNameState es (g ++ r ∷ []) m) (sym (updates m))
      (by (bytes_eq n m) refl)
    where
      by : (b : Bool) → bytes_eq n m ≡ b → HasNameState es (g ++ r ∷ []) m
          (cond b (Some (option_or (option_flatten (old n)) e)) (old m))
      by true same =
          subst (λ (x : List ℕ). HasNameState es (g ++ r ∷ []) x (Some (option_or (option_flatten (old n)) e)))
          ((bytes_decides n m).0 same) (name_written n (old n) e writes excluded (state n))
      by false differ = name_stays m (old m) (λ also.
          let same = same_side r.destination writes.destination also.destination writes.has also.has in
          false≢true (sym differ ∙ (bytes_decides n m).1 (writes.is ∙ ap written_name_of same ∙ sym also.is))) (state m)

patterns_next : (g : List Reading) (r : Reading) (old new : List Pattern) (made : Option Pattern)
    → MatchOption made ((p : Pattern) → ¬ (WritesPattern r p)) (WritesPattern r) → new ≡ old ++ option_to_list made
    → IsMadeFrom (λ k q x. WritesPattern q x) 0 g old → IsMadeFrom (λ k q x. WritesPattern q x) 0 (g ++ r ∷ []) new
patterns_next g r old new made makes more so_far =
    rw more (made_next (λ k q x. WritesPattern q x) (length g) g r old made refl so_far makes)

module _ (r : Reading) (old new : Writers) (keeps : new.exclusions ≡ old.exclusions) where
  pub adds_name : (n : List ℕ) (e : Option ℕ) → new.patterns.items ≡ old.patterns.items
      → ExcludesNamed old.exclusions r e
      → ((m : List ℕ) → state_for new.names m ≡ cond (bytes_eq n m)
      (Some (option_or (option_flatten (state_for old.names n)) e)) (state_for old.names m)) → AddsName r n old new
  adds_name n e same excluded updates = λ g es writes are. record {
    exclusions = keeps ∙ are.exclusions;
    names = names_more es g r n e (state_for old.names) (state_for new.names) writes
        (subst (λ (x : Exclusions). ExcludesNamed x r e) are.exclusions excluded) updates are.names;
    patterns = patterns_next g r old.patterns.items new.patterns.items None
        (λ p by. Lacks-here star p.before.now p.after.now
        (subst (Lacks star) (same_side r.destination writes.destination by.destination writes.has by.has
        ∙ by.split.starred) writes.lacks))
        (same ∙ sym (append-nil old.patterns.items)) are.patterns;
  }

  pub adds_pattern : (made : Option Pattern) → ((m : List ℕ) → state_for new.names m ≡ state_for old.names m)
      → MatchOption made ((p : Pattern) → ¬ (WritesPattern r p)) (WritesPattern r)
      → new.patterns.items ≡ old.patterns.items ++ option_to_list made → AddsPattern r old new
  adds_pattern made same makes more = λ g es none are. record {
    exclusions = keeps ∙ are.exclusions;
    names = λ m. subst (HasNameState es (g ++ r ∷ []) m) (sym (same m))
        (name_stays es g r m (state_for old.names m) (none m) (are.names m));
    patterns = patterns_next g r old.patterns.items new.patterns.items made makes more are.patterns;
  }

-- what the readings of h write, and what those of g exclude
abbrev pub AreWritersSoFar : List Reading → List Reading → Writers → Type 0
AreWritersSoFar g h w = AreExclusionsOf g w.exclusions × AreExclusionsAt g w.exclusions × AreWriters w.exclusions h w

pub writers_next : (g h more : List Reading) (old new : Writers) → AreWritersSoFar g h old
    → (AreWriters old.exclusions h old → AreWriters old.exclusions more new) → AreWritersSoFar g more new
writers_next g h more old new (of, at, are) next =
    let added = next are in
    subst (λ (es : Exclusions). AreExclusionsOf g es × AreExclusionsAt g es × AreWriters es more new)
    (sym added.exclusions) (of, at, added)
