-- What values write, and which local refs are stale, with the free byte in place of a word, and with one value more.
use Rattle.gix_refspec_lint.proofs.Common.{◌≡◌, ◌⊎◌, inl, inr, ℕ, List, [], ◌∷◌, ◌++◌, codes, Option, None, Some, refl}
use Rattle.gix_refspec_lint.proofs.Common.{sym, ap, ◌∙◌, subst, length, AllByRecursion, Contains, slice_get_within}
use Rattle.gix_refspec_lint.proofs.Common.{get_or_from_slice_get, of_element, all_join, all_right, Lacks-here}
use Rattle.gix_refspec_lint.proofs.Common.{split_once, lacks_no_pattern, star, Lacks, IsSplit, HasName, Matches, Ref}
use Rattle.gix_refspec_lint.proofs.Common.{Fits, pattern, Reading, Negative, IsPositive, Source, name, IsExcluded}
use Rattle.gix_refspec_lint.proofs.Common.{IsExcludedBy, SidesLack, IsRefName, IsCompleted, ref_named, IsFree, AreValid}
use Rattle.gix_refspec_lint.proofs.Common.{refs_of, HasSourcePattern, completed_destination, written_lacks, item_named}
use Rattle.gix_refspec_lint.proofs.Common.{same_Some, HasStar, MatchOption, ◌≢◌, Bool, true, false, ◌||◌, nat_eq}
use Rattle.std.specs.Prelude.{if◌then◌else◌}
use Rattle.std.specs.List.{starts_with}
use Rattle.gix_refspec_lint.proofs.lemmas.ByteLemmas.{excluded_moved, fits_byte, lacks_in, lacks_mid, lacks_refs}
use Rattle.gix_refspec_lint.proofs.lemmas.IndexLemmas.{by_index, excluded_at}
use Rattle.gix_refspec_lint.proofs.lemmas.MovedLemmas.{lacks_parts}
use Rattle.gix_refspec_lint.proofs.lemmas.WordLemmas.{between, within}
use Rattle.gix_refspec_plan.proofs.lemmas.stale.PatternLemmas.{word_taken, writes_cases}
use Rattle.gix_refspec_plan.specs.Matching.Stale.{CanWrite, CanWriteFrom, CanWriteObject, IsSourceOf, IsStale}
use Rattle.gix_refspec_plan.specs.Matching.Stale.{IsWritable}
use Rattle.gix_refspec_plan.specs.Private.Stales.{IsNamedBy, WritesName}
use Rattle.gix_refspec_text.specs.Matching.Side.{written_name_of}
use Rattle.gix_refspec_lint.proofs.Common.{Asterisk, IsAccepted, sides_agree}
use Rattle.std.proofs.Math.Logic.{∥∥₁_elim}
use Rattle.gix_refspec_text.specs.declared.parsing.Operation.{Operation}
use Rattle.gix_refspec_text.specs.Specs.Grammar.{Reads, fetches_nothing_named, fetches_colon, fetches, updates}
use Rattle.gix_refspec_text.specs.Specs.Grammar.{updates_from_head, fetch_excludes, pushes_plus, pushes_colon, pushes}
use Rattle.gix_refspec_text.specs.Specs.Grammar.{deletes, pushes_pattern, pushes_to, push_excludes}
use Rattle.gix_refspec_lint.specs.Matching.Removal.{IsStaleByOne, PruneOtherwise}
use Rattle.gix_refspec_lint.specs.Private.Removals.{HasNoPattern, IsSameAt, IsWith, WritesPatterns}
use Rattle.gix_refspec_lint.specs.Private.Runs.{HasDestinationPattern}
use Rattle.gix_refspec_text.proofs.lemmas.texts.TextLemmas.{Lacks-ContainsText}
use Rattle.std.proofs.lemmas.Option.{slice_get_read}

-- ---- exclusions by readings that are contained

pub excluded_in : (g : List Reading) (e : Reading) (n : List ℕ) → Contains g e → IsExcludedBy n e → IsExcluded g n
excluded_in g e n (k, below, is) by = excluded_at g k e n (slice_get_read g (length g) k e refl below (sym is)) by

pub excluding_in : (g : List Reading) (n : List ℕ) → IsExcluded g n → (e : Reading) × Contains g e × IsExcludedBy n e
excluding_in g n by = let (k, e, at, one) =
    by_index g n by in (e, (k, slice_get_within g k e at, get_or_from_slice_get g k e e at), one)

-- ---- the free byte in place of a word

-- a reading that writes by a pattern
pub pattern_written : (r : Reading) (d before after n w : List ℕ) → IsPositive r.mode → r.destination ≡ Some d
    → IsSplit before after d → Fits before after n w → CanWrite r n (Some w)
pattern_written r d before after n w positive has split fits =
    let is : IsCompleted r r = record {
      operation = refl;
      mode = refl;
      source = refl;
      destination =
          rw has (inl (record { before = before; after = after; here = split.starred }, refl));
    } in
    let matches : Matches d (ref_named n) (Some w) = record { kind = pattern before after; of = split; is = fits } in
    record { positive = positive; completed = r; is = is; destination = d; has = has; matches = matches }

module _ (g : List Reading) (z : ℕ) (free : IsFree g z) (front rest back : List ℕ) (lacks_front : Lacks z front) where
  if_lacks : (b c : Bool) (x y w : List ℕ) → Lacks z x → Lacks z y → Lacks z w
      → Lacks z (if b then x else (if c then y else w))
  if_lacks true c x y w one two three = one
  if_lacks false true x y w one two three = two
  if_lacks false false x y w one two three = three

  written_free : (x : List ℕ) → Lacks z x → Lacks z (written_name_of x)
  written_free x lacks =
      let refs = lacks_refs z free.usable in
      let heads = all_join (λ c. c ≢ z) (codes "refs/") (codes "heads/") refs
      (lacks_mid z free.usable (codes "refs/tags/") (codes "heads/") _ refl) in
      if_lacks (starts_with nat_eq x (codes "refs/")) (starts_with nat_eq x (codes "heads/") || starts_with nat_eq x
      (codes "tags/") || starts_with nat_eq x (codes "remotes/")) x (codes "refs/" ++ x) (codes "refs/heads/" ++ x)
      lacks (all_join (λ c. c ≢ z) (codes "refs/") x refs lacks)
      (all_join (λ c. c ≢ z) (codes "refs/heads/") x heads lacks)

  no_name : (r : Reading) → SidesLack z r → ¬ (WritesName r (front ++ (z ∷ back)))
  no_name r lacks by =
      Lacks-here z front back
      (subst (Lacks z) (sym by.is)
      (written_free by.destination (lacks_in z free.usable r.destination by.destination by.has lacks.1)))

  -- only a pattern writes a name with the byte, and it writes each that has another word there
  pub moved_write : (r : Reading) → SidesLack z r → (word : Option (List ℕ)) → CanWrite r (front ++ (z ∷ back)) word
      → (u : List ℕ) × (v : List ℕ) × (word ≡ Some (u ++ (z ∷ v))) × Lacks z u × CanWrite r (front ++ (rest ++ back))
      (Some (u ++ (rest ++ v)))
  moved_write r lacks word by = elim (writes_cases r (front ++ (z ∷ back)) word by) [
    | inl (named, none) ↦ absurd (no_name r lacks named)
    | inr (d, c, e, w, has, split, some, fits) ↦
        let texts = lacks_parts g z free d c e (lacks_in z free.usable r.destination d has lacks.1) split in
        let (u, v, before, after, is) = fits_byte z free.usable c e front back w texts.0 texts.1 fits in (
          u,
          v,
          some ∙ ap Some is,
          all_right (λ k. k ≢ z) c u (subst (Lacks z) before lacks_front),
          pattern_written r d c e (front ++ (rest ++ back)) (u ++ (rest ++ v)) by.positive has split
              (within c e front back u v rest before after),
        )
  ]

  -- and from the sources that have that word in place of the byte too
  pub moved_from : (r : Reading) → SidesLack z r → (s : List ℕ) → CanWriteFrom r (front ++ (z ∷ back)) s
      → (f : List ℕ) × (l : List ℕ) × (s ≡ f ++ (z ∷ l)) × Lacks z f × CanWriteFrom r (front ++ (rest ++ back))
      (f ++ (rest ++ l))
  moved_from r lacks s from =
      let (u, v, some, lacks_u, writes) = moved_write r lacks from.word from.writes in
      let (p, t, split, fits) = word_taken from.source s (u ++ (z ∷ v))
      (subst (Matches from.source (ref_named s)) some from.matches) in
      let texts = lacks_parts g z free from.source p t (lacks_in z free.usable r.source from.source from.is lacks.0)
      split in
      let matches : Matches from.source (ref_named ((p ++ u) ++ (rest ++ (v ++ t)))) (Some (u ++ (rest ++ v))) =
      record { kind = pattern p t; of = split; is = between p u rest v t } in (
        p ++ u,
        v ++ t,
        fits ∙ sym (between p u (z ∷ []) v t),
        all_join (λ k. k ≢ z) p u texts.0 lacks_u,
        record {
          word = Some (u ++ (rest ++ v));
          writes = writes;
          source = from.source;
          is = from.is;
          matches =
              matches;
        },
      )

  module _ (h : List Reading) (lacking : AllByRecursion (SidesLack z) h) where
    side_of : (r : Reading) → Contains h r → SidesLack z r
    side_of r there = of_element (SidesLack z) h r lacking there

    pub writable_moved : IsWritable h (front ++ (z ∷ back)) → IsWritable h (front ++ (rest ++ back))
    writable_moved (r, word, there, by) = let (u, v, some, lacks, moved) = moved_write r (side_of r there) word by in
        (r, Some (u ++ (rest ++ v)), there, moved)

    -- what is stale with the word is so with the byte, if a value can write it
    pub stale_moved : IsStale h [] (front ++ (rest ++ back)) → IsWritable h (front ++ (z ∷ back))
        → IsStale h [] (front ++ (z ∷ back))
    stale_moved stale writable = record {
      writable = writable;
      no_object = λ (r, there, object). let (u, v, some, lacks, moved) =
          moved_write r (side_of r there) None object.writes in let never : None ≡ Some (u ++ (z ∷ v)) =
          some in cc (never);
      absent = λ s source none. none;
      included = λ s (r, there, from) by.
          let (f, l, is, lacks, moved) = moved_from r (side_of r there) s from in
          stale.included (f ++ (rest ++ l)) (r, there, moved)
          (excluded_moved z free.usable h f rest l lacking (subst (IsExcluded h) is by));
    }

-- ---- fewer refs on the remote

pub stale_alone : (g : List Reading) (remote : List Ref) (n : List ℕ) → IsStale g remote n → IsStale g [] n
stale_alone g remote n stale = record {
  writable = stale.writable;
  no_object = stale.no_object;
  absent =
      λ s source none. none;
  included = stale.included;
}

pub stale_beside : (g : List Reading) (remote : List Ref) (n s : List ℕ) → IsStale g remote n → ¬ (IsSourceOf g n s)
    → IsStale g (refs_of (name s)) n
stale_beside g remote n s stale other = record {
  writable = stale.writable;
  no_object = stale.no_object;
  absent = λ x source has. elim has [ inl same ↦ other (subst (IsSourceOf g n) (sym same) source) | inr none ↦ none ];
  included = stale.included;
}

pub named_valid : (remote : List Ref) (s : List ℕ) → AreValid remote → HasName remote s → IsRefName s
named_valid remote s valid has = let (item, there, same) = item_named remote s has in subst IsRefName same
    (of_element (λ (r : Ref). IsRefName r.name) remote item valid there)

-- ---- one value more

module _ (g h : List Reading) (r : Reading) (values : IsWith g h r) where
  pub excluded_less : (s : List ℕ) → IsExcluded h s → IsExcluded g s
  excluded_less s by = let (e, there, one) = excluding_in h s by in excluded_in g e s (values.rest e there) one

  pub excluded_cases : (s : List ℕ) → IsExcluded g s → IsExcluded h s ⊎ IsExcludedBy s r
  excluded_cases s by =
      let (e, there, one) = excluding_in g s by in elim (values.all e there)
      [ inl inside ↦ inl (excluded_in h e s inside one) | inr same ↦ inr (subst (IsExcludedBy s) same one) ]

  -- what is stale with it is so without, if another value can write it
  pub stale_less : (remote : List Ref) (n : List ℕ) → IsStale g remote n → IsWritable h n → IsStale h remote n
  stale_less remote n stale writable = record {
    writable = writable;
    no_object = λ (q, there, object). stale.no_object (q, values.rest q there, object);
    absent = λ s (q, there, from). stale.absent s (q, values.rest q there, from);
    included = λ s (q, there, from) by. stale.included s (q, values.rest q there, from) (excluded_less s by);
  }

  -- and what is stale without it is so with it, if its sources are neither there nor excluded, and it excludes no
  -- source
  pub stale_more : (remote : List Ref) (n : List ℕ) → IsStale h remote n → ¬ (CanWriteObject r n)
      → ((s : List ℕ) → CanWriteFrom r n s → ¬ (HasName remote s))
      → ((s : List ℕ) → CanWriteFrom r n s → ¬ (IsExcluded g s))
      → ((q : Reading) (s : List ℕ) → Contains h q → CanWriteFrom q n s → ¬ (IsExcludedBy s r)) → IsStale g remote n
  stale_more remote n stale no_object absent included others = record {
    writable = let (q, word, there, by) = stale.writable in (q, word, values.rest q there, by);
    no_object = λ (q, there, object). elim (values.all q there) [
      | inl inside ↦ stale.no_object (q, inside, object)
      | inr same ↦ no_object (subst (λ x. CanWriteObject x n) same object)
    ];
    absent = λ s (q, there, from). elim (values.all q there) [
      | inl inside ↦ stale.absent s (q, inside, from)
      | inr same ↦ absent s (subst (λ x. CanWriteFrom x n s) same from)
    ];
    included = λ s (q, there, from) by. elim (values.all q there) [
      | inl inside ↦ elim (excluded_cases s by) [
        | inl one ↦ stale.included s (q, inside, from) one
        | inr own ↦
            others q s inside from own
      ]
      | inr same ↦ included s (subst (λ x. CanWriteFrom x n s) same from) by
    ];
  }

  -- ---- a positive value

  module _ (positive : IsPositive r.mode) where
    pub no_exclusion : (s : List ℕ) → ¬ (IsExcludedBy s r)
    no_exclusion s by = subst IsPositive by.negative positive

    pub excluded_same : (s : List ℕ) → IsExcluded g s → IsExcluded h s
    excluded_same s by = elim (excluded_cases s by) [ inl one ↦ one | inr own ↦ absurd (no_exclusion s own) ]

    -- a local ref isn't treated otherwise, if what the value adds makes no difference to it
    pub same_beside : (remote : List Ref) (n : List ℕ) → ((word : Option (List ℕ)) → CanWrite r n word → IsStale g [] n
        → ¬ (¬ (IsWritable h n)))
        → (IsStale h remote n → ¬ (CanWriteObject r n))
        → ((s : List ℕ) → IsStale h remote n → CanWriteFrom r n s → ¬ (HasName remote s))
        → ((s : List ℕ) → IsStale h remote n → CanWriteFrom r n s → ¬ (IsExcluded g s)) → ¬ (IsStaleByOne g h remote n)
    same_beside remote n writes object absent included (inl (stale, none)) =
        let (q, word, there, by) = stale.writable in
        elim (values.all q there) [
          | inl inside ↦ none (stale_less remote n stale (q, word, inside, by))
          | inr same ↦ writes word (subst (λ x. CanWrite x n word) same by) (stale_alone g remote n stale)
              (λ writable. none (stale_less remote n stale writable))
        ]
    same_beside remote n writes object absent included (inr (none, stale)) =
        none (stale_more remote n stale (object stale) (λ s. absent s stale) (λ s. included s stale)
        (λ q s inside from. no_exclusion s))

    -- it has only to be tried on a remote without refs, and with each of its sources alone
    module _ (sources : List Source) where
      pub same_at : (n : List ℕ) → IsRefName n → ((word : Option (List ℕ)) → CanWrite r n word → IsSameAt g h n sources)
          → ((s : List ℕ) → CanWriteFrom r n s → Contains sources (name s))
          → (remote : List Ref) → AreValid remote → ¬ (IsStaleByOne g h remote n)
      same_at n named same has remote valid = same_beside remote n
          (λ word by stale none. (same word by).alone named (inl (stale, λ also. none also.writable)))
          (λ stale object. (same None object.writes).alone named
          (inr ((λ also. also.no_object (r, values.one, object)), stale_alone h remote n stale)))
          (λ s stale from there.
          let other : ¬ (IsSourceOf h n s) = λ source. stale.absent s source there in
          let gone : ¬ (IsStale g (refs_of (name s)) n) = λ also. also.absent s (r, values.one, from) (inl refl) in
          (same from.word from.writes).beside (name s) (has s from) (named_valid remote s valid there) named
          (inr (gone, stale_beside h remote n s stale other)))
          (λ s stale from by. (same from.word from.writes).alone named
          (inr ((λ also. also.included s (r, values.one, from) by), stale_alone h remote n stale)))

-- ---- a value of patterns

-- a reading whose destination is a pattern writes each name with a word
pub far_cases : (r : Reading) (a b : List ℕ) → HasDestinationPattern r a b → (n : List ℕ) (word : Option (List ℕ))
    → CanWrite r n word → (w : List ℕ) × (n ≡ a ++ (w ++ b)) × (word ≡ Some w)
far_cases r a b far n word by = elim (writes_cases r n word by) [
  | inl (named, none) ↦
      absurd (lacks_no_pattern far.text a b (subst (Lacks star) (same_Some _ _ (sym named.has ∙ far.has)) named.lacks)
      far.split)
  | inr (d, c, e, w, has, split, some, fits) ↦
      let same = split_once far.text c e a b (subst (IsSplit c e) (same_Some _ _ (sym has ∙ far.has)) split)
      far.split in
      (w, subst (λ x. Fits x b n w) same.0 (subst (λ x. Fits c x n w) same.1 fits), some)
]

module _ (r : Reading) (p t a b : List ℕ) (writes : WritesPatterns r p t a b) where
  pub pattern_from : (w : List ℕ) → CanWriteFrom r (a ++ (w ++ b)) (p ++ (w ++ t))
  pattern_from w =
      let far = writes.destination in
      let near = writes.source in
      let matches : Matches near.text (ref_named (p ++ (w ++ t))) (Some w) =
      record { kind = pattern p t; of = near.split; is = refl } in
      record {
        word = Some w;
        writes = pattern_written r far.text a b (a ++ (w ++ b)) w writes.positive far.has
            far.split refl;
        source = near.text;
        is = near.has;
        matches = matches;
      }

  pub pattern_cases : (n : List ℕ) (word : Option (List ℕ)) → CanWrite r n word → (w : List ℕ) × (n ≡ a ++ (w ++ b))
      × (word ≡ Some w)
  pattern_cases n word by = far_cases r a b writes.destination n word by

  pub from_cases : (n s : List ℕ) → CanWriteFrom r n s → (w : List ℕ) × (n ≡ a ++ (w ++ b)) × (s ≡ p ++ (w ++ t))
  from_cases n s from =
      let near = writes.source in
      let (w, local, some) = pattern_cases n from.word from.writes in
      let (c, e, split, fits) = word_taken from.source s w
      (subst (Matches from.source (ref_named s)) some from.matches) in
      let same = split_once near.text c e p t (subst (IsSplit c e) (same_Some _ _ (sym from.is ∙ near.has)) split)
      near.split in
      (w, local, subst (λ x. Fits x t s w) same.0 (subst (λ x. Fits c x s w) same.1 fits))

  pub no_object : (n : List ℕ) → ¬ (CanWriteObject r n)
  no_object n object = let (w, local, some) = pattern_cases n None object.writes in let never : None ≡ Some w =
      some in cc (never)

-- ---- a value without stars

module _ (r c : Reading) (done : IsCompleted r c) (plain : HasNoPattern c.destination) where
  plain_cases : (n : List ℕ) (word : Option (List ℕ)) → CanWrite r n word → (c.destination ≡ Some n) × (word ≡ None)
  plain_cases n word by = elim (writes_cases r n word by) [
    | inl (named, none) ↦ (completed_name named ∙ ap Some (sym named.is), none)
    | inr (d, a, b, w, has, split, some, fits) ↦ absurd (plain d a b (completed_pattern d a b has split) split)
  ]
    where
      shape : (d : List ℕ) → r.destination ≡ Some d → (HasStar d × (c.destination ≡ Some d))
          ⊎ (Lacks star d × (c.destination ≡ Some (written_name_of d)))
      shape d has =
          subst (λ o. MatchOption o (c.destination ≡ None) (λ d. (HasStar d × (c.destination ≡ Some d))
          ⊎ (Lacks star d × (c.destination ≡ Some (written_name_of d))))) has done.destination

      completed_name : (named : WritesName r n) → c.destination ≡ Some (written_name_of named.destination)
      completed_name named =
          elim (shape named.destination named.has)
          [ inl one ↦ absurd (Lacks-ContainsText star named.destination named.lacks one.0) | inr one ↦ one.1 ]

      completed_pattern : (d a b : List ℕ) → r.destination ≡ Some d → IsSplit a b d → c.destination ≡ Some d
      completed_pattern d a b has split =
          elim (shape d has) [ inl one ↦ one.1 | inr one ↦ absurd (lacks_no_pattern d a b one.0 split) ]

  pub plain_writes : (n : List ℕ) (word : Option (List ℕ)) → CanWrite r n word → c.destination ≡ Some n
  plain_writes n word by = (plain_cases n word by).0

  pub plain_from : (n s : List ℕ) → CanWriteFrom r n s → IsNamedBy c s
  plain_from n s from = record {
    source = from.source;
    is = done.source ∙ from.is;
    stands =
        subst (Matches from.source (ref_named s)) (plain_cases n from.word from.writes).1 from.matches;
  }

-- a value that writes one local ref at most, which is tried
pub plain_same : (g h : List Reading) (r c : Reading) → IsWith g h r → IsPositive r.mode → IsCompleted r c
    → HasNoPattern c.destination → (d : List ℕ) → c.destination ≡ Some d → (sources : List Source)
    → ((s : List ℕ) → IsNamedBy c s → Contains sources (name s)) → IsSameAt g h d sources → ¬ (PruneOtherwise g h)
plain_same g h r c values positive done plain d has sources named same o =
    same_at g h r values positive sources o.local o.named
    (λ word by. subst (λ x. IsSameAt g h x sources)
    (same_Some _ _ (sym has ∙ plain_writes r c done plain o.local word by)) same)
    (λ s from. named s (plain_from r c done plain o.local s from)) o.remote o.valid o.differ

-- one that writes none
pub none_written : (g h : List Reading) (r : Reading) → IsWith g h r → IsPositive r.mode
    → ((n : List ℕ) (word : Option (List ℕ)) → ¬ (CanWrite r n word)) → ¬ (PruneOtherwise g h)
none_written g h r values positive none o =
    same_beside g h r values positive o.remote o.local (λ word by. absurd (none o.local word by))
    (λ stale object. none o.local None object.writes) (λ s stale from. absurd (none o.local from.word from.writes))
    (λ s stale from. absurd (none o.local from.word from.writes)) o.differ

-- ---- a reading by its completed one

module _ (q x : Reading) (done : IsCompleted q x) where
  pub negative_never : x.mode ≡ Negative → (n : List ℕ) (word : Option (List ℕ)) → ¬ (CanWrite q n word)
  negative_never negative n word by = subst IsPositive (sym done.mode ∙ negative) by.positive

  pub one_written : HasNoPattern x.destination → (d : List ℕ) → x.destination ≡ Some d
      → (n : List ℕ) (word : Option (List ℕ)) → CanWrite q n word → n ≡ d
  one_written plain d has n word by = same_Some _ _ (sym (plain_writes q x done plain n word by) ∙ has)

  pub missing_never : x.destination ≡ None → (n : List ℕ) (word : Option (List ℕ)) → ¬ (CanWrite q n word)
  missing_never none n word by =
      let plain : HasNoPattern x.destination =
      λ y a b is. absurd (let never : None ≡ Some y = sym none ∙ is in cc (never)) in
      let never : None ≡ Some n = sym none ∙ plain_writes q x done plain n word by in
      cc (never)

  pub completed_far : (d a b : List ℕ) → x.destination ≡ Some d → IsSplit a b d → HasDestinationPattern q a b
  completed_far d a b has split =
      let (y, was, shape) = completed_destination q.destination x.destination d done.destination has in
      elim shape [
        | inl one ↦ record { text = d; has = was ∙ ap Some one.1; split = split }
        | inr one ↦ absurd (lacks_no_pattern d a b (subst (Lacks star) one.1 (written_lacks y one.0)) split)
      ]

  pub completed_near : (y p t : List ℕ) → x.source ≡ Some y → IsSplit p t y → HasSourcePattern q p t
  completed_near y p t has split = record { text = y; has = sym done.source ∙ has; split = split }

-- ---- a destination pattern has a source

some_none : (x : List ℕ) → ¬ (Some x ≡ None)
some_none x is = cc (is)

pub sourced : (op : Operation) (text : List ℕ) (r : Reading) → Reads op text r → r.source ≡ None → (d a b : List ℕ)
    → r.destination ≡ Some d → ¬ (IsSplit a b d)
sourced op text r (fetches_nothing_named mode o pos at is) none d a b has split =
    some_none _ (ap (λ (q : Reading). q.source) (sym is) ∙ none)
sourced op text r (fetches_colon mode o pos at is) none d a b has split =
    some_none _ (ap (λ (q : Reading). q.source) (sym is) ∙ none)
sourced op text r (fetches mode s o pos at one is) none d a b has split =
    some_none _ (ap (λ (q : Reading). q.source) (sym is) ∙ none)
sourced op text r (updates mode s e o pos at one is) none d a b has split =
    some_none _ (ap (λ (q : Reading). q.source) (sym is) ∙ none)
sourced op text r (updates_from_head mode e o pos at one is) none d a b has split =
    some_none _ (ap (λ (q : Reading). q.source) (sym is) ∙ none)
sourced op text r (fetch_excludes s o at one other is) none d a b has split =
    some_none _ (ap (λ (q : Reading). q.source) (sym is) ∙ none)
sourced op text r (pushes_plus o at is) none d a b has split =
    some_none d (sym has ∙ ap (λ (q : Reading). q.destination) is)
sourced op text r (pushes_colon mode o pos at is) none d a b has split =
    some_none d (sym has ∙ ap (λ (q : Reading). q.destination) is)
sourced op text r (pushes mode s o pos at one is) none d a b has split =
    some_none _ (ap (λ (q : Reading). q.source) (sym is) ∙ none)
sourced op text r (deletes mode e o pos at one is) none d a b has split =
    let same : e ≡ d = same_Some _ _ (ap (λ (q : Reading). q.destination) (sym is) ∙ has) in
    one Asterisk (record { before = a; after = b; here = same ∙ split.starred })
sourced op text r (pushes_pattern mode s e o pos at one other is) none d a b has split =
    some_none _ (ap (λ (q : Reading). q.source) (sym is) ∙ none)
sourced op text r (pushes_to mode s e o pos at one other third is) none d a b has split =
    some_none _ (ap (λ (q : Reading). q.source) (sym is) ∙ none)
sourced op text r (push_excludes s o at one other is) none d a b has split =
    some_none _ (ap (λ (q : Reading). q.source) (sym is) ∙ none)

-- so a destination is a pattern only where the source is one
pub source_starred : (r : Reading) → ∥ IsAccepted r ∥₁ → (d a b : List ℕ) → r.destination ≡ Some d → IsSplit a b d
    → ¬ (HasNoPattern r.source)
source_starred r accepted d a b has split plain = ∥∥₁_elim accepted (hlevel []) (λ by. by_source r.source refl by)
  where
    by_source : (o : Option (List ℕ)) → r.source ≡ o → IsAccepted r → ⊥
    by_source None none by = sourced r.operation by.0 r by.1 none d a b has split
    by_source (Some x) source by = elim ((sides_agree r accepted).both x d source has) [
      | inl both ↦ plain x both.0.0 both.0.1 source both.0.2
      | inr none ↦ lacks_no_pattern d a b none.1 split
    ]
