-- What a fetch writes, and what could be written from an object or from a ref of the remote.
use Rattle.gix_refspec_plan.proofs.Common.{◌≡◌, ◌⊎◌, inl, inr, ℕ, List, [], ◌∷◌, ◌++◌, ◌≢◌, MatchOption, true, Option}
use Rattle.gix_refspec_plan.proofs.Common.{None, Some, length, codes, drop, nat_eq, refl, sym, ap, ◌∙◌, subst, arith}
use Rattle.gix_refspec_plan.proofs.Common.{AllByRecursion, Any, Contains, starts_with, starts_is, star, BeginsWith}
use Rattle.gix_refspec_plan.proofs.Common.{Lacks, HasOneStar, HasStar, Reading, IsAccepted, IsPositive, SideKind}
use Rattle.gix_refspec_plan.proofs.Common.{object, partial, HasKind, filled, written_name_of, Ref, HasName, Matches}
use Rattle.gix_refspec_plan.proofs.Common.{MatchesAs, IsFirstCandidate, Takes, all_join, Lacks-here, Lacks-ContainsText}
use Rattle.gix_refspec_plan.proofs.Common.{Source, name, id, Mapped, HasPair, IsExcluded, IsSourceExcluded, IsFilled}
use Rattle.gix_refspec_plan.proofs.Common.{matches_as, one_forward, one_kind, IsCompleted, CanWriteFrom, CanWriteObject}
use Rattle.gix_refspec_plan.proofs.Common.{IsFetched, IsSourceOf, IsWritableFromObject, ref_named, AreMappedBy}
use Rattle.gix_refspec_plan.proofs.Common.{HasDestination, sides_agree, All-contains, All-from_recursion, CanWrite}
use Rattle.gix_refspec_plan.proofs.Common.{HasPair-Any, IsOfPair, some_at, some_of, rules, Bool, false, if◌then◌else◌}
use Rattle.gix_refspec_plan.proofs.Common.{◌||◌}
use Rattle.gix_refspec_plan.proofs.lemmas.plan.OnePlanLemmas.{completed_once, reading_once}
use Rattle.gix_refspec_plan.proofs.lemmas.plan.OpposedLemmas.{pair_in}
use Rattle.gix_refspec_plan.proofs.lemmas.stale.ZipLemmas.{completed_excluded, zip_first, zip_partner}
use Rattle.std.proofs.lemmas.Bool.Decides.{Decides-eqb}
use Rattle.gix_refspec_text.proofs.lemmas.hits.CandidateLemmas.{first_candidate, some_first}
use Rattle.gix_refspec_text.proofs.facts.ManualFacts.{Lacks-tested}
use Rattle.gix_refspec.proofs.lemmas.keep.NameOnlyLemmas.{matches_by_name}
use Rattle.gix_refspec.proofs.lemmas.keep.FilterLemmas.{item_named}
use Rattle.gix_refspec.proofs.lemmas.keep.PairMadeLemmas.{kept_exactly}
use Rattle.gix_refspec.specs.Laws.Matching.{IsPaired, MakesForward, PairsId}

pub contained_pair : (l : List Mapped) (m : Mapped) → Contains l m → HasPair l m
contained_pair l m (k, below, is) =
    HasPair-Any l m (some_of (IsOfPair m) l (k, m, below, is, record { source = refl; destination = refl }))

pub named_some : (P : Ref → Type 0) (refs : List Ref) (n : List ℕ) → HasName refs n → ((r : Ref) → r.name ≡ n → P r)
    → Any P refs
named_some P refs n has holds = let (item, (k, below, at), same) = item_named refs n has in
    (k, item, below, at, holds item same)

pub some_named : (P : Ref → Type 0) (refs : List Ref) (n : List ℕ) → ((r : Ref) → P r → r.name ≡ n) → Any P refs
    → HasName refs n
some_named P [] n names any = some_of P [] any
some_named P (r ∷ refs) n names any = search (
  rules,
  some_of P (r ∷ refs) any,
  names r,
  some_at P refs,
  some_named P refs n names,
)

-- what a fetch writes for a destination without a star begins `refs/`
below_if : (b c : Bool) (x : List ℕ) → b ≡ starts_with nat_eq x (codes "refs/")
    → BeginsWith (codes "refs/") (if b then x else (if c then codes "refs/" ++ x else codes "refs/heads/" ++ x))
below_if true c x is =
    record {
      after = drop (length (codes "refs/")) x;
      here =
          (starts_is Decides-eqb x (codes "refs/") (starts_with nat_eq x (codes "refs/")) refl).0 (sym is);
    }
below_if false true x is = record { after = x; here = refl }
below_if false false x is = record { after = codes "heads/" ++ x; here = refl }

pub written_below : (x : List ℕ) → BeginsWith (codes "refs/") (written_name_of x)
written_below x = below_if (starts_with nat_eq x (codes "refs/"))
    (starts_with nat_eq x (codes "heads/") || starts_with nat_eq x (codes "tags/") || starts_with nat_eq x
    (codes "remotes/")) x refl

pub written_lacks : (x : List ℕ) → Lacks star x → Lacks star (written_name_of x)
written_lacks x lacks = search (rules, all_join (λ c. c ≢ star), Lacks-tested star)

pub completed_destination : (side full : Option (List ℕ)) (d : List ℕ)
    → MatchOption side (full ≡ None)
    (λ x. (HasStar x × (full ≡ Some x)) ⊎ (Lacks star x × (full ≡ Some (written_name_of x)))) → full ≡ Some d
    → (x : List ℕ) × (side ≡ Some x) × ((HasStar x × (x ≡ d)) ⊎ (Lacks star x × (written_name_of x ≡ d)))
completed_destination None full d none is = absurd (cc (none, is))
completed_destination (Some x) full d shape is = (x, refl, grind (arith, shape, is))

-- a ref that is known by its name alone is no object
pub no_object_named : (x n : List ℕ) (word : Option (List ℕ)) (bytes : List ℕ) → HasKind x (object bytes)
    → ¬ (MatchesAs (object bytes) (ref_named n) word)
no_object_named x n word bytes kind holds = grind (arith, kind.2.bytes)

-- both sides of a spec, with its destination completed, are patterns, or neither is
abbrev AreAlike : List ℕ → List ℕ → Type 0
AreAlike x d = (HasOneStar x × HasStar d) ⊎ (Lacks star x × Lacks star d × BeginsWith (codes "refs/") d)

-- what a destination becomes where its source takes a ref is the name that it matches with the same word
filled_matches : (x d : List ℕ) (r : Ref) (word : Option (List ℕ)) (n : List ℕ) → AreAlike x d → Matches x r word
    → IsFilled (Some d) word (Some n) → Matches d (ref_named n) word
filled_matches x d r word n alike takes filled =
    grind (arith, alike, takes.of, takes.is, filled, Lacks-ContainsText star d, Lacks-here star, matches_as x)

matches_filled : (d : List ℕ) (word : Option (List ℕ)) (n : List ℕ) (k : SideKind) → HasStar d
    ⊎ BeginsWith (codes "refs/") d → HasKind d k → MatchesAs k (ref_named n) word → IsFilled (Some d) word (Some n)
matches_filled d word n k shape of holds = grind (arith, shape, of, holds, Lacks-ContainsText star d)

pub far_there : (side word : Option (List ℕ)) (n : List ℕ) → IsFilled side word (Some n) → (d : List ℕ)
    × (side ≡ Some d) × IsFilled (Some d) word (Some n)
far_there side word n is = grind (arith, is)

-- of the refs with a name for which a side stands, one that it takes
takes_first : (items : List Ref) (x s : List ℕ) (word : Option (List ℕ)) (k : SideKind) → HasKind x k
    → MatchesAs k (ref_named s) word → HasName items s
    → (t : List ℕ) × Matches x (ref_named t) word × HasName items t
    × ((m : List ℕ) → HasKind x (partial m) → IsFirstCandidate items m t)
takes_first items x s word (partial y) of holds there =
    let (t, first) = some_first items y s holds.1 there in (
      t,
      record { kind = partial y; of = of; is = (holds.0, first_candidate items y t first) },
      first.present,
      λ m kind. subst (λ (z : List ℕ). IsFirstCandidate items z t) (of.0 ∙ sym kind.0) first,
    )
takes_first items x s word k of holds there = (
  s,
  record { kind = k; of = of; is = holds },
  there,
  λ m kind. let e =
      one_kind x k (partial m) of kind in absurd (cc (e)),
)

-- an accepted reading and the same with its destination completed
module _ (r c : Reading) (accepted : ∥ IsAccepted r ∥₁) (done : IsCompleted r c) where
  completed_shape : (d : List ℕ) → c.destination ≡ Some d → (x : List ℕ) × (r.destination ≡ Some x)
      × ((HasStar x × HasStar d) ⊎ (Lacks star x × Lacks star d × BeginsWith (codes "refs/") d))
  completed_shape d is =
      let (x, was, shape) = completed_destination r.destination c.destination d done.destination is in
      (x, was, search (rules, shape, written_lacks x, written_below x))

  sides_alike : (x d : List ℕ) → c.source ≡ Some x → c.destination ≡ Some d → AreAlike x d
  sides_alike x d source destination =
      let (e, was, shape) = completed_shape d destination in
      let starred : HasOneStar e → HasStar e = λ one. record { before = one.0; after = one.1; here = one.2.starred } in
      search (
        rules,
        (sides_agree r accepted).both x e (sym done.source ∙ source) was,
        shape,
        starred,
        Lacks-ContainsText star e,
      )

  -- the spec can write what its completed destination matches
  completed_writes : (d n : List ℕ) (word : Option (List ℕ)) → IsPositive c.mode → c.destination ≡ Some d
      → Matches d (ref_named n) word → CanWrite r n word
  completed_writes d n word positive has matches = record {
    positive = subst IsPositive done.mode positive;
    completed =
        c;
    is = done;
    destination = d;
    has = has;
    matches = matches;
  }

  -- a pair that the spec makes is one that it can write
  start_writes : (items : List Ref) (start : Source) (n : List ℕ) → MakesForward items start (Some n) c
      → CanWriteObject r n ⊎ ((s : List ℕ) × CanWriteFrom r n s × HasName items s)
  start_writes items (name s) n makes =
      let (k, item, below, is, paired) = makes.one in
      let (d, far, becomes) = far_there makes.ends.far paired.word n paired.becomes in
      let has : c.destination ≡ Some d = makes.has.far ∙ far in
      let writes = completed_writes d n paired.word makes.has.positive has
      (filled_matches makes.ends.near d item paired.word n (sides_alike makes.ends.near d makes.has.near has)
      paired.takes.matches becomes) in
      let matches = matches_by_name makes.ends item (ref_named s) paired.word paired.name makes.has.no_object
      paired.takes.matches in
      let from : CanWriteFrom r n s = record {
        word = paired.word;
        writes = writes;
        source = makes.ends.near;
        is =
            sym done.source ∙ makes.has.near;
        matches = matches;
      } in
      inr (
        s,
        from,
        some_named (IsPaired (Takes items) makes.ends s (Some n)) items s (λ item paired. paired.name)
            makes.one,
      )
  start_writes items (id bytes) n makes =
      let (d, far, becomes) = far_there c.destination None n makes.becomes in
      let matches : Matches makes.text (record { name = []; target = bytes; object = None }) None =
      record { kind = object bytes; of = makes.object; is = (refl, inl refl) } in
      let writes = completed_writes d n None makes.positive far
      (filled_matches makes.text d _ None n (sides_alike makes.text d makes.side far) matches becomes) in
      inl (record {
        writes = writes;
        source = makes.text;
        is = sym done.source ∙ makes.side;
        bytes = bytes;
        asks =
            makes.object;
      })

  written_there : (n : List ℕ) (word : Option (List ℕ)) (w : CanWrite r n word) → (c.destination ≡ Some w.destination)
      × IsFilled (Some w.destination) word (Some n)
  written_there n word w =
      let has : c.destination ≡ Some w.destination = ap (λ (q : Reading). q.destination)
      (reading_once r c w.completed done w.is) ∙ w.has in
      let shape : HasStar w.destination ⊎ BeginsWith (codes "refs/") w.destination =
      search (rules, completed_shape w.destination has) in
      (has, matches_filled w.destination word n w.matches.kind shape w.matches.of w.matches.is)

  object_makes : (n : List ℕ) (w : CanWriteObject r n) → PairsId w.bytes (Some n) c
  object_makes n w =
      let (has, becomes) = written_there n None w.writes in
      record {
        positive = subst IsPositive (sym done.mode) w.writes.positive;
        text = w.source;
        side = done.source
            ∙ w.is;
        object = w.asks;
        becomes = rw has becomes;
      }

  -- a ref that it can be written from, or the first candidate of a partial name among the refs, makes its pair
  source_makes : (items : List Ref) (n s : List ℕ) → HasName items s → CanWriteFrom r n s → (t : List ℕ)
      × CanWriteFrom r n t × MakesForward items (name t) (Some n) c
  source_makes items n s there w =
      let (has, becomes) = written_there n w.word w.writes in
      let (t, matches, present, first) = takes_first items w.source s w.word w.matches.kind w.matches.of w.matches.is
      there in
      let no_object : (bytes : List ℕ) → ¬ (HasKind w.source (object bytes)) =
      λ bytes kind. no_object_named w.source t w.word bytes kind
      (matches_as w.source (object bytes) (ref_named t) w.word kind matches) in
      let also = λ (item : Ref) (named : item.name ≡ t). matches_by_name (record { near = w.source; far = None })
      (ref_named t) item w.word (sym named) no_object matches in
      let pair : MakesForward items (name t) (Some n) c = record {
        ends = record { near = w.source; far = Some w.writes.destination };
        has = record {
          positive = subst IsPositive (sym done.mode) w.writes.positive;
          near = done.source ∙ w.is;
          far =
              has;
          no_object = no_object;
        };
        one = named_some _ items t present
            (λ item named. record {
              word = w.word;
              name = named;
              takes =
                  record { matches = also item named; first = λ m kind. rw named (first m kind) };
              becomes = becomes;
            });
      } in
      (t, record { word = w.word; writes = w.writes; source = w.source; is = w.is; matches = matches }, pair)

pub accepted_in : (h : List Reading) (r : Reading) → AllByRecursion (λ q. ∥ IsAccepted q ∥₁) h → Contains h r
    → ∥ IsAccepted r ∥₁
accepted_in h r all there = All-contains (λ q. ∥ IsAccepted q ∥₁) h r
    (All-from_recursion (λ q. ∥ IsAccepted q ∥₁) h all) there

module _ (g : List Reading) (remote : List Ref) (mapped : List Mapped)
    (accepted : AllByRecursion (λ r. ∥ IsAccepted r ∥₁) g) (by : AreMappedBy g remote mapped) where
  -- what is written comes from an object or from a ref of the remote
  pub written_from : (n : List ℕ) → HasDestination mapped n → IsWritableFromObject g n
      ⊎ ((s : List ℕ) × IsSourceOf g n s × HasName remote s)
  written_from n (m, inside, is) =
      let made = ((kept_exactly by.completed remote).forward mapped by.kept m).0 (contained_pair mapped m inside) in
      let (r, c, at, done, makes) = zip_first IsCompleted (MakesForward remote m.source m.destination) g by.completed
      by.are made.0 in
      elim (start_writes r c (accepted_in g r accepted at) done remote m.source n
      (subst (λ (far : Option (List ℕ)). MakesForward remote m.source far c) is makes)) [
        | inl w ↦ inl (r, at, w)
        | inr (s, w, has) ↦ inr (s, (r, at, w), has)
      ]

  kept_destination : (start : Source) (n : List ℕ) → Any (MakesForward remote start (Some n)) by.completed
      → ¬ (IsSourceExcluded by.completed start) → HasDestination mapped n
  kept_destination start n any included =
      let pair : Mapped = record { item = None; source = start; destination = Some n; spec = 0 } in
      let (m, inside, same) = pair_in mapped pair (((kept_exactly by.completed remote).forward mapped by.kept pair).1
      (any, included)) in
      (m, inside, same.destination)

  pub object_written : (n : List ℕ) → IsWritableFromObject g n → HasDestination mapped n
  object_written n (r, at, w) =
      let (c, done, (k, below, is)) = zip_partner IsCompleted g by.completed r by.are at in
      kept_destination (id w.bytes) n (k, c, below, is, object_makes r c (accepted_in g r accepted at) done n w)
      (λ none. none)

  -- and so is what could be written from a ref of the remote, where none is excluded from which it could be
  pub present_written : (n s : List ℕ) → IsSourceOf g n s → HasName remote s
      → ((t : List ℕ) → IsSourceOf g n t → ¬ (IsExcluded g t)) → HasDestination mapped n
  present_written n s (r, at, w) there included =
      let (c, done, (k, below, is)) = zip_partner IsCompleted g by.completed r by.are at in
      let (t, from, makes) = source_makes r c (accepted_in g r accepted at) done remote n s there w in
      kept_destination (name t) n (k, c, below, is, makes)
      (λ excluded. included t (r, at, from) (completed_excluded g by.completed t by.are excluded))

  pub fetched_written : (n : List ℕ) → IsFetched g remote n → HasDestination mapped n
  fetched_written n f =
      let same = completed_once g f.completed by.completed f.are by.are in (
        f.mapping,
        rw (one_forward by.completed remote f.mapped mapped (rw same at f.kept) by.kept) at f.has,
        f.destination,
      )

  pub written_fetched : (n : List ℕ) → HasDestination mapped n → IsFetched g remote n
  written_fetched n (m, inside, is) = record {
    completed = by.completed;
    are = by.are;
    mapped = mapped;
    kept = by.kept;
    mapping = m;
    has = inside;
    destination = is;
  }
