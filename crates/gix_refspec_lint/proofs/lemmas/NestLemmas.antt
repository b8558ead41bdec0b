-- Two specs of which one writes a directory of what the other writes: a word in the lower destination or in both can be
-- the
-- free byte, or is one of few.
use Rattle.gix_refspec_lint.proofs.Common.{◌≡◌, ◌≢◌, inl, inr, Bool, true, false, ℕ, ◌+◌, ◌≤◌, ◌==◌, List, [], ◌∷◌}
use Rattle.gix_refspec_lint.proofs.Common.{◌++◌, codes, Some, length, length-append, append_assoc, append-nil, refl}
use Rattle.gix_refspec_lint.proofs.Common.{sym, ap, ◌∙◌, subst, arith, eqb-true, eqb-false, cases_lt, AllByRecursion}
use Rattle.gix_refspec_lint.proofs.Common.{Ref, HasName, Fits, IsFirstCandidate, candidates, head, Lacks-tested}
use Rattle.gix_refspec_lint.proofs.Common.{IsAccepted, Reading, slash, IsName, IsSplit, BeginsWith, Lacks, Lacks-here}
use Rattle.gix_refspec_lint.proofs.Common.{one_word, all_join, all_left, all_right, Source, name, id, IsRefName}
use Rattle.gix_refspec_lint.proofs.Common.{IsValidSource, MakesForward, CanBeWritten, IsDirectoryOf, AreStorable}
use Rattle.gix_refspec_lint.proofs.Common.{Fetches, IsFree, refs_of, IsDeciding, IsLongerPrefix, IsLongerSuffix, IsMost}
use Rattle.gix_refspec_lint.proofs.Common.{words_with, ref_named}
use Rattle.gix_refspec_lint.proofs.lemmas.ByteLemmas.{excluded_moved, further, lacks_mid, lacks_refs, name_with_byte}
use Rattle.gix_refspec_lint.proofs.lemmas.ByteLemmas.{parted}
use Rattle.gix_refspec_lint.proofs.lemmas.IndexLemmas.{AreAmong, IsThere, made_there, makes_again, makes_fewer, maps_as}
use Rattle.gix_refspec_lint.proofs.lemmas.IndexLemmas.{named_in, own_among, own_there}
use Rattle.gix_refspec_lint.proofs.lemmas.MovedLemmas.{IsWithByte, lacks_parts, lacks_sides, lacks_source, mapped_so}
use Rattle.gix_refspec_lint.proofs.lemmas.MovedLemmas.{moved_so, regroup, word_or_moved}
use Rattle.gix_refspec_lint.proofs.lemmas.PatternLemmas.{MapsPattern, pattern_maps}
use Rattle.gix_refspec_lint.proofs.lemmas.StorableLemmas.{directory_moved, fewer_storable, first_object, pair_storable}
use Rattle.gix_refspec_lint.proofs.lemmas.WordLemmas.{Around, IsParted, IsRefAround, between, begins_before}
use Rattle.gix_refspec_lint.proofs.lemmas.WordLemmas.{common_name, within}
use Rattle.gix_refspec_lint.specs.Matching.Lint.{NestingOver}
use Rattle.gix_refspec_lint.specs.Private.Nestings.{IsAfter, IsInWord, IsWithout}

there_more : (few refs : List Ref) (s : Source) → AreAmong few refs → IsThere few s → IsThere refs s
there_more few refs (name n) among there = among n there
there_more few refs (id bytes) among there = tt

fetches_fewer : (g : List Reading) (refs few : List Ref) (k : ℕ) (s : Source) (d : List ℕ) → AreAmong few refs
    → IsThere few s → Fetches g refs k s (Some d) → Fetches g few k s (Some d)
fetches_fewer g refs few k s d among present f =
    record {
      maps =
          record {
            maps = maps_as f.maps.maps (makes_fewer refs few s (Some d) _ among present f.maps.maps.makes);
            source = f.maps.source;
            destination = f.maps.destination;
          };
      included = f.included;
    }

-- two refs are enough
pub nesting_of_two : (g : List Reading) (refs : List Ref) (i j : ℕ) (s t : Source) (d e : List ℕ)
    → NestingOver g refs i j s t d e → NestingOver g (refs_of s ++ refs_of t) i j s t d e
nesting_of_two g refs i j s t d e c =
    let few = refs_of s ++ refs_of t in
    let there = made_there refs s (Some d) c.upper.maps.maps.completed c.upper.maps.maps.makes in
    let also = made_there refs t (Some e) c.lower.maps.maps.completed c.lower.maps.maps.makes in
    let among : AreAmong few refs = λ m has. elim
    ((named_in (refs_of s) (refs_of t) m).0 has) [
      | inl one ↦ own_among refs s there m one
      | inr other ↦
          own_among refs t also m other
    ] in
    record {
      storable = fewer_storable refs few among c.storable;
      upper = fetches_fewer g refs few i s d among
          (there_more (refs_of s) few s (λ m has. (named_in (refs_of s) (refs_of t) m).1 (inl has)) (own_there s))
          c.upper;
      lower = fetches_fewer g refs few j t e among
          (there_more (refs_of t) few t (λ m has. (named_in (refs_of s) (refs_of t) m).1 (inr has)) (own_there t))
          c.lower;
      nested = c.nested;
    }

-- ---- how often a text has a byte

abbrev once_if : Bool → ℕ
once_if true = 1
once_if false = 0

abbrev pub count : ℕ → List ℕ → ℕ
count z [] = 0
count z (b ∷ x) = once_if (b == z) + count z x

pub count-append : (z : ℕ) (x y : List ℕ) → count z (x ++ y) ≡ count z x + count z y
count-append z [] y = omega arith
count-append z (b ∷ x) y = omega (arith, count-append z x y)

not_once : (t : Bool) → (t ≡ true → ⊥) → once_if t ≡ 0
not_once true none = absurd (none refl)
not_once false none = refl

once : (t : Bool) → (t ≡ false → ⊥) → once_if t ≡ 1
once true some = refl
once false some = absurd (some refl)

pub count_lacks : (z : ℕ) (x : List ℕ) → Lacks z x → count z x ≡ 0
count_lacks z [] lacks = refl
count_lacks z (b ∷ x) (differs, rest) = omega (
  arith,
  not_once (b == z) (λ is. differs (eqb-true b z is)),
  count_lacks z x rest,
)

count_here : (z : ℕ) (y : List ℕ) → count z (z ∷ y) ≡ 1 + count z y
count_here z y = ap (λ k. k + count z y) (once (z == z) (λ not. eqb-false z z not refl))

-- ---- a name and one with the byte in place of a word stand together, if the first hasn't the byte more often than it
-- is before that

module _ (z : ℕ) (lacks_slash : Lacks z (slash ∷ [])) (n front word back : List ℕ) (fewer : count z n ≤ count z front)
  where
    folder_count : count z (n ++ slash ∷ []) ≡ count z n
    folder_count = omega (arith, count-append z n (slash ∷ []), count_lacks z (slash ∷ []) lacks_slash)

    counted : (x m : List ℕ) → x ≡ front ++ (z ∷ m) → count z front + 1 ≤ count z x
    counted x m is = omega (arith, ap (count z) is, count-append z front (z ∷ m), count_here z m)

    not_above : ¬ (IsDirectoryOf n (front ++ (word ++ back))) → ¬ (IsDirectoryOf n (front ++ (z ∷ back)))
    not_above none d = elim (cases_lt (length front) (length (n ++ slash ∷ []))) [
      | inl over ↦
          let (m, longer, rest) = further (front ++ z ∷ []) back (n ++ slash ∷ []) d.after
          (append_assoc front (z ∷ []) back ∙ d.here) (omega (arith, length-append front (z ∷ []))) in
          omega (arith, fewer, folder_count, counted (n ++ slash ∷ []) m (longer ∙ append_assoc front (z ∷ []) m))
      | inr within ↦
          let (m, longer, rest) = further (n ++ slash ∷ []) d.after front (z ∷ back) (sym d.here) within in
          none (record {
            after = m ++ (word ++ back);
            here = ap (λ x. x ++ (word ++ back)) longer
                ∙ append_assoc (n ++ slash ∷ []) m (word ++ back);
          })
    ]

    not_below : ¬ (IsDirectoryOf (front ++ (z ∷ back)) n)
    not_below d = omega (arith, fewer, counted n ((back ++ slash ∷ []) ++ d.after) (d.here ∙ simp append_assoc))

    pub stand_together : ¬ (IsDirectoryOf n (front ++ (word ++ back)))
        → AreStorable (ref_named n ∷ ref_named (front ++ (z ∷ back)) ∷ [])
    stand_together none = pair_storable n (front ++ (z ∷ back)) (not_above none) not_below

-- the source isn't a name with more of the byte than the text
abbrev HasFewer : ℕ → Source → List ℕ → Type 0
HasFewer z (name n) front = count z n ≤ count z front
HasFewer z (id bytes) front = Unit {0}

fewer_without : (z : ℕ) (s : Source) (front : List ℕ) → IsWithout z s → HasFewer z s front
fewer_without z (name n) front lacks = omega (arith, count_lacks z n lacks)
fewer_without z (id bytes) front lacks = tt

directory_before : (d x y : List ℕ) → BeginsWith (d ++ slash ∷ []) x → IsDirectoryOf d (x ++ y)
directory_before d x y begins = record {
  after = begins.after ++ y;
  here = ap (λ w. w ++ y) begins.here
      ∙ append_assoc (d ++ slash ∷ []) begins.after y;
}

module _ (g : List Reading) (z : ℕ) (free : IsFree g z) where
  slash_lacks : Lacks z (slash ∷ [])
  slash_lacks = lacks_mid z free.usable (codes "refs") (codes "/") _ refl

  together : (refs : List Ref) (s : Source) (front word back : List ℕ) → AreStorable refs → IsThere refs s
      → HasName refs (front ++ (word ++ back)) → HasFewer z s front
      → AreStorable (refs_of s ++ refs_of (name (front ++ (z ∷ back))))
  together refs (name n) front word back storable here there fewer = stand_together z slash_lacks n front word back
      fewer (storable n (front ++ (word ++ back)) here there)
  together refs (id bytes) front word back storable here there fewer = first_object bytes (name (front ++ (z ∷ back)))

  pub candidates_lack : (x : List ℕ) → Lacks z x → AllByRecursion (Lacks z) (candidates x)
  candidates_lack x lacks =
      let join : (a b : List ℕ) → Lacks z a → Lacks z b → Lacks z (a ++ b) = λ a b. all_join (λ c. c ≢ z) a b in
      let refs = lacks_refs z free.usable in
      let tags = lacks_mid z free.usable [] (codes "refs/tags/") _ refl in
      let heads = join (codes "refs/") (codes "heads/") refs
      (lacks_mid z free.usable (codes "refs/tags/") (codes "heads/") _ refl) in
      let remotes = join (codes "refs/") (codes "remotes/") refs
      (lacks_mid z free.usable (codes "refs/tags/heads/") (codes "remotes/") _ refl) in
      let last = join (codes "refs/remotes/") (x ++ codes "/HEAD") remotes
      (join x (codes "/HEAD") lacks
      (lacks_mid z free.usable (codes "refs/tags/heads/remotes") (codes "/HEAD") _ refl)) in
      let add : (f : List ℕ) → Lacks z f → Lacks z (f ++ x) = λ f front. join f x front lacks in (
        lacks,
        (
          add (codes "refs/") refs,
          (
            add (codes "refs/tags/") tags,
            (add (codes "refs/heads/") heads, (add (codes "refs/remotes/") remotes, (last, tt))),
          ),
        ),
      )

  none_named : (refs : List Ref) (n m : List ℕ) (l : List (List ℕ)) → HasName refs n → ¬ (Lacks z m)
      → AllByRecursion (λ o. ¬ (HasName refs o)) l → AllByRecursion (Lacks z) l
      → AllByRecursion (λ o. ¬ (HasName (ref_named n ∷ ref_named m ∷ []) o)) l
  none_named refs n m [] there has absent lacks = tt
  none_named refs n m (o ∷ l) there has absent lacks = (
    λ named. elim named [
      | inl is ↦ absent.0 (subst (HasName refs) is there)
      | inr (inl is) ↦ has (subst (Lacks z) (sym is) lacks.0)
      | inr (inr none) ↦ none
    ],
    none_named refs n m l there has absent.1 lacks.1,
  )

  -- a spec fetches its source beside a name with the byte, which is no candidate
  upper_again : (refs : List Ref) (i : ℕ) (s : Source) (d m : List ℕ) → ¬ (Lacks z m) → Fetches g refs i s (Some d)
      → Fetches g (refs_of s ++ refs_of (name m)) i s (Some d)
  upper_again refs i (id bytes) d m has f =
      record {
        maps = record {
          maps = maps_as f.maps.maps f.maps.maps.makes;
          source = f.maps.source;
          destination =
              f.maps.destination;
        };
        included = f.included;
      }
  upper_again refs i (name n) d m has f =
      let makes = f.maps.maps.makes in
      let there = made_there refs (name n) (Some d) f.maps.maps.completed makes in
      let text = lacks_source g z free i f.maps.maps.reading f.maps.maps.completed makes.ends.near f.maps.maps.at
      f.maps.maps.is makes.has.near in
      let again : MakesForward (ref_named n ∷ ref_named m ∷ []) (name n) (Some d) f.maps.maps.completed =
      makes_again refs (ref_named n ∷ ref_named m ∷ []) n (Some d) f.maps.maps.completed (inl refl) makes (λ x kind.
      let first = subst (IsFirstCandidate refs x) makes.one.4.name (makes.one.4.takes.first x kind) in
      let all = subst (AllByRecursion (Lacks z)) first.here (candidates_lack x (subst (Lacks z) (sym kind.0) text)) in
      record {
        earlier = first.earlier;
        later = first.later;
        here = first.here;
        absent =
            none_named refs n m first.earlier there has first.absent
            (all_left (Lacks z) first.earlier (n ∷ first.later) all);
        present = inl refl;
      }) in
      record {
        maps = record {
          maps = maps_as f.maps.maps again;
          source = f.maps.source;
          destination =
              f.maps.destination;
        };
        included = f.included;
      }

  -- with the byte in place of a word of the lower source and destination
  with_lower : (i j : ℕ) (refs : List Ref) (s t : Source) (d e : List ℕ) → NestingOver g refs i j s t d e
      → (front word back f : List ℕ) → t ≡ name (front ++ (word ++ back)) → HasFewer z s front
      → ((few : List Ref) → HasName few (front ++ (z ∷ back)) → Fetches g few j (name (front ++ (z ∷ back))) (Some f))
      → IsDirectoryOf d f
      → NestingOver g (refs_of s ++ refs_of (name (front ++ (z ∷ back)))) i j s (name (front ++ (z ∷ back))) d f
  with_lower i j refs s t d e c front word back f was fewer fetches nested =
      let here = made_there refs s (Some d) c.upper.maps.maps.completed c.upper.maps.maps.makes in
      let there : HasName refs (front ++ (word ++ back)) = subst (IsThere refs) was
      (made_there refs t (Some e) c.lower.maps.maps.completed c.lower.maps.maps.makes) in
      let few = refs_of s ++ refs_of (name (front ++ (z ∷ back))) in
      record {
        storable = together refs s front word back c.storable here there fewer;
        upper = upper_again refs i s d (front ++ (z ∷ back)) (Lacks-here z front back) c.upper;
        lower = fetches few ((named_in (refs_of s) (refs_of (name (front ++ (z ∷ back)))) (front ++ (z ∷ back))).1
            (inr (inl refl)));
        nested = nested;
      }

-- a text with one slash, at its end, ends where another has a slash
only_end : (x : List ℕ) → Lacks slash x → (f m : List ℕ) → x ++ slash ∷ [] ≡ f ++ (slash ∷ m) → m ≡ []
only_end [] lacks [] m is = sym (cc (is))
only_end [] lacks (a ∷ f) m is = absurd (omega (arith, ap length is, length-append f (slash ∷ m)))
only_end (b ∷ x) (differs, lacks) [] m is = absurd (differs (cc (is)))
only_end (b ∷ x) (differs, lacks) (a ∷ f) m is = only_end x lacks f m (cc (is))

-- where a ref name has a word behind a slash, it is one with the byte there
byte_behind : (g : List Reading) (z : ℕ) → IsFree g z → (f v back : List ℕ)
    → IsRefName ((f ++ slash ∷ []) ++ (v ++ back)) → CanBeWritten (Some ((f ++ slash ∷ []) ++ (z ∷ back)))
byte_behind g z free f v back (inr is) =
    absurd (Lacks-here slash f (v ++ back) (subst (Lacks slash) (sym is ∙ append_assoc f (slash ∷ []) (v ++ back))
    (Lacks-tested slash head refl)))
byte_behind g z free f v back (inl (begins, named)) = (
  elim (parted (f ++ slash ∷ []) (v ++ back) (codes "refs/") begins.after begins.here) [
    | inr (m, longer, rest) ↦ record {
      after = m ++ (z ∷ back);
      here = ap (λ x. x ++ (z ∷ back)) longer
          ∙ append_assoc (codes "refs/") m (z ∷ back);
    }
    | inl (m, longer, rest) ↦
        let none = only_end (codes "refs") (Lacks-tested slash (codes "refs") refl) f m
        (longer ∙ append_assoc f (slash ∷ []) m) in
        record {
          after = z ∷ back;
          here = ap (λ x. x ++ (z ∷ back))
              (sym (longer ∙ ap (λ k. (f ++ slash ∷ []) ++ k) none ∙ append-nil (f ++ slash ∷ [])));
        }
  ],
  name_with_byte z free.usable (f ++ slash ∷ []) v back
      (λ none. omega (arith, ap length none, length-append (f ++ slash ∷ []) (v ++ back), length-append f (slash ∷ [])))
      named,
)

-- a spec that fetches with a word in its source does so with the byte there
module _ (g : List Reading) (z : ℕ) (free : IsFree g z) (refs : List Ref) (k : ℕ) (s : Source) (n : List ℕ)
    (f : Fetches g refs k s (Some n)) (accepted : ∥ IsAccepted f.maps.maps.completed ∥₁)
    (d a b : List ℕ) (has : f.maps.maps.completed.destination ≡ Some d) (split : IsSplit a b d) where
  abbrev own : MapsPattern f.maps.maps.completed a b s n
  own = mapped_so g z free refs k s n f accepted d a b has split

  abbrev front_of : List ℕ → List ℕ → List ℕ
  front_of x e = (own.before ++ x) ++ e

  moved_source : (x e rest y : List ℕ) → own.word ≡ x ++ ((e ++ rest) ++ y)
      → s ≡ name (front_of x e ++ (rest ++ (y ++ own.after)))
  moved_source x e rest y word = own.source ∙ ap (λ v. name (own.before ++ (v ++ own.after))) word
      ∙ ap name (regroup own.before x e rest y own.after)

  moved_free : (x e rest y m : List ℕ) → own.word ≡ x ++ ((e ++ rest) ++ y)
      → CanBeWritten (Some ((own.before ++ x) ++ ((e ++ z ∷ []) ++ (y ++ own.after)))) → CanBeWritten (Some m)
      → m ≡ a ++ ((x ++ ((e ++ z ∷ []) ++ y)) ++ b)
      → (few : List Ref) → HasName few (front_of x e ++ (z ∷ (y ++ own.after)))
      → Fetches g few k (name (front_of x e ++ (z ∷ (y ++ own.after)))) (Some m)
  moved_free x e rest y m word valid written is few there =
      let c = f.maps.maps.completed in
      let w = x ++ ((e ++ z ∷ []) ++ y) in
      let same : own.before ++ (w ++ own.after) ≡ front_of x e ++ (z ∷ (y ++ own.after)) =
      regroup own.before x e (z ∷ []) y own.after in
      let makes = pattern_maps c accepted d a b has split few own.before own.after w own.positive own.side
      (subst (HasName few) (sym same) there) in
      let moved = subst (λ o. MakesForward few (name o) (Some m) c) same
      (subst (λ o. MakesForward few (name (own.before ++ (w ++ own.after))) (Some o) c) (sym is) makes) in
      let valid_name : IsValidSource (name (front_of x e ++ (z ∷ (y ++ own.after)))) =
      inl (subst (λ o. CanBeWritten (Some o)) (between own.before x (e ++ z ∷ []) y own.after ∙ same) valid) in
      record {
        maps = record { maps = maps_as f.maps.maps moved; source = valid_name; destination = written };
        included = λ by. f.included
            (rw (moved_source x e rest y word)
            (excluded_moved z free.usable g (front_of x e) rest (y ++ own.after) free.lacks by));
      }

-- ---- a known directory

pub record DecidesBelow (g : List Reading) (z : ℕ) (prefix suffix : List ℕ) (most i j : ℕ) (d : List ℕ) : Type 0 where
  pub name : List ℕ
  pub deciding : IsDeciding (words_with z) prefix suffix most name
  pub one : Source
  pub other : Source
  pub over : NestingOver g (refs_of one ++ refs_of other) i j one other d name

module _ (g : List Reading) (z : ℕ) (free : IsFree g z) (i j : ℕ) (refs : List Ref) (s t : Source) (d e : List ℕ)
    (c : NestingOver g refs i j s t d e)
    (without : IsWithout z s) (accepted : ∥ IsAccepted c.lower.maps.maps.completed ∥₁) (y p q : List ℕ)
    (has : c.lower.maps.maps.completed.destination ≡ Some y) (split : IsSplit p q y)
    (prefix suffix : List ℕ) (most : ℕ) (longer : IsLongerPrefix (d ++ slash ∷ []) p prefix)
    (ends : IsLongerSuffix [] q suffix) (is_most : IsMost (d ++ slash ∷ []) [] p q prefix suffix most) where
  abbrev below : MapsPattern c.lower.maps.maps.completed p q t e
  below = mapped_so g z free refs j t e c.lower accepted y p q has split

  below_itself : IsDeciding (words_with z) prefix suffix most e → DecidesBelow g z prefix suffix most i j d
  below_itself deciding = record {
    name = e;
    deciding = deciding;
    one = s;
    other = t;
    over =
        nesting_of_two g refs i j s t d e c;
  }

  pub decided_below : DecidesBelow g z prefix suffix most i j d
  decided_below =
      let fits : Fits (d ++ slash ∷ []) [] e c.nested.after = c.nested.here ∙ ap (λ x. (d ++ slash ∷ []) ++ x)
      (sym (append-nil c.nested.after)) in
      elim (common_name (words_with z) (d ++ slash ∷ []) [] p q prefix suffix most e c.nested.after below.word longer
      ends is_most fits below.fits) [
        | inr deciding ↦ below_itself deciding
        | inl w ↦
            let own = subst IsValidSource (below.source ∙ ap (λ v. name (below.before ++ (v ++ below.after))) w.other
            ∙ ap name (sym (between below.before w.p w.word w.q below.after))) c.lower.maps.source in
            elim (word_or_moved g z free w.word
            (record { front = below.before ++ w.p; back = w.q ++ below.after } ∷ record {
              front = prefix;
              back =
                  suffix;
            } ∷ []) (own, (subst IsRefName w.whole (inl c.lower.maps.destination), tt))) [
              | inl listed ↦ below_itself (inl (w.word, listed, w.whole))
              | inr h ↦
                  let v = h.ending ++ z ∷ [] in
                  let m = prefix ++ (v ++ suffix) in
                  let word = w.other ∙ ap (λ v. w.p ++ (v ++ w.q)) h.is in
                  let front = front_of g z free refs j t e c.lower accepted y p q has split w.p h.ending in
                  let back = w.q ++ below.after in
                  let was = moved_source g z free refs j t e c.lower accepted y p q has split w.p h.ending h.rest w.q
                  word in
                  let fetches = moved_free g z free refs j t e c.lower accepted y p q has split w.p h.ending h.rest w.q
                  m word h.written.0 h.written.1.0 (within p q prefix suffix w.p w.q v w.front w.back) in
                  record {
                    name = m;
                    deciding = inl (v, h.listed, refl);
                    one = s;
                    other = name (front ++ (z ∷ back));
                    over = with_lower g z free i j refs s t d e c front h.rest back m was
                        (fewer_without z s front without) fetches (directory_before d prefix (v ++ suffix) longer.one);
                  }
            ]
      ]

-- ---- directories that two patterns have in common

-- a name that decides is such a directory, and the text rest follows it in the lower destination
pub record DecidesFollowed (g : List Reading) (z : ℕ) (prefix suffix rest : List ℕ) (most i j : ℕ) : Type 0 where
  pub name : List ℕ
  pub deciding : IsDeciding (words_with z) prefix suffix most name
  pub one : Source
  pub other : Source
  pub over : NestingOver g (refs_of one ++ refs_of other) i j one other name (name ++ rest)

module _ (g : List Reading) (z : ℕ) (free : IsFree g z) (i j : ℕ) (refs : List Ref) (s t : Source) (n e : List ℕ)
    (c : NestingOver g refs i j s t n e)
    (accepted : ∥ IsAccepted c.upper.maps.maps.completed ∥₁) (y a b : List ℕ)
    (has : c.upper.maps.maps.completed.destination ≡ Some y) (split : IsSplit a b y)
    (also : ∥ IsAccepted c.lower.maps.maps.completed ∥₁) (x p q : List ℕ)
    (also_has : c.lower.maps.maps.completed.destination ≡ Some x) (also_split : IsSplit p q x) where
  abbrev above : MapsPattern c.upper.maps.maps.completed a b s n
  above = mapped_so g z free refs i s n c.upper accepted y a b has split

  abbrev lower : MapsPattern c.lower.maps.maps.completed p q t e
  lower = mapped_so g z free refs j t e c.lower also x p q also_has also_split

  module _ (rest end more u : List ℕ) (is : e ≡ n ++ rest) (whole : end ++ rest ≡ more ++ q)
      (behind : (k : List ℕ) × (rest ≡ slash ∷ k)) (begins : Fits p end n u)
      (prefix suffix : List ℕ) (most : ℕ) (longer : IsLongerPrefix a p prefix) (ends : IsLongerSuffix b end suffix)
      (is_most : IsMost a b p end prefix suffix most) where
    followed_itself : IsDeciding (words_with z) prefix suffix most n → DecidesFollowed g z prefix suffix rest most i j
    followed_itself deciding = record {
      name = n;
      deciding = deciding;
      one = s;
      other = t;
      over =
          subst (NestingOver g (refs_of s ++ refs_of t) i j s t n) is (nesting_of_two g refs i j s t n e c);
    }

    word_is : lower.word ≡ u ++ more
    word_is =
        let first : e ≡ p ++ (u ++ (end ++ rest)) = is ∙ ap (λ k. k ++ rest) begins ∙ simp append_assoc in
        let second : p ++ (u ++ (more ++ q)) ≡ p ++ ((u ++ more) ++ q) = simp append_assoc in
        one_word p q e lower.word (u ++ more) lower.fits (first ∙ ap (λ k. p ++ (u ++ k)) whole ∙ second)

    lower_word : (w : IsParted a b p end prefix suffix n above.word u) → lower.word ≡ w.p ++ (w.word ++ (w.q ++ more))
    lower_word w = word_is ∙ ap (λ k. k ++ more) w.other ∙ simp append_assoc

    abbrev around : IsParted a b p end prefix suffix n above.word u → List Around
    around w =
        record { front = above.before ++ w.x; back = w.y ++ above.after }
        ∷ record { front = lower.before ++ w.p; back = (w.q ++ more) ++ lower.after }
        ∷ record { front = prefix; back = suffix }
        ∷ record { front = prefix; back = suffix ++ rest }
        ∷ []

    valid_around : (w : IsParted a b p end prefix suffix n above.word u) → AllByRecursion (IsRefAround w.word)
        (around w)
    valid_around w =
        let own = subst IsValidSource (above.source ∙ ap (λ v. name (above.before ++ (v ++ above.after))) w.one
        ∙ ap name (sym (between above.before w.x w.word w.y above.after))) c.upper.maps.source in
        let others = subst IsValidSource (lower.source ∙ ap (λ v. name (lower.before ++ (v ++ lower.after)))
        (lower_word w) ∙ ap name (sym (between lower.before w.p w.word (w.q ++ more) lower.after)))
        c.lower.maps.source in
        let nested : e ≡ prefix ++ (w.word ++ (suffix ++ rest)) = is ∙ ap (λ k. k ++ rest) w.whole
        ∙ simp append_assoc in (
          own,
          (
            others,
            (
              subst IsRefName w.whole (inl c.upper.maps.destination),
              (subst IsRefName nested (inl c.lower.maps.destination), tt),
            ),
          ),
        )

    module _ (w : IsParted a b p end prefix suffix n above.word u) (h : IsWithByte z w.word (around w)) where
      prefix_lacks : Lacks z prefix
      prefix_lacks =
          elim longer.is [
            | inl is ↦ rw is (lacks_sides g z free refs i s n c.upper accepted y a b has split).0
            | inr is ↦ rw is (lacks_sides g z free refs j t e c.lower also x p q also_has also_split).0
          ]

      followed_by_ending : DecidesFollowed g z prefix suffix rest most i j
      followed_by_ending =
          let v = h.ending ++ z ∷ [] in
          let m = prefix ++ (v ++ suffix) in
          let long : m ++ rest ≡ prefix ++ (v ++ (suffix ++ rest)) = simp append_assoc in
          let texts = p ++ (w.p ++ (v ++ w.q)) in
          let parts : m ++ rest ≡ texts ++ (end ++ rest) =
          ap (λ k. k ++ rest) (within p end prefix suffix w.p w.q v w.front w.back) ∙ simp append_assoc in
          let grouped : texts ++ (more ++ q) ≡ p ++ ((w.p ++ (v ++ (w.q ++ more))) ++ q) = simp append_assoc in
          let fits : m ++ rest ≡ p ++ ((w.p ++ (v ++ (w.q ++ more))) ++ q) = parts ∙ ap (λ k. texts ++ k) whole
          ∙ grouped in
          let (front, back, was, lacks, fetches) = moved_so g z free refs i s n c.upper accepted y a b has split w.x
          h.ending h.rest w.y m (w.one ∙ ap (λ v. w.x ++ (v ++ w.y)) h.is)
          (all_right (λ c. c ≢ z) a w.x (subst (Lacks z) w.before prefix_lacks)) h.lacks h.written.0 h.written.1.1.0
          (within a b prefix suffix w.x w.y v w.before w.after) in
          let (start, last, other_was, other_lacks, other_fetches) = moved_so g z free refs j t e c.lower also x p q
          also_has also_split w.p h.ending h.rest (w.q ++ more) (m ++ rest)
          (lower_word w ∙ ap (λ v. w.p ++ (v ++ (w.q ++ more))) h.is)
          (all_right (λ c. c ≢ z) p w.p (subst (Lacks z) w.front prefix_lacks)) h.lacks h.written.1.0
          (subst (λ o. CanBeWritten (Some o)) (sym long) h.written.1.1.1.0) fits in
          let few = refs_of (name (front ++ (z ∷ back))) ++ refs_of (name (start ++ (z ∷ last))) in
          let here : HasName refs (front ++ (h.rest ++ back)) = subst (IsThere refs) was
          (made_there refs s (Some n) c.upper.maps.maps.completed c.upper.maps.maps.makes) in
          let there : HasName refs (start ++ (h.rest ++ last)) = subst (IsThere refs) other_was
          (made_there refs t (Some e) c.lower.maps.maps.completed c.lower.maps.maps.makes) in
          let stand : AreStorable few = pair_storable (front ++ (z ∷ back)) (start ++ (z ∷ last))
          (λ d. c.storable _ _ here there (directory_moved z front back start last h.rest lacks other_lacks d))
          (λ d. c.storable _ _ there here (directory_moved z start last front back h.rest other_lacks lacks d)) in
          let over : NestingOver g few i j (name (front ++ (z ∷ back))) (name (start ++ (z ∷ last))) m (m ++ rest) =
          record {
            storable = stand;
            upper = fetches few (inl refl);
            lower = other_fetches few (inr (inl refl));
            nested = record {
              after = behind.0;
              here = ap (λ k. m ++ k) behind.1
                  ∙ sym (append_assoc m (slash ∷ []) behind.0);
            };
          } in
          record {
            name = m;
            deciding = inl (v, h.listed, refl);
            one = name (front ++ (z ∷ back));
            other =
                name (start ++ (z ∷ last));
            over = over;
          }

    pub decided_followed : DecidesFollowed g z prefix suffix rest most i j
    decided_followed =
        elim (common_name (words_with z) a b p end prefix suffix most n above.word u longer ends is_most above.fits
        begins) [
          | inr deciding ↦ followed_itself deciding
          | inl w ↦ elim (word_or_moved g z free w.word (around w) (valid_around w)) [
            | inl listed ↦ followed_itself (inl (w.word, listed, w.whole))
            | inr h ↦ followed_by_ending w h
          ]
        ]

  -- ---- the word after the slash

  module _ (u v : List ℕ) (begins : n ≡ p ++ u) (is : e ≡ n ++ (slash ∷ (v ++ q))) where
    abbrev up : List ℕ
    up = u ++ slash ∷ []

    free_word : lower.word ≡ up ++ (([] ++ v) ++ [])
    free_word = one_word p q e lower.word (up ++ (([] ++ v) ++ [])) lower.fits
        (is ∙ ap (λ k. k ++ (slash ∷ (v ++ q))) begins ∙ simp (append_assoc, append-nil))

    source_is : t ≡ name ((lower.before ++ up) ++ (v ++ lower.after))
    source_is = lower.source ∙ ap (λ w. name (lower.before ++ (w ++ lower.after))) free_word
        ∙ simp (append_assoc, append-nil)

    written_free : CanBeWritten (Some ((lower.before ++ up) ++ (([] ++ z ∷ []) ++ ([] ++ lower.after))))
    written_free =
        let same : (lower.before ++ u) ++ slash ∷ [] ≡ lower.before ++ up = append_assoc lower.before u (slash ∷ []) in
        let valid : IsRefName (((lower.before ++ u) ++ slash ∷ []) ++ (v ++ lower.after)) =
        subst (λ k. IsRefName (k ++ (v ++ lower.after))) (sym same)
        (subst IsValidSource source_is c.lower.maps.source) in
        subst (λ k. CanBeWritten (Some (k ++ (z ∷ lower.after)))) same
        (byte_behind g z free (lower.before ++ u) v lower.after valid)

    abbrev nested_free : List ℕ
    nested_free = n ++ (slash ∷ (z ∷ q))

    written_nested : CanBeWritten (Some nested_free)
    written_nested =
        let was : e ≡ (n ++ slash ∷ []) ++ (v ++ q) = is ∙ sym (append_assoc n (slash ∷ []) (v ++ q)) in
        let named = name_with_byte z free.usable (n ++ slash ∷ []) v q
        (λ none. omega (
          arith,
          ap length none,
          length-append (n ++ slash ∷ []) (v ++ q),
          length-append n (slash ∷ []),
        )) (subst IsName was c.lower.maps.destination.1) in (
          begins_before n (slash ∷ (z ∷ q)) c.upper.maps.destination.0,
          subst IsName (append_assoc n (slash ∷ []) (z ∷ q)) named,
        )

    -- a pattern leaves a name as many of the byte as its word has
    word_count : (x y w m : List ℕ) → Lacks z x → Lacks z y → m ≡ x ++ (w ++ y) → count z m ≡ count z w
    word_count x y w m front back at = omega (
      arith,
      ap (count z) at,
      count-append z x (w ++ y),
      count-append z w y,
      count_lacks z x front,
      count_lacks z y back,
    )

    fewer_in_front : (front : List ℕ) → front ≡ (lower.before ++ up) ++ [] → HasFewer z s front
    fewer_in_front front at =
        let up_sides = lacks_sides g z free refs i s n c.upper accepted y a b has split in
        let low_sides = lacks_sides g z free refs j t e c.lower also x p q also_has also_split in
        let text = lacks_source g z free i c.upper.maps.maps.reading c.upper.maps.maps.completed above.side.text
        c.upper.maps.maps.at c.upper.maps.maps.is above.side.has in
        let near = lacks_parts g z free above.side.text above.before above.after text above.side.split in
        let own = word_count above.before above.after above.word (above.before ++ (above.word ++ above.after)) near.0
        near.1 refl in
        let named = word_count a b above.word n up_sides.0 up_sides.1 above.fits in
        let common : count z n ≡ count z u =
        omega (arith, ap (count z) begins, count-append z p u, count_lacks z p low_sides.0) in
        let long = ap (count z) at in
        let fewer : count z (above.before ++ (above.word ++ above.after)) ≤ count z front =
        omega (
          arith,
          own,
          named,
          common,
          long,
          count-append z (lower.before ++ up) [],
          count-append z lower.before up,
          count-append z u (slash ∷ []),
        ) in
        subst (λ r. HasFewer z r front) (sym above.source) fewer

    -- any word there can be the byte
    pub word_freed : (r : Source) × NestingOver g (refs_of s ++ refs_of r) i j s r n nested_free
    word_freed =
        let fits : nested_free ≡ p ++ ((up ++ (([] ++ z ∷ []) ++ [])) ++ q) = ap (λ k. k ++ (slash ∷ (z ∷ q))) begins
        ∙ simp (append_assoc, append-nil) in
        let front = front_of g z free refs j t e c.lower also x p q also_has also_split up [] in
        let back = [] ++ lower.after in
        let was = moved_source g z free refs j t e c.lower also x p q also_has also_split up [] v [] free_word in
        let fetches = moved_free g z free refs j t e c.lower also x p q also_has also_split up [] v [] nested_free
        free_word written_free written_nested fits in (
          name (front ++ (z ∷ back)),
          with_lower g z free i j refs s t n e c front v back nested_free was
              (fewer_in_front front refl) fetches
              (record { after = z ∷ q; here = sym (append_assoc n (slash ∷ []) (z ∷ q)) }),
        )

-- ---- where the slash is

-- the slash after a directory d is in one of the three parts of the lower destination
pub data HasSlash (p q d e : List ℕ) : Type 0 where
  before_star : BeginsWith (d ++ slash ∷ []) p → HasSlash p q d e
  in_word : IsInWord p q d e → HasSlash p q d e
  after_star : IsAfter p q d e → HasSlash p q d e

in_rest : (p q u d e after m : List ℕ) → d ≡ p ++ u → e ≡ d ++ (slash ∷ after) → slash ∷ after ≡ m ++ q
    → HasSlash p q d e
in_rest p q u d e after [] begins is rest =
    after_star (u, [], after, sym rest, begins ∙ ap (λ k. p ++ k) (sym (append-nil u)), is)
in_rest p q u d e after (k ∷ m) begins is rest = let tail : after ≡ m ++ q =
    cc (rest) in in_word (u, m, begins, is ∙ ap (λ l. d ++ (slash ∷ l)) tail)

behind_start : (p q u w d e after : List ℕ) → d ≡ p ++ u → e ≡ d ++ (slash ∷ after) → w ++ q ≡ u ++ (slash ∷ after)
    → HasSlash p q d e
behind_start p q u w d e after begins is same = elim (parted w q u (slash ∷ after) same) [
  | inl (m, longer, rest) ↦ after_star (w, m, after, rest, begins ∙ ap (λ k. p ++ k) longer, is)
  | inr (m, longer, rest) ↦ in_rest p q u d e after m begins is rest
]

before_rest : (p q w d e after m : List ℕ) → e ≡ d ++ (slash ∷ after) → p ≡ d ++ m → slash ∷ after ≡ m ++ (w ++ q)
    → HasSlash p q d e
before_rest p q w d e after [] is longer rest = behind_start p q [] w d e after
    (sym (longer ∙ append-nil d) ∙ sym (append-nil p)) is (sym rest)
before_rest p q w d e after (k ∷ m) is longer rest =
    let here : k ≡ slash = cc (rest) in
    before_star (record {
      after = m;
      here = longer ∙ ap (λ b. d ++ (b ∷ m)) here
          ∙ sym (append_assoc d (slash ∷ []) m);
    })

pub slash_of : (p q w d e : List ℕ) → e ≡ p ++ (w ++ q) → IsDirectoryOf d e → HasSlash p q d e
slash_of p q w d e fits nested =
    let is : e ≡ d ++ (slash ∷ nested.after) = nested.here ∙ append_assoc d (slash ∷ []) nested.after in
    elim (parted d (slash ∷ nested.after) p (w ++ q) (sym is ∙ fits)) [
      | inr (u, begins, rest) ↦ behind_start p q u w d e nested.after begins is rest
      | inl (m, longer, rest) ↦ before_rest p q w d e nested.after m is longer rest
    ]
