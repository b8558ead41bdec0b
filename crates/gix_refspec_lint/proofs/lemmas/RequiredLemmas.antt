-- Which missing sources stop a fetch.
use Rattle.gix_refspec_lint.proofs.Common.{◌≡◌, ◌≢◌, ◌⊎◌, ◌↔◌, inl, inr, ℕ, zero, suc, ◌+◌, ◌<◌, ◌≤◌, Bool, true, false}
use Rattle.gix_refspec_lint.proofs.Common.{MatchBool, List, [], ◌∷◌, ◌++◌, Option, None, Some, length, map, map-id}
use Rattle.gix_refspec_lint.proofs.Common.{map_split, take, drop, refl, sym, ap, ◌∙◌, subst, arith, AllByRecursion}
use Rattle.gix_refspec_lint.proofs.Common.{AllZip, Contains, slice_get, same_Some, of_element, item_named, Ref, HasName}
use Rattle.gix_refspec_lint.proofs.Common.{Matches, MatchesAs, SideKind, pattern, full_name, object, partial, HasKind}
use Rattle.gix_refspec_lint.proofs.Common.{candidates, candidate_contained, matches_as, one_kind, IsPositive, Reading}
use Rattle.gix_refspec_lint.proofs.Common.{IsRefName, AreValid, IsCompleted, ref_named, mapped_there, upto, map_each}
use Rattle.gix_refspec_lint.proofs.Common.{slice_get_within, BString, bstring_bytes, map-append, Contains-append_left}
use Rattle.gix_refspec_lint.proofs.Common.{Contains-append_right, Contains-push_cases}
use Rattle.gix_refspec_lint.proofs.lemmas.{IdleLemmas.each_named, IndexLemmas.{all_listed, completed_at, zip_of}}
use Rattle.gix_refspec.proofs.lemmas.keep.FilterLemmas.{name_there}
use Rattle.gix_refspec_match.specs.Matching.Missing.{LacksSource}
use Rattle.gix_refspec_lint.specs.Matching.Lint.{IsDispensable, IsRequired, LacksAt}
use Rattle.gix_refspec_lint.specs.Private.Idles.{AreNamed, AreValidOf, IsHadBeside, IsNeverMissing}

contained_split : (l : List (List ℕ)) (n : List ℕ) → Contains l n
    → (earlier : List (List ℕ)) × (later : List (List ℕ)) × (l ≡ earlier ++ (n ∷ later))
contained_split l n (k, below, is) =
    let same : List ℕ → List ℕ = λ x. x in
    let before = map same (take k l) in
    let after = map same (drop (suc k) l) in
    (before, after, sym (map-id l) ∙ map_split same l k n below ∙ ap (λ y. before ++ (y ∷ after)) is)

-- ---- what a source without a star names

abbrev pub names_as : List ℕ → SideKind → List (List ℕ)
names_as x (full_name n) = x ∷ []
names_as x (partial n) = candidates n
names_as x (pattern before after) = []
names_as x (object id) = []

abbrev pub IsNamed : List ℕ → Type 0
IsNamed x = HasKind x (full_name x) ⊎ HasKind x (partial x)

not_named : (x : List ℕ) (kind : SideKind) → HasKind x kind → IsNamed x → ((m : List ℕ) → ¬ (kind ≡ full_name m))
    → ((m : List ℕ) → ¬ (kind ≡ partial m)) → ⊥
not_named x kind of (inl full) no_full no_partial = no_full x (one_kind x kind (full_name x) of full)
not_named x kind of (inr part) no_full no_partial = no_partial x (one_kind x kind (partial x) of part)

matched : (x : List ℕ) (kind : SideKind) → HasKind x kind → IsNamed x → (r : Ref) (word : Option (List ℕ))
    → MatchesAs kind r word → Contains (names_as x kind) r.name
matched x (full_name n) of named r word holds = (zero, omega arith, sym of.0 ∙ sym holds.1)
matched x (partial n) of named r word holds = candidate_contained n r.name holds.1
matched x (pattern before after) of named r word holds =
    absurd (not_named x (pattern before after) of named (λ m same. cc) (λ m same. cc))
matched x (object id) of named r word holds = absurd (not_named x (object id) of named (λ m same. cc) (λ m same. cc))

matches_there : (x : List ℕ) (kind : SideKind) → HasKind x kind → (r : Ref) → Contains (names_as x kind) r.name
    → Matches x r None
matches_there x (full_name n) of r has =
    record {
      kind = full_name n;
      of = of;
      is = (refl, of_element (λ y. y ≡ x) (x ∷ []) r.name (refl, tt) has ∙ sym of.0);
    }
matches_there x (partial n) of r has =
    let (earlier, later, here) = contained_split (candidates n) r.name has in
    record { kind = partial n; of = of; is = (refl, record { earlier = earlier; later = later; here = here }) }
matches_there x (pattern before after) of r has = absurd (of_element (λ y. ⊥) [] r.name tt has)
matches_there x (object id) of r has = absurd (of_element (λ y. ⊥) [] r.name tt has)

pub named_are : (r : Reading) (x : List ℕ) (kind : SideKind) (all valid : List (List ℕ)) → IsPositive r.mode
    → r.source ≡ Some x → HasKind x kind → IsNamed x
    → all ≡ names_as x kind → AreValidOf all valid → AreNamed r valid
named_are r x kind all valid positive has of named same are = record {
  valid = all_listed IsRefName valid (λ n there. (are.only n there).1);
  lacks = λ refs fine none. record {
    positive = positive;
    source = x;
    is = has;
    named = named;
    absent = λ ref word there matches.
        let listed = subst (λ l. Contains l ref.name) (sym same)
        (matched x kind of named ref word (matches_as x kind ref word of matches)) in
        let good : IsRefName ref.name = of_element (λ (q : Ref). IsRefName q.name) refs ref fine there in
        of_element (λ n. ¬ (HasName refs n)) valid ref.name none (are.has ref.name listed good)
        (name_there refs ref there);
  };
  has = λ refs n there present lacking.
      let (ref, at, is) = item_named refs n present in
      let own : Contains (names_as x kind) ref.name = subst (Contains (names_as x kind)) (sym is)
      (subst (λ l. Contains l n) same (are.only n there).0) in
      lacking.absent ref None at (subst (λ y. Matches y ref None) (same_Some _ _ (sym has ∙ lacking.is))
      (matches_there x kind of ref own));
}

pub never_missing : (r : Reading) (x : List ℕ) (kind : SideKind) → r.source ≡ Some x → HasKind x kind
    → ((m : List ℕ) → ¬ (kind ≡ full_name m)) → ((m : List ℕ) → ¬ (kind ≡ partial m))
    → IsNeverMissing r
never_missing r x kind has of no_full no_partial refs lacking =
    not_named x kind of (subst IsNamed (same_Some _ _ (sym lacking.is ∙ has)) lacking.named) no_full no_partial

-- ---- valid names

module _ (all : List BString) (b : BString) (now : List BString)
    (so_far : AreValidOf (map bstring_bytes all) (map bstring_bytes now)) where
  abbrev n : List ℕ
  n = bstring_bytes b

  pub valid_more : (new : List BString) → new ≡ now ++ b ∷ [] → IsRefName n
      → AreValidOf (map bstring_bytes (all ++ b ∷ [])) (map bstring_bytes new)
  valid_more new is good =
      let last = Contains-append_right (map bstring_bytes now) (n ∷ []) n (zero, omega arith, refl) in
      let also = Contains-append_right (map bstring_bytes all) (n ∷ []) n (zero, omega arith, refl) in
      rw (is, map-append bstring_bytes all (b ∷ []), map-append bstring_bytes now (b ∷ [])) (record {
        has = λ m there valid. elim (Contains-push_cases (map bstring_bytes all) n m there) [
          | inl earlier ↦ Contains-append_left (map bstring_bytes now) (n ∷ []) m (so_far.has m earlier valid)
          | inr same ↦ subst (Contains (map bstring_bytes now ++ n ∷ [])) same last
        ];
        only = λ m there. elim (Contains-push_cases (map bstring_bytes now) n m there) [
          | inl earlier ↦ let (one, valid) = so_far.only m earlier in
              (Contains-append_left (map bstring_bytes all) (n ∷ []) m one, valid)
          | inr same ↦ (subst (Contains (map bstring_bytes all ++ n ∷ [])) same also, subst IsRefName same good)
        ];
      })

  pub valid_same : ¬ (IsRefName n) → AreValidOf (map bstring_bytes (all ++ b ∷ [])) (map bstring_bytes now)
  valid_same bad = rw (map-append bstring_bytes all (b ∷ [])) (record {
    has = λ m there valid. elim (Contains-push_cases
        (map bstring_bytes all) n m there) [
          | inl earlier ↦ so_far.has m earlier valid
          | inr same ↦ absurd
              (bad (subst IsRefName (sym same) valid))
        ];
    only = λ m there. let (one, valid) = so_far.only m there in
        (Contains-append_left (map bstring_bytes all) (n ∷ []) m one, valid);
  })

-- ---- one spec beside another

pub lacks_too : (r q : Reading) (names others : List (List ℕ)) → AreNamed r names → AreNamed q others
    → AllByRecursion (Contains names) others
    → (refs : List Ref) → AreValid refs → LacksSource refs r → LacksSource refs q
lacks_too r q names others one other all refs fine lacking =
    other.lacks refs fine (all_listed (λ n. ¬ (HasName refs n)) others
    (λ n there has. one.has refs n (of_element (Contains names) others n all there) has lacking))

pub had_beside : (q : Reading) (names others : List (List ℕ)) (n : List ℕ) → AreNamed q others → Contains others n
    → ¬ (Contains names n) → IsHadBeside q names
had_beside q names others n other there none =
    inr (n, of_element IsRefName others n other.valid there, none, λ refs present. other.has refs n there present)

-- ---- all others

-- some valid refs, none of them of these names, because of which the sources of the first specs aren't missing, but for
-- one
pub record AreHad (cs : List Reading) (index : ℕ) (names : List (List ℕ)) (at : ℕ) : Type 0 where
  pub others : List (List ℕ)
  pub valid : AllByRecursion IsRefName others
  pub apart : AllByRecursion (λ n. ¬ (Contains names n)) others
  pub had : (j : ℕ) (q : Reading) (refs : List Ref) → j < at → j ≢ index → slice_get cs j ≡ Some q
      → ((n : List ℕ) → Contains others n → HasName refs n) → ¬ (LacksSource refs q)

pub none_had : (cs : List Reading) (index : ℕ) (names : List (List ℕ)) → AreHad cs index names 0
none_had cs index names =
    record { others = []; valid = tt; apart = tt; had = λ j q refs below other at has. omega (arith, below) }

pub had_itself : (cs : List Reading) (index : ℕ) (names : List (List ℕ)) (at : ℕ) → at ≡ index
    → AreHad cs index names at → AreHad cs index names (at + 1)
had_itself cs index names at same had = record {
  others = had.others;
  valid = had.valid;
  apart = had.apart;
  had =
      λ j q refs below other here has. elim
      (upto j at below) [
        | inl earlier ↦ had.had j q refs earlier other here has
        | inr is ↦ absurd
            (other (is ∙ same))
      ];
}

pub had_next : (cs : List Reading) (index : ℕ) (names : List (List ℕ)) (at : ℕ) (r : Reading)
    → slice_get cs at ≡ Some r → IsHadBeside r names → AreHad cs index names at → AreHad cs index names (at + 1)
had_next cs index names at r here (inl never) had = record {
  others = had.others;
  valid = had.valid;
  apart = had.apart;
  had = λ j q refs below other there has. elim (upto j at below) [
    | inl earlier ↦ had.had j q refs earlier other there has
    | inr is ↦ subst (λ x. ¬ (LacksSource refs x)) (same_Some _ _ (sym here ∙ ap (slice_get cs) (sym is) ∙ there))
        (never refs)
  ];
}
had_next cs index names at r here (inr (n, good, none, held)) had = record {
  others = n ∷ had.others;
  valid = (good, had.valid);
  apart = (none, had.apart);
  had = λ j q refs below other there has. elim (upto j at below) [
    | inl earlier ↦ had.had j q refs earlier other there (λ m (k, within, is). has m (suc k, omega (arith, within), is))
    | inr is ↦ subst (λ x. ¬ (LacksSource refs x)) (same_Some _ _ (sym here ∙ ap (slice_get cs) (sym is) ∙ there))
        (held refs (has n (zero, omega arith, refl)))
  ];
}

pub required_by : (cs : List Reading) (index : ℕ) (r : Reading) (names : List (List ℕ)) (end : ℕ)
    → slice_get cs index ≡ Some r → AreNamed r names → length cs ≤ end → AreHad cs index names end
    → IsRequired cs index
required_by cs index r names end at named whole had =
    let refs = map ref_named had.others in
    let fine : AreValid refs = map_each IsRefName (λ (q : Ref). IsRefName q.name) ref_named
    (λ n good. good) had.others had.valid in
    let apart : AllByRecursion (λ (q : Ref). ¬ (Contains names q.name)) refs = map_each (λ n. ¬ (Contains names n))
    (λ (q : Ref). ¬ (Contains names q.name)) ref_named (λ n none. none) had.others had.apart in
    let none = all_listed (λ n. ¬ (HasName refs n)) names
    (λ n there has. each_named (λ m. ¬ (Contains names m)) refs n apart has there) in
    record {
      refs = refs;
      valid = fine;
      lacks = record { reading = r; at = at; lacks = named.lacks refs fine none };
      alone = λ j other lacking.
          had.had j lacking.reading refs (omega
          (arith, slice_get_within cs j lacking.reading lacking.at, whole)) other lacking.at
          (λ n there. name_there refs (ref_named n) (mapped_there ref_named had.others n there)) lacking.lacks;
    }

pub dispensable_by : (cs : List Reading) (index : ℕ) (r : Reading) → slice_get cs index ≡ Some r
    → (at : ℕ) (q : Reading) → slice_get cs at ≡ Some q → at ≢ index
    → ((refs : List Ref) → AreValid refs → LacksSource refs r → LacksSource refs q) → IsDispensable cs index
dispensable_by cs index r here at q there other lacks refs fine lacking =
    let own : LacksSource refs r = subst (LacksSource refs) (same_Some _ _ (sym lacking.at ∙ here)) lacking.lacks in
    (at, other, record { reading = q; at = there; lacks = lacks refs fine own })

pub dispensable_never : (cs : List Reading) (index : ℕ) (r : Reading) → slice_get cs index ≡ Some r → IsNeverMissing r
    → IsDispensable cs index
dispensable_never cs index r here never refs fine lacking =
    absurd (never refs (subst (LacksSource refs) (same_Some _ _ (sym lacking.at ∙ here)) lacking.lacks))

-- ---- the same of specs whose destinations aren't completed

lacks_completed : (refs : List Ref) (r c : Reading) → IsCompleted r c → LacksSource refs r ↔ LacksSource refs c
lacks_completed refs r c done = (
  (λ l. record {
    positive = subst IsPositive (sym done.mode) l.positive;
    source = l.source;
    is = done.source ∙ l.is;
    named = l.named;
    absent = l.absent;
  }),
  (λ l. record {
    positive = subst IsPositive done.mode l.positive;
    source = l.source;
    is = sym done.source ∙ l.is;
    named = l.named;
    absent = l.absent;
  }),
)

module _ (g h : List Reading) (all : AllZip IsCompleted g h) where
  lacks_there : (refs : List Ref) (k : ℕ) → LacksAt h refs k → LacksAt g refs k
  lacks_there refs k l =
      let (r, at, done) = zip_of g h all k l.reading l.at in record {
        reading = r;
        at = at;
        lacks = (lacks_completed refs r l.reading done).1 l.lacks;
      }

  lacks_here : (refs : List Ref) (k : ℕ) → LacksAt g refs k → LacksAt h refs k
  lacks_here refs k l =
      let (c, at, done) = completed_at g h all k l.reading l.at in record {
        reading = c;
        at = at;
        lacks = (lacks_completed refs l.reading c done).0 l.lacks;
      }

  pub required_same : (k : ℕ) (b : Bool) → MatchBool b (IsRequired h k) (IsDispensable h k)
      → MatchBool b (IsRequired g k) (IsDispensable g k)
  required_same k true need =
      record {
        refs = need.refs;
        valid = need.valid;
        lacks = lacks_there need.refs k need.lacks;
        alone = λ j other l. need.alone j other (lacks_here need.refs j l);
      }
  required_same k false free =
      λ refs fine l. let (j, other, lacking) = free refs fine (lacks_here refs k l) in
      (j, other, lacks_there refs j lacking)
