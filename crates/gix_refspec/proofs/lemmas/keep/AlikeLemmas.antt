-- Fetches map alike if they are equal, or if the canonical text of one reads as the other.
use Rattle.gix_refspec.proofs.Common.{◌≡◌, inl, inr, ◌↔◌, ℕ, ◌+◌, Bool, true, false, List, [], ◌∷◌, map, Option, None}
use Rattle.gix_refspec.proofs.Common.{Some, refl, sym, ap, ◌∙◌, nat_eq, pointwise, AllZip, Operation, Fetch, RefSpecRef}
use Rattle.gix_refspec.proofs.Common.{Mode, Normal, Forced, Negative, Reading, IsPositive, IsAccepted, Reads, Meaning}
use Rattle.gix_refspec.proofs.Common.{fetch_only, fetch_exclude, fetch_and_update, meaning, meaning_of, key_of_spec}
use Rattle.gix_refspec.proofs.Common.{reading_of, Ref, Matches, Takes, IsMadeFrom, IsJoinedFrom, Source, Mapped}
use Rattle.gix_refspec.proofs.Common.{IsExcludedBy, IsExcluded, IsSourceExcluded, IsKeptAt, IsKept, Ends}
use Rattle.gix_refspec.proofs.Common.{AreForwardEnds, AreBackwardEnds, Hit, AreSpecHits, AreHits, IsIdMapping}
use Rattle.gix_refspec.proofs.Common.{AreKeptForward, AreKeptBackward, ReadsAgainAs, MapAlike, FetchGroupReadsBack}
use Rattle.gix_refspec.proofs.Common.{FetchTheSame, EqualGroups, AreFetches, same_Some, by_cases, rules, subst}
use Rattle.gix_refspec.proofs.Common.{same_keys, equal_keys, keeps_operation, printed_back, says, says_for_operation}
use Rattle.gix_refspec.proofs.Common.{arith}

abbrev pub is_negative : Mode → Bool
is_negative Negative = true
is_negative _ = false

-- the readings have the same sides, and both are negative or neither
pub record AreAlike (r q : Reading) : Type 0 where
  pub source : r.source ≡ q.source
  pub destination : r.destination ≡ q.destination
  pub negative : is_negative r.mode ≡ is_negative q.mode

alike_back : (r q : Reading) → AreAlike r q → AreAlike q r
alike_back r q alike = search rules

zip_back : (g h : List Reading) → AllZip AreAlike g h → AllZip AreAlike h g
zip_back [] [] alike = tt
zip_back (r ∷ g) (q ∷ h) alike = (alike_back r q alike.0, zip_back g h alike.1)
zip_back g h alike = absurd alike

alike_positive : (r q : Reading) → AreAlike r q → IsPositive r.mode → IsPositive q.mode
alike_positive r q alike positive = grind arith

-- the sides of a fetch with this meaning, and whether its sign is `^`
parts_of : Option Meaning → Option (List ℕ) × Option (List ℕ) × Bool
parts_of (Some (fetch_only s)) = (Some s, None, false)
parts_of (Some (fetch_exclude s)) = (Some s, None, true)
parts_of (Some (fetch_and_update s d forced)) = (Some s, Some d, false)
parts_of _ = (None, None, false)

are_parts : (op : Operation) (mode : Mode) (s d : Option (List ℕ)) (m : Meaning) → op ≡ Fetch
    → meaning op mode s d ≡ Some m → parts_of (meaning op mode s d) ≡ (s, d, is_negative mode)
unfolding parts_of
are_parts Fetch Normal (Some s) None m fetch means = refl
are_parts Fetch Normal (Some s) (Some d) m fetch means = refl
are_parts Fetch Forced (Some s) None m fetch means = refl
are_parts Fetch Forced (Some s) (Some d) m fetch means = refl
are_parts Fetch Negative (Some s) None m fetch means = refl
are_parts op mode s d m fetch means = absurd (cc)

-- two fetches with the same meaning are alike: only the force of one without a destination may differ
said_alike : (r q : Reading) (m : Meaning) → r.operation ≡ Fetch → q.operation ≡ Fetch → meaning_of r ≡ Some m
    → meaning_of q ≡ meaning_of r → AreAlike r q
said_alike r q m fetch_r fetch_q means same = search (rules, are_parts)

again_alike : (r q : Reading) → ∥ IsAccepted r ∥₁ → ReadsAgainAs r q → AreAlike r q
again_alike r q accepted again =
    let back = printed_back r accepted in
    let said = says r accepted in
    let reads : Reads r.operation back.text q = subst (λ (op : Operation). Reads op back.text q) (sym again.fetch)
    (rw (same_Some again.text back.text (sym again.is ∙ back.is)) at again.reads) in
    said_alike r q said.0 again.fetch (keeps_operation Fetch again.text q again.reads) said.1
    (ap meaning_of (back.again.only q reads) ∙ back.same)

zip_mapped : {A B C : Type 0} (f : A → C) (P Q : C → B → Type 0) → ((a : A) (b : B) → P (f a) b → Q (f a) b)
    → (xs : List A) (ys : List B) → AllZip P (map f xs) ys → AllZip Q (map f xs) ys
zip_mapped f P Q of [] [] all = tt
zip_mapped f P Q of (a ∷ xs) (b ∷ ys) all = (of a b all.0, zip_mapped f P Q of xs ys all.1)
zip_mapped f P Q of xs ys all = absurd all

pub made_zip : {X Z Y : Type 0} (T : X → Z → Type 0) (R : ℕ → X → Y → Type 0) (S : ℕ → Z → Y → Type 0)
    → ((k : ℕ) (x : X) (z : Z) (y : Y) → T x z → R k x y ↔ S k z y) → (k : ℕ) (xs : List X) (zs : List Z) (ys : List Y)
    → AllZip T xs zs → IsMadeFrom R k xs ys → IsMadeFrom S k zs ys
made_zip T R S both k [] [] ys alike made = made
made_zip T R S both k (x ∷ xs) (z ∷ zs) ys alike (None, rest, none, more, is) = (
  None,
  rest,
  (λ y makes. none y ((both k x z y alike.0).1 makes)),
  made_zip T R S both (k + 1) xs zs rest alike.1 more,
  is,
)
made_zip T R S both k (x ∷ xs) (z ∷ zs) ys alike (Some y, rest, one, more, is) =
    (Some y, rest, (both k x z y alike.0).0 one, made_zip T R S both (k + 1) xs zs rest alike.1 more, is)
made_zip T R S both k xs zs ys alike made = absurd alike

joined_zip : {X Z Y : Type 0} (T : X → Z → Type 0) (R : ℕ → X → List Y → Type 0) (S : ℕ → Z → List Y → Type 0)
    → ((k : ℕ) (x : X) (z : Z) (ys : List Y) → T x z → R k x ys → S k z ys) → (k : ℕ) (xs : List X) (zs : List Z)
    (ys : List Y) → AllZip T xs zs → IsJoinedFrom R k xs ys → IsJoinedFrom S k zs ys
joined_zip T R S each k [] [] ys alike joined = joined
joined_zip T R S each k (x ∷ xs) (z ∷ zs) ys alike (made, rest, here, more, is) =
    (made, rest, each k x z made alike.0 here, joined_zip T R S each (k + 1) xs zs rest alike.1 more, is)
joined_zip T R S each k xs zs ys alike joined = absurd alike

-- lists with the same keys have the same key at each place
pub zip_keys : {X Z K : Type 0} (f : X → K) (h : Z → K) (xs : List X) (zs : List Z) → map f xs ≡ map h zs
    → AllZip (λ x z. f x ≡ h z) xs zs
zip_keys f h [] [] same = tt
zip_keys f h (x ∷ xs) (z ∷ zs) same = (cc, zip_keys f h xs zs (cc))
zip_keys f h xs zs same = absurd (cc)

module _ (HasEnds : Reading → Ends → Type 0) (Taken : List ℕ → Ref → Option (List ℕ) → Type 0)
    (keeps : (r q : Reading) (ends : Ends) → AreAlike r q → HasEnds r ends → HasEnds q ends) (items : List Ref) where
  spec_hits : (k : ℕ) (r q : Reading) (hits : List Hit) → AreAlike r q → AreSpecHits HasEnds Taken items k r hits
      → AreSpecHits HasEnds Taken items k q hits
  spec_hits k r q hits alike (inl (ends, has, made)) = inl (ends, keeps r q ends alike has, made)
  spec_hits k r q hits alike (inr (none, empty)) =
      inr (λ ends has. none ends (keeps q r ends (alike_back r q alike) has), empty)

  group_hits : (g h : List Reading) (hits : List Hit) → AllZip AreAlike g h → AreHits HasEnds Taken g items hits
      → AreHits HasEnds Taken h items hits
  group_hits = joined_zip AreAlike (AreSpecHits HasEnds Taken items) (AreSpecHits HasEnds Taken items) spec_hits 0

id_mapping : (k : ℕ) (r q : Reading) (m : Mapped) → AreAlike r q → IsIdMapping k r m → IsIdMapping k q m
id_mapping k r q m alike is =
    search (rules, alike_positive r q alike is.positive, rw alike.destination at is.destination)

excluded_by : (n : List ℕ) (r q : Reading) → AreAlike r q → IsExcludedBy n r → IsExcludedBy n q
excluded_by n r q alike by = record {
  negative = grind arith;
  text = by.text;
  source = sym alike.source ∙ by.source;
  excludes = by.excludes;
}

excluded : (n : List ℕ) (g h : List Reading) → AllZip AreAlike g h → IsExcluded g n → IsExcluded h n
excluded n [] h alike is = absurd is
excluded n (r ∷ g) [] alike is = absurd alike
excluded n (r ∷ g) (q ∷ h) alike is = by_cases is (λ by. inl (excluded_by n r q alike.0 by))
    (λ later. inr (excluded n g h alike.1 later))

start_excluded : (s : Source) (g h : List Reading) → AllZip AreAlike g h → IsSourceExcluded g s → IsSourceExcluded h s
start_excluded s g h alike is = search (rules, excluded)

kept : (g h : List Reading) (all list : List Mapped) → AllZip AreAlike g h → IsKept g all list → IsKept h all list
kept g h all list alike is =
    made_zip (λ x y. x ≡ y) (λ k m made. (made ≡ m) × IsKeptAt g all k m) (λ k m made. (made ≡ m) × IsKeptAt h all k m)
    (λ k m n made same. rw same (
      (λ of_g. (
        of_g.0,
        record {
          first = of_g.1.first;
          included =
              λ by. of_g.1.included (start_excluded n.source h g (zip_back g h alike) by);
        },
      )),
      λ of_h. (
        of_h.0,
        record { first = of_h.1.first; included = λ by. of_h.1.included (start_excluded n.source g h alike by) },
      ),
    )) 0 all all list (zip_keys (λ x. x) (λ x. x) all all refl) is

forward : (g h : List Reading) (items : List Ref) (list : List Mapped) → AllZip AreAlike g h
    → AreKeptForward g items list → AreKeptForward h items list
forward g h items list alike are =
    let ids = made_zip AreAlike IsIdMapping IsIdMapping
    (λ k r q m same. (id_mapping k r q m same, id_mapping k q r m (alike_back r q same)))
    0 g h are.forward.ids alike are.forward.are_ids in
    search (
      rules,
      ids,
      group_hits AreForwardEnds (Takes items)
          (λ r q ends same has. search (rules, alike_positive r q same has.positive)) items g h are.forward.hits alike,
      kept g h are.all list alike,
    )

backward : (g h : List Reading) (items : List Ref) (list : List Mapped) → AllZip AreAlike g h
    → AreKeptBackward g items list → AreKeptBackward h items list
backward g h items list alike are =
    search (
      rules,
      group_hits AreBackwardEnds Matches
          (λ r q ends same has. search (rules, alike_positive r q same has.positive)) items g h are.backward.hits alike,
      kept g h are.all list alike,
    )

map_alike : (g h : List Reading) (items : List Ref) → AllZip AreAlike g h → MapAlike g h items
map_alike g h items alike = search (rules, forward, backward, zip_back)

pub reads_back : (specs : List RefSpecRef) (h : List Reading) (items : List Ref)
    → FetchGroupReadsBack (map reading_of specs) h items
reads_back specs h items again = map_alike (map reading_of specs) h items
    (zip_mapped reading_of ReadsAgainAs AreAlike (λ s q of_s. again_alike (reading_of s) q s.accepted of_s) specs h
    again)

equal_alike : (s : RefSpecRef) (q : Reading) → FetchTheSame (reading_of s) q → AreAlike (reading_of s) q
equal_alike s q equal = search (rules, said_alike, says, says_for_operation)

pub equal_groups : (specs other : List RefSpecRef) (items : List Ref) → EqualGroups (map reading_of specs)
    (map reading_of other) items
equal_groups specs other items equal = map_alike (map reading_of specs) (map reading_of other) items
    (zip_mapped reading_of FetchTheSame AreAlike equal_alike specs (map reading_of other) equal)

equal_fetches : (specs other : List RefSpecRef) → AreFetches (map reading_of specs)
    → map (λ (s : RefSpecRef). meaning_of (reading_of s)) specs ≡ map (λ (s : RefSpecRef). meaning_of (reading_of s))
    other → AllZip FetchTheSame (map reading_of specs) (map reading_of other)
equal_fetches [] [] fetches same = tt
equal_fetches (s ∷ specs) (t ∷ other) fetches same =
    (record { fetch = fetches.0; same = cc }, equal_fetches specs other fetches.1 (cc))
equal_fetches specs other fetches same = absurd (cc)

pub equal_lists : (specs other : List RefSpecRef) (items : List Ref)
    → pointwise (λ (a : RefSpecRef) (b : RefSpecRef). pointwise (pointwise nat_eq) (key_of_spec a) (key_of_spec b))
    specs other ≡ true → AreFetches (map reading_of specs) → MapAlike (map reading_of specs) (map reading_of other)
    items
equal_lists specs other items told fetches =
    let same = (same_keys (λ (a : RefSpecRef) (b : RefSpecRef). pointwise (pointwise nat_eq) (key_of_spec a)
    (key_of_spec b)) (λ (s : RefSpecRef). meaning_of (reading_of s))
    (λ a b. equal_keys (meaning_of (reading_of a)) (meaning_of (reading_of b))) specs other).0 told in
    equal_groups specs other items (equal_fetches specs other fetches same)
