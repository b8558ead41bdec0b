-- Filters of items: the same pairs are kept, if no item that some spec takes is left out.
use Rattle.gix_refspec.proofs.Common.{◌≡◌, ℕ, zero, suc, Bool, true, List, [], ◌∷◌, Option, map, refl, sym, ap, ◌∙◌}
use Rattle.gix_refspec.proofs.Common.{subst, arith, nat_eq, Any, Contains, filter, starts_with, get_or-map, length-map}
use Rattle.gix_refspec.proofs.Common.{All-contains_itself, All-filter, starts_is, bstr_bytes, Item, Reading, Ref}
use Rattle.gix_refspec.proofs.Common.{Matches, Takes, Ends, AreForwardEnds, AreBackwardEnds, ref_of, BeginsWithOne}
use Rattle.gix_refspec.proofs.Common.{ArePart, TakesItem, HasTaken, PassesTaken, FilteredItems, FilteredByEntries}
use Rattle.gix_refspec.proofs.Common.{FilteredByList, is_begun, All-contains, all_weaker, inl, inr, ◌↔◌, None, Lacks}
use Rattle.gix_refspec.proofs.Common.{star, head, SideKind, pattern, full_name, object, partial, HasKind, HasName}
use Rattle.gix_refspec.proofs.Common.{IsFirstCandidate, Source, name, id, Mapped, AreKeptForward, PairsItem}
use Rattle.gix_refspec.proofs.Common.{MakesForward, MakesBackward, IsCoveredBy, HaveSamePairs, FewerItems, IsListed}
use Rattle.gix_refspec.proofs.Common.{AreListedItems, ListedItems, same_Some, All-from_recursion, Lacks-tested, rules}
use Rattle.gix_refspec.proofs.Common.{lacks_no_pattern, some_at, Any-from_map, IsAsked}
use Rattle.gix_refspec.proofs.lemmas.MadeLemmas.{there}
use Rattle.gix_refspec.proofs.lemmas.keep.PairMadeLemmas.{kept_exactly}
use Rattle.gix_refspec.proofs.lemmas.prefixes.CoverLemmas.{below_not_head, joined_covers, source_asked, covering_covers}
use Rattle.gix_refspec.proofs.lemmas.prefixes.CoverLemmas.{head_covers}
use Rattle.gix_refspec_match.proofs.lemmas.duplicates.HashKeyLemmas.{contains_filter}
use Rattle.gix_refspec_text.proofs.lemmas.hits.CandidateLemmas.{first_candidate, first_once, some_first, taken_by_first}
use Rattle.std.proofs.lemmas.{Bool.Decides.{Decides-eqb}, List.Folds.{list_any-from_Any}}

pub mapped_there : {X Y : Type 0} (f : X → Y) (xs : List X) (x : X) → Contains xs x → Contains (map f xs) (f x)
mapped_there f xs x (k, below, is) = (
  k,
  omega (arith, below, length-map xs f),
  get_or-map f xs k x (f x) below
      ∙ ap f is,
)

pub mapped_from : {X Y : Type 0} (f : X → Y) (xs : List X) (y : Y) → Contains (map f xs) y → (x : X) × Contains xs x
    × (f x ≡ y)
mapped_from f xs y has = let (k, x, below, is, same) = some_at (λ x. f x ≡ y) xs
    (Any-from_map (λ z. z ≡ y) f xs (there (map f xs) y has)) in (x, (k, below, is), same)

filtered_part : (p : Item → Bool) (items some : List Item) → some ≡ filter p items
    → ArePart (map ref_of items) (map ref_of some)
filtered_part p items some is = rw is (λ ref has.
    let (item, there, same) = mapped_from ref_of (filter p items) ref has in
    subst (Contains (map ref_of items)) same
    (mapped_there ref_of items item
    (All-contains (Contains items) (filter p items) item
    (All-filter p (Contains items) items (All-contains_itself items)) there)))

passed : (p : Item → Bool) (items : List Item) (P : Ref → Type 0)
    → ((item : Item) → Contains items item → P (ref_of item) → p item ≡ true) → (ref : Ref)
    → Contains (map ref_of items) ref → P ref → Contains (map ref_of (filter p items)) ref
passed p items P passes ref has holds =
    let (item, there, same) = mapped_from ref_of items ref has in
    subst (Contains (map ref_of (filter p items))) same
    (mapped_there ref_of (filter p items) item
    (contains_filter p items item there (passes item there (subst P (sym same) holds))))

filtered_taken : (HasEnds : Reading → Ends → Type 0) (Taken : List ℕ → Ref → Option (List ℕ) → Type 0)
    (g : List Reading) (items some : List Item) (p : Item → Bool) → some ≡ filter p items
    → PassesTaken HasEnds Taken g items p → HasTaken HasEnds Taken g (map ref_of items) (map ref_of some)
filtered_taken HasEnds Taken g items some p is passes =
    subst (λ (l : List Item). HasTaken HasEnds Taken g (map ref_of items) (map ref_of l)) (sym is)
    (passed p items (λ (r : Ref). Any (TakesItem HasEnds Taken r) g) passes)

pub filtered_items : (g : List Reading) (items some : List Item) → FilteredItems g items some
filtered_items g items some = search (rules, filtered_part, filtered_taken)

begun : (n : List ℕ) (entries : List (List ℕ)) → BeginsWithOne entries n → is_begun entries n ≡ true
begun n entries (k, e, below, is, begins) = list_any-from_Any (λ entry. starts_with nat_eq n entry) entries
    (k, e, below, is, (starts_is Decides-eqb n e (starts_with nat_eq n e) refl).1 begins.after begins.here)

pub filtered_by_list : (items some : List Item) → FilteredByList items some
filtered_by_list items some entries is =
    let p : Item → Bool = λ item. is_begun entries (bstr_bytes item.full_ref_name) in
    record {
      part = filtered_part p items some is;
      asked = λ ref has begins. subst (λ (l : List Item). Contains (map ref_of l) ref) (sym is)
          (passed p items (λ (r : Ref). BeginsWithOne entries r.name)
          (λ item there of_item. begun (bstr_bytes item.full_ref_name) entries of_item) ref has begins);
    }

pub filtered_by_entries : (g : List Reading) (items some : List Item) → FilteredByEntries g items some
filtered_by_entries g items some entries are is =
    let by_list = filtered_by_list items some entries is in
    record { entries = entries; expansions = are; part = by_list.part; listed = by_list.asked }

pub item_named : (items : List Ref) (n : List ℕ) → HasName items n → (item : Ref) × Contains items item
    × (item.name ≡ n)
item_named [] n has = absurd has
item_named (r ∷ items) n (inl same) = (r, (0, omega arith, refl), same)
item_named (r ∷ items) n (inr later) = let (item, (k, below, is), same) = item_named items n later in
    (item, (suc k, omega (arith, below), is), same)

pub name_there : (items : List Ref) (item : Ref) → Contains items item → HasName items item.name
name_there [] item (k, below, is) = absurd (omega (arith, below))
name_there (r ∷ items) item (zero, below, is) = inl (ap (λ (x : Ref). x.name) is)
name_there (r ∷ items) item (suc k, below, is) = inr (name_there items item (k, omega (arith, below), is))

name_in_all : (A B : List Ref) → ArePart A B → (n : List ℕ) → HasName B n → HasName A n
name_in_all A B part n has = let (item, there, same) = item_named B n has in subst (HasName A) same
    (name_there A item (part item there))

-- the first candidate among all items is the first in a subset that has it
first_in_part : (A B : List Ref) → ArePart A B → (x n : List ℕ) → HasName B n → IsFirstCandidate A x n
    → IsFirstCandidate B x n
first_in_part A B part x n has first = grind (arith, all_weaker, name_in_all)

takes_in_part : (A B : List Ref) → ArePart A B → (x : List ℕ) (item : Ref) (word : Option (List ℕ)) → Contains B item
    → Takes A x item word → Takes B x item word
takes_in_part A B part x item word there takes =
    search (rules, first_in_part A B part, takes.first, name_there B item there)

-- if no item that is taken is left out, an item that is taken in the subset is taken among all
takes_in_all : (A B : List Ref) → ArePart A B → (x : List ℕ)
    → ((item : Ref) (word : Option (List ℕ)) → Contains A item → Takes A x item word → Contains B item)
    → (item : Ref) (word : Option (List ℕ)) → Contains B item → Takes B x item word → Takes A x item word
takes_in_all A B part x has item word there takes = record {
  matches = takes.matches;
  first = λ n kind.
      let among = takes.first n kind in
      let (m, of_all) = some_first A n item.name (first_candidate B n item.name among)
      (name_there A item (part item there)) in
      let (other, is_there, named) = item_named A m of_all.present in
      let first_of_x : IsFirstCandidate A x other.name = subst (λ (y : List ℕ). IsFirstCandidate A y other.name) kind.0
      (subst (IsFirstCandidate A n) (sym named) of_all) in
      let in_part = has other None is_there (taken_by_first A x other (refl, kind.1, kind.2, kind.3) first_of_x) in
      let same : item.name ≡ m = first_once B n item.name m among
      (first_in_part A B part n m (subst (HasName B) named (name_there B other in_part)) of_all) in
      subst (IsFirstCandidate A n) (sym same) of_all;
}

-- a pair is made over other items, if those that make it are there and are taken
pairs_moved : (HasEnds : Reading → Ends → Type 0) (T U : List ℕ → Ref → Option (List ℕ) → Type 0) (A B : List Ref)
    (n : List ℕ) (far : Option (List ℕ)) (r : Reading)
    → ((ends : Ends) (item : Ref) (word : Option (List ℕ)) → HasEnds r ends → Contains A item → T ends.near item word
    → Contains B item × U ends.near item word)
    → PairsItem HasEnds T A n far r → PairsItem HasEnds U B n far r
pairs_moved HasEnds T U A B n far r moves pairs = search rules

-- B contains each item of A that the reading takes
abbrev HasTakenBy : (Reading → Ends → Type 0) → (List ℕ → Ref → Option (List ℕ) → Type 0) → List Ref → List Ref
    → Reading → Type 0
HasTakenBy HasEnds Taken A B r = (item : Ref) → Contains A item → TakesItem HasEnds Taken item r → Contains B item

forward_moved : (A B : List Ref) → ArePart A B → (s : Source) (far : Option (List ℕ)) (r : Reading)
    → HasTakenBy AreForwardEnds (Takes A) A B r → MakesForward A s far r ↔ MakesForward B s far r
forward_moved A B part (name n) far r has = (
  pairs_moved AreForwardEnds (Takes A) (Takes B) A B n far r (λ ends item word of_r there takes.
      let in_part = has item there (record { ends = ends; has = of_r; word = word; takes = takes }) in
      (in_part, takes_in_part A B part ends.near item word in_part takes)),
  pairs_moved AreForwardEnds (Takes B) (Takes A) B A n far r (λ ends item word of_r there takes. (
    part item there,
    takes_in_all A B part ends.near
        (λ other v in_all taken. has other in_all (record { ends = ends; has = of_r; word = v; takes = taken })) item
        word there takes,
  )),
)
forward_moved A B part (id bytes) far r has = ((λ makes. makes), λ makes. makes)

backward_moved : (A B : List Ref) → ArePart A B → (s : Source) (far : Option (List ℕ)) (r : Reading)
    → HasTakenBy AreBackwardEnds Matches A B r → MakesBackward A s far r ↔ MakesBackward B s far r
backward_moved A B part s far r has = search (rules, pairs_moved)

-- if P implies Q for each reading of a group, and P holds of some, Q holds of some
any_each : (P Q : Reading → Type 0) (g : List Reading) → ((r : Reading) → Contains g r → P r → Q r) → Any P g → Any Q g
any_each P Q g each (k, r, below, is, holds) = (k, r, below, is, each r (k, below, is) holds)

-- a pair is kept if it is made and not excluded, so the same are kept if each reading makes the same
same_kept : {K F X : Type 0} (P Q : Reading → Type 0) (g : List Reading) → K ↔ (Any P g × X) → F ↔ (Any Q g × X)
    → ((r : Reading) → Contains g r → P r ↔ Q r) → K ↔ F
same_kept P Q g of_all of_part each = search (rules, any_each)

forward_fewer : (g : List Reading) (A B : List Ref) → ArePart A B
    → ((r : Reading) → Contains g r → HasTakenBy AreForwardEnds (Takes A) A B r) → (kept fewer : List Mapped)
    → AreKeptForward g A kept → AreKeptForward g B fewer → HaveSamePairs kept fewer
forward_fewer g A B part has kept fewer of_all of_part pair =
    same_kept _ _ g ((kept_exactly g A).forward kept of_all pair) ((kept_exactly g B).forward fewer of_part pair)
    (λ r there. forward_moved A B part pair.source pair.destination r (has r there))

pub fewer_items : (g : List Reading) (A B : List Ref) → FewerItems g A B
fewer_items g A B = record {
  forward = λ part has. forward_fewer g A B part
      (λ r (k, below, is) item there takes. has item there (k, r, below, is, takes));
  backward = λ part has kept fewer of_all of_part pair.
      same_kept _ _ g ((kept_exactly g A).backward kept of_all pair) ((kept_exactly g B).backward fewer of_part pair)
      (λ r (k, below, is). backward_moved A B part pair.source pair.destination r
      (λ item there takes. has item there (k, r, below, is, takes)));
}

head_taken : (A : List Ref) (x : List ℕ) (item : Ref) (word : Option (List ℕ)) (kind : SideKind) → x ≡ head
    → HasName A head → ((bytes : List ℕ) → ¬ (HasKind x (object bytes))) → HasKind x kind → Takes A x item word
    → item.name ≡ x
head_taken A x item word (pattern before after) is there none kind takes =
    absurd (lacks_no_pattern x before after (subst (Lacks star) (sym is) (Lacks-tested star head refl)) kind)
head_taken A x item word (full_name n) is there none kind takes = absurd (below_not_head x kind.2 is)
head_taken A x item word (object bytes) is there none kind takes = absurd (none bytes kind)
head_taken A x item word (partial n) is there none kind takes =
    let has : HasName A n = subst (HasName A) (sym (kind.0 ∙ is)) there in
    first_once A n item.name n (takes.first n kind)
    (record { earlier = []; later = _; here = refl; absent = tt; present = has }) ∙ kind.0

-- the name of an item that a listed reading takes begins with an entry of its expansion
listed_covers : (A : List Ref) (r : Reading) (ends : Ends) (item : Ref) (word : Option (List ℕ)) → IsListed A r
    → AreForwardEnds r ends → Takes A ends.near item word → IsCoveredBy item.name r
listed_covers A r ends item word (inl covering) are takes = covering_covers r ends item word covering are takes.matches
listed_covers A r ends item word (inr fetches) are takes =
    let is : ends.near ≡ head = same_Some ends.near head (sym are.near ∙ fetches.source) in
    head_covers r item.name (subst (IsAsked r) is (source_asked r ends fetches.fetch are))
    (head_taken A ends.near item word takes.matches.kind is fetches.there are.no_object takes.matches.of takes ∙ is)

listed_taken : (g : List Reading) (A B : List Ref) → AreListedItems g A B → (r : Reading) → Contains g r → IsListed A r
    → HasTakenBy AreForwardEnds (Takes A) A B r
listed_taken g A B listed r (k, below, is) of_r item there takes =
    listed.listed item there
    (joined_covers item.name g 0 listed.entries
    (k, r, below, is, listed_covers A r takes.ends item takes.word of_r takes.has takes.takes) listed.expansions)

pub listed_items : (g : List Reading) (A B : List Ref) → ListedItems g A B
listed_items g A B = record {
  some = λ listed kept fewer of_all of_part pair has any.
      let included = ((kept_exactly g A).forward kept of_all pair).0 has in
      let made : Any (MakesForward B pair.source pair.destination) g =
      any_each _ _ g
      (λ r there both. (forward_moved A B listed.part _ _ r (listed_taken g A B listed r there both.0)).0 both.1)
      any in
      ((kept_exactly g B).forward fewer of_part pair).1 (made, included.1);
  all = λ listed each kept fewer of_all of_part. forward_fewer g A B listed.part
      (λ r there. listed_taken g A B listed r there
      (All-contains (IsListed A) g r (All-from_recursion (IsListed A) g each) there)) kept fewer of_all of_part;
}
