-- An item's place is added for the partial names that may stand for its name.
use Rattle.gix_refspec_match.proofs.Common.{List, Some, codes, refl, ◌≡◌, ℕ, ◌++◌, Option, ◌∙◌, arith, inl, inr, ap}
use Rattle.gix_refspec_match.proofs.Common.{◌<◌, length, map, take, drop, ◌+◌, get_or, rules, ◌⊎◌, ◌≤◌, length-append}
use Rattle.gix_refspec_match.proofs.Common.{map_more, slice_get-map, slice_get-get_or, AllByRecursion, Contains, Ref}
use Rattle.gix_refspec_match.proofs.Common.{Fits, IsCandidate, Joins, name_at, AddsWhere, IsBelowPlace, ref_of}
use Rattle.gix_refspec_match.proofs.Common.{Candidates, Item, Vec, false, drop-append-add, le-ltb, HasNumber}
use Rattle.gix_refspec_match.proofs.Common.{AreWholeTails, HasTail, short_tail_number, ShortTails}
use Rattle.gix_refspec_match.proofs.lemmas.hits.HitLemmas.{candidate_at, candidate_cases}
use Rattle.gix_refspec_match.proofs.lemmas.index.FirstPlacesLemmas.{AreFound, found_next}
use Rattle.gix_refspec_match.proofs.lemmas.index.IndexLemmas.{Puts, put_cases, all_at}
use Rattle.gix_refspec_match.proofs.lemmas.lists.JoinLemmas.{map_long}

pub adds_nothing : {Known P : List ℕ → Type 0} {R : List ℕ → List ℕ → Type 0} {listed : List ℕ → Option (Vec ℕ)}
    → ((x : List ℕ) (w : Vec ℕ) → Known x → listed x ≡ Some w → ¬ (P x)) → AddsWhere Known P R listed listed
adds_nothing none = record { each = λ x w known was. (w, was, inr (none x w known was, refl)) }

adds_both : {Known P Q S : List ℕ → Type 0} {R : List ℕ → List ℕ → Type 0} {old mid new : List ℕ → Option (Vec ℕ)}
    → ((x : List ℕ) → P x ⊎ Q x → S x) → ((x : List ℕ) → S x → P x ⊎ Q x) → ((x : List ℕ) → P x → ¬ (Q x))
    → AddsWhere Known P R old mid → AddsWhere Known Q R mid new → AddsWhere Known S R old new
adds_both {R = R} there back apart first second = record {
  each = λ x w known was.
      let (u, between, told) = first.each x w known was in
      let (v, is, also) = second.each x u known between in
      (v, is, grind (arith, told, also, apart x, there x, back x));
}

-- below `refs/`, x is a remote before `/HEAD`
abbrev pub IsHeadOf : List ℕ → List ℕ → Type 0
IsHeadOf = Fits (codes "remotes/") (codes "/HEAD")

-- below `refs/`, x is at a place, or such a remote
abbrev IsBehindPlace : List ℕ → List ℕ → Type 0
IsBehindPlace below x = IsBelowPlace below x ⊎ IsHeadOf below x

-- the name is `refs/` and what has x in it
abbrev pub IsInRefs : List ℕ → List ℕ → Type 0
IsInRefs n x = (n ≡ codes "refs/" ++ drop 5 n) × ((drop 5 n ≡ x) ⊎ IsBehindPlace (drop 5 n) x)

candidate_from : (n x : List ℕ) → (n ≡ x) ⊎ IsInRefs n x → IsCandidate x n
candidate_from n x (inl same) = candidate_at x n 0 (rw same)
candidate_from n x (inr (is, inl same)) = candidate_at x n 1 (rw (is, same))
candidate_from n x (inr (is, inr (inl (inl same)))) = candidate_at x n 2 (rw (is, same))
candidate_from n x (inr (is, inr (inl (inr (inl same))))) = candidate_at x n 3 (rw (is, same))
candidate_from n x (inr (is, inr (inl (inr (inr same))))) = candidate_at x n 4 (rw (is, same))
candidate_from n x (inr (is, inr (inr head))) = candidate_at x n 5 (rw (is, head))

candidate_in : (n x : List ℕ) → IsCandidate x n → (n ≡ x) ⊎ IsInRefs n x
candidate_in n x one = let cases = candidate_cases x n one in grind (arith, cases)

behind_shorter : (below x : List ℕ) → IsBehindPlace below x → length x < length below
behind_shorter below x behind = grind (arith, length-append)

refs_longer : (n x : List ℕ) → n ≡ x → ¬ (IsInRefs n x)
refs_longer n x same (is, inl e) = omega (arith, ap length is, ap length e, ap length same)
refs_longer n x same (is, inr behind) = omega (arith, ap length is, ap length same, behind_shorter (drop 5 n) x behind)

pub one_place : (below x y : List ℕ) → IsBelowPlace below x → IsBelowPlace below y → x ≡ y
one_place below x y placed also = grind arith

module _ {Known : List ℕ → Type 0} {R : List ℕ → List ℕ → Type 0} {old new : List ℕ → Option (Vec ℕ)} where
  pub adds_one : {p : List ℕ} {u : Vec ℕ} (t : Vec ℕ) → old p ≡ Some u → R u.items t.items → Puts p t old new
      → AddsWhere Known (λ x. p ≡ x) R old new
  adds_one {p = p} {u = u} t listed changes puts = record {
    each = λ x w known was. elim (put_cases p t old new puts x) [
      | inl here ↦ (t, here.1, grind (arith, here, ap old here.0))
      | inr apart ↦
          (w, apart.1 ∙ was, inr (apart.0, refl))
    ];
  }

  pub adds_only : {Q : List ℕ → Type 0} (p : List ℕ) → Q p → ((x : List ℕ) → Q x → p ≡ x)
      → AddsWhere Known (λ x. p ≡ x) R old new → AddsWhere Known Q R old new
  adds_only p holds only adds =
      record {
        each = λ x w known was. let (v, is, told) = adds.each x w known was in
            (v, is, grind (arith, told, holds, only x));
      }

module _ {Known : List ℕ → Type 0} {R : List ℕ → List ℕ → Type 0} {n : List ℕ} {a b c : List ℕ → Option (Vec ℕ)} where
  -- the place is added for what is below `refs/`, and for what is left of it with each place taken off
  pub adds_below : {below : List ℕ} {d : List ℕ → Option (Vec ℕ)} → n ≡ codes "refs/" ++ below
      → AddsWhere Known (λ x. below ≡ x) R a b → AddsWhere Known (IsBelowPlace below) R b c
      → AddsWhere Known (IsHeadOf below) R c d → AddsWhere Known (IsInRefs n) R a d
  adds_below {below = below} is whole placed head =
      let rest : drop 5 n ≡ below = ap (drop 5) is in
      adds_both (λ x inside. rw rest (is, inside)) (λ x inside. rw rest at inside.1)
      (λ x e behind. omega (arith, ap length e, behind_shorter below x behind)) whole
      (adds_both (λ x behind. behind) (λ x behind. behind)
      (λ x at head. omega (
        arith,
        ap length (one_place below x (x ++ codes "/HEAD") at (inr (inr head))),
        length-append x (codes "/HEAD"),
      )) placed head)

  pub adds_candidates : AddsWhere Known (λ x. n ≡ x) R a b → AddsWhere Known (IsInRefs n) R b c
      → AddsWhere Known (λ x. IsCandidate x n) R a c
  adds_candidates whole refs = adds_both (candidate_from n) (candidate_in n) (refs_longer n) whole refs

-- each of the partial names is listed, with the places that it takes of the first i items
pub record ListSoFar (which : Candidates) (names : List (List ℕ)) (items : List Item) (i : ℕ)
    (listed : List ℕ → Option (Vec ℕ)) : Type 0 where
  pub each : (x : List ℕ) → Contains names x → (v : Vec ℕ) × (listed x ≡ Some v) × AreFound which (map ref_of items) x
      (map ref_of (take i items)) v.items

module _ {which : Candidates} {names : List (List ℕ)} {items : List Item} where
  pub partials_more : {i : ℕ} {n : List ℕ} {Known : List ℕ → Type 0} {old new : List ℕ → Option (Vec ℕ)} (d : Item)
      → i < length items → n ≡ (ref_of (get_or items i d)).name → AllByRecursion Known names
      → AddsWhere Known (λ x. IsCandidate x n) (Joins which (map ref_of items) i) old new
      → ListSoFar which names items i old → ListSoFar which names items (i + 1) new
  partials_more {i = i} {Known = Known} d below is known adds so_far = record {
    each = λ x there.
        let r : Ref = ref_of (get_or items i d) in
        let here : r.name ≡ name_at (map ref_of items) i = simp (slice_get-map, slice_get-get_or items i d below) in
        let (w, was, found) = so_far.each x there in
        let (v, now, told) = adds.each x w (all_at Known names x known there) was in (
          v,
          now,
          rw (map_more ref_of items i d below)
              (found_next (map ref_of items) _ r x i (map_long ref_of items i below) here which w.items v.items found
              (rw is at told)),
        );
  }

short_tail-append : (before x : List ℕ) → 4 ≤ length x → short_tail_number (before ++ x) ≡ short_tail_number x
short_tail-append before x long = grind (arith, long, length-append, le-ltb, drop-append-add)

-- so a candidate of a partial name is there, where all of these are told by the Bloom filter
pub candidate_marked : (t : ShortTails) (n x : List ℕ) → AreWholeTails t → t.any ≡ false → HasTail t x → IsCandidate x n
    → HasNumber t.tails (short_tail_number n)
candidate_marked t n x whole none has one = elim (candidate_cases x n one) [
  | inl (before, folder, is) ↦ rw is (search (rules, short_tail-append before x))
  | inr head ↦
      rw (
        head,
        short_tail-append (codes "refs/remotes/") (x ++ codes "/HEAD")
            (omega (arith, length-append x (codes "/HEAD"))),
        short_tail-append x (codes "/HEAD") (omega arith),
      )
      whole.head
]
