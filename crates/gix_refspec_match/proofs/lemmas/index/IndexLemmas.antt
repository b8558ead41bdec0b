-- Where names are among refs.
use Rattle.gix_refspec_match.proofs.Common.{List, [], ◌∷◌, None, Some, refl, ◌≡◌, ℕ, ◌++◌, Option, sym, ◌∙◌, inl, inr}
use Rattle.gix_refspec_match.proofs.Common.{◌≢◌, ap, append-nil, ◌<◌, length, map, take, ◌+◌, get_or, rules, ◌⊎◌, cond}
use Rattle.gix_refspec_match.proofs.Common.{bytes_eq, made_more, bytes_eq-Decides, Contains-append_left, Contains-push}
use Rattle.gix_refspec_match.proofs.Common.{Contains-push_cases, Contains, bstr_bytes, ArePlacesOf, HavePlaces, ref_of}
use Rattle.gix_refspec_match.proofs.Common.{Item, Vec, arith, All-from_recursion, All-contains, AllByRecursion, Ref}
use Rattle.gix_refspec_match.proofs.Common.{IsMadeFrom, drop, ◌≤◌, take-append-drop, take-append_seam, length-take-le}
use Rattle.gix_refspec_match.proofs.Common.{BeginsWith, AddsPlace, ListPrefixes}
use Rattle.gix_refspec_match.proofs.lemmas.lists.JoinLemmas.{made_more}

-- the places of the refs of which P holds, the first one's being k
abbrev pub AreWhere : (Ref → Type 0) → ℕ → List Ref → List ℕ → Type 0
AreWhere P k refs ps = IsMadeFrom (λ j r place. P r × (place ≡ j)) k refs ps

abbrev pub Lengthen : List (List ℕ) → Type 0
Lengthen [] = Unit {0}
Lengthen (n ∷ ns) = AllByRecursion (λ m. length n < length m) ns × Lengthen ns

pub all_at : (P : List ℕ → Type 0) (ns : List (List ℕ)) (n : List ℕ) → AllByRecursion P ns → Contains ns n → P n
all_at P ns n all there = All-contains P ns n (All-from_recursion P ns all) there

abbrev pub Listed : Type 0
Listed = List ℕ → Option (Vec ℕ)

abbrev pub Puts : List ℕ → Vec ℕ → Listed → Listed → Type 0
Puts n v old new = (q : List ℕ) → new q ≡ cond (bytes_eq n q) (Some v) (old q)

pub put_cases : (n : List ℕ) (v : Vec ℕ) (old new : Listed) → Puts n v old new → (q : List ℕ)
    → ((n ≡ q) × (new q ≡ Some v)) ⊎ ((n ≢ q) × (new q ≡ old q))
put_cases n v old new puts q = grind (arith, puts, bytes_eq-Decides)

pub one_more_name : (ns : List (List ℕ)) (n : List ℕ) (v : Vec ℕ) (old new : Listed) → v.items ≡ [] → Puts n v old new
    → HavePlaces ns [] old → HavePlaces (ns ++ n ∷ []) [] new
one_more_name ns n v old new empty puts have = record {
  each = λ q there. elim (put_cases n v old new puts q) [
    | inl here ↦ (v, here.1, empty)
    | inr apart ↦ let at = have.each q (let cases = Contains-push_cases ns n q there in search rules) in
        (at.0, apart.1 ∙ at.1, at.2)
  ];
  others = λ q none. let cases = put_cases n v old new puts q in search
      (rules, Contains-push ns n, Contains-append_left ns (n ∷ []) q, have.others q);
}

elsewhere : (q : List ℕ) (items : List Item) (i : ℕ) (d : Item) (ps : List ℕ) → i < length items
    → bstr_bytes (get_or items i d).full_ref_name ≢ q
    → ArePlacesOf q (map ref_of (take i items)) ps → ArePlacesOf q (map ref_of (take (i + 1) items)) ps
elsewhere q items i d ps below apart are = made_more _ ref_of items i d ps ps None below are
    (λ place both. apart both.0.1) (sym (append-nil ps))

pub item_unlisted : (ns : List (List ℕ)) (items : List Item) (i : ℕ) (d : Item) (n : List ℕ) (listed : Listed)
    → i < length items
    → n ≡ bstr_bytes (get_or items i d).full_ref_name → ¬ (Contains ns n)
    → HavePlaces ns (map ref_of (take i items)) listed → HavePlaces ns (map ref_of (take (i + 1) items)) listed
item_unlisted ns items i d n listed below is none have = record {
  each = λ q there. let (v, at, are) =
      have.each q there in (v, at, elsewhere q items i d v.items below (search rules) are);
  others = have.others;
}

pub item_listed : (ns : List (List ℕ)) (items : List Item) (i : ℕ) (d : Item) (n : List ℕ) (v w : Vec ℕ)
    (old new : Listed)
    → i < length items → n ≡ bstr_bytes (get_or items i d).full_ref_name → old n ≡ Some v → w.items ≡ v.items ++ i ∷ []
    → Puts n w old new
    → HavePlaces ns (map ref_of (take i items)) old → HavePlaces ns (map ref_of (take (i + 1) items)) new
item_listed ns items i d n v w old new below is was more puts have = record {
  each = λ q there. let (u, at, are) = have.each q there in elim (put_cases n w old new puts q) [
    | inl here ↦
        let same : n ≡ q = here.0 in
        let one : v ≡ u = cc (ap old same) in (
          w,
          here.1,
          made_more _ ref_of items i d u.items w.items (Some i) below are ((refl, sym is ∙ same), refl)
              (rw (← one) more),
        )
    | inr apart ↦ (u, apart.1 ∙ at, elsewhere q items i d u.items below (λ same. apart.0 (is ∙ same)) are)
  ];
  others = λ q none. let cases = put_cases n w old new puts q in let gone = have.others q none in search rules;
}

pub taken_begins : (prefix n : List ℕ) (l : ℕ) → BeginsWith prefix n → length prefix ≡ l → take l n ≡ prefix
taken_begins prefix n l begins long = rw (← long, begins.here) (take-append_seam prefix begins.after)

-- the name begins with the prefix, which is shorter than l
abbrev IsBelow : ℕ → List ℕ → List ℕ → Type 0
IsBelow l n prefix = (length prefix < l) × BeginsWith prefix n

-- the place is added for the prefixes that are shorter than l, and not yet for others
abbrev pub AddsBelow : ℕ → List ℕ → ℕ → Listed → Listed → Type 0
AddsBelow l n place old new = (prefix : List ℕ) (v : Vec ℕ) → new prefix ≡ Some v → (w : Vec ℕ) × (old prefix ≡ Some w)
    × ((IsBelow l n prefix × (v.items ≡ w.items ++ place ∷ [])) ⊎ (¬ (IsBelow l n prefix) × (v.items ≡ w.items)))

pub adds_more : (l : ℕ) (n : List ℕ) (place : ℕ) (old new : Listed)
    → ((prefix : List ℕ) (v w : Vec ℕ) → new prefix ≡ Some v → old prefix ≡ Some w → BeginsWith prefix n
    → length prefix ≡ l → ⊥)
    → AddsBelow l n place old new → AddsBelow (l + 1) n place old new
adds_more l n place old new none so_far prefix v is = let (w, was, told) =
    so_far prefix v is in (w, was, grind (arith, told, none prefix v w is was))

pub adds_listed : (l : ℕ) (n : List ℕ) (place : ℕ) (u x : Vec ℕ) (old mid new : Listed) → l ≤ length n
    → mid (take l n) ≡ Some u
    → x.items ≡ u.items ++ place ∷ [] → Puts (take l n) x mid new → AddsBelow l n place old mid
    → AddsBelow (l + 1) n place old new
adds_listed l n place u x old mid new fits listed more puts so_far prefix v is =
    elim (put_cases (take l n) x mid new puts prefix) [
      | inl here ↦
          let (w, was, told) = so_far prefix u (ap mid (sym here.0) ∙ listed) in
          let long : length prefix ≡ l = ap length (sym here.0) ∙ length-take-le l n fits in
          let begins : BeginsWith prefix n =
          rw (← here.0) (record { after = drop l n; here = sym (take-append-drop l n) }) in
          (w, was, grind (arith, told, long, begins, here, is, more))
      | inr apart ↦
          let (w, was, told) = so_far prefix v (sym apart.1 ∙ is) in
          (w, was, grind (arith, told, apart, taken_begins prefix n l))
    ]

pub adds_all : (l : ℕ) (n : List ℕ) (place : ℕ) (old new : Listed)
    → ((prefix : List ℕ) (w : Vec ℕ) → old prefix ≡ Some w → BeginsWith prefix n → l ≤ length prefix → ⊥)
    → AddsBelow l n place old new → AddsPlace n place old new
adds_all l n place old new none so_far prefix v is = let (w, was, told) =
    so_far prefix v is in (w, was, grind (arith, told, none prefix w was))

pub item_added : (items : List Item) (i : ℕ) (d : Item) (n : List ℕ) (old new : Listed) → i < length items
    → n ≡ bstr_bytes (get_or items i d).full_ref_name → AddsPlace n i old new
    → ListPrefixes (map ref_of (take i items)) old → ListPrefixes (map ref_of (take (i + 1) items)) new
item_added items i d n old new below is adds listed prefix v now =
    let (w, was, told) = adds prefix v now in
    elim told [
      | inl here ↦ made_more _ ref_of items i d w.items v.items (Some i) below (listed prefix w was)
          (rw is at here.0, refl) here.1
      | inr other ↦ made_more _ ref_of items i d w.items v.items None below (listed prefix w was)
          (λ place both. other.0 (rw is both.0)) (other.1 ∙ sym (append-nil w.items))
    ]
