-- A pair is kept exactly if some reading makes it and none excludes it, and only its first mapping is.
use Rattle.gix_refspec.proofs.Common.{Any as AnyAt, ◌≡◌, inl, ◌↔◌, ℕ, ◌+◌, List, [], ◌∷◌, ◌++◌, Option, None, Some, map}
use Rattle.gix_refspec.proofs.Common.{unwrap_or, refl, sym, ap, ◌∙◌, subst, AllByRecursion, First, All, Reading, Ref}
use Rattle.gix_refspec.proofs.Common.{Matches, Takes, IsMadeFrom, Source, name, id, Mapped, HasPair, IsSourceExcluded}
use Rattle.gix_refspec.proofs.Common.{IsKeptAt, Hit, IsIdMapping, AreForward, AreBackward, forward_of, backward_of}
use Rattle.gix_refspec.proofs.Common.{IsPaired, MakesForward, MakesBackward, KeptExactly, NothingExcluded}
use Rattle.gix_refspec.proofs.Common.{option_to_list, length, take, arith, Contains, IsKept, IsFirstOfPair, FirstStays}
use Rattle.gix_refspec.proofs.Common.{drop, slice_get, slice_get_within, get_or_from_slice_get, take-append-drop}
use Rattle.gix_refspec.proofs.Common.{drop_more, All-from_recursion, All-contains, MakesForwardOf, MakesBackwardOf}
use Rattle.gix_refspec.proofs.Common.{id_once, forward_once, backward_once, AnyOf as Any, Any-all, Any-left, Any-right}
use Rattle.gix_refspec.proofs.Common.{Any-map, Any-weaker, Any-fact, any_made, some_at, some_of, AtSpec, all_weaker}
use Rattle.gix_refspec.proofs.Common.{AreHits, PairsItem}
use Rattle.gix_refspec.proofs.lemmas.MadeLemmas.{any_at, back, each_made, BackwardAt, ForwardAt, backward_all}
use Rattle.gix_refspec.proofs.lemmas.MadeLemmas.{forward_all}
use Rattle.gix_refspec_match.proofs.lemmas.hits.ReachLemmas.{reach_hits}
use Rattle.gix_refspec_match.proofs.lemmas.keep.KeptPairLemmas.{IsOfPair, Any-HasPair, HasPair-Any, kept_pairs, Keeps}
use Rattle.gix_refspec_match.specs.{Private.Matchers.{HasEnds, TakesIn}, declared.matcher.Candidates.{Candidates}}
use Rattle.std.proofs.Math.Seq.{take-append_seam}

makes_forward : (items : List Ref) (item : Option ℕ) (s : Source) (d : Option (List ℕ)) (r : Reading)
    → MakesForwardOf items item s d r → MakesForward items s d r
makes_forward items item (name n) d r at =
    record {
      ends = at.ends;
      has = at.has;
      one = any_at (IsPaired (Takes items) at.ends n d) items at.index at.ref
          at.stands at.paired;
    }
makes_forward items item (id bytes) d r made = made.1

makes_backward : (items : List Ref) (item : Option ℕ) (s : Source) (d : Option (List ℕ)) (r : Reading)
    → MakesBackwardOf items item s d r → MakesBackward items s d r
makes_backward items item (name n) (Some m) r at =
    record {
      ends = at.ends;
      has = at.has;
      one = any_at (IsPaired Matches at.ends m (Some n)) items at.index at.ref
          at.stands at.paired;
    }
makes_backward items item s d r none = none

-- if each mapping is made at its spec, some reading makes each pair
made_some : (Made : Source → Option (List ℕ) → Reading → Type 0) (g : List Reading) (l : List Mapped) (pair : Mapped)
    → AllByRecursion (λ m. AtSpec g m (Made m.source m.destination)) l → HasPair l pair
    → Any (Made pair.source pair.destination) g
made_some Made g l pair made has =
    let P = Made pair.source pair.destination in
    Any-fact _ l (Any-all (λ m. AtSpec g m (Made m.source m.destination)) (IsOfPair pair) (λ m. Any P g)
    (λ m (r, here, at) same.
    some_of P g (any_at P g m.spec r here (subst (λ (s : Source). Made s pair.destination r) same.source
    (subst (λ (d : Option (List ℕ)). Made m.source d r) same.destination at))))
    l made (Any-HasPair l pair has))

pub one_name : (n m : List ℕ) → name n ≡ name m → n ≡ m
one_name n m same = cc

-- a hit has the pair of each item that a reading takes, and what the other side becomes
reached : (which : Candidates) (g : List Reading) (items : List Ref) (hits : List Hit) (n : List ℕ)
    (d : Option (List ℕ)) → AreHits (HasEnds which) (TakesIn which items) g items hits
    → Any (PairsItem (HasEnds which) (TakesIn which items) items n d) g
    → Any (λ (h : Hit). (h.near ≡ n) × (h.far ≡ d)) hits
reached which g items hits n d are any =
    reach_hits which g items hits (λ near far. (near ≡ n) × (far ≡ d)) are
    (Any-weaker _ _
    (λ r makes. (
      makes.ends,
      makes.has,
      Any-weaker _ _ (λ i is. (is.word, d, is.takes, is.becomes, (is.name, refl)))
          items (some_of _ items makes.one),
    )) g any)

forward_made : (g : List Reading) (items : List Ref) (l : List Mapped) → AreForward g items l
    → (i : Option ℕ) (s : Source) (d : Option (List ℕ)) (k : ℕ)
    → Any (MakesForward items s d) g → HasPair l (record { item = i; source = s; destination = d; spec = k })
forward_made g items l are i (name n) d k any =
    let pair : Mapped = record { item = i; source = name n; destination = d; spec = k } in
    rw are.all (HasPair-Any (are.ids ++ map forward_of are.hits) pair
    (Any-right (IsOfPair pair) are.ids (map forward_of are.hits)
    (Any-map (IsOfPair pair) forward_of are.hits
    (Any-weaker _ _ (λ (h : Hit) both. record { source = ap name both.0; destination = both.1 }) are.hits
    (reached First g items are.hits n d are.are_hits any)))))
forward_made g items l are i (id bytes) d k any =
    let pair : Mapped = record { item = i; source = id bytes; destination = d; spec = k } in
    rw are.all (HasPair-Any (are.ids ++ map forward_of are.hits) pair
    (Any-left (IsOfPair pair) are.ids _ (any_made IsIdMapping (IsOfPair pair) 0 g are.ids are.are_ids
    (Any-weaker _ _ (λ r makes j.
    let m : Mapped = record { item = None; source = id bytes; destination = d; spec = j } in
    let is : IsIdMapping j r m = record {
      positive = makes.positive;
      text = makes.text;
      bytes = bytes;
      side =
          makes.side;
      object = makes.object;
      item = refl;
      source = refl;
      destination = makes.becomes;
      spec = refl;
    } in
    (m, is, λ z also. subst (IsOfPair pair) (id_once j r m z is also) (record { source = refl; destination = refl }))) g
    any))))

forward_pairs : (g : List Reading) (items : List Ref) (l : List Mapped) (pair : Mapped) → AreForward g items l
    → HasPair l pair ↔ Any (MakesForward items pair.source pair.destination) g
forward_pairs g items l pair are = (
  made_some (MakesForward items) g l pair
      (all_weaker (ForwardAt g items) _
      (λ m (r, here, at). (r, here, makes_forward items m.item m.source m.destination r at)) l
      (forward_all g items l are)),
  forward_made g items l are pair.item pair.source pair.destination pair.spec,
)

backward_made : (g : List Reading) (items : List Ref) (l : List Mapped) → AreBackward g items l
    → (i : Option ℕ) (s : Source) (d : Option (List ℕ)) (k : ℕ)
    → Any (MakesBackward items s d) g → HasPair l (record { item = i; source = s; destination = d; spec = k })
backward_made g items l are i (name n) (Some m) k any =
    let pair : Mapped = record { item = i; source = name n; destination = Some m; spec = k } in
    rw are.all (HasPair-Any (map backward_of are.hits) pair (Any-map (IsOfPair pair) backward_of are.hits
    (Any-weaker _ _ (λ (h : Hit) both. record {
      source = ap (λ (f : Option (List ℕ)). name (unwrap_or f [])) both.1;
      destination = ap (λ (x : List ℕ). Some x) both.0;
    }) are.hits
    (reached All g items are.hits m (Some n) are.are_hits any))))
backward_made g items l are i s d k any = absurd (Any-fact ⊥ g any)

backward_pairs : (g : List Reading) (items : List Ref) (l : List Mapped) (pair : Mapped) → AreBackward g items l
    → HasPair l pair ↔ Any (MakesBackward items pair.source pair.destination) g
backward_pairs g items l pair are = (
  made_some (MakesBackward items) g l pair
      (all_weaker (BackwardAt g items) _
      (λ m (r, here, at). (r, here, makes_backward items m.item m.source m.destination r at)) l
      (backward_all g items l are)),
  backward_made g items l are pair.item pair.source pair.destination pair.spec,
)

kept_by : (g : List Reading) (l kept : List Mapped) (pair : Mapped) (M : Reading → Type 0) → IsKept g l kept
    → HasPair l pair ↔ Any M g → HasPair kept pair ↔ (AnyAt M g × ¬ (IsSourceExcluded g pair.source))
kept_by g l kept pair M is made = let stays = kept_pairs g l kept pair is in (
  (λ has. (some_at M g (made.0 (stays.0 has).0), (stays.0 has).1)),
  (λ both. stays.1 (made.1 (some_of M g both.0), both.1)),
)

pub kept_exactly : (g : List Reading) (items : List Ref) → KeptExactly g items
kept_exactly g items = record {
  forward = λ kept are pair. kept_by g are.all kept pair _ are.is (forward_pairs g items are.all pair are.forward);
  backward = λ kept are pair. kept_by g are.all kept pair _ are.is (backward_pairs g items are.all pair are.backward);
}

included : (g : List Reading) (l list : List Mapped) → IsKept g l list
    → AllByRecursion (λ m. ¬ (IsSourceExcluded g m.source)) list
included g l list is = each_made (Keeps g l) (λ m. ¬ (IsSourceExcluded g m.source)) l list
    (λ k x y stands keeps. subst (λ (z : Mapped). ¬ (IsSourceExcluded g z.source)) (sym keeps.0) keeps.1.included) is

pub nothing_excluded : (g : List Reading) (items : List Ref) → NothingExcluded g items
nothing_excluded g items = grind (arith, included)

kept_first : (g : List Reading) (l : List Mapped) (k : ℕ) (x y : Mapped) → slice_get l k ≡ Some x → Keeps g l k x y
    → IsFirstOfPair g l y
kept_first g l k x y stands (same, keeps) =
    let here = sym (take-append-drop k l) ∙ ap (λ (z : List Mapped). take k l ++ z)
    (drop_more l k x (slice_get_within l k x stands) ∙ ap (λ (z : Mapped). z ∷ drop (k + 1) l)
    (get_or_from_slice_get l k x x stands)) in
    subst (IsFirstOfPair g l) (sym same)
    (record {
      before = take k l;
      after = drop (k + 1) l;
      here = here;
      first = keeps.first;
      included =
          keeps.included;
    })

kept_at : (g : List Reading) (l : List Mapped) (k : ℕ) (before : List Mapped) (x : Mapped) (after ys : List Mapped)
    → IsMadeFrom (Keeps g l) k (before ++ (x ∷ after)) ys → IsKeptAt g l (k + length before) x → Any (λ y. y ≡ x) ys
kept_at g l k [] x after ys (None, rest, none, more, is) stays =
    absurd (none x (refl, subst (λ (n : ℕ). IsKeptAt g l n x) (omega arith) stays))
kept_at g l k [] x after ys (Some z, rest, keeps, more, is) stays = subst (Any (λ y. y ≡ x)) (sym is) (inl keeps.0)
kept_at g l k (b ∷ before) x after ys (made, rest, makes, more, is) stays =
    subst (Any (λ y. y ≡ x)) (sym is)
    (Any-right (λ y. y ≡ x) (option_to_list made) rest
    (kept_at g l (k + 1) before x after rest more (subst (λ (n : ℕ). IsKeptAt g l n x) (omega arith) stays)))

first_kept : (g : List Reading) (l kept : List Mapped) (m : Mapped) → IsKept g l kept → IsFirstOfPair g l m
    → Any (λ y. y ≡ m) kept
first_kept g l kept m is first =
    let front : take (length first.before) l ≡ first.before = ap (λ (z : List Mapped). take (length first.before) z)
    first.here ∙ take-append_seam first.before (m ∷ first.after) in
    let stays : IsKeptAt g l (length first.before) m =
    record {
      first = subst (λ (z : List Mapped). ¬ (HasPair z m)) (sym front) first.first;
      included =
          first.included;
    } in
    kept_at g l 0 first.before m first.after kept
    (subst (λ (z : List Mapped). IsMadeFrom (Keeps g l) 0 z kept) first.here is)
    (subst (λ (n : ℕ). IsKeptAt g l n m) (omega arith) stays)

of_list : (g : List Reading) (l all kept : List Mapped) (m : Mapped) → l ≡ all → IsKept g l kept → Contains kept m
    ↔ IsFirstOfPair g all m
of_list g l all kept m same is = subst (λ (z : List Mapped). Contains kept m ↔ IsFirstOfPair g z m) same (
  (λ has. All-contains (IsFirstOfPair g l) kept m
      (All-from_recursion (IsFirstOfPair g l) kept
      (each_made (Keeps g l) (IsFirstOfPair g l) l kept (kept_first g l) is)) has),
  (λ first. back kept m (first_kept g l kept m is first)),
)

pub first_stays : (g : List Reading) (items : List Ref) → FirstStays g items
first_stays g items = record {
  forward = λ all kept made are m. of_list g are.all all kept m (forward_once g items are.all all are.forward made)
      are.is;
  backward = λ all kept made are m. of_list g are.all all kept m (backward_once g items are.all all are.backward made)
      are.is;
}
