-- A validation has one result, and a copy of an outcome has the same.
use Rattle.gix_refspec.proofs.Common.{not_below_itself, ◌≡◌, inl, inr, ℕ, List, [], ◌∷◌, map, refl, sym, ap, ◌∙◌, subst}
use Rattle.gix_refspec.proofs.Common.{AllByRecursion, IsStrictlySortedBy, Less, nat_cmp, slice_cmp, Mapping, Outcome}
use Rattle.gix_refspec.proofs.Common.{Reading, IsMadeFrom, Mapped, mapped_of, AreMappingCopies, readings_of, IsFirstTo}
use Rattle.gix_refspec.proofs.Common.{IsTextAt, Conflict, IsConflict, AreConflicts, Survives, IsFix, ValidateAlike}
use Rattle.gix_refspec.proofs.Common.{OneValidation, CopiedOutcome, same_Some, AnyOf as Any, Any-all, Any-fact}
use Rattle.gix_refspec.proofs.Common.{Any-from_map, rules}
use Rattle.gix_refspec.proofs.lemmas.MadeLemmas.{there}
use Rattle.gix_refspec.proofs.lemmas.validate.RefNameLemmas.{copied_mapping}
use Rattle.gix_refspec.proofs.lemmas.validate.UpdateLemmas.{below_trans}
use Rattle.gix_refspec_match.proofs.lemmas.lists.ListsLemmas.{made_once}

above : (x d : List ℕ) (xs : List (List ℕ)) → AllByRecursion (λ y. slice_cmp nat_cmp x y ≡ Less) xs
    → Any (λ y. y ≡ d) xs → slice_cmp nat_cmp x d ≡ Less
above x d xs all any =
    Any-fact _ xs (Any-all _ _ _ (λ y less here. subst (λ (z : List ℕ). slice_cmp nat_cmp x z ≡ Less) here less) xs all
    any)

same_first : (x y : List ℕ) (xs ys : List (List ℕ)) → AllByRecursion (λ z. slice_cmp nat_cmp x z ≡ Less) xs
    → AllByRecursion (λ z. slice_cmp nat_cmp y z ≡ Less) ys → Any (λ z. z ≡ x) (y ∷ ys) → Any (λ z. z ≡ y) (x ∷ xs)
    → x ≡ y
same_first x y xs ys over_x over_y to back = search (rules, above, below_trans, not_below_itself)

behind : (x y d : List ℕ) (xs ys : List (List ℕ)) → x ≡ y → AllByRecursion (λ z. slice_cmp nat_cmp x z ≡ Less) xs
    → Any (λ z. z ≡ d) xs → Any (λ z. z ≡ d) (y ∷ ys) → Any (λ z. z ≡ d) ys
behind x y d xs ys same over any there = search (rules, above, not_below_itself)

one_order : (xs ys : List (List ℕ)) → IsStrictlySortedBy (slice_cmp nat_cmp) xs
    → IsStrictlySortedBy (slice_cmp nat_cmp) ys → ((d : List ℕ) → Any (λ x. x ≡ d) xs → Any (λ x. x ≡ d) ys)
    → ((d : List ℕ) → Any (λ x. x ≡ d) ys → Any (λ x. x ≡ d) xs) → xs ≡ ys
unfolding IsStrictlySortedBy
one_order [] [] rise also to back = refl
one_order [] (y ∷ ys) rise also to back = absurd (back y (inl refl))
one_order (x ∷ xs) [] rise also to back = absurd (to x (inl refl))
one_order (x ∷ xs) (y ∷ ys) rise also to back =
    let first : x ≡ y = same_first x y xs ys rise.0 also.0 (to x (inl refl)) (back y (inl refl)) in
    let rest = one_order xs ys rise.1 also.1 (λ d any. behind x y d xs ys first rise.0 any (to d (inr any)))
    (λ d any. behind y x d ys xs (sym first) also.0 any (back d (inr any))) in cc

contested : (g : List Reading) (l : List Mapped) (cs other : List Conflict) (d : List ℕ)
    → AllByRecursion (IsConflict g l) cs → AreConflicts g l other
    → Any (λ x. x ≡ d) (map (λ (c : Conflict). c.destination) cs)
    → Any (λ x. x ≡ d) (map (λ (c : Conflict). c.destination) other)
contested g l cs other d each are any =
    let destinations = map (λ (c : Conflict). c.destination) other in
    Any-fact _ cs
    (Any-all (IsConflict g l) _ _ (λ c is here. subst (λ (z : List ℕ). Any (λ x. x ≡ z) destinations) here
    (there destinations c.destination (are.every c.destination is.contested))) cs each
    (Any-from_map _ (λ (c : Conflict). c.destination) cs any))

one_conflict : (g : List Reading) (l : List Mapped) (c e : Conflict) → c.destination ≡ e.destination → IsConflict g l c
    → IsConflict g l e → c ≡ e
one_conflict g l c e same a b =
    let to = c.destination in
    let sources =
    subst (λ (d : List ℕ). IsMadeFrom (λ k m source. IsFirstTo d l k m × (source ≡ m.source)) 0 l e.sources)
    (sym same) b.sources in
    let texts = subst (λ (d : List ℕ). IsMadeFrom (λ k m text. IsFirstTo d l k m × IsTextAt g m.spec text) 0 l e.texts)
    (sym same) b.texts in
    let from = made_once (λ k m source. IsFirstTo to l k m × (source ≡ m.source))
    (λ k m x y is_x is_y. is_x.1 ∙ sym is_y.1) 0 l c.sources e.sources a.sources sources in
    let by = made_once (λ k m text. IsFirstTo to l k m × IsTextAt g m.spec text)
    (λ k m x y is_x is_y. search (rules, same_Some)) 0 l c.texts e.texts a.texts texts in
    λ i. record { destination = same i; sources = from i; texts = by i }

one_list : (g : List Reading) (l : List Mapped) (cs other : List Conflict) → AllByRecursion (IsConflict g l) cs
    → AllByRecursion (IsConflict g l) other → map (λ (c : Conflict). c.destination) cs ≡ map
    (λ (c : Conflict). c.destination) other → cs ≡ other
one_list g l [] [] a b same = refl
one_list g l (c ∷ cs) (e ∷ other) a b same = let one = one_conflict g l c e (cc) a.0 b.0 in let more =
    one_list g l cs other a.1 b.1 (cc) in cc
one_list g l cs other a b same = absurd (cc)

pub one_validation : (g : List Reading) (l : List Mapped) → OneValidation g l
one_validation g l = record {
  conflicts = λ cs other a b. one_list g l cs other a.each b.each
      (one_order (map (λ (c : Conflict). c.destination) cs) (map (λ (c : Conflict). c.destination) other) a.order
      b.order (λ d any. contested g l cs other d a.each b any) (λ d any. contested g l other cs d b.each a any));
  survivors = λ rest other a b. made_once (λ k m made. (made ≡ m) × Survives m)
      (λ k m x y is_x is_y. is_x.0 ∙ sym is_y.0) 0 l rest other a b;
  fixes = λ fixes other a b. made_once (λ k m fix. IsFix g m fix) (λ k m x y is_x is_y. search (rules, same_Some)) 0 l
      fixes other a b;
}

copied_mappings : (ms copies : List Mapping) → AreMappingCopies ms copies → map mapped_of copies ≡ map mapped_of ms
copied_mappings [] [] are = refl
copied_mappings (m ∷ ms) (c ∷ copies) are = ap (λ (x : Mapped). x ∷ map mapped_of copies) (copied_mapping m c are.0)
    ∙ ap (λ (xs : List Mapped). mapped_of m ∷ xs) (copied_mappings ms copies are.1)
copied_mappings ms copies are = absurd are

validate_alike : (g h : List Reading) (l m : List Mapped) → h ≡ g → m ≡ l → ValidateAlike g l h m
validate_alike g h l m readings mappings = subst (λ (z : List Reading). ValidateAlike g l z m) (sym readings)
    (subst (λ (z : List Mapped). ValidateAlike g l g z) (sym mappings) (one_validation g l))

pub copied_outcome : {forward : ℕ} (o copy : Outcome forward) → CopiedOutcome o copy
copied_outcome o copy = search (rules, copied_mappings, readings_of, validate_alike)
