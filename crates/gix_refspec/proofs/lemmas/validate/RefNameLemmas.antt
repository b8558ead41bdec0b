-- Mappings that are split by their ref names, and what holds of the kept ones.
use Rattle.gix_refspec.proofs.Common.{all_weaker, each_mapped, ◌≡◌, ◌≢◌, inl, inr, ℕ, ◌+◌, ◌<◌, ◌≤◌, List, ◌∷◌, ◌++◌}
use Rattle.gix_refspec.proofs.Common.{length, map, get_or, sym, ap, ◌∙◌, subst, AllByRecursion, IsTrue, cases_lt}
use Rattle.gix_refspec.proofs.Common.{lt-ltb, Mapping, Empty, EmptyComponent, StartsWithDot, InvalidByte, slash}
use Rattle.gix_refspec.proofs.Common.{ArePartsAt, is_refused_byte, IsName, Reading, Ref, Mapped, mapped_of}
use Rattle.gix_refspec.proofs.Common.{IsMappingCopy, ForwardIndexes, Survives, HaveRefNames, IsInvalidAt, HasRefNames}
use Rattle.gix_refspec.proofs.Common.{IsValidDestination, IsRefName, StaysAmongRefs, WritesRef, WritesRefs, by_cases}
use Rattle.gix_refspec.proofs.Common.{kept_once, IsName-head, arith, drop, drop_more, recursion_from_All, take}
use Rattle.gix_refspec.proofs.Common.{take-append-drop}
use Rattle.gix_refspec.proofs.lemmas.MadeLemmas.{each_made, stays_each}
use Rattle.gix_refspec.proofs.lemmas.validate.AfterLemmas.{apart_still, distinct_destinations_after, validated_once}
use Rattle.gix_refspec.proofs.lemmas.validate.AfterLemmas.{distinct_destinations, one_source_still}
use Rattle.gix_refspec.proofs.lemmas.validate.ConflictLemmas.{copied_name, copied_source}
use Rattle.gix_refspec.specs.declared.match_group.ref_names.InvalidSide.{InvalidSide}

pub bad_unnamed : (side : InvalidSide) (m : Mapped) → IsInvalidAt side m → ¬ (HasRefNames m)
bad_unnamed side m bad named = grind arith

pub some_unnamed : (ms : List Mapping) (i : ℕ) (m : Mapping) (side : InvalidSide) → i < length ms → m ≡ get_or ms i m
    → IsInvalidAt side (mapped_of m) → ¬ (AllByRecursion HasRefNames (map mapped_of ms))
some_unnamed ms i m side below is bad all = bad_unnamed side (mapped_of m) bad
    (each_mapped mapped_of HasRefNames ms i m all below is)

pub copied_mapping : (m copy : Mapping) → IsMappingCopy m copy → mapped_of copy ≡ mapped_of m
copied_mapping m copy is = grind (arith, copied_name, copied_source)

pub name_of_ref : (n : List ℕ) → IsRefName n → IsName n
name_of_ref n ref = by_cases ref (λ full. full.1) (λ is. subst IsName (sym is) IsName-head)

-- P holds of each element if it holds of an element between any two parts of the list
each_between : {X : Type 0} (P : X → Type 0) (xs : List X)
    → ((before : List X) (x : X) (after : List X) → xs ≡ before ++ (x ∷ after) → P x) → AllByRecursion P xs
each_between P xs of = recursion_from_All P xs (λ k d below. of (take k xs) (get_or xs k d) (drop (k + 1) xs)
    (sym (take-append-drop k xs) ∙ ap (λ z. take k xs ++ z) (drop_more xs k d below)))

plain_byte : (b : ℕ) → ¬ (IsTrue (is_refused_byte b)) → (32 ≤ b) × (b ≢ 127)
plain_byte b fine = grind (arith, cases_lt, is_refused_byte, lt-ltb)

pub stays_among_refs : (n : List ℕ) → IsRefName n → StaysAmongRefs n
stays_among_refs n ref =
    let is = name_of_ref n ref in
    record {
      below = by_cases ref (λ full. inl full.0) (λ at_head. inr at_head);
      components = λ parts are. each_between _ parts (λ before w after here.
          let at = subst (λ (ws : List (List ℕ)). ArePartsAt slash ws n) here are in (
            (λ empty. is EmptyComponent (
              (λ nothing. is Empty nothing),
              record {
                before = before;
                component = w;
                after = after;
                components = at;
                fact = empty;
              },
            )),
            λ dot. is StartsWithDot
                (record { before = before; component = w; after = after; components = at; fact = dot }),
          ));
      bytes = each_between _ n
          (λ before b after here. plain_byte b
          (λ refused. is (InvalidByte b) (record { before = before; after = after; here = here }, refused)));
    }

named_writes : (m : Mapped) → HasRefNames m → WritesRef m
named_writes m named d to = let ref : IsRefName d = subst IsValidDestination to named.destination in
    (ref, stays_among_refs d ref)

each_named : (l named : List Mapped) → HaveRefNames l named → AllByRecursion HasRefNames named
each_named l named are = each_made (λ k m made. (made ≡ m) × HasRefNames m) HasRefNames l named
    (λ k m made stands one. subst HasRefNames (sym one.0) one.1) are

pub writes_refs : (g : List Reading) (items : List Ref) → WritesRefs g items
writes_refs g items = record {
  before = λ l named rest out fixes keeps valid. (
    all_weaker HasRefNames WritesRef named_writes rest
        (stays_each (λ j x. Survives x) HasRefNames 0 named rest (each_named l named keeps.named) valid.survive),
    λ kept. distinct_destinations_after g named rest fixes valid
        (apart_still (λ j x. HasRefNames x) 0 l named (kept_once g kept.all l kept.is) keeps.named),
  );
  after = λ l rest named fixes out valid keeps. (
    all_weaker HasRefNames WritesRef named_writes named (each_named rest named keeps.named),
    λ kept. distinct_destinations named
        (one_source_still (λ j x. HasRefNames x) rest named (validated_once g items l rest fixes valid).0 keeps.named)
        (apart_still (λ j x. HasRefNames x) 0 rest named
        (apart_still (λ j x. Survives x) 0 l rest (kept_once g kept.all l kept.is) valid.survive) keeps.named),
  );
  fits = λ l named out keeps fit. stays_each (λ j x. HasRefNames x) (λ m. m.spec < length g) 0 l named fit keeps.named;
  indexes = λ l named out keeps fit. stays_each (λ j x. HasRefNames x) (ForwardIndexes g items) 0 l named fit
      keeps.named;
}
