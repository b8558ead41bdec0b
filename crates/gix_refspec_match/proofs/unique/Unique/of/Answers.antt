-- One more item, which is in the part unless it is flagged.
use Rattle.gix_refspec_match.proofs.Common.{some_element, List, [], ◌∷◌, refl, ◌≡◌, ℕ, ◌++◌, sym, ◌∙◌, arith, inl, inr}
use Rattle.gix_refspec_match.proofs.Common.{subst, ap, append-nil, ◌<◌, length, map, take, ◌+◌, get_or, append_assoc}
use Rattle.gix_refspec_match.proofs.Common.{zero, suc, map_more, map_long, length-take-le, map-append, get_or-take}
use Rattle.gix_refspec_match.proofs.Common.{bstr_bytes, Ref, HasName, IsPartBehind, IsPart, same_texts, ref_of, Item}
use Rattle.gix_refspec_match.proofs.unique.Unique.of.Goals as goal

abbrev name_of : Item → List ℕ
name_of x = bstr_bytes x.full_ref_name

has_at : (items : List Item) (j : ℕ) (d : Item) → j < length items
    → HasName (map ref_of items) (name_of (get_or items j d))
has_at [] j d below = absurd (omega arith)
has_at (x ∷ items) zero d below = inl refl
has_at (x ∷ items) (suc j) d below = inr (has_at items j d (omega arith))

-- one more ref, which is in the part, or has the name of one before it
part_more : (before refs part new : List Ref) (places more : List ℕ) (r : Ref) → IsPartBehind before refs part places
    → IsPartBehind (before ++ refs) (r ∷ []) new more
    → IsPartBehind before (refs ++ r ∷ []) (part ++ new) (places ++ more)
part_more before [] part new places more r is last = rw (is.0, is.1) (rw append-nil at last)
part_more before (s ∷ refs) part new places more r (inl (rest, others, all, at, later)) last =
    inl (
      rest ++ new,
      others ++ more,
      rw all refl,
      rw at refl,
      part_more (before ++ s ∷ []) refs rest new others more r
          later (rw append_assoc last),
    )
part_more before (s ∷ refs) part new places more r (inr (repeats, later)) last =
    inr (repeats, part_more (before ++ s ∷ []) refs part new places more r later (rw append_assoc last))

item_in : (items : List Item) (i : ℕ) (d : Item) (part : List Item) (places : List ℕ) (new : List Item) (more : List ℕ)
    → i < length items → IsPart (map ref_of (take i items)) (map ref_of part) places
    → new ≡ part ++ get_or items i d ∷ [] → more ≡ places ++ i ∷ [] → IsPart (map ref_of (take (i + 1) items))
    (map ref_of new) more
item_in items i d part places new more below are pushed at =
    let here = ref_of (get_or items i d) in
    rw (pushed, at, map-append, map_more ref_of items i d below)
    (part_more [] (map ref_of (take i items)) (map ref_of part) (here ∷ []) places (i ∷ []) here are
    (inl ([], [], refl, ap (λ n. n ∷ []) (sym (map_long ref_of items i below)), (refl, refl))))

pub loop-index-preserved : goal.loop-index-preserved
loop-index-preserved c =
    let items = c.args.items.now in
    let i = c.loop-index.index in
    let d = some_element items i c.loop-index-test.true in
    let unique = c.loop-index.unique in
    elim c.if-not-is_flagged.branch [
      | goal.then-not-is_flagged+in_ok-push+in_ok-push-2 w ↦
          rw w.unique-is (item_in items i _ unique.items.items unique.indexes.items _ _ c.loop-index-test.true
          c.loop-index.invariant w.in_ok-push.ensures.items w.in_ok-push-2.ensures.items)
      | goal.else-not-is_flagged w ↦
          let (_, (j, before, equal)) = (c.in_ok-flags.ensures.ok i).0
          (rw c.as_slice.ensures.value at (c.is_flagged.ensures.0 w.if-not-is_flagged.false)) in
          let same = ap name_of (get_or-take i items j d before) ∙ same_texts (name_of (get_or items j d))
          (name_of (get_or items i d)) (equal d) in
          let has = subst (HasName (map ref_of (take i items))) same
          (has_at (take i items) j d (omega (arith, before, length-take-le i items (omega arith)))) in
          let next = part_more [] (map ref_of (take i items)) (map ref_of unique.items.items) [] unique.indexes.items []
          (ref_of (get_or items i d)) c.loop-index.invariant (inr (has, (refl, refl))) in
          rw (w.unique-is, map_more ref_of items i d c.loop-index-test.true)
          (rw (append-nil (map ref_of unique.items.items), append-nil unique.indexes.items) at next)
    ]
