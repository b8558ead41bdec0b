-- The laws of the order of keys.
use Rattle.std.proofs.Common.{◌≡◌, ◌==◌, ℕ, Bool, true, false, if◌then◌else◌, List, [], ◌∷◌, Option, None, Some, refl}
use Rattle.std.proofs.Common.{sym, ap, ◌∙◌, subst, nat_eq}
use Rattle.std.specs.Ordering.{nat_cmp}
use Rattle.std.specs.Cmp.{IsPartialOrder, IsTotalOrder, IsEquivalence, Agrees}
use Rattle.std.specs.Hash.{Alike}
use lib.Pointwise.{pointwise_decides, bytes_decides}
use Rattle.gix_refspec_text.specs.Specs.Meaning.{Meaning, push_all_matching, push_delete, push_matching, push_exclude}
use Rattle.gix_refspec_text.specs.Specs.Meaning.{fetch_only, fetch_exclude, fetch_and_update}
use Rattle.gix_refspec_text.specs.Specs.Order.{key_of, keys, writes}
use Rattle.std.specs.Cmp.Lexicographic.{pointwise, slice_cmp, slice_partial_cmp, lists_po, lists_agrees, lists_total}
use Rattle.std.specs.Cmp.Lexicographic.{lists_equiv, texts_po, nat_list_cmp_total, nat_list_eq_equiv}

-- equality of keys is an equivalence
pub keys_equiv : IsEquivalence (pointwise (pointwise nat_eq))
keys_equiv = lists_equiv nat_list_eq_equiv

-- the order of keys is total
pub keys_total : IsTotalOrder (slice_cmp (slice_cmp nat_cmp))
keys_total = lists_total nat_list_cmp_total

-- the partial order of keys agrees with the total order
pub keys_po : IsPartialOrder (pointwise (pointwise nat_eq)) (λ xs ys. Some (slice_cmp (slice_cmp nat_cmp) xs ys))
keys_po =
    let o = lists_po texts_po in
    let a : Agrees (slice_partial_cmp (λ x y. Some (slice_cmp nat_cmp x y))) (slice_cmp (slice_cmp nat_cmp)) =
    lists_agrees (λ x y. refl) in
    subst (IsPartialOrder (pointwise (pointwise nat_eq))) (λ i xs ys. a xs ys i) o

-- reads a flag back from its bytes
unflag : List ℕ → Bool
unflag [] = false
unflag (b ∷ bs) = b == 1

-- the instruction with only a flag
flagged : List (List ℕ) → Option Meaning
flagged (f ∷ []) = Some (push_all_matching (unflag f))
flagged _ = None

-- an instruction with one text
one_text : (List ℕ → Meaning) → List (List ℕ) → Option Meaning
one_text make (s ∷ []) = Some (make s)
one_text make _ = None

-- an instruction with two texts and a flag
two_texts : (List ℕ → List ℕ → Bool → Meaning) → List (List ℕ) → Option Meaning
two_texts make (s ∷ d ∷ f ∷ []) = Some (make s d (unflag f))
two_texts make _ = None

-- the instruction of a kind with these fields
of_kind : ℕ → List (List ℕ) → Option Meaning
unfolding flagged one_text two_texts
of_kind k fields =
    if k == 0 then flagged fields
    else if k == 1 then one_text push_delete fields
    else if k == 2 then two_texts push_matching fields
    else if k == 3 then one_text push_exclude fields
    else if k == 4 then one_text fetch_only fields
    else if k == 5 then one_text fetch_exclude fields
    else two_texts fetch_and_update fields

-- the instruction of a key
of_key : List (List ℕ) → Option Meaning
of_key ((k ∷ ks) ∷ fields) = of_kind k fields
of_key _ = None

-- an instruction can be read back from its key
of_key-key_of : (m : Meaning) → of_key (key_of m) ≡ Some m
unfolding of_key of_kind flagged one_text two_texts unflag
of_key-key_of (push_all_matching true) = refl
of_key-key_of (push_all_matching false) = refl
of_key-key_of (push_delete d) = refl
of_key-key_of (push_matching s d true) = refl
of_key-key_of (push_matching s d false) = refl
of_key-key_of (push_exclude s) = refl
of_key-key_of (fetch_only s) = refl
of_key-key_of (fetch_exclude s) = refl
of_key-key_of (fetch_and_update s d true) = refl
of_key-key_of (fetch_and_update s d false) = refl

-- so can the meaning of a reading
of_key-keys : (m : Option Meaning) → of_key (keys m) ≡ m
unfolding of_key
of_key-keys None = refl
of_key-keys (Some m) = of_key-key_of m

-- meanings with equal keys are equal
pub same_meaning : (m n : Option Meaning) → pointwise (pointwise nat_eq) (keys m) (keys n) ≡ true → m ≡ n
same_meaning m n same = sym (of_key-keys m) ∙ (ap of_key ((pointwise_decides bytes_decides (keys m) (keys n)).0 same)
    ∙ of_key-keys n)

-- and equal meanings have equal keys
pub same_keys : (m n : Option Meaning) → m ≡ n → pointwise (pointwise nat_eq) (keys m) (keys n) ≡ true
same_keys m n same = (pointwise_decides bytes_decides (keys m) (keys n)).1 (ap keys same)

-- meanings with equal keys write the same to a hasher
pub meanings_alike : Alike (λ m n. pointwise (pointwise nat_eq) (keys m) (keys n)) writes
meanings_alike = record { fed = λ m n same. ap writes (same_meaning m n same) }
