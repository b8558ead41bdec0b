-- The refs in lines, line by line.
use Rattle.std.proofs.Common.{◌≡◌, ◌∙◌, ◌⊎◌, inl, inr, ℕ, Bool, Bor, true, false, cond, List, [], ◌∷◌, ◌++◌, None}
use Rattle.std.proofs.Common.{Some, Option, ap, refl, subst, sym}
use Rattle.std.proofs.lemmas.Bool.{false≢true}
use Rattle.std.proofs.lemmas.List.Quantifiers.{Any-push}
use Rattle.std.proofs.lemmas.Map.Text.{btree_map_updates_str}
use Rattle.std.proofs.lemmas.Slice.Eq.{bytes_eq-Decides}
use Rattle.std.specs.BTreeMap.{BTreeMap, UpdatesBy}
use Rattle.std.specs.Cmp.Lexicographic.{slice_cmp}
use Rattle.std.specs.List.{Any}
use Rattle.std.specs.Ordering.{nat_cmp}
use Rattle.std.specs.Str.{bytes_eq}
use Rattle.gix_refspec_text.specs.Texts.Words.{Lacks}
use Rattle.gix_refspec_text.proofs.lemmas.lists.LacksLemmas.{Lacks-here, first_once}
use Rattle.gix_refspec_match.proofs.lemmas.lists.SomeLemmas.{Any as AnyOf, Any-cases, Any-left, some_at, some_of}
use Rattle.refspec_git.specs.Refs.{AreRefs, HasRef, IsRefAt, IsRefLine, ref_at}

-- some element, and not the last one
some_before : {X : Type 0} (P : X → Type 0) (xs : List X) (y : X) → ¬ (P y) → Any P (xs ++ y ∷ []) → Any P xs
some_before P xs y other some = by (Any-cases P xs (y ∷ []) (some_of P (xs ++ y ∷ []) some))
  where
    by : AnyOf P xs ⊎ AnyOf P (y ∷ []) → Any P xs
    by (inl before) = some_at P xs before
    by (inr (inl last)) = absurd (other last)
    by (inr (inr none)) = absurd none

-- a line more without this name changes nothing
kept_at : (lines : List (List ℕ)) (line name : List ℕ) (found : Option (Bor (List ℕ))) → ¬ (HasRef name line)
    → IsRefAt lines name found → IsRefAt (lines ++ line ∷ []) name found
kept_at lines line name None other none = λ some. none (some_before (HasRef name) lines line other some)
kept_at lines line name (Some target) other some =
    let P : List ℕ → Type 0 = IsRefLine name target.now in
    some_at P (lines ++ line ∷ []) (Any-left P lines (line ∷ []) (some_of P lines some))

-- a line without a space has no ref
pub refs_same : (lines : List (List ℕ)) (line : List ℕ) (refs : BTreeMap (Bor (List ℕ)) (Bor (List ℕ))) → Lacks 32 line
    → AreRefs lines refs → AreRefs (lines ++ line ∷ []) refs
refs_same lines line refs lacks are name =
    kept_at lines line name (ref_at name refs)
    (λ has. Lacks-here 32 name has.0 (subst (Lacks 32) has.1.1 lacks)) (are name)

-- a line with one adds it
pub refs_more : (lines : List (List ℕ)) (line : List ℕ) (name target : Bor (List ℕ))
    (old new : BTreeMap (Bor (List ℕ)) (Bor (List ℕ))) → line ≡ name.now ++ (32 ∷ target.now) → Lacks 32 name.now
    → UpdatesBy (λ x y. slice_cmp nat_cmp x.now y.now) (λ k. slice_cmp nat_cmp name.now k.now) old new (Some target)
    → AreRefs lines old → AreRefs (lines ++ line ∷ []) new
refs_more lines line name target old new parts lacks put are q = by (bytes_eq name.now q) refl
  where
    looked : ref_at q new ≡ cond (bytes_eq name.now q) (Some target) (ref_at q old)
    looked = btree_map_updates_str name.now old new (Some target) put q

    by : (b : Bool) → bytes_eq name.now q ≡ b → IsRefAt (lines ++ line ∷ []) q (ref_at q new)
    by true same =
        let here : name.now ≡ q = (bytes_eq-Decides name.now q).0 same in
        subst (IsRefAt (lines ++ line ∷ []) q)
        (sym (looked ∙ ap (λ (b : Bool). cond b (Some target) (ref_at q old)) same))
        (Any-push (IsRefLine q target.now) lines line (subst (λ n. IsRefLine n target.now line) here (lacks, parts)))
    by false other =
        subst (IsRefAt (lines ++ line ∷ []) q)
        (sym (looked ∙ ap (λ (b : Bool). cond b (Some target) (ref_at q old)) other))
        (kept_at lines line q (ref_at q old)
        (λ has. false≢true (sym other ∙ (bytes_eq-Decides name.now q).1
        (first_once 32 name.now q target.now has.0 lacks has.1.0 (sym parts ∙ has.1.1)).0)) (are q))
