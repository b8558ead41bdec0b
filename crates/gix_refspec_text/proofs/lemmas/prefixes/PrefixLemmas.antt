-- Prefixes and expansions of sides.
use Rattle.gix_refspec_text.proofs.Common.{[], is_hex_digit, ◌≡◌, ◌≢◌, inl, inr, ◌<◌, ℕ, Bool, true, false, ◌↔◌, IsTrue}
use Rattle.gix_refspec_text.proofs.Common.{MatchOption, Bor, List, ◌∷◌, map, length, get_or, Result, OnErr, refl, sym}
use Rattle.gix_refspec_text.proofs.Common.{ap, ◌∙◌, subst, length-append, arith, length-map, false≢true, IsSplit}
use Rattle.gix_refspec_text.proofs.Common.{HasOneStar, star, Reading, IsId, IsRefPrefix, IsPrefix, of_head, of_name}
use Rattle.gix_refspec_text.proofs.Common.{of_pattern, HasNoPrefix, Expands, to_prefix, IsAsked, IsExpansion, ◌⊎◌}
use Rattle.gix_refspec_text.proofs.Common.{Fetch, ObjectId, HasKind, IsCovering, by_prefix, by_candidates}
use Rattle.gix_refspec_text.proofs.Common.{HasCoveringSource}
use Rattle.gix_refspec_text.proofs.lemmas.hits.MatchLemmas.{lacks_no_pattern, split_once, begins_split}
use Rattle.gix_refspec_text.proofs.lemmas.texts.ObjectIdLemmas.{AllPass-IsIdText, no_kind}
use Rattle.gix_refspec_text.proofs.lemmas.prefixes.OnePrefixLemmas.{head_no_split, one_prefix}
use Rattle.std.{specs.Bool.then_some, proofs.Math.Seq.get_or-append_seam}
use Rattle.gix_refspec_text.specs.{declared.side.SideKind.{SideKind as DeclaredKind}, Private.SideViews.kind_of_side}
use Rattle.gix_refspec_text.specs.declared.side.SideKind.TheVariants as kind

prefix_tells : (x p before after : List ℕ) → IsSplit before after x → IsPrefix x p → IsRefPrefix before after
prefix_tells x p before after split (of_head is _) = absurd (head_no_split x before after is split)
prefix_tells x p before after split (of_name begins lacks _) = absurd (lacks_no_pattern x before after lacks split)
prefix_tells x p before after split (of_pattern first last other tells _) =
    let once = split_once x first last before after other split in
    rw (once.0, once.1) at tells

pub no_prefix : (x before after : List ℕ) → IsSplit before after x → ¬ (IsRefPrefix before after) → HasNoPrefix x
no_prefix x before after split vague p is = vague (prefix_tells x p before after split is)

pub prefix_expands : (x p : List ℕ) → IsPrefix x p → ¬ (Expands x [])
prefix_expands x p is nothing = let same = (one_prefix x).expanded (p ∷ []) [] (to_prefix p is refl) nothing in cc

pub one_asked : (r : Reading) (x y : List ℕ) → IsAsked r x → IsAsked r y → x ≡ y
one_asked r x y a b = let p = a.side in let q = b.side in cc

pub asked_nothing : (r : Reading) (x : List ℕ) → IsAsked r x → IsExpansion r [] → Expands x []
asked_nothing r x asked (inl (y, other, nothing)) = subst (λ (z : List ℕ). Expands z []) (one_asked r y x other asked)
    nothing
asked_nothing r x asked (inr (unasked, empty)) = absurd (unasked x asked)

pub on_any_error : {T E P : Type 0} (r : Result T E) → P → OnErr r P
on_any_error r holds = grind arith

pub no_entries : {X : Type 0} (f : X → List ℕ) (r : Reading) (x : List ℕ) (entries : List X) → IsAsked r x
    → Expands x (map f entries) → IsExpansion r [] → length entries ≡ 0
no_entries f r x entries asked expands nothing = sym (length-map entries f)
    ∙ ap length ((one_prefix x).expanded (map f entries) [] expands (asked_nothing r x asked nothing))

pub starred_no_id : (x : List ℕ) → HasOneStar x → ¬ (IsId x)
starred_no_id x (before, after, split) id =
    let all = AllPass-IsIdText x id.0 id.1 in
    let size = ap length split.starred ∙ length-append before (star ∷ after) in
    let inside : length before < length x = omega (arith, size) in
    let here : get_or x (length before) 0 ≡ star = ap (λ (y : List ℕ). get_or y (length before) 0) split.starred
    ∙ get_or-append_seam before star after 0 in
    false≢true (ap is_hex_digit (sym here) ∙ all (length before) 0 inside)

pub pattern_prefix : (x : List ℕ) (before after : Bor (List ℕ)) (r : Bool) → IsSplit before.now after.now x
    → IsTrue r ↔ IsRefPrefix before.now after.now → MatchOption (then_some r before) (HasNoPrefix x)
    (λ p. IsPrefix x p.now)
pattern_prefix x before after true split told = of_pattern before.now after.now split (told.0 refl) refl
pattern_prefix x before after false split told = no_prefix x before.now after.now split
    (λ tells. false≢true (told.1 tells))

covering_tells : (x before after : List ℕ) → IsSplit before after x → IsCovering x → IsRefPrefix before after
covering_tells x before after split (by_prefix p below is) = prefix_tells x p before after split is
covering_tells x before after split (by_candidates lacks other outside) =
    absurd (lacks_no_pattern x before after lacks split)

pub told_pattern : (x before after : List ℕ) (r : Bool) → IsSplit before after x → IsTrue r ↔ IsRefPrefix before after
    → IsTrue r ↔ IsCovering x
told_pattern x before after r split told =
    let tells = λ (so : IsTrue r). told.0 so in (
      λ so. by_prefix before (begins_split x before after split (tells so).below)
          (of_pattern before after split (tells so) refl),
      λ covers. told.1 (covering_tells x before after split covers),
    )

pub told_source : (r : Reading) (x : List ℕ) (b : Bool) → r.operation ≡ Fetch → IsAsked r x → IsTrue b ↔ IsCovering x
    → IsTrue b ↔ HasCoveringSource r
told_source r x b fetch asked told = (
  λ so. record { fetch = fetch; source = λ y also. subst IsCovering (one_asked r x y asked also) (told.0 so) },
  λ has. told.1 (has.source x asked),
)

pub told_name : (x : List ℕ) (k : DeclaredKind) → HasKind x (kind_of_side k)
    → ((n : Bor (List ℕ)) × (k ≡ kind.FullName n)) ⊎ ((i : ObjectId) × (k ≡ kind.Object i)) → IsCovering x
told_name x (kind.FullName n) has one = by_prefix x has.2 (of_name has.2 has.1 refl)
told_name x (kind.Object i) has one =
    by_candidates has.0 (λ is. no_kind 4 (λ same. omega (arith, same)) (λ same. omega (arith, same))
    (has.2.kind, sym (ap length is) ∙ has.2.digits)) has.1
told_name x k has one = absurd (grind arith)
