-- One more update among those of a verdict.
use Rattle.std.proofs.Common.{◌≡◌, ◌≢◌, ℕ, ◌+◌, ◌<◌, Bool, true, List, [], ◌∷◌, ◌++◌, ap, arith, cond, drop, filter_map}
use Rattle.std.proofs.Common.{get_or, length, length-append, map, refl, sym, take, ◌∙◌}
use Rattle.std.proofs.lemmas.List.{map-append, map_more, take-append-drop}
use Rattle.std.proofs.lemmas.List.Elements.{filter-append, filter_map-append}
use Rattle.gix_refspec.specs.declared.match_group.ref_names.InvalidSide.{InvalidSide}
use Rattle.gix_refspec_plan.specs.declared.Update.{Update}
use Rattle.gix_refspec_plan.specs.declared.Verdict.{Verdict}
use Rattle.gix_refspec_plan.specs.declared.Verdict.TheVariants as verdict
use Rattle.gix_refspec_plan.specs.Matching.Plan.{Planned}
use Rattle.gix_refspec_plan.specs.Views.Plan.{planned_of}
use Rattle.refspec_fetch.specs.Verdicts.{failing_of, fails, is_nested, is_overruled, is_written, left_out_by}
use Rattle.refspec_fetch.specs.Verdicts.{left_out_of, nested_of, overruled_of, unwritable, written_of}

planned-next : (xs : List Update) (i : ℕ) (x : Update) → i < length xs → x ≡ get_or xs i x
    → map planned_of (take (i + 1) xs) ≡ map planned_of (take i xs) ++ planned_of x ∷ []
planned-next xs i x below is = map_more planned_of xs i x below
    ∙ ap (λ (y : Update). map planned_of (take i xs) ++ planned_of y ∷ []) (sym is)

pub written-next : (xs : List Update) (i : ℕ) (x : Update) → i < length xs → x ≡ get_or xs i x
    → written_of (map planned_of (take (i + 1) xs)) ≡ written_of (map planned_of (take i xs)) ++ written_of
    (planned_of x ∷ [])
written-next xs i x below is = ap written_of (planned-next xs i x below is)
    ∙ filter-append (λ (p : Planned). is_written p.verdict) (map planned_of (take i xs)) (planned_of x ∷ [])

pub overruled-next : (xs : List Update) (i : ℕ) (x : Update) → i < length xs → x ≡ get_or xs i x
    → overruled_of (map planned_of (take (i + 1) xs)) ≡ overruled_of (map planned_of (take i xs)) ++ overruled_of
    (planned_of x ∷ [])
overruled-next xs i x below is = ap overruled_of (planned-next xs i x below is)
    ∙ filter-append (λ (p : Planned). is_overruled p.verdict) (map planned_of (take i xs)) (planned_of x ∷ [])

pub nested-next : (xs : List Update) (i : ℕ) (x : Update) → i < length xs → x ≡ get_or xs i x
    → nested_of (map planned_of (take (i + 1) xs)) ≡ nested_of (map planned_of (take i xs)) ++ nested_of
    (planned_of x ∷ [])
nested-next xs i x below is = ap nested_of (planned-next xs i x below is)
    ∙ filter-append (λ (p : Planned). is_nested p.verdict) (map planned_of (take i xs)) (planned_of x ∷ [])

pub left_out-next : (xs : List Update) (i : ℕ) (x : Update) → i < length xs → x ≡ get_or xs i x
    → left_out_of (map planned_of (take (i + 1) xs)) ≡ left_out_of (map planned_of (take i xs)) ++ left_out_of
    (planned_of x ∷ [])
left_out-next xs i x below is = ap left_out_of (planned-next xs i x below is)
    ∙ filter_map-append (λ (p : Planned). left_out_by p p.verdict) (map planned_of (take i xs)) (planned_of x ∷ [])

pub failing-next : (xs : List Update) (i : ℕ) (x : Update) → i < length xs → x ≡ get_or xs i x
    → failing_of (map planned_of (take (i + 1) xs)) ≡ failing_of (map planned_of (take i xs)) ++ failing_of
    (planned_of x ∷ [])
failing-next xs i x below is = ap failing_of (planned-next xs i x below is)
    ∙ filter-append (λ (p : Planned). fails p.verdict) (map planned_of (take i xs)) (planned_of x ∷ [])

-- an update alone, which fails or not
pub failing-one : (p : Planned) (b : Bool) → fails p.verdict ≡ b → failing_of (p ∷ []) ≡ cond b (p ∷ []) []
failing-one p b is = ap (λ (x : Bool). cond x (p ∷ []) []) is

-- if some update fails, it is among those that do
pub failing-some : (xs : List Update) (i : ℕ) (x : Update) → i < length xs → x ≡ get_or xs i x → fails x.verdict ≡ true
    → failing_of (map planned_of xs) ≢ []
failing-some xs i x below is so =
    let front = failing_of (map planned_of (take i xs)) in
    let here : failing_of (map planned_of (take (i + 1) xs)) ≡ front ++ planned_of x ∷ [] = failing-next xs i x below is
    ∙ ap (λ l. front ++ l) (failing-one (planned_of x) true so) in
    let rest = failing_of (map planned_of (drop (i + 1) xs)) in
    let whole : failing_of (map planned_of xs) ≡ failing_of (map planned_of (take (i + 1) xs)) ++ rest =
    ap (λ (l : List Update). failing_of (map planned_of l)) (sym (take-append-drop (i + 1) xs))
    ∙ (ap failing_of (map-append planned_of (take (i + 1) xs) (drop (i + 1) xs))
    ∙ filter-append (λ (p : Planned). fails p.verdict) (map planned_of (take (i + 1) xs))
    (map planned_of (drop (i + 1) xs))) in
    λ none. omega (
      arith,
      ap length (sym whole ∙ none),
      ap length here,
      length-append front (planned_of x ∷ []),
      length-append (failing_of (map planned_of (take (i + 1) xs))) rest,
    )

-- an update alone, which is written or not
pub written-one : (p : Planned) (b : Bool) → is_written p.verdict ≡ b → written_of (p ∷ []) ≡ cond b (p ∷ []) []
written-one p b is = ap (λ (x : Bool). cond x (p ∷ []) []) is

-- an update alone, which is left out or not
pub left_out-one : (p : Planned) (side : InvalidSide) → p.verdict ≡ verdict.LeftOut side
    → left_out_of (p ∷ []) ≡ unwritable side p ∷ []
left_out-one p side is = ap (λ (v : Verdict). filter_map (λ (q : Planned). left_out_by q v) (p ∷ [])) is

pub left_out-none : (p : Planned) → ((side : InvalidSide) → p.verdict ≡ verdict.LeftOut side → ⊥)
    → left_out_of (p ∷ []) ≡ []
left_out-none p other = by_verdict p.verdict other
  where
    by_verdict : (v : Verdict) → ((side : InvalidSide) → v ≡ verdict.LeftOut side → ⊥)
        → filter_map (λ (q : Planned). left_out_by q v) (p ∷ []) ≡ []
    by_verdict verdict.Written other = refl
    by_verdict (verdict.LeftOut side) other = absurd (other side refl)
    by_verdict verdict.InConflict other = refl
    by_verdict verdict.Overruled other = refl
    by_verdict verdict.DirectoryConflict other = refl

-- an update alone, which is overruled or not
pub overruled-one : (p : Planned) → p.verdict ≡ verdict.Overruled → overruled_of (p ∷ []) ≡ p ∷ []
overruled-one p is = ap (λ (v : Verdict). cond (is_overruled v) (p ∷ []) []) is

pub overruled-none : (p : Planned) → (p.verdict ≡ verdict.Overruled → ⊥) → overruled_of (p ∷ []) ≡ []
overruled-none p other = by_verdict p.verdict other
  where
    by_verdict : (v : Verdict) → (v ≡ verdict.Overruled → ⊥) → cond (is_overruled v) (p ∷ []) [] ≡ []
    by_verdict verdict.Written other = refl
    by_verdict (verdict.LeftOut side) other = refl
    by_verdict verdict.InConflict other = refl
    by_verdict verdict.Overruled other = absurd (other refl)
    by_verdict verdict.DirectoryConflict other = refl

-- an update alone, which is in a directory conflict or not
pub nested-one : (p : Planned) → p.verdict ≡ verdict.DirectoryConflict → nested_of (p ∷ []) ≡ p ∷ []
nested-one p is = ap (λ (v : Verdict). cond (is_nested v) (p ∷ []) []) is

pub nested-none : (p : Planned) → (p.verdict ≡ verdict.DirectoryConflict → ⊥) → nested_of (p ∷ []) ≡ []
nested-none p other = by_verdict p.verdict other
  where
    by_verdict : (v : Verdict) → (v ≡ verdict.DirectoryConflict → ⊥) → cond (is_nested v) (p ∷ []) [] ≡ []
    by_verdict verdict.Written other = refl
    by_verdict (verdict.LeftOut side) other = refl
    by_verdict verdict.InConflict other = refl
    by_verdict verdict.Overruled other = refl
    by_verdict verdict.DirectoryConflict other = absurd (other refl)
