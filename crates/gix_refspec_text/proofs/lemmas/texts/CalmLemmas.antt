-- Which bytes are calm, by the mask of two loads: of the bytes, and of the bytes before them.
use Rattle.gix_refspec_text.proofs.Common.{rules, ◌≡◌, ℕ, ◌+◌, ◌-◌, ◌%◌, ◌^◌, ◌<◌, ◌≤◌, eqb, ltb, cond, Bool, false}
use Rattle.gix_refspec_text.proofs.Common.{not, List, map, length, get_or, bit_and, bit_or, w8, sym, ap, ap₂, ◌∙◌}
use Rattle.gix_refspec_text.proofs.Common.{arith, agree_below_at, not-true, cases_eq, mask_l-mod, length-zip2}
use Rattle.gix_refspec_text.proofs.Common.{get_or-zip2, length-chunk, get_or-chunk, leading_from_mask_l}
use Rattle.gix_refspec_text.proofs.Common.{trailing_mask_l, length-map, get_or-map, prefix_len, prefix_len-le-length}
use Rattle.gix_refspec_text.proofs.Common.{prefix_len_passes, chunk, zip2, mask_l, top, IsCalm, AreCalm, lowest_of}
use Rattle.std.proofs.Common.{Fits}

-- the lowest set bit of a mask is at the first lane that passes p
run_is : (p : ℕ → Bool) (z : List ℕ) (n : ℕ) → length z ≡ n → n ≤ 64 → lowest_of n (mask_l (map p z)) ≡ prefix_len
    (λ x. not (p x)) z
run_is p z n long few = grind (arith, leading_from_mask_l, trailing_mask_l)

-- the lane of a byte, from the lanes f and g of the byte and h of the byte before it
module _ (f g h : ℕ → ℕ) where
  pub lane_clear : (d : List ℕ) (i r : ℕ) (s a b : List ℕ) → 0 < i → i + 16 ≤ length d → s ≡ map f (chunk i 16 d)
      → a ≡ map g (chunk i 16 d) → b ≡ map h (chunk (i - 1) 16 d)
      → r ≡ lowest_of 16 (mask_l (map (top 7) (zip2 bit_or s (zip2 bit_and a b))) % 2 ^ 64)
      → (r ≤ 16) × ((k : ℕ) → i ≤ k → k < i + r
      → top 7 (bit_or (f (get_or d k 0)) (bit_and (g (get_or d k 0)) (h (get_or d (k - 1) 0)))) ≡ false)
  lane_clear d i r s a b some room of_s of_a of_b found =
      let here = chunk i 16 d in
      let before = chunk (i - 1) 16 d in
      let long_here = length-chunk i 16 d room in
      let long_before = length-chunk (i - 1) 16 d (omega arith) in
      let long_s : length s ≡ 16 = ap length of_s ∙ length-map here f ∙ long_here in
      let long_a : length a ≡ 16 = ap length of_a ∙ length-map here g ∙ long_here in
      let long_b : length b ≡ 16 = ap length of_b ∙ length-map before h ∙ long_before in
      let w = zip2 bit_and a b in
      let long_w : length w ≡ 16 = length-zip2 bit_and a b (long_a ∙ sym long_b) ∙ long_a in
      let z = zip2 bit_or s w in
      let long : length z ≡ 16 = length-zip2 bit_or s w (long_s ∙ sym long_w) ∙ long_s in
      let mask = mask_l-mod (map (top 7) z) 64 (omega (arith, length-map z (top 7), long)) in
      let run : r ≡ prefix_len (λ x. not (top 7 x)) z = found ∙ ap (lowest_of 16) mask ∙ run_is (top 7) z 16 long
      (omega arith) in
      let most : r ≤ 16 = omega (arith, run, long, prefix_len-le-length (λ x. not (top 7 x)) z) in (
        most,
        λ k from to.
            let j = k - i in
            let forth : i + j ≡ k = omega (arith, from) in
            let back : i - 1 + j ≡ k - 1 = omega (arith, from, some) in
            let below : j < r = omega (arith, from, to) in
            let inside : j < 16 = omega (arith, below, most) in
            let clear = not-true _ (prefix_len_passes (λ x. not (top 7 x)) z j 0 (omega (arith, run, below))) in
            let of_stop = ap (λ l. get_or l j 0) of_s ∙ get_or-map f here j 0 0 (omega (arith, inside, long_here))
            ∙ ap f (get_or-chunk i 16 d j 0 inside ∙ ap (λ n. get_or d n 0) forth) in
            let of_slash = ap (λ l. get_or l j 0) of_a ∙ get_or-map g here j 0 0 (omega (arith, inside, long_here))
            ∙ ap g (get_or-chunk i 16 d j 0 inside ∙ ap (λ n. get_or d n 0) forth) in
            let of_end = ap (λ l. get_or l j 0) of_b ∙ get_or-map h before j 0 0 (omega (arith, inside, long_before))
            ∙ ap h (get_or-chunk (i - 1) 16 d j 0 inside ∙ ap (λ n. get_or d n 0) back) in
            let of_both = get_or-zip2 bit_and a b j 0 0 0 (omega (arith, inside, long_a))
            (omega (arith, inside, long_b)) ∙ ap₂ bit_and of_slash of_end in
            let lanes = get_or-zip2 bit_or s w j 0 0 0 (omega (arith, inside, long_s)) (omega (arith, inside, long_w))
            ∙ ap₂ bit_or of_stop of_both in
            sym (ap (top 7) lanes) ∙ clear,
      )

-- the lanes of the code: a byte that ends the run, a slash, and a byte before that forbids a slash
abbrev stop : ℕ → ℕ
stop x = bit_or
    (bit_or (bit_or (bit_or (cond (ltb x 45) 255 0) (cond (eqb x 46) 255 0))
    (bit_and (cond (ltb 57 x) 255 0) (cond (ltb x 64) 255 0)))
    (bit_and (cond (ltb 90 x) 255 0) (cond (ltb x 95) 255 0))) (cond (ltb 122 x) 255 0)

abbrev slashed : ℕ → ℕ
slashed x = cond (eqb x 47) 255 0

abbrev ending : ℕ → ℕ
ending y = bit_or (cond (eqb y 47) 255 0) (cond (eqb y 107) 255 0)

calm_from_clear : (x y : ℕ) → x < 256 → top 7 (bit_or (stop x) (bit_and (slashed x) (ending y))) ≡ false → IsCalm y x
calm_from_clear x y below clear = search (arith, rules, cases_eq, agree_below_at)

pub calm_from_lanes : (d : List ℕ) (i r : ℕ) (s a b : List ℕ) → ((k : ℕ) → Fits w8 (get_or d k 0)) → 0 < i
    → i + 16 ≤ length d → s ≡ map stop (chunk i 16 d) → a ≡ map slashed (chunk i 16 d)
    → b ≡ map ending (chunk (i - 1) 16 d)
    → r ≡ lowest_of 16 (mask_l (map (top 7) (zip2 bit_or s (zip2 bit_and a b))) % 2 ^ 64) → AreCalm d i (i + r)
    × (r ≤ 16)
calm_from_lanes d i r s a b fits some room of_s of_a of_b found =
    let clear = lane_clear stop slashed ending d i r s a b some room of_s of_a of_b found in
    ((λ k from to. calm_from_clear (get_or d k 0) (get_or d (k - 1) 0) (fits k).fits (clear.1 k from to)), clear.0)
