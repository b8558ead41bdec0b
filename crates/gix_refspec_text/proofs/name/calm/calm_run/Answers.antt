-- Below the lowest set bit of the mask each byte is calm after the byte before it.
use Rattle.gix_refspec_text.proofs.Common.{ℕ, ◌-◌, ltb, cond, bit_or, bit_and, arith, zip2_splat, length-chunk, chunk}
use Rattle.gix_refspec_text.proofs.lemmas.texts.CalmLemmas.{calm_from_lanes}
use Rattle.std.proofs.lemmas.Simd.{zip2_of_maps as joined, zip2_splat_left}
use Rattle.gix_refspec_text.proofs.name.calm.calm_run.Goals as goal

pub returns : goal.returns
returns c =
    let x = c.args.text.now in
    let i = c.args.at in
    let v = chunk i 16 x in
    let u = chunk (i - 1) 16 x in
    let long = length-chunk i 16 x c.requires.1 in
    let long_before = length-chunk (i - 1) 16 x (omega (arith, c.requires.0, c.requires.1)) in
    let over = λ (a : ℕ) (b : ℕ). cond (ltb a b) 255 0 in
    calm_from_lanes x i _ _ _ _ c.type_inv.text c.requires.0 c.requires.1
    (joined bit_or _ _ v
    (joined bit_or _ _ v
    (joined bit_or _ _ v
    (joined bit_or _ _ v (zip2_splat {Y = ℕ} _ v 16 45 long) (zip2_splat {Y = ℕ} _ v 16 46 long))
    (joined bit_and _ _ v (zip2_splat_left over 57 16 v long) (zip2_splat {Y = ℕ} _ v 16 64 long)))
    (joined bit_and _ _ v (zip2_splat_left over 90 16 v long) (zip2_splat {Y = ℕ} _ v 16 95 long)))
    (zip2_splat_left over 122 16 v long))
    (zip2_splat {Y = ℕ} _ v 16 47 long)
    (joined bit_or _ _ u (zip2_splat {Y = ℕ} _ u 16 47 long_before) (zip2_splat {Y = ℕ} _ u 16 107 long_before))
    c.first_set.ensures
