-- Borders of borders, how a border grows by a byte, and the overlaps that borders are.
use Rattle.gix_refspec_lint.proofs.Common.{◌≡◌, ℕ, ◌+◌, ◌-◌, ◌<◌, ◌≤◌, ◌↔◌, List, ◌++◌, drop, length, take}
use Rattle.gix_refspec_lint.proofs.Common.{length-append, sym, subst, arith, EndsWith, IsOverlap, take-append-drop}
use Rattle.gix_refspec_lint.proofs.Common.{length-take-le, take-append-le, get_or, length-drop, IsBorder, IsBorderAt}
use Rattle.gix_refspec_lint.proofs.Common.{take-take, take_all, ext_get_or, get_or-drop, get_or-take}
use Rattle.gix_refspec_lint.proofs.lemmas.ByteLemmas.{ends_alike}

-- the shorter of two borders is one of the longer
pub border_in : (text : List ℕ) {len b c : ℕ} → IsBorderAt text len b → c < b → IsBorderAt text b c
    ↔ IsBorderAt text len c
border_in text {len} {b} {c} outer l = (
  (λ inner. record {
    shorter = omega arith;
    repeats = λ i l. grind (arith, inner.repeats i, outer.repeats (b - c + i));
  }),
  (λ inner. record { shorter = l; repeats = λ i l. grind (arith, inner.repeats i, outer.repeats (b - c + i)) }),
)

-- a border of one more byte is one that goes on with that byte
pub shortened : (text : List ℕ) (len c : ℕ) → 0 < c → IsBorderAt text (len + 1) c → IsBorderAt text len (c - 1)
    × (get_or text (c - 1) 0 ≡ get_or text len 0)
shortened text len c some h = (
  record { shorter = omega arith; repeats = λ i l. grind (arith, h.repeats i) },
  grind (arith, h.repeats (c - 1)),
)

pub border_here : (text : List ℕ) (k : ℕ) → 0 < k → IsBorderAt text (length text) k → IsBorder text k
border_here text k some at =
    let p = at.shorter in
    let same : drop (length text - k) text ≡ take k text = ext_get_or 0 (drop (length text - k) text) (take k text)
    (omega (arith, length-drop {A = ℕ}, length-take-le {A = ℕ}))
    (λ i l. grind (
      arith,
      get_or-drop (length text - k) text i 0,
      get_or-take k text i 0,
      at.repeats i,
      length-drop (length text - k) text,
    )) in
    record {
      some = some;
      shorter = p;
      same =
          record {
            before = take (length text - k) text;
            here =
                rw (← same) (sym (take-append-drop (length text - k) text));
          };
    }

-- the borders of the first bytes of one text followed by the last of another are the overlaps of both
pub border_shared : (prefix suffix text : List ℕ) (most : ℕ) → most ≤ length prefix → most ≤ length suffix
    → text ≡ take most suffix ++ take (length prefix - (length prefix - most)) (drop (length prefix - most) prefix)
    → (k : ℕ) → k ≤ most → IsBorder text k ↔ IsOverlap prefix suffix k
border_shared prefix suffix text most in_prefix in_suffix same k below =
    let front = take (length prefix - most) prefix in
    let end = drop (length prefix - most) prefix in
    let size : length end ≡ most = omega (arith, length-drop (length prefix - most) prefix) in
    let is : text ≡ take most suffix ++ end = rw (take_all (length prefix - (length prefix - most)) end (omega arith))
    at same in
    let first : take k text ≡ take k suffix =
    rw (
      is,
      take-append-le k (take most suffix) end (omega (arith, length-take-le most suffix)),
      take-take k most suffix below,
    ) in
    let short : length (take k suffix) ≤ length end = omega (arith, length-take-le k suffix) in (
      (λ border. record {
        some = border.some;
        within = omega arith;
        ends = subst (EndsWith (take k suffix)) (take-append-drop (length prefix - most) prefix)
            (ends_alike (take k suffix) (take most suffix) front end short (rw (first, is) at border.same));
      }),
      (λ overlap. record {
        some = overlap.some;
        shorter = rw is (omega (arith, length-append (take most suffix) end, length-take-le most suffix, overlap.some));
        same = rw (first, is) (ends_alike (take k suffix) front (take most suffix) end short
            (rw take-append-drop overlap.ends));
      }),
    )
