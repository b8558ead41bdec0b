-- Texts in which a word repeats, and the words of patterns that they fit.
use Rattle.gix_refspec_lint.proofs.Common.{add-one, ◌≡◌, ◌≢◌, inl, inr, ℕ, zero, suc, ◌+◌, ◌*◌, ◌≤◌, List, [], ◌∷◌}
use Rattle.gix_refspec_lint.proofs.Common.{◌++◌, length, append_assoc, append-nil, length-append, refl, sym, ap, ◌∙◌}
use Rattle.gix_refspec_lint.proofs.Common.{arith, append_cancel_left, append_cancel_right, Fits, power, codes, Some}
use Rattle.gix_refspec_lint.proofs.Common.{slash, IsRefName, CanBeWritten}
use Rattle.gix_refspec_lint.proofs.lemmas.ByteLemmas.{parted, further, begins_alike, clean_front, ends_alike, names_as}

-- where v, moved past c, is u, it is that each time
power_moved : (c u v : List ℕ) → v ++ c ≡ c ++ u → (i : ℕ) → power v i ++ c ≡ c ++ power u i
power_moved c u v is zero = sym (append-nil c)
power_moved c u v is (suc i) = grind (arith, power_moved c u v is i, append_assoc {A = ℕ})

pub power_length : (v : List ℕ) (i : ℕ) → length (power v i) ≡ i * length v
power_length v zero = grind arith
power_length v (suc i) = grind (arith, power_length v i, length-append {A = ℕ})

pub power_long : (v : List ℕ) (i : ℕ) → v ≢ [] → i ≤ length (power v i)
power_long [] i some = absurd (some refl)
power_long (b ∷ v) i some = grind (arith, power_length (b ∷ v) i)

moved : (x c q u v : List ℕ) → x ++ (v ++ (c ++ q)) ≡ (x ++ c) ++ (u ++ q) → (i : ℕ)
    → x ++ (power v i ++ (c ++ q)) ≡ (x ++ c) ++ (power u i ++ q)
moved x c q u v once i =
    let is : v ++ c ≡ c ++ u = append_cancel_right _ _ q
    (simp append_assoc (append_cancel_left x _ _ (simp append_assoc at once))) in
    rw (← append_assoc (power v i) c q, power_moved c u v is i) (simp append_assoc)

-- where a text is the same without two words and with each of them once, it is with each of them as often
pub same_repeats : (p q u v x y : List ℕ) → x ++ y ≡ p ++ q → x ++ (v ++ y) ≡ p ++ (u ++ q) → (i : ℕ)
    → x ++ (power v i ++ y) ≡ p ++ (power u i ++ q)
same_repeats p q u v x y without once i = elim (parted x y p q without) [
  | inl (c, front, back) ↦ rw (front, back) (moved x c q u v (rw (front, back) at once) i)
  | inr (c, front, back) ↦ rw (front, back) (sym (moved p c y v u (rw (front, back) at (sym once)) i))
]

pub power_one : (v y : List ℕ) → power v 1 ++ y ≡ v ++ y
power_one v y = simp append-nil

pub differ_again : (n v x y : List ℕ) → v ≢ [] → n ≡ x ++ y → n ≡ x ++ (v ++ y) → ⊥
differ_again n v x y some without once = some (append_cancel_right v [] y (append_cancel_left x (v ++ y) y (cc)))

-- each text with the word so often is one that another word is in as often, put in its place
pub record Repeats (x v y : List ℕ) (placed : List ℕ → List ℕ) : Type 0 where
  pub front : List ℕ
  pub word : List ℕ
  pub back : List ℕ
  pub size : length word ≡ length v
  pub each : (i : ℕ) → x ++ (power v i ++ y) ≡ placed (front ++ (power word i ++ back))

-- where a name without the word and with it once fits a pattern, it fits however often the word stands there, and what
-- it
-- has for the star has a word of the same length as often
pub words_repeat : (a b v x y w0 w1 : List ℕ) → Fits a b (x ++ y) w0 → Fits a b (x ++ (v ++ y)) w1
    → Repeats x v y (λ z. a ++ (z ++ b))
words_repeat a b v x y w0 w1 without once = elim (parted a (w0 ++ b) x y (sym without)) [
  | inr (c, longer, rest) ↦
      let same : ((x ++ v) ++ c) ++ w0 ≡ (x ++ c) ++ w1 = append_cancel_right _ _ b
      (simp append_assoc (simp append_assoc at (rw (longer, rest) at once))) in
      let (u, longer, is) = further (x ++ c) w1 ((x ++ v) ++ c) w0 (sym same) (omega (arith, length-append {A = ℕ})) in
      at [] u w0 refl is
  | inl (m, longer, rest) ↦ elim (parted m y w0 b (sym rest)) [
    | inl (k, split, end) ↦
        at m v k split
        (append_cancel_left a _ _
        (append_cancel_right _ _ b (simp append_assoc (sym (simp append_assoc at (rw (longer, end) at once))))))
    | inr (c, split, end) ↦
        let same : (w0 ++ c) ++ v ≡ w1 ++ c = append_cancel_left a _ _
        (append_cancel_right _ _ y (simp append_assoc (simp append_assoc at (rw (longer, split, end) at once)))) in
        let (u, is, tail) = further w0 (c ++ v) w1 c (sym (append_assoc w0 c v) ∙ same)
        (omega (arith, ap length same, length-append {A = ℕ})) in
        at w0 u [] (sym (append-nil w0)) (is ∙ ap (λ z. w0 ++ z) (sym (append-nil u)))
  ]
]
  where
    at : (p u q : List ℕ) → w0 ≡ p ++ q → w1 ≡ p ++ (u ++ q) → Repeats x v y (λ z. a ++ (z ++ b))
    at p u q one other =
        let old : x ++ y ≡ (a ++ p) ++ (q ++ b) = without ∙ rw one (simp append_assoc) in
        let new : x ++ (v ++ y) ≡ (a ++ p) ++ (u ++ (q ++ b)) = once ∙ rw other (simp append_assoc) in
        record {
          front = p;
          word = u;
          back = q;
          size = omega (arith, ap length old, ap length new, length-append {A = ℕ});
          each = λ i. same_repeats (a ++ p) (q ++ b) u v x y old new i ∙ simp append_assoc;
        }

-- where the word so often has five bytes or more, and makes no destination that can be written, it makes none once more
pub written_again : (x v y : List ℕ) (i : ℕ) → 5 ≤ length (power v i) → ¬ (CanBeWritten (Some (x ++ (power v i ++ y))))
    → ¬ (CanBeWritten (Some (x ++ (power v (i + 1) ++ y))))
written_again x v y i long bad is =
    let m = power v i in
    let once : x ++ (power v (i + 1) ++ y) ≡ x ++ (v ++ (m ++ y)) = rw (add-one, append_assoc v m y) in
    let moved : (u : List ℕ) → u ++ (v ++ (m ++ y)) ≡ (u ++ m) ++ (v ++ y) =
    λ u. rw (← append_assoc v m y, ← power_moved v v v refl i) (simp append_assoc) in
    let (below, named) = rw once at is in
    bad (
      simp append_assoc at (begins_alike (codes "refs/") (x ++ m) (v ++ y) y (omega (arith, length-append x m))
          (rw (moved x) at below)),
      simp append_assoc at (names_as (λ t. length t ≤ 5) (omega arith, omega arith, omega arith, omega arith) (x ++ m)
          (x ++ (v ++ m)) y
          (λ k t short ends. simp append_assoc
          (simp append_assoc at
          (ends_alike t (slash ∷ x) (slash ∷ (x ++ v)) (m ++ k) (omega (arith, short, length-append m k))
          (simp append_assoc at ends))))
          (λ clean. clean_front (slash ∷ (x ++ m)) (v ++ y) (rw (moved (slash ∷ x)) at (simp append_assoc at clean)))
          (λ none. omega (arith, simp length-append at (ap length none)))
          (λ none. omega (arith, simp length-append at (ap length none))) (simp append_assoc named)),
    )

-- nor a ref name
pub names_again : (x v y : List ℕ) (i : ℕ) → 5 ≤ length (power v i) → ¬ (IsRefName (x ++ (power v i ++ y)))
    → ¬ (IsRefName (x ++ (power v (i + 1) ++ y)))
names_again x v y i long bad (inl is) = written_again x v y i long (λ has. bad (inl has)) is
names_again x v y i long bad (inr is) = omega (arith, long, simp length-append at (ap length (rw add-one at is)))
