-- With how many equal bytes texts begin and end.
use Rattle.gix_refspec_why.proofs.Common.{◌≡◌, ◌≢◌, ◌<◌, ◌≤◌, ◌+◌, ◌++◌, ◌∷◌, ◌∙◌, [], ℕ, zero, suc, List, refl}
use Rattle.gix_refspec_why.proofs.Common.{sym, ◌⊎◌, inl, inr, subst, ap, arith, length, take, drop, get_or}
use Rattle.gix_refspec_why.proofs.Common.{take-append-drop, length-take-le, BeginsWith, EndsWith, AgreeAtStart}
use Rattle.gix_refspec_why.proofs.Common.{AgreeAtEnd, take_more, length-append}
use Rattle.std.proofs.Common.{drop-cons, length-drop}

begins_drop : (b k : ℕ) (x : List ℕ) → k < length x → BeginsWith (b ∷ []) (drop k x) → get_or x k 0 ≡ b
begins_drop b k x below begins = let here = drop-cons x k 0 below in cc (here, begins.here)

drop_end : (k : ℕ) (x : List ℕ) → length x ≤ k → drop k x ≡ []
drop_end zero [] past = refl
drop_end (suc k) [] past = refl
drop_end zero (b ∷ x) past = absurd (omega arith)
drop_end (suc k) (b ∷ x) past = drop_end k x (omega arith)

nothing_begins : (b k : ℕ) (x : List ℕ) → length x ≤ k → ¬ (BeginsWith (b ∷ []) (drop k x))
nothing_begins b k x past begins = let none = drop_end k x past in cc (none, begins.here)

-- the texts have the same first bytes, and after these others or none
pub agree_at_start : (x y : List ℕ) (k : ℕ) → k ≤ length x → take k x ≡ take k y
    → ((b : ℕ) → BeginsWith (b ∷ []) (drop k x) → ¬ (BeginsWith (b ∷ []) (drop k y))) → AgreeAtStart x y k
agree_at_start x y k within same apart = record {
  shared = take k x;
  x_rest = drop k x;
  y_rest = drop k y;
  of_x = sym (take-append-drop k x);
  of_y = sym (take-append-drop k y) ∙ ap (λ t. t ++ drop k y) (sym same);
  size = length-take-le k x within;
  apart = apart;
}

pub differ_at : (x y : List ℕ) (k : ℕ) → k < length x → k < length y → get_or x k 0 ≢ get_or y k 0
    → (b : ℕ) → BeginsWith (b ∷ []) (drop k x) → ¬ (BeginsWith (b ∷ []) (drop k y))
differ_at x y k below also differ b of_x of_y =
    differ (begins_drop b k x below of_x ∙ sym (begins_drop b k y also of_y))

pub end_of_one : (x y : List ℕ) (k : ℕ) → k ≡ length x → (b : ℕ) → BeginsWith (b ∷ []) (drop k x)
    → ¬ (BeginsWith (b ∷ []) (drop k y))
end_of_one x y k is b of_x of_y = nothing_begins b k x (omega arith) of_x

pub end_of_other : (x y : List ℕ) (k : ℕ) → k ≡ length y → (b : ℕ) → BeginsWith (b ∷ []) (drop k x)
    → ¬ (BeginsWith (b ∷ []) (drop k y))
end_of_other x y k is b of_x of_y = nothing_begins b k y (omega arith) of_y

-- ---- from the end

-- the last bytes of two equal texts are equal
pub push_once : (l before : List ℕ) (c b : ℕ) → l ++ c ∷ [] ≡ before ++ b ∷ [] → c ≡ b
push_once [] [] c b same = cc
push_once [] (y ∷ before) c b same = let long = ap length same in absurd (omega (arith, simp length-append at long))
push_once (x ∷ l) [] c b same = let long = ap length same in absurd (omega (arith, simp length-append at long))
push_once (x ∷ l) (y ∷ before) c b same = push_once l before c b (cc)

ends_take : (b k : ℕ) (x : List ℕ) → k < length x → EndsWith (b ∷ []) (take (k + 1) x) → get_or x k 0 ≡ b
ends_take b k x below ends = push_once (take k x) ends.before (get_or x k 0) b
    (sym (take_more x k 0 below) ∙ ends.here)

nothing_ends : (b : ℕ) (x : List ℕ) → ¬ (EndsWith (b ∷ []) (take 0 x))
nothing_ends b x ends = let long = ap length ends.here in absurd (omega (arith, simp length-append at long))

-- the texts have the same last bytes, and before these others or none
pub agree_at_end : (x y : List ℕ) (k i j : ℕ) → i + k ≡ length x → j + k ≡ length y → drop i x ≡ drop j y
    → ((b : ℕ) → EndsWith (b ∷ []) (take i x) → ¬ (EndsWith (b ∷ []) (take j y))) → AgreeAtEnd x y k
agree_at_end x y k i j of_i of_j same apart = record {
  shared = drop i x;
  x_rest = take i x;
  y_rest = take j y;
  of_x = sym (take-append-drop i x);
  of_y = sym (take-append-drop j y) ∙ ap (λ t. take j y ++ t) (sym same);
  size = length-drop i x ∙ omega arith;
  apart = apart;
}

pub differ_before : (x y : List ℕ) (i j : ℕ) → i < length x → j < length y → get_or x i 0 ≢ get_or y j 0
    → (b : ℕ) → EndsWith (b ∷ []) (take (i + 1) x) → ¬ (EndsWith (b ∷ []) (take (j + 1) y))
differ_before x y i j below also differ b of_x of_y =
    differ (ends_take b i x below of_x ∙ sym (ends_take b j y also of_y))

-- ---- one count

counted_once : (s t a b c d : List ℕ) → s ++ a ≡ t ++ b → s ++ c ≡ t ++ d
    → ((e : ℕ) → BeginsWith (e ∷ []) a → ¬ (BeginsWith (e ∷ []) c))
    → ((e : ℕ) → BeginsWith (e ∷ []) b → ¬ (BeginsWith (e ∷ []) d)) → length s ≡ length t
counted_once [] [] a b c d same also of_s of_t = refl
counted_once [] (e ∷ t) a b c d same also of_s of_t =
    absurd (of_s e (record { after = t ++ b; here = same }) (record { after = t ++ d; here = also }))
counted_once (e ∷ s) [] a b c d same also of_s of_t =
    absurd (of_t e (record { after = s ++ a; here = sym same }) (record { after = s ++ c; here = sym also }))
counted_once (e ∷ s) (f ∷ t) a b c d same also of_s of_t =
    ap suc (counted_once s t a b c d (cc (same)) (cc (also)) of_s of_t)

-- two texts begin with one count of equal bytes
pub agree_once : (x y : List ℕ) (i j : ℕ) → AgreeAtStart x y i → AgreeAtStart x y j → i ≡ j
agree_once x y i j a b = sym a.size
    ∙ counted_once a.shared b.shared a.x_rest b.x_rest a.y_rest b.y_rest (sym a.of_x ∙ b.of_x) (sym a.of_y ∙ b.of_y)
    a.apart
    b.apart
    ∙ b.size

-- nothing is before the same bytes in one of the texts
pub none_before : (x y : List ℕ) (i j : ℕ) → (i ≡ 0) ⊎ (j ≡ 0) → (b : ℕ) → EndsWith (b ∷ []) (take i x)
    → ¬ (EndsWith (b ∷ []) (take j y))
none_before x y i j (inl none) b of_x of_y = nothing_ends b x (subst (λ i. EndsWith (b ∷ []) (take i x)) none of_x)
none_before x y i j (inr none) b of_x of_y = nothing_ends b y (subst (λ j. EndsWith (b ∷ []) (take j y)) none of_y)
