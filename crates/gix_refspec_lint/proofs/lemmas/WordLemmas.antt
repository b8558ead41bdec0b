-- Which words decide what a star may match: the parts of `refs/` and `HEAD`, and those with an ending of `refs/`.
use Rattle.gix_refspec_lint.proofs.Common.{◌≡◌, ◌⊎◌, inl, inr, ℕ, List, [], ◌∷◌, ◌++◌, codes, append_assoc, refl, sym}
use Rattle.gix_refspec_lint.proofs.Common.{ap, ◌∙◌, subst, AllByRecursion, Fits, EndsWith, arith, length, length-append}
use Rattle.gix_refspec_lint.proofs.Common.{◌≤◌, BeginsWith, ◌+◌, drop, map, take, Contains, head, one_word, IsRefName}
use Rattle.gix_refspec_lint.proofs.Common.{IsDeciding, IsLongerPrefix, IsLongerSuffix, IsMost, cases_lt, endings, parts}
use Rattle.gix_refspec_lint.proofs.Common.{all_weaker}
use Rattle.gix_refspec_lint.proofs.{Common.{take_at, drop_at}, lemmas.ByteLemmas.{further, parted}}

-- P holds of each way to split the text
abbrev AllSplits : (List ℕ → List ℕ → Type 0) → List ℕ → Type 0
AllSplits P [] = P [] []
AllSplits P (b ∷ x) = P [] (b ∷ x) × AllSplits (λ v. P (b ∷ v)) x

split_at : (P : List ℕ → List ℕ → Type 0) (v m : List ℕ) → AllSplits P (v ++ m) → P v m
split_at P [] [] all = all
split_at P [] (b ∷ m) all = all.0
split_at P (b ∷ v) m all = split_at (λ w. P (b ∷ w)) v m all.1

-- each part of `refs/` and of `HEAD` is listed, and each ending of `refs/`
listed : AllSplits (λ a. AllSplits (λ v m. Contains parts v)) (codes "refs/")
    × AllSplits (λ a. AllSplits (λ v m. Contains parts v)) head × AllSplits (λ a m. Contains endings m) (codes "refs/")
listed = (
  (
    (
      (0, omega arith, refl),
      (
        (1, omega arith, refl),
        ((2, omega arith, refl), ((3, omega arith, refl), ((4, omega arith, refl), (5, omega arith, refl)))),
      ),
    ),
    (
      (
        (0, omega arith, refl),
        ((6, omega arith, refl), ((7, omega arith, refl), ((8, omega arith, refl), (9, omega arith, refl)))),
      ),
      (
        ((0, omega arith, refl), ((10, omega arith, refl), ((11, omega arith, refl), (12, omega arith, refl)))),
        (
          ((0, omega arith, refl), ((13, omega arith, refl), (14, omega arith, refl))),
          (((0, omega arith, refl), (15, omega arith, refl)), (0, omega arith, refl)),
        ),
      ),
    ),
  ),
  (
    (
      (0, omega arith, refl),
      ((16, omega arith, refl), ((17, omega arith, refl), ((18, omega arith, refl), (19, omega arith, refl)))),
    ),
    (
      ((0, omega arith, refl), ((20, omega arith, refl), ((21, omega arith, refl), (22, omega arith, refl)))),
      (
        ((0, omega arith, refl), ((23, omega arith, refl), (24, omega arith, refl))),
        (((0, omega arith, refl), (25, omega arith, refl)), (0, omega arith, refl)),
      ),
    ),
  ),
  (
    (5, omega arith, refl),
    (
      (4, omega arith, refl),
      ((3, omega arith, refl), ((2, omega arith, refl), ((1, omega arith, refl), (0, omega arith, refl)))),
    ),
  ),
)

part_of : (x a v m : List ℕ) → AllSplits (λ a. AllSplits (λ v m. Contains parts v)) x → x ≡ a ++ (v ++ m)
    → Contains parts v
part_of x a v m all is = split_at (λ v m. Contains parts v) v m
    (split_at (λ a. AllSplits (λ v m. Contains parts v)) a (v ++ m) (rw is at all))

-- ---- words that the names of refs contain

-- the word begins with an ending of `refs/`, with which each of these texts begins `refs/`
pub record HasEnding (v : List ℕ) (fronts : List (List ℕ)) : Type 0 where
  pub ending : List ℕ
  pub rest : List ℕ
  pub is : v ≡ ending ++ rest
  pub listed : Contains endings ending
  pub begin : AllByRecursion (λ a. BeginsWith (codes "refs/") (a ++ ending)) fronts

-- a text before the word, and one after it
pub record Around : Type 0 where
  pub front : List ℕ
  pub back : List ℕ

-- they make the name of a ref
abbrev pub IsRefAround : List ℕ → Around → Type 0
IsRefAround v t = IsRefName (t.front ++ (v ++ t.back))

pub begins_before : (x m : List ℕ) → BeginsWith (codes "refs/") x → BeginsWith (codes "refs/") (x ++ m)
begins_before x m begins = record { after = begins.after ++ m; here = rw begins.here (simp append_assoc) }

-- a word in several names of refs is a part of `refs/` or `HEAD`, or it has such an ending
pub ending_or_part : (v : List ℕ) (ts : List Around) → AllByRecursion (IsRefAround v) ts → Contains parts v
    ⊎ HasEnding v (map (λ t. t.front) ts)
ending_or_part v [] all = inr (record { ending = []; rest = v; is = refl; listed = (0, omega arith, refl); begin = tt })
ending_or_part v (t ∷ ts) (inr is, all) = inl (part_of head t.front v t.back listed.1 (sym is))
ending_or_part v (t ∷ ts) (inl (begins, named), all) = elim (ending_or_part v ts all) [
  | inl part ↦ inl part
  | inr h ↦ elim (parted (t.front ++ h.ending) (h.rest ++ t.back) (codes "refs/") begins.after
      (simp append_assoc (simp append_assoc at (ap (λ w. t.front ++ (w ++ t.back)) (sym h.is) ∙ begins.here)))) [
        | inr (m, longer, rest) ↦
            inr (record {
              ending = h.ending;
              rest = h.rest;
              is = h.is;
              listed = h.listed;
              begin =
                  (record { after = m; here = longer }, h.begin);
            })
        | inl (m, whole, rest) ↦ elim (parted m begins.after h.rest t.back (sym rest)) [
          | inr (k, shorter, end) ↦
              inl (part_of (codes "refs/") t.front v k listed.0 (whole ∙ simp (shorter, h.is, append_assoc)))
          | inl (k, longer, end) ↦ inr (record {
            ending = h.ending ++ m;
            rest = k;
            is = h.is ∙ ap (λ w. h.ending ++ w) longer ∙ sym (append_assoc h.ending m k);
            listed = split_at (λ a m. Contains endings m) t.front (h.ending ++ m)
                (subst (AllSplits (λ a m. Contains endings m)) (whole ∙ append_assoc t.front h.ending m) listed.2);
            begin = (
              record { after = []; here = sym (whole ∙ append_assoc t.front h.ending m) },
              all_weaker _ _ (λ x begin. simp append_assoc at (begins_before (x ++ h.ending) m begin))
                  (map (λ (x : Around). x.front) ts) h.begin,
            );
          })
        ]
      ]
]

-- ---- what two patterns have in common

-- a name that fits two patterns, where their texts don't overlap: the texts of each, within those that are common, and
-- the
-- word of each
pub record IsParted (a b c d prefix suffix n v w : List ℕ) : Type 0 where
  pub word : List ℕ
  pub x : List ℕ
  pub y : List ℕ
  pub p : List ℕ
  pub q : List ℕ
  pub whole : n ≡ prefix ++ (word ++ suffix)
  pub before : prefix ≡ a ++ x
  pub after : suffix ≡ y ++ b
  pub front : prefix ≡ c ++ p
  pub back : suffix ≡ q ++ d
  pub one : v ≡ x ++ (word ++ y)
  pub other : w ≡ p ++ (word ++ q)

pub between : (a x m y b : List ℕ) → (a ++ x) ++ (m ++ (y ++ b)) ≡ a ++ ((x ++ (m ++ y)) ++ b)
between a x m y b = simp append_assoc

pub within : (a b prefix suffix x y u : List ℕ) → prefix ≡ a ++ x → suffix ≡ y ++ b
    → prefix ++ (u ++ suffix) ≡ a ++ ((x ++ (u ++ y)) ++ b)
within a b prefix suffix x y u before after = rw (before, after) (simp append_assoc)

word_is : (a b prefix suffix n v m x y : List ℕ) → Fits a b n v → n ≡ prefix ++ (m ++ suffix) → prefix ≡ a ++ x
    → suffix ≡ y ++ b → v ≡ x ++ (m ++ y)
word_is a b prefix suffix n v m x y fits whole front back = one_word a b n v (x ++ (m ++ y)) fits
    (whole ∙ within a b prefix suffix x y m front back)

-- such a name is parted, or it decides itself
pub common_name : (words : List (List ℕ)) (a b c d prefix suffix : List ℕ) (most : ℕ) (n v w : List ℕ)
    → IsLongerPrefix a c prefix → IsLongerSuffix b d suffix → IsMost a b c d prefix suffix most → Fits a b n v
    → Fits c d n w
    → IsParted a b c d prefix suffix n v w ⊎ IsDeciding words prefix suffix most n
common_name words a b c d prefix suffix most n v w longer ends is_most one other =
    elim (cases_lt (length stops.before) (length prefix)) [
      | inr within ↦
          let (m, further, rest) = further prefix starts.after stops.before suffix (sym starts.here ∙ stops.here)
          within in
          let whole : n ≡ prefix ++ (m ++ suffix) = starts.here ∙ ap (λ x. prefix ++ x) rest in
          inl (record {
            word = m;
            x = longer.one.after;
            y = ends.one.before;
            p = longer.other.after;
            q = ends.other.before;
            whole = whole;
            before = longer.one.here;
            after = ends.one.here;
            front = longer.other.here;
            back = ends.other.here;
            one = word_is a b prefix suffix n v m longer.one.after ends.one.before one whole longer.one.here
                ends.one.here;
            other = word_is c d prefix suffix n w m longer.other.after ends.other.before other whole longer.other.here
                ends.other.here;
          })
      | inl over ↦
          let (m, further, rest) = further stops.before suffix prefix starts.after (sym stops.here ∙ starts.here)
          (omega arith) in
          let in_suffix : length suffix ≡ length m + length starts.after = ap length rest
          ∙ length-append m starts.after in
          let in_prefix : length prefix ≡ length stops.before + length m = ap length further
          ∙ length-append stops.before m in
          inr (inr (
            length m,
            is_most (length m) (omega arith) (omega arith) (omega (arith, long a b v one))
                (omega (arith, long c d w other)),
            record {
              some = omega arith;
              within = omega arith;
              ends = record {
                before = stops.before;
                here = further ∙ ap (λ x. stops.before ++ x)
                    (sym (ap (take (length m)) rest ∙ take_at m starts.after (length m) refl));
              };
            },
            starts.here ∙ ap (λ x. prefix ++ x)
                (sym (ap (drop (length m)) rest ∙ drop_at m starts.after (length m) refl)),
          ))
    ]
  where
    starts : BeginsWith prefix n
    starts = elim longer.is [
      | inl is ↦ rw is (record { after = _; here = one })
      | inr is ↦
          rw is (record { after = _; here = other })
    ]

    stops : EndsWith suffix n
    stops = elim ends.is [
      | inl is ↦ rw is (record { before = _; here = one ∙ sym (append_assoc a v b) })
      | inr is ↦
          rw is (record { before = _; here = other ∙ sym (append_assoc c w d) })
    ]

    long : (x y u : List ℕ) → Fits x y n u → length x + length y ≤ length prefix + length starts.after
    long x y u fits = omega (
      arith,
      length-append prefix starts.after,
      ap length (sym starts.here ∙ fits),
      length-append x (u ++ y),
      length-append u y,
    )
