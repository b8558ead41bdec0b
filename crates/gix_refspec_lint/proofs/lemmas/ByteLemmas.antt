-- A byte between two texts that stands for any word there.
use Rattle.gix_refspec_lint.proofs.Common.{rules, ◌≡◌, ◌≢◌, ◌⊎◌, inl, inr, ℕ, false, ◌||◌, ◌==◌, List, [], ◌∷◌, ◌++◌}
use Rattle.gix_refspec_lint.proofs.Common.{Option, Some, codes, append_assoc, refl, sym, ap, ◌∙◌, subst, IsTrue}
use Rattle.gix_refspec_lint.proofs.Common.{AllByRecursion, list_any, eqb-false, Excludes, Fits, by_pattern, the_name}
use Rattle.gix_refspec_lint.proofs.Common.{Reading, slash, star, is_refused_byte, IsName, EndsWith, Lacks, all_left}
use Rattle.gix_refspec_lint.proofs.Common.{all_right, Lacks-here, HasFault-added, HasFault-left, IsName-from_clean}
use Rattle.gix_refspec_lint.proofs.Common.{IsExcluded, LacksIn, SidesLack, is_usable, arith, length, cases_lt}
use Rattle.gix_refspec_lint.proofs.Common.{length-append, or_parts, not-true, ◌≤◌, BeginsWith, append-nil}
use Rattle.gix_refspec_text.{proofs.lemmas.texts.NameLemmas.IsClean-more, specs.Private.Scan.IsClean}

-- of two ways to split a list, the one that splits it no earlier is further on
pub further : (p s q t : List ℕ) → p ++ s ≡ q ++ t → length p ≤ length q → (m : List ℕ) × (q ≡ p ++ m) × (s ≡ m ++ t)
further [] s q t same short = (q, refl, same)
further (b ∷ p) s [] t same short = absurd (omega (arith, short))
further (b ∷ p) s (c ∷ q) t same short = let (m, longer, rest) = further p s q t (cc (same)) (omega (arith, short)) in
    (m, cc, rest)

-- and one of the two is further on
pub parted : (p s q t : List ℕ) → p ++ s ≡ q ++ t → ((m : List ℕ) × (q ≡ p ++ m) × (s ≡ m ++ t))
    ⊎ ((m : List ℕ) × (p ≡ q ++ m) × (t ≡ m ++ s))
parted p s q t same = elim (cases_lt (length q) (length p)) [
  | inl l ↦ inr (further q t p s (sym same) (omega arith))
  | inr from ↦ inl (further p s q t same from)
]

-- what ends a text is told by as many of its last bytes
pub ends_alike : (x a c b : List ℕ) → length x ≤ length b → EndsWith x (a ++ b) → EndsWith x (c ++ b)
ends_alike x a c b below ends =
    let (m, longer, rest) = further a b ends.before x ends.here
    (omega (arith, length-append {A = ℕ}, ap length ends.here)) in
    record { before = c ++ m; here = ap (λ z. c ++ z) rest ∙ sym (append_assoc c m x) }

-- and what begins it, by as many of its first
pub begins_alike : (x a b c : List ℕ) → length x ≤ length a → BeginsWith x (a ++ b) → BeginsWith x (a ++ c)
begins_alike x a b c below begins =
    let (m, longer, rest) = further x begins.after a b (sym begins.here) below in
    record { after = m ++ c; here = ap (λ z. z ++ c) longer ∙ append_assoc x m c }

-- where each of these words that ends a text behind p ends it behind q, a clean p stays clean before what q stays clean
-- before
module _ (K : List ℕ → Type 0) (kept : K (codes "/") × K (codes ".lock") × K (codes ".") × K (codes "@")) where
  clean_before : (p q y : List ℕ) → ((k w : List ℕ) → K w → EndsWith w (p ++ k) → EndsWith w (q ++ k)) → IsClean p
      → IsClean (q ++ y) → IsClean (p ++ y)
  clean_before p q [] ends clean also = rw append-nil clean
  clean_before p q (b ∷ y) ends clean also =
      let now : (w : List ℕ) → K w → EndsWith w p → EndsWith w q = simp append-nil at (ends []) in
      let more : IsClean (p ++ b ∷ []) =
      IsClean-more p b clean
      (λ e fault. also e
      (record { before = q; byte = b; after = y; here = refl; fault = grind (arith, now, kept) })) in
      simp append_assoc at (clean_before (p ++ b ∷ []) (q ++ b ∷ []) y (λ k w. simp append_assoc (ends (b ∷ k) w)) more
      (simp append_assoc also))

  -- and a name stays one with p in place of q
  pub names_as : (p q y : List ℕ)
      → ((k w : List ℕ) → K w → EndsWith w (slash ∷ (p ++ k)) → EndsWith w (slash ∷ (q ++ k)))
      → (IsClean (slash ∷ (q ++ y)) → IsClean (slash ∷ p))
      → p ++ y ≢ [] → q ++ y ≢ [] → IsName (q ++ y) → IsName (p ++ y)
  names_as p q y ends front also some is =
      let clean : IsClean (slash ∷ (q ++ y)) = λ e added. is e (HasFault-added (q ++ y) e some added) in
      IsName-from_clean (p ++ y) also (clean_before (slash ∷ p) (slash ∷ q) y ends (front clean) clean)
      (λ e leaves. is e (HasFault-left (q ++ y) e some (grind (arith, ends y, kept))))

pub clean_front : (x y : List ℕ) → IsClean (x ++ y) → IsClean x
clean_front x y clean e added =
    clean e (record {
      before = added.before;
      byte = added.byte;
      after = added.after ++ y;
      here =
          ap (λ z. z ++ y) added.here ∙ append_assoc added.before (added.byte ∷ added.after) y;
      fault = added.fault;
    })

module _ (z : ℕ) (usable : IsTrue (is_usable z)) where
  -- the bytes that it isn't
  abbrev kept_from : List ℕ
  kept_from = codes "refs/tags/heads/remotes/HEAD.lock*@{"

  neither : (is_refused_byte z ≡ false) × (list_any (λ c. z == c) kept_from ≡ false)
  neither = or_parts (is_refused_byte z) (list_any (λ c. z == c) kept_from)
      (not-true (is_refused_byte z || list_any (λ c. z == c) kept_from) usable)

  lacks_listed : (l : List ℕ) → list_any (λ c. z == c) l ≡ false → Lacks z l
  lacks_listed [] none = tt
  lacks_listed (c ∷ l) none = let both = or_parts (z == c) (list_any (λ k. z == k) l) none in
      ((λ is. eqb-false z c both.0 (sym is)), lacks_listed l both.1)

  pub lacks_mid : (before mid after : List ℕ) → kept_from ≡ before ++ (mid ++ after) → Lacks z mid
  lacks_mid before mid after is = all_left (λ c. c ≢ z) mid after
      (all_right (λ c. c ≢ z) before (mid ++ after) (subst (Lacks z) is (lacks_listed kept_from neither.1)))

  pub lacks_refs : Lacks z (codes "refs/")
  lacks_refs = lacks_mid [] (codes "refs/") _ refl

  -- it is in one of two parts of a text
  byte_in : (p s x y : List ℕ) → p ++ s ≡ x ++ (z ∷ y) → ((v : List ℕ) × (p ≡ x ++ (z ∷ v)) × (y ≡ v ++ s))
      ⊎ ((u : List ℕ) × (x ≡ p ++ u) × (s ≡ u ++ (z ∷ y)))
  byte_in p s x y is = elim (cases_lt (length x) (length p)) [
    | inl l ↦
        let (v, longer, rest) = further (x ++ z ∷ []) y p s (append_assoc x (z ∷ []) y ∙ sym is)
        (omega (arith, length-append x (z ∷ []))) in
        inl (v, longer ∙ append_assoc x (z ∷ []) v, rest)
    | inr from ↦ inr (further p s x (z ∷ y) is from)
  ]

  -- where the name with a word in place of the byte isn't empty, it has no fault that the other lacks
  pub name_with_byte : (x v y : List ℕ) → x ++ (v ++ y) ≢ [] → IsName (x ++ (v ++ y)) → IsName (x ++ (z ∷ y))
  name_with_byte x v y some is =
      simp append_assoc at (names_as (Lacks z) (search (rules, lacks_listed kept_from neither.1)) (x ++ z ∷ [])
      (x ++ v) y
      (λ k w lacks ends. elim (byte_in ends.before w (slash ∷ x) k (simp append_assoc at (sym ends.here))) [
        | inl (t, longer, rest) ↦
            record {
              before = slash ∷ (x ++ (v ++ t));
              here =
                  simp append_assoc (ap (λ t. slash ∷ (x ++ (v ++ t))) rest);
            }
        | inr (u, longer, rest) ↦ absurd (Lacks-here z u k (subst (Lacks z) rest lacks))
      ])
      (λ clean. IsClean-more (slash ∷ x) z (clean_front (slash ∷ x) (v ++ y) (simp append_assoc at clean))
      (λ e adds. grind (arith, lacks_listed kept_from neither.1, neither)))
      (λ none. omega (arith, ap length none, length-append (x ++ z ∷ []) y, length-append x (z ∷ [])))
      (simp append_assoc some) (simp append_assoc is))

  -- what fits a pattern with the byte has it in its word
  pub fits_byte : (before after x y w : List ℕ) → Lacks z before → Lacks z after → Fits before after (x ++ (z ∷ y)) w
      → (u : List ℕ) × (v : List ℕ) × (x ≡ before ++ u) × (y ≡ v ++ after) × (w ≡ u ++ (z ∷ v))
  fits_byte before after x y w front back fits = elim (byte_in before (w ++ after) x y (sym fits)) [
    | inl (v, longer, rest) ↦ absurd (Lacks-here z x v (subst (Lacks z) longer front))
    | inr (u, longer, rest) ↦ elim (byte_in w after u y rest) [
      | inl (v, word, end) ↦ (u, v, longer, end, word)
      | inr (t, word, end) ↦ absurd (Lacks-here z t y (subst (Lacks z) end back))
    ]
  ]

  -- what excludes a name with the byte excludes it with each word
  excludes_moved : (text x v y : List ℕ) → Lacks z text → Excludes text (x ++ (z ∷ y)) → Excludes text (x ++ (v ++ y))
  excludes_moved text x v y lacks (the_name whole is) = absurd (Lacks-here z x y (subst (Lacks z) (sym is) lacks))
  excludes_moved text x v y lacks (by_pattern before after word split fits) =
      let sides = subst (Lacks z) split.starred lacks in
      let (u, t, front, end, is) = fits_byte before after x y word (all_left (λ c. c ≢ z) before (star ∷ after) sides)
      (all_right (λ c. c ≢ z) before (star ∷ after) sides).1 fits in
      by_pattern before after (u ++ (v ++ t)) split
      (ap (λ p. p ++ (v ++ y)) front ∙ ap (λ s. (before ++ u) ++ (v ++ s)) end ∙ simp append_assoc)

  pub lacks_in : (side : Option (List ℕ)) (x : List ℕ) → side ≡ Some x → LacksIn z side → Lacks z x
  lacks_in side x is = subst (LacksIn z) is

  pub excluded_moved : (g : List Reading) (x v y : List ℕ) → AllByRecursion (SidesLack z) g
      → IsExcluded g (x ++ (z ∷ y)) → IsExcluded g (x ++ (v ++ y))
  excluded_moved [] x v y lacks none = none
  excluded_moved (r ∷ g) x v y lacks (inl by) =
      inl (record {
        negative = by.negative;
        text = by.text;
        source = by.source;
        excludes = excludes_moved by.text x v y
            (lacks_in r.source by.text by.source lacks.0.0) by.excludes;
      })
  excluded_moved (r ∷ g) x v y lacks (inr later) = inr (excluded_moved g x v y lacks.1 later)
