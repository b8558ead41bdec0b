-- Sides as they are written.
use Rattle.gix_refspec_remote.proofs.Common.{◌≡◌, ◌++◌, ◌∷◌, ℕ, List, Option, None, Some, ap, ◌∙◌, refl, sym, star}
use Rattle.gix_refspec_remote.proofs.Common.{arith, Lacks, IsSplit, HasSeveralStars, lacks_no_pattern, split_once}
use Rattle.gix_refspec_remote.proofs.Common.{one_word, Fits, Lacks-from_absent, same_Some}
use Rattle.gix_refspec_remote.specs.Written.{IsText}

-- the first star of a side with one star at most is its only one
pub split_of : (x before after : List ℕ) → ¬ (HasSeveralStars x) → x ≡ before ++ (star ∷ after) → Lacks star before
    → IsSplit before after x
split_of x before after few is first = record {
  starred = is;
  first = first;
  last = Lacks-from_absent star after (λ again. few (record {
    before = before;
    between = again.before;
    after = again.after;
    here = is ∙ ap (λ (y : List ℕ). before ++ (star ∷ y)) again.here;
  }));
}

-- a side without a star is only itself
pub name_text : (x n : List ℕ) (word : Option (List ℕ)) → Lacks star x → IsText x n word → (word ≡ None) × (n ≡ x)
name_text x n None lacks is = (refl, is.1)
name_text x n (Some w) lacks is = absurd (lacks_no_pattern x is.0 is.1 lacks is.2)

-- a side with a star is only what its two texts match
pub pattern_text : (x before after n : List ℕ) (word : Option (List ℕ)) → IsSplit before after x → IsText x n word
    → (w : List ℕ) × (word ≡ Some w) × Fits before after n w
pattern_text x before after n None split is = absurd (lacks_no_pattern x before after is.0 split)
pattern_text x before after n (Some w) split is =
    let once = split_once x is.0 is.1 before after is.2 split in
    (w, refl, is.3 ∙ ap (λ (y : List ℕ). y ++ (w ++ is.1)) once.0 ∙ ap (λ (y : List ℕ). before ++ (w ++ y)) once.1)

-- the word of a side in a name is one
pub word_once : (x n : List ℕ) (v w : Option (List ℕ)) → IsText x n v → IsText x n w → v ≡ w
word_once x n None None by_v by_w = refl
word_once x n None (Some w) by_v by_w = absurd (lacks_no_pattern x by_w.0 by_w.1 by_v.0 by_w.2)
word_once x n (Some v) None by_v by_w = absurd (lacks_no_pattern x by_v.0 by_v.1 by_w.0 by_v.2)
word_once x n (Some v) (Some w) by_v by_w =
    let (u, is, fits) = pattern_text x by_v.0 by_v.1 n (Some w) by_v.2 by_w in
    ap Some (one_word by_v.0 by_v.1 n v u by_v.3 fits) ∙ sym is

-- so is the name of a side with a word
pub name_once : (x n m : List ℕ) (w : Option (List ℕ)) → IsText x n w → IsText x m w → n ≡ m
name_once x n m None by_n by_m = by_n.1 ∙ sym by_m.1
name_once x n m (Some w) by_n by_m =
    let (u, is, fits) = pattern_text x by_n.0 by_n.1 m (Some w) by_n.2 by_m in
    by_n.3 ∙ ap (λ (y : List ℕ). by_n.0 ++ (y ++ by_n.1)) (same_Some _ _ is) ∙ sym fits

-- a side that is a name without a word isn't it with one
pub plain_no_word : (x n : List ℕ) → IsText x n None → (w : List ℕ) → ¬ (IsText x n (Some w))
plain_no_word x n plain w starred = lacks_no_pattern x starred.0 starred.1 plain.0 starred.2
