-- A side has at most one prefix and at most one expansion.
use Rattle.gix_refspec_text.proofs.Common.{[], arith, ◌∷◌, ◌≡◌, ℕ, List, ◌++◌, codes, sym, ◌∙◌, subst}
use Rattle.gix_refspec_text.proofs.Common.{append_cancel_left, Lacks, ContainsText, BeginsWith, slash, IsPrefix}
use Rattle.gix_refspec_text.proofs.Common.{of_head, of_name, of_pattern, Expands, OnePrefix, head, star, IsSplit, ◌⊎◌}
use Rattle.gix_refspec_text.proofs.Common.{IsId, candidates}
use Rattle.gix_refspec_text.proofs.lemmas.texts.TextLemmas.{Lacks-ContainsText}
use Rattle.gix_refspec_text.proofs.lemmas.hits.MatchLemmas.{lacks_no_pattern, split_once}
use Rattle.gix_refspec_text.proofs.lemmas.parsing.SideLemmas.{Lacks-name}
use Rattle.gix_refspec_text.proofs.lemmas.texts.HeadLemmas.{IsName-head}

pub head_no_split : (x before after : List ℕ) → x ≡ head → IsSplit before after x → ⊥
head_no_split x before after is split = lacks_no_pattern x before after
    (subst (Lacks star) (sym is) (Lacks-name head IsName-head)) split

prefix_once : (x p q : List ℕ) → IsPrefix x p → IsPrefix x q → p ≡ q
prefix_once x p q (of_head _ a) (of_head _ b) = a ∙ sym b
prefix_once x p q (of_head _ a) (of_name _ _ b) = a ∙ sym b
prefix_once x p q (of_head is _) (of_pattern before after split _ _) = absurd (head_no_split x before after is split)
prefix_once x p q (of_name _ _ a) (of_head _ b) = a ∙ sym b
prefix_once x p q (of_name _ _ a) (of_name _ _ b) = a ∙ sym b
prefix_once x p q (of_name _ lacks _) (of_pattern before after split _ _) =
    absurd (lacks_no_pattern x before after lacks split)
prefix_once x p q (of_pattern before after split _ _) (of_head is _) = absurd (head_no_split x before after is split)
prefix_once x p q (of_pattern before after split _ _) (of_name _ lacks _) =
    absurd (lacks_no_pattern x before after lacks split)
prefix_once x p q (of_pattern before after split _ a) (of_pattern before2 after2 cut2 _ b) = a
    ∙ ((split_once x before after before2 after2 split cut2).0 ∙ sym b)

-- the ways to expand a side of which P says the prefixes: to its prefix; or without one, below `refs/` or elsewhere
abbrev Ways : (List ℕ → Type 0) → List ℕ → List (List ℕ) → Type 0
Ways P x list = ((p : List ℕ) × P p × (list ≡ p ∷ []))
    ⊎ (((p : List ℕ) → ¬ (P p)) × (((rest : List ℕ) × (x ≡ codes "refs/" ++ rest)
    × ((Lacks slash rest × (list ≡ x ∷ [])) ⊎ (ContainsText (codes "/") rest × (list ≡ []))))
    ⊎ (¬ (BeginsWith (codes "refs/") x) × ((IsId x × (list ≡ [])) ⊎ (¬ (IsId x) × (list ≡ candidates x))))))

ways_of : (x : List ℕ) (list : List (List ℕ)) → Expands x list → Ways (IsPrefix x) x list
ways_of x list h = grind arith

ways_once : (P : List ℕ → Type 0) (x : List ℕ) (list other : List (List ℕ)) → ((p q : List ℕ) → P p → P q → p ≡ q)
    → Ways P x list → Ways P x other → list ≡ other
ways_once P x list other once a b = grind (arith, append_cancel_left, Lacks-ContainsText)

pub one_prefix : (x : List ℕ) → OnePrefix x
one_prefix x = record {
  prefix = prefix_once x;
  expanded = λ list other a b. ways_once (IsPrefix x) x list other
      (prefix_once x) (ways_of x list a) (ways_of x other b);
}
