-- The sources that decide what two patterns have in common.
use Rattle.gix_refspec_diff.proofs.Common.{Contains, List, Source, [], ap, get_or, inl, inr, length, map}
use Rattle.gix_refspec_diff.proofs.Common.{name, subst, sym, take, ℕ, ◌++◌, ◌+◌, ◌<◌, ◌∙◌, ◌∷◌, ◌≡◌}
use Rattle.gix_refspec_lint.proofs.Common.{Contains-append_left, Contains-append_right, append_assoc, mapped_there}
use Rattle.gix_refspec_text.proofs.lemmas.lists.MapLemmas.{map_next}
use Rattle.gix_refspec_diff.specs.Private.Searches.{AddOverlaps, DecideShared, overlapping, with_words}

-- one more overlap
pub overlap_pushed : (prefix suffix : List ℕ) (lengths : List ℕ) (i k : ℕ) (old now new : List Source)
    → i < length lengths → k ≡ get_or lengths i k → now ≡ old ++ map (overlapping prefix suffix) (take i lengths)
    → new ≡ now ++ overlapping prefix suffix k ∷ []
    → new ≡ old ++ map (overlapping prefix suffix) (take (i + 1) lengths)
overlap_pushed prefix suffix lengths i k old now new below at so_far more =
    let of = overlapping prefix suffix in
    more ∙ ap (λ l. l ++ of k ∷ []) so_far ∙ append_assoc old (map of (take i lengths)) (of k ∷ [])
    ∙ ap (λ l. old ++ l) (sym (map_next of lengths i k below at))

-- those with each word, and those of the overlaps
pub decide_shared : (words : List (List ℕ)) (p t a b prefix suffix : List ℕ) (old now : List Source)
    → old ≡ with_words prefix suffix words → AddOverlaps p t a b prefix suffix old now
    → DecideShared words p t a b now
decide_shared words p t a b prefix suffix old now own adds = record {
  prefix = prefix;
  suffix = suffix;
  most = adds.most;
  texts = adds.texts;
  has = λ n deciding. subst (λ l. Contains l (name n)) (sym adds.all) (elim deciding [
    | inl (w, there, is) ↦ Contains-append_left old (map (overlapping prefix suffix) adds.lengths) (name n)
        (subst (λ l. Contains l (name n)) (sym own)
        (subst (λ m. Contains (with_words prefix suffix words) (name m)) (sym is)
        (mapped_there (λ (v : List ℕ). name (prefix ++ (v ++ suffix))) words w there)))
    | inr (k, below, overlap, is) ↦ Contains-append_right old (map (overlapping prefix suffix) adds.lengths) (name n)
        (subst (λ m. Contains (map (overlapping prefix suffix) adds.lengths) (name m)) (sym is)
        (mapped_there (overlapping prefix suffix) adds.lengths k (adds.are.all k below overlap)))
  ]);
}
