-- What the sides of a positive spec say of a merged ref.
use Rattle.gix_refspec_remote.proofs.Common.{◌≡◌, ℕ, List, Option, None, Some, option_map, MatchOption, sym, subst, ap}
use Rattle.gix_refspec_remote.proofs.Common.{◌∙◌, arith, same_Some, Reading, bstr_bytes, NameRef, name_bytes}
use Rattle.gix_refspec_remote.proofs.Common.{WrittenSides, AreWrittenIn, Fetches, IsText, Lacks, Names, Stores, Turns}
use Rattle.gix_refspec_remote.proofs.Common.{star}
use Rattle.gix_refspec_remote.proofs.lemmas.WrittenLemmas.{word_once}

module _ (r : Reading) (sides : WrittenSides) (are : AreWrittenIn r sides) where
  -- a spec whose source reads a ref fetches it
  pub fetches_read : (n : List ℕ) (word : Option (List ℕ)) → IsText (bstr_bytes sides.source) n word → Fetches n r
  fetches_read n word reads = record {
    positive = are.positive;
    source = bstr_bytes sides.source;
    is = are.source;
    word = word;
    reads = reads;
  }

  -- and no other ref
  pub fetches_not : (n : List ℕ) → ((word : Option (List ℕ)) → ¬ (IsText (bstr_bytes sides.source) n word))
      → ¬ (Fetches n r)
  fetches_not n never fetches = never fetches.word
      (subst (λ x. IsText x n fetches.word) (same_Some _ _ (sym fetches.is ∙ are.source)) fetches.reads)

  -- a spec names its source if that has no star
  pub read_names : (n : List ℕ) → IsText (bstr_bytes sides.source) n None → Names n r
  read_names n is = record {
    positive = are.positive;
    source = are.source ∙ ap Some (sym is.1);
    plain = subst (Lacks star) (sym is.1) is.0;
  }

  -- and no other ref
  pub names_read : (n : List ℕ) → Names n r → IsText (bstr_bytes sides.source) n None
  names_read n names =
      let same : n ≡ bstr_bytes sides.source = same_Some _ _ (sym names.source ∙ are.source) in
      (subst (Lacks star) same names.plain, same)

  -- without a destination a spec stores nothing
  pub stores_nowhere : sides.destination ≡ None → (d : List ℕ) → ¬ (r.destination ≡ Some d)
  stores_nowhere none d is = absurd (grind (arith, none, is, are.destination))

  -- it stores a ref in what its destination is with the same word
  pub stores_found : (n dest : List ℕ) (word : Option (List ℕ)) → r.destination ≡ Some dest
      → IsText (bstr_bytes sides.source) n word → (found : Option NameRef)
      → MatchOption found ((d : List ℕ) → ¬ (IsText dest d word)) (λ name. IsText dest (name_bytes name) word)
      → MatchOption found ((d : List ℕ) → ¬ (Stores n d r)) (λ name. Stores n (name_bytes name) r)
  unfolding fetches_read
  stores_found n dest word to reads None none = λ d stores.
      let source = same_Some _ _ (sym stores.fetches.is ∙ are.source) in
      let same = word_once (bstr_bytes sides.source) n stores.fetches.word word
      (subst (λ x. IsText x n stores.fetches.word) source stores.fetches.reads) reads in
      none d (subst (IsText dest d) same
      (subst (λ y. IsText y d stores.fetches.word) (same_Some _ _ (sym stores.is ∙ to)) stores.makes))
  stores_found n dest word to reads (Some name) makes = record {
    fetches = fetches_read n word reads;
    destination = dest;
    is = to;
    makes = makes;
  }

  -- a spec whose destination doesn't read a ref with a word stores nothing in it by a pattern
  pub turns_not : (n dest : List ℕ) → r.destination ≡ Some dest → ((w : List ℕ) → ¬ (IsText dest n (Some w)))
      → (s : List ℕ) → ¬ (Turns n s r)
  turns_not n dest to never s turns = never turns.word
      (subst (λ y. IsText y n (Some turns.word)) (same_Some _ _ (sym turns.to ∙ to)) turns.reads)

  -- otherwise it stores there what its source is with the same word
  pub turns_found : (n dest w : List ℕ) → r.destination ≡ Some dest → IsText dest n (Some w)
      → (found : Option NameRef)
      → MatchOption found ((s : List ℕ) → ¬ (IsText (bstr_bytes sides.source) s (Some w)))
      (λ name. IsText (bstr_bytes sides.source) (name_bytes name) (Some w))
      → MatchOption found ((s : List ℕ) → ¬ (Turns n s r)) (λ name. Turns n (name_bytes name) r)
  turns_found n dest w to reads None none = λ s turns.
      let same = same_Some _ _ (word_once dest n (Some turns.word) (Some w)
      (subst (λ y. IsText y n (Some turns.word)) (same_Some _ _ (sym turns.to ∙ to)) turns.reads) reads) in
      none s (subst (λ v. IsText (bstr_bytes sides.source) s (Some v)) same
      (subst (λ x. IsText x s (Some turns.word)) (same_Some _ _ (sym turns.from ∙ are.source)) turns.makes))
  turns_found n dest w to reads (Some name) makes = record {
    positive = are.positive;
    source = bstr_bytes sides.source;
    from = are.source;
    destination = dest;
    to = to;
    word = w;
    reads = reads;
    makes = makes;
  }
