-- Sides, candidates and matches: also texts of another kind, names that aren't candidates, and refs that aren't
-- matched.
use Rattle.gix_refspec_text.proofs.Common.{true, false, false≢true, list_any, bytes_eq-Decides, ap, ◌∙◌, ◌++◌, rules}
use Rattle.gix_refspec_text.proofs.Common.{map, ◌≡◌, ◌⊎◌, ℕ, List, [], ◌∷◌, Option, None, Some, codes, refl, sym, arith}
use Rattle.gix_refspec_text.proofs.Common.{star, SideKind, pattern, full_name, object, partial, IsId, HasKind}
use Rattle.gix_refspec_text.proofs.Common.{candidates, IsCandidate, Excludes, the_name, by_pattern, filled, MatchesAs}
use Rattle.gix_refspec_text.proofs.Common.{Matches, inl, inr, Lacks, HasOneStar, IsIdText, Normal, fetched, pushed}
use Rattle.gix_refspec_text.proofs.Common.{Fits, same_Some, bytes_eq}
use Rattle.gix_refspec_text.specs.Matching.Side.{full_name_of, written_name_of}
use Rattle.gix_refspec_text.specs.Laws.Sides.{SidesAgree, OneKind, OneId, OneOfEach}
use Rattle.gix_refspec_text.proofs.facts.FaultFacts.{begins_not}
use Rattle.gix_refspec_text.proofs.facts.ReasonFacts.{one_star_alone}
use Rattle.gix_refspec_text.proofs.readers.Texts.{differ, passes, passes_back}
use Rattle.gix_refspec_text.proofs.lemmas.hits.MatchLemmas.{has_candidates, lacks_no_pattern}
use Rattle.gix_refspec_text.proofs.lemmas.lists.LacksLemmas.{Lacks-here}
use Rattle.gix_refspec_text.proofs.lemmas.texts.TextLemmas.{one_not_two}
use Rattle.gix_refspec_text.proofs.facts.ManualFacts.{IsSplit-tested, Lacks-tested, named, other_length}
use Rattle.gix_refspec_text.proofs.facts.ObjectIdFacts.{lower_of-empty_blob, IsIdText-empty_blob, IsIdText-others}
use Rattle.gix_refspec_text.proofs.facts.ObjectIdFacts.{empty_blob}
use Rattle.gix_refspec_text.proofs.facts.FitFacts.{blob_kind, every, heads_split, origin_split, other_byte, short}
use Rattle.gix_refspec_text.proofs.facts.FitFacts.{short_kind, short_no_id}

pub kinds :
    -- the text of an id is in either case, and a short word isn't an id
    IsId (codes "e69de29bb2d1d6434b8b29ae775ad8c2e48c5391") × IsId (codes "E69DE29BB2D1D6434B8B29AE775AD8C2E48C5391")
    × ¬ (IsId (codes "main"))
    -- a full name isn't a partial one, and `refs` and a pattern aren't full names
    × ¬ (HasKind (codes "refs/heads/main") (partial (codes "refs/heads/main")))
    × ¬ (HasKind (codes "refs") (full_name (codes "refs")))
    × ¬ (HasKind (codes "refs/heads/*") (full_name (codes "refs/heads/*")))
    × ¬ (HasKind (codes "refs/heads/main") (full_name (codes "refs/heads/mai")))
    -- an id and a pattern aren't partial names, and a partial name isn't another text, a full name or an id
    × ¬ (HasKind (codes "e69de29bb2d1d6434b8b29ae775ad8c2e48c5391")
    (partial (codes "e69de29bb2d1d6434b8b29ae775ad8c2e48c5391"))) × ¬ (HasKind (codes "a*") (partial (codes "a*")))
    × ¬ (HasKind (codes "main") (partial (codes "mai"))) × ¬ (HasKind (codes "main") (full_name (codes "main")))
    × ((bytes : List ℕ) → ¬ (HasKind (codes "main") (object bytes)))
kinds = search (
  arith,
  IsIdText-empty_blob,
  IsIdText-others,
  begins_not,
  Lacks-here,
  other_length,
  short_kind,
  short_no_id,
)

-- a side with two stars has no kind
pub no_kind : (kind : SideKind) → ¬ (HasKind (codes "a*b*") kind)
no_kind (pattern before after) split = one_not_two star before after (codes "a") (codes "b") [] split.first split.last
    (sym split.starred)
no_kind kind is = grind (arith, Lacks-here star (codes "a") (codes "b*"))

-- whether a name is a candidate
candidate : (x n : List ℕ) → list_any (λ c. bytes_eq c n) (candidates x) ≡ true → IsCandidate x n
candidate x n so = let found = passes (λ c. bytes_eq c n) (candidates x) so in
    record {
      earlier = found.0;
      later = found.2;
      here = found.3 ∙ ap (λ c. found.0 ++ (c ∷ found.2))
          ((bytes_eq-Decides found.1 n).0 found.4);
    }

no_candidate : (x n : List ℕ) → list_any (λ c. bytes_eq c n) (candidates x) ≡ false → ¬ (IsCandidate x n)
no_candidate x n none is = false≢true (sym none ∙ ap (list_any (λ c. bytes_eq c n)) is.here
    ∙ passes_back (λ c. bytes_eq c n) is.earlier n is.later ((bytes_eq-Decides n n).1 refl))

-- the first and the last candidate are candidates, and a name in another directory isn't
pub main_candidates : IsCandidate (codes "main") (codes "main") × IsCandidate (codes "main")
    (codes "refs/remotes/main/HEAD") × ¬ (IsCandidate (codes "main") (codes "refs/x/main"))
main_candidates = search (rules, candidate, no_candidate)

-- a partial name matches a ref with the name of a candidate, and no other ref
pub partial_matches : MatchesAs (partial (codes "main")) (named (codes "refs/remotes/main/HEAD")) None
    × ¬ (MatchesAs (partial (codes "main")) (named (codes "refs/x/main")) None)
    × ((word : Option (List ℕ)) → ¬ (Matches (codes "main") (named (codes "refs/x/main")) word))
partial_matches =
    let all = has_candidates (codes "main") short_kind.1 (differ (codes "main") (codes "HEAD") refl) short_kind.2
    short_kind.3 in (
      (refl, main_candidates.1),
      (λ matches. main_candidates.2 matches.1),
      λ word matches. main_candidates.2
          ((all.matches (named (codes "refs/x/main"))).0 (word, matches)),
    )

-- a pattern matches with its word, but not with another word, and not without
pub pattern_matches : MatchesAs (pattern (codes "refs/") (codes "/a")) (named (codes "refs/x/a")) (Some (codes "x"))
    × ¬ (MatchesAs (pattern (codes "refs/") (codes "/a")) (named (codes "refs/x/a")) (Some (codes "xy")))
    × ¬ (MatchesAs (pattern (codes "refs/") (codes "/a")) (named (codes "refs/x/a")) None)
    × ¬ (MatchesAs (pattern (codes "refs/") (codes "/a")) (named (codes "refs/x/b")) (Some (codes "x")))
pattern_matches = search (arith, other_length, other_byte)

-- a text with two stars excludes nothing; a pattern excludes by its prefix and suffix, and a name only itself
pub excludes_little : ((n : List ℕ) → ¬ (Excludes (codes "a*b*") n)) × Excludes (codes "a/*/c") (codes "a/b/c")
    × ¬ (Excludes (codes "a/b") (codes "a/bc"))
excludes_little = (
  two_stars,
  by_pattern (codes "a/") (codes "/c") (codes "b") (IsSplit-tested (codes "a/") (codes "/c") refl refl)
      refl,
  search (rules, differ, lacks_no_pattern (codes "a/b"), Lacks-tested),
)
  where
    two_stars : (n : List ℕ) → ¬ (Excludes (codes "a*b*") n)
    two_stars n (the_name lacks same) = Lacks-here star (codes "a") (codes "b*") lacks
    two_stars n (by_pattern before after word split fits) = no_kind (pattern before after) split

pub filled_with_words :
    -- a pattern gets a word for its star, or keeps the star
    (map (filled (pattern (codes "refs/x/") (codes "/y"))) (Some (codes "main") ∷ None ∷ []) ≡ codes "refs/x/main/y"
    ∷ codes "refs/x/*/y" ∷ [])
    -- a word changes only a pattern, and a partial name gets just `refs/` only before `tags/` and `remotes/`; a full
    -- name stays, and an id is below `refs/heads/`
    × (map (λ x. filled x (Some (codes "w"))) (full_name (codes "refs/x/a") ∷ partial (codes "a") ∷ []) ≡ codes
    "refs/x/a" ∷ codes "refs/heads/a" ∷ [])
    × (map (λ x. filled (partial x) None)
    (codes "heads/a" ∷ codes "remotes" ∷ codes "x/tags/a" ∷ codes "main" ∷ codes "tags/v1" ∷ codes "remotes/o/main"
    ∷ codes "tagsv" ∷ []) ≡ codes "refs/heads/heads/a"
    ∷ codes "refs/heads/remotes" ∷ codes "refs/heads/x/tags/a" ∷ codes "refs/heads/main" ∷ codes "refs/tags/v1"
    ∷ codes "refs/remotes/o/main" ∷ codes "refs/heads/tagsv" ∷ [])
    × (filled (full_name (codes "refs/tags/blob")) None ≡ codes "refs/tags/blob")
    × (filled (object empty_blob) None ≡ codes "refs/heads/e69de29bb2d1d6434b8b29ae775ad8c2e48c5391")
filled_with_words = (refl, refl, refl, refl, ap (λ (x : List ℕ). codes "refs/heads/" ++ x) lower_of-empty_blob)

-- a fetch writes a destination below `refs/`: `refs/` is put only before `heads/`, `tags/` and `remotes/`
pub written_names :
    map written_name_of (codes "heads/a" ∷ codes "tags/v1" ∷ codes "remotes/o/a" ∷ codes "remotes" ∷ codes "x/tags/a"
    ∷ codes "refs/x" ∷ codes "refs" ∷ codes "changes/x" ∷ codes "pull/x" ∷ [])
    ≡ codes "refs/heads/a" ∷ codes "refs/tags/v1" ∷ codes "refs/remotes/o/a" ∷ codes "refs/heads/remotes"
    ∷ codes "refs/heads/x/tags/a"
    ∷ codes "refs/x" ∷ codes "refs/heads/refs" ∷ codes "refs/heads/changes/x" ∷ codes "refs/heads/pull/x" ∷ []
written_names = refl

-- the full name of a partial one: `refs/` is put only before `tags/` and `remotes/`
pub full_names :
    map full_name_of (codes "tags/v1" ∷ codes "remotes/o/a" ∷ codes "heads/a" ∷ codes "changes/x" ∷ codes "pull/x" ∷ [])
    ≡ codes "refs/tags/v1" ∷ codes "refs/remotes/o/a" ∷ codes "refs/heads/heads/a" ∷ codes "refs/heads/changes/x"
    ∷ codes "refs/heads/pull/x" ∷ []
full_names = refl

several_stars : ¬ (HasOneStar (codes "a*b*") ⊎ Lacks star (codes "a*b*"))
several_stars = search (rules, arith, one_star_alone, Lacks-here)

pub disagree :
    -- sides with a star on only one side, or with several stars, don't agree
    ¬ (SidesAgree (fetched Normal (codes "a*") (Some (codes "b"))))
    × ¬ (SidesAgree (pushed Normal (Some (codes "b")) (Some (codes "a*"))))
    × ¬ (SidesAgree (fetched Normal (codes "a*b*") None)) × ¬ (SidesAgree (pushed Normal None (Some (codes "a*b*"))))
    -- the sides of what `git clone` writes do, and so does a source alone
    × SidesAgree every × SidesAgree short
disagree = (
  (λ law. elim (law.both (codes "a*") (codes "b") refl refl) [
    | inl both ↦ one_star_alone.4 both.1
    | inr neither ↦
        Lacks-here star (codes "a") [] neither.0
  ]),
  (λ law. elim (law.both (codes "b") (codes "a*") refl refl) [
    | inl both ↦ one_star_alone.4 both.0
    | inr neither ↦
        Lacks-here star (codes "a") [] neither.1
  ]),
  (λ law. several_stars (law.each (codes "a*b*") (inl refl))),
  (λ law. several_stars (law.each (codes "a*b*") (inr refl))),
  search (arith, same_Some, heads_split, origin_split),
  search (arith, same_Some),
)

pub known :
    -- a side has no other kind, and a text no other id
    (OneKind (codes "main") → (k : SideKind) → HasKind (codes "main") k → k ≡ partial (codes "main"))
    × (OneId (codes "e69de29bb2d1d6434b8b29ae775ad8c2e48c5391") → (i : List ℕ)
    → IsIdText (codes "e69de29bb2d1d6434b8b29ae775ad8c2e48c5391") i → i ≡ empty_blob)
    -- the same from the law for any bytes
    × (OneOfEach → ((k : SideKind) → HasKind (codes "e69de29bb2d1d6434b8b29ae775ad8c2e48c5391") k
    → k ≡ object empty_blob) × ((word : List ℕ) → Fits (codes "a") [] (codes "ab") word → word ≡ codes "b")
    × ((i : List ℕ) → IsIdText (codes "e69de29bb2d1d6434b8b29ae775ad8c2e48c5391") i → i ≡ empty_blob))
known = (
  (λ law k is. law k _ is short_kind),
  (λ law i is. law i _ is IsIdText-empty_blob),
  λ law. (
    (λ k is. law.kind _ k _ is blob_kind),
    (λ w fits. law.word (codes "a") [] _ w (codes "b") fits refl),
    λ i is. law.id _ i _ is IsIdText-empty_blob,
  ),
)
