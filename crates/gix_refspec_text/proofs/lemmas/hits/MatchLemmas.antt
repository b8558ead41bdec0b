-- The refs that sides match, and the prefixes and candidates of sides.
use Rattle.gix_refspec_text.proofs.Common.{[], arith, ◌≡◌, ◌≢◌, ℕ, List, ◌∷◌, ◌++◌, codes, Option, None, Some, refl}
use Rattle.gix_refspec_text.proofs.Common.{sym, ap, ◌∙◌, subst, append-nil, append_cancel_left, append_cancel_right}
use Rattle.gix_refspec_text.proofs.Common.{Lacks, BeginsWith, IsSplit, star, head, SideKind, pattern, partial, HasKind}
use Rattle.gix_refspec_text.proofs.Common.{Ref, MatchesAs, HasNoPrefix, to_candidates, OneWord, PrefixBegins}
use Rattle.gix_refspec_text.proofs.Common.{Candidates}
use Rattle.gix_refspec_text.proofs.lemmas.hits.CandidateLemmas.{first_candidate, first_of_one, takes_first}
use Rattle.gix_refspec_text.proofs.lemmas.lists.LacksLemmas.{Lacks-here, first_once}

pub one_word : (before after n : List ℕ) → OneWord before after n
one_word before after n v w by_v by_w = append_cancel_right v w after
    (append_cancel_left before (v ++ after) (w ++ after) (sym by_v ∙ by_w))

pub lacks_no_pattern : (x before after : List ℕ) → Lacks star x → IsSplit before after x → ⊥
lacks_no_pattern x before after lacks split = Lacks-here star before after (subst (Lacks star) split.starred lacks)

pub split_once : (x before after fixed rest : List ℕ) → IsSplit before after x → IsSplit fixed rest x → (before ≡ fixed)
    × (after ≡ rest)
split_once x before after fixed rest a b = first_once star before fixed after rest a.first b.first
    (sym a.starred ∙ b.starred)

-- the case of a pattern: its prefix is the text before its star
pattern_begins : (x fixed rest : List ℕ) (k : SideKind) (r : Ref) (word : Option (List ℕ)) → IsSplit fixed rest x
    → HasKind x k → MatchesAs k r word → BeginsWith fixed r.name
pattern_begins x fixed rest (pattern before after) r None split kind fits = absurd fits
pattern_begins x fixed rest (pattern before after) r (Some word) split kind fits =
    let once = split_once x before after fixed rest kind split in
    record { after = word ++ after; here = fits ∙ ap (λ (y : List ℕ). y ++ (word ++ after)) once.0 }
pattern_begins x fixed rest k r word split kind fits = absurd (grind (arith, lacks_no_pattern))

pub prefix_begins : (x : List ℕ) → PrefixBegins x
prefix_begins x p r word h other matches = grind (arith, pattern_begins, lacks_no_pattern, append-nil)

pub begins_split : (x before after : List ℕ) → IsSplit before after x → BeginsWith (codes "refs/") before
    → BeginsWith (codes "refs/") x
begins_split x before after split below = record {
  after = below.after ++ (star ∷ after);
  here = split.starred
      ∙ ap (λ (y : List ℕ). y ++ (star ∷ after)) below.here;
}

pub outside_none : (x : List ℕ) → x ≢ head → ¬ (BeginsWith (codes "refs/") x) → HasNoPrefix x
outside_none x other outside p h = grind arith

pub has_candidates : (x : List ℕ) → Candidates x
has_candidates x lacks other outside no_id =
    let takes = λ (r : Ref). (takes_first x (r ∷ []) lacks outside no_id).takes r in record {
      expands = to_candidates (outside_none x other outside) outside no_id refl;
      only = λ list h. grind (arith, outside_none);
      matches = λ r. (
        λ found. grind (arith, lacks_no_pattern),
        λ one. (None, record { kind = partial x; of = (refl, lacks, outside, no_id); is = (refl, one) }),
      );
      takes = λ r. (
        λ found. first_candidate (r ∷ []) x r.name ((takes r).0 found),
        λ one. (takes r).1 (first_of_one x r one),
      );
    }
