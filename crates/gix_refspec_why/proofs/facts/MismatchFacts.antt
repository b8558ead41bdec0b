-- Examples of names that sources don't match, and why; and of names that negative specs exclude. What git 2.39.5 does
-- with these sources and names is the same.
use Rattle.gix_refspec_why.proofs.Common.{◌≡◌, ◌++◌, ◌∷◌, [], ℕ, List, None, Some, codes, refl, sym, ap, arith, length}
use Rattle.gix_refspec_why.proofs.Common.{length-append, BeginsWith, AgreeAtEnd, AgreeAtStart}
use Rattle.gix_refspec_why.proofs.Common.{IsExcludedWith, IsPatternMismatch, star, ◌+◌, ◌∙◌, take, take-append-le}
use Rattle.gix_refspec_why.proofs.Common.{take_all, Ref, Reading, Negative, Misses, by_kind, by_name, sourceless}
use Rattle.gix_refspec_why.proofs.Common.{lacks_no_pattern, same_Some, append_assoc}
use Rattle.gix_refspec_why.proofs.lemmas.SourceLemmas.{pattern_unmatched}
use Rattle.gix_refspec_why.proofs.lemmas.TextLemmas.{agree_once, push_once}
use Rattle.gix_refspec_text.proofs.facts.FitFacts.{heads_split, split_at_end}
use Rattle.gix_refspec_text.proofs.lemmas.hits.CandidateLemmas.{first_of_one, first_once}
use Rattle.gix_refspec_text.proofs.readers.Texts.{Lacks-tested, begins_not, differ}
use Rattle.gix_refspec_text.specs.Specs.Grammar.{fetched}
use Rattle.gix_refspec_match.proofs.facts.CandidateFacts.{branch_and_tag, firsts, main_branch, main_tag}
use Rattle.gix_refspec_match.proofs.facts.MatchFacts.{main_candidate}
use Rattle.gix_refspec_why.specs.Matching.Why.{IsPartialMismatch, by_pattern}
use Rattle.gix_refspec_why.specs.declared.Mismatch.{Mismatch}
use Rattle.gix_refspec_why.specs.declared.Mismatch.TheVariants.{EarlierCandidate, NoCandidate, OtherName, Overlap}
use Rattle.gix_refspec_why.specs.declared.Mismatch.TheVariants.{Suffix}

-- `^refs/heads/main`
abbrev no_main : Reading
no_main = fetched Negative (codes "refs/heads/main") None

first_byte : (b c : ℕ) (x : List ℕ) → BeginsWith (b ∷ []) (c ∷ x) → c ≡ b
first_byte b c x begins = let here = begins.here in cc (here)

-- the prefix of `refs/heads/*` and the name `refs/tags/a` agree in five bytes
pub five_agree : AgreeAtStart (codes "refs/heads/") (codes "refs/tags/a") 5
five_agree = record {
  shared = codes "refs/";
  x_rest = codes "heads/";
  y_rest = codes "tags/a";
  of_x = refl;
  of_y = refl;
  size = refl;
  apart = λ b of_x of_y.
      let h = first_byte b 104 (codes "eads/") of_x in
      let t = first_byte b 116 (codes "ags/a") of_y in
      omega (arith, h, t);
}

-- and not in four
pub four_are_few : ¬ (AgreeAtStart (codes "refs/heads/") (codes "refs/tags/a") 4)
four_are_few agree = let same = agree_once (codes "refs/heads/") (codes "refs/tags/a") 4 5 agree five_agree in
    omega (arith, same)

-- where the name ends all of its bytes count
pub name_ends : AgreeAtStart (codes "refs/heads/") (codes "refs/he") 7
name_ends = record {
  shared = codes "refs/he";
  x_rest = codes "ads/";
  y_rest = [];
  of_x = refl;
  of_y = refl;
  size = refl;
  apart = λ b of_x of_y. let none = of_y.here in cc (none);
}

-- the suffix of `refs/pull/*/head` and the name `refs/pull/7/bread` agree in three bytes
pub three_agree : AgreeAtEnd (codes "/head") (codes "refs/pull/7/bread") 3
three_agree = record {
  shared = codes "ead";
  x_rest = codes "/h";
  y_rest = codes "refs/pull/7/br";
  of_x = refl;
  of_y = refl;
  size = refl;
  apart = λ b of_x of_y. let h = push_once (codes "/") of_x.before 104 b of_x.here in
      let r = push_once (codes "refs/pull/7/b") of_y.before 114 b of_y.here in
      omega (arith, h, r);
}

-- what precedes the last bytes of a text
front_of : (x a s : List ℕ) (k : ℕ) → x ≡ a ++ s → length s + k ≡ length x → take k x ≡ a
front_of x a s k is size =
    let long = ap length is in
    let all : length a ≡ k = omega (arith, simp length-append at long, size) in
    ap (take k) is ∙ take-append-le k a s (omega (arith, all)) ∙ take_all k a (omega (arith, all))

-- and not in two
pub two_are_few : ¬ (AgreeAtEnd (codes "/head") (codes "refs/pull/7/bread") 2)
two_are_few agree =
    let size = agree.size in
    let x = front_of (codes "/head") agree.x_rest agree.shared 3 agree.of_x (omega (arith, size)) in
    let y = front_of (codes "refs/pull/7/bread") agree.y_rest agree.shared 15 agree.of_y (omega (arith, size)) in
    agree.apart 101 (record { before = codes "/h"; here = sym x })
    (record { before = codes "refs/pull/7/br"; here = sym y })

-- `refs/heads/a*a` doesn't match `refs/heads/a`, in which its prefix and its suffix would overlap
pub overlapping : IsPatternMismatch (codes "refs/heads/a") (codes "a") (codes "refs/heads/a") Overlap
overlapping = (
  record { after = []; here = refl },
  record { before = codes "refs/heads/"; here = refl },
  λ word fits. let long = ap length fits in omega (arith, simp length-append at long),
)

-- it matches `refs/heads/aa`, so no reason is right
pub side_by_side : (m : Mismatch) → ¬ (IsPatternMismatch (codes "refs/heads/a") (codes "a") (codes "refs/heads/aa") m)
side_by_side m mis = pattern_unmatched (codes "refs/heads/a") (codes "a") (codes "refs/heads/aa") m mis [] refl

-- where both prefix and suffix differ, it is the prefix that is told
pub suffix_second : (count : ℕ)
    → ¬ (IsPatternMismatch (codes "refs/heads/") (codes "/head") (codes "refs/tags/a") (Suffix count))
suffix_second count mis = begins_not (codes "refs/heads/") (codes "refs/tags/a") refl mis.0

-- and where the suffix differs, nothing overlaps
pub no_overlap : ¬ (IsPatternMismatch (codes "refs/heads/") (codes "/head") (codes "refs/heads/a") Overlap)
    × ¬ (IsPatternMismatch (codes "refs/heads/a") (codes "a") (codes "refs/tags/a") Overlap)
no_overlap = (
  (λ mis. let last = push_once (codes "refs/heads/") (mis.1.before ++ codes "/hea") 97 100
      (mis.1.here ∙ sym (append_assoc mis.1.before (codes "/hea") (codes "d"))) in omega (arith, last)),
  λ mis. begins_not (codes "refs/heads/a") (codes "refs/tags/a") refl mis.0,
)

-- ---- partial names

-- `main` takes the tag, if a branch and a tag have this name: so the branch has an earlier candidate, which is named
pub earlier : IsPartialMismatch branch_and_tag (codes "main") (codes "refs/heads/main") (EarlierCandidate 1)
    × ¬ (IsPartialMismatch branch_and_tag (codes "main") (codes "refs/heads/main") (EarlierCandidate 0))
earlier = (
  (
    main_candidate,
    (
      codes "refs/tags/main",
      firsts.0,
      differ (codes "refs/tags/main") (codes "refs/heads/main") refl,
      (
        main_tag,
        record {
          at = refl;
          holds = refl;
          before =
              (differ (codes "refs/heads/main") (codes "refs/tags/main") refl, tt);
        },
      ),
    ),
  ),
  λ (one, (m, first, other, (r, at))).
      let tag = first_once branch_and_tag (codes "main") (codes "refs/tags/main") m firsts.0 first in
      let same : main_branch ≡ r = cc (at.at) in
      other (sym at.holds ∙ ap (λ (r : Ref). r.name) (sym same)),
)

-- where the branch alone is there, it is its first candidate
pub first_itself :
    ¬ (IsPartialMismatch (main_branch ∷ []) (codes "main") (codes "refs/heads/main") (EarlierCandidate 0))
    × ((refs : List Ref) → ¬ (IsPartialMismatch refs (codes "main") (codes "refs/heads/main") NoCandidate))
first_itself = (
  (λ (one, (m, first, other, at)). other (first_once (main_branch ∷ []) (codes "main") m (codes "refs/heads/main") first
      (first_of_one (codes "main") main_branch main_candidate))),
  λ refs none. none main_candidate,
)

-- ---- other names

-- a negative spec doesn't miss its own name
pub own_name : (refs : List Ref) → ¬ (Misses refs no_main (codes "refs/heads/main") OtherName)
own_name refs (sourceless none is) = cc (none)
own_name refs (by_kind positive x kind source of mis) = positive refl
own_name refs (by_name negative x source lacks other is) = other (same_Some _ _ source)
own_name refs (by_pattern negative x before after source split mis) = mis

-- ---- exclusions

-- `^refs/heads/w*` excludes `refs/heads/wip`, and its star stands for the two bytes from the twelfth on
pub two_bytes : IsExcludedWith (codes "refs/heads/w*") (codes "refs/heads/wip") (Some (record { start = 12; len = 2 }))
two_bytes = (
  codes "refs/heads/w",
  [],
  codes "ip",
  split_at_end (codes "refs/heads/w") refl,
  refl,
  refl,
  refl,
)

-- a pattern isn't taken for a name
pub no_star_alone : ¬ (IsExcludedWith (codes "refs/heads/*") (codes "refs/heads/*") None)
no_star_alone is = lacks_no_pattern (codes "refs/heads/*") (codes "refs/heads/") [] is.0 heads_split

-- `^refs/heads/wip` excludes it without a star
pub no_star : IsExcludedWith (codes "refs/heads/wip") (codes "refs/heads/wip") None
no_star = (Lacks-tested star (codes "refs/heads/wip") refl, refl)
