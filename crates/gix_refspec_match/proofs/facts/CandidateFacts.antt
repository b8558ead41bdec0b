-- Which candidate a partial source takes: the first by gitrevisions(7) that is there, not the first in the list of
-- refs.
use Rattle.gix_refspec_match.proofs.Common.{List, [], ◌∷◌, None, Some, codes, refl, ◌≡◌, ℕ, Option, arith, inl, inr}
use Rattle.gix_refspec_match.proofs.Common.{taken_by_first, first_once, FirstCandidate, rules, take, candidates}
use Rattle.gix_refspec_match.proofs.Common.{fetched, Ref, Matches, Takes, IsFirstCandidate, HasKind, full_name}
use Rattle.gix_refspec_match.proofs.Common.{Excludes, partial, by_pattern, Normal, Negative, Reading, Ends}
use Rattle.gix_refspec_match.proofs.Common.{AreForwardEnds, Hit, IsHit, AreSpecHits, AreKeptForward, AreKeptBackward}
use Rattle.gix_refspec_match.proofs.Common.{IsExcluded}
use Rattle.gix_refspec_match.proofs.facts.MatchFacts.{mapping, main_candidate, no_main_id, keeps, keeps_back}
use Rattle.gix_refspec_text.proofs.facts.FitFacts.{below_tags, short_kind, short_no_id}
use Rattle.gix_refspec_text.proofs.facts.{ManualFacts.{Lacks-tested, named}, SideFacts.partial_matches}

abbrev pub main_branch : Ref
main_branch = named (codes "refs/heads/main")

abbrev pub main_tag : Ref
main_tag = named (codes "refs/tags/main")

abbrev pub branch_and_tag : List Ref
branch_and_tag = main_branch ∷ main_tag ∷ []

-- of a branch and a tag, the tag is the first candidate, wherever it is. The name itself is before both, and the last
-- candidate is the first where it is there alone
pub firsts : IsFirstCandidate branch_and_tag (codes "main") (codes "refs/tags/main")
    × IsFirstCandidate (main_branch ∷ main_tag ∷ named (codes "main") ∷ []) (codes "main") (codes "main")
    × IsFirstCandidate (named (codes "refs/remotes/x/HEAD") ∷ []) (codes "x") (codes "refs/remotes/x/HEAD")
firsts = (
  record {
    earlier = codes "main" ∷ codes "refs/main" ∷ [];
    later = _;
    here = refl;
    absent = search rules;
    present =
        search rules;
  },
  record { earlier = []; later = _; here = refl; absent = tt; present = search rules },
  record {
    earlier = take 5 (candidates (codes "x"));
    later = [];
    here = refl;
    absent = search rules;
    present =
        inl refl;
  },
)

-- so the branch isn't the first, nor is a name that no ref has
pub no_other_first : ¬ (IsFirstCandidate branch_and_tag (codes "main") (codes "refs/heads/main"))
    × ¬ (IsFirstCandidate branch_and_tag (codes "main") (codes "main"))
    × ¬ (IsFirstCandidate [] (codes "main") (codes "refs/tags/main"))
no_other_first = (
  (λ first. cc (first_once branch_and_tag _ _ _ firsts.0 first)),
  (λ first. grind (arith, first.present)),
  λ first. first.present,
)

-- the source takes the tag, and not the branch, though it matches both
pub takes_the_tag : Takes branch_and_tag (codes "main") main_tag None
    × ((word : Option (List ℕ)) → ¬ (Takes branch_and_tag (codes "main") main_branch word))
    × Matches (codes "main") main_branch None
takes_the_tag =
    let branch : Matches (codes "main") main_branch None = record {
      kind = partial (codes "main");
      of = short_kind;
      is =
          (refl, main_candidate);
    } in (
      taken_by_first branch_and_tag _ main_tag short_kind firsts.0,
      (λ word takes. no_other_first.0 (takes.first _ short_kind)),
      branch,
    )

-- a full name takes what it matches, whatever the refs are, and no side takes what it doesn't match
pub takes : Takes [] (codes "refs/tags/blob") (named (codes "refs/tags/blob")) None
    × ((word : Option (List ℕ))
    → ¬ (Takes (named (codes "refs/x/main") ∷ []) (codes "main") (named (codes "refs/x/main")) word))
takes = (
  record {
    matches = record { kind = full_name (codes "refs/tags/blob"); of = below_tags; is = (refl, refl) };
    first = λ n kind. absurd (kind.2 below_tags.2);
  },
  λ word taken. partial_matches.2 word taken.matches,
)

-- from the law: a caller with a branch and a tag gets the tag alone, and one with a ref of some candidate gets one
pub concluded : FirstCandidate (codes "main") branch_and_tag
    → ((r : Ref) (word : Option (List ℕ)) → Takes branch_and_tag (codes "main") r word
    → r.name ≡ codes "refs/tags/main")
    × ((m : List ℕ) × IsFirstCandidate branch_and_tag (codes "main") m)
    × ((word : Option (List ℕ)) × Takes branch_and_tag (codes "main") main_tag word)
concluded law =
    let first = law short_kind.1 short_kind.2 short_kind.3 in (
      (λ r word takes. first.one r.name _ ((first.takes r).0 (word, takes)) firsts.0),
      first.some (codes "refs/heads/main") main_candidate (inl refl),
      (first.takes main_tag).1 firsts.0,
    )

abbrev pub main_to_x : Reading
main_to_x = fetched Normal (codes "main") (Some (codes "refs/x"))

abbrev pub main_ends : Ends
main_ends = record { near = codes "main"; far = Some (codes "refs/x") }

abbrev pub no_tags : Reading
no_tags = fetched Negative (codes "refs/tags/*") None

pub x_kind : HasKind (codes "refs/x") (full_name (codes "refs/x"))
x_kind = search (arith, Lacks-tested)

abbrev tag_hits : List Hit
tag_hits = record { spec = 0; item = 1; near = codes "refs/tags/main"; far = Some (codes "refs/x") } ∷ []

main_hits : AreSpecHits AreForwardEnds (Takes branch_and_tag) branch_and_tag 0 main_to_x tag_hits
main_hits = inl (
  main_ends,
  search (rules, short_no_id),
  (None, _, (λ hit is. takes_the_tag.1 is.word is.takes), (Some _, [], tagged, refl, refl), refl),
)
  where
    tagged : IsHit (Takes branch_and_tag) main_ends 0 1 main_tag
        (record { spec = 0; item = 1; near = codes "refs/tags/main"; far = Some (codes "refs/x") })
    tagged = record {
      word = None;
      takes = takes_the_tag.0;
      far = (full_name (codes "refs/x"), x_kind, refl);
      near =
          refl;
      spec = refl;
      item = refl;
    }

pub not_excluded : (n : List ℕ) → ¬ (IsExcluded (main_to_x ∷ []) n)
not_excluded n by = grind arith

pub tags_excluded : Excludes (codes "refs/tags/*") (codes "refs/tags/main")
tags_excluded = by_pattern (codes "refs/tags/") [] (codes "main") (search (rules, Lacks-tested)) refl

-- a branch that is before its tag isn't mapped, and the tag is. The choice is made before exclusions: where the tag is
-- left out, the branch isn't mapped in its place
pub maps_the_tag : AreKeptForward (main_to_x ∷ []) branch_and_tag
    (mapping 1 (codes "refs/tags/main") (Some (codes "refs/x")) 0 ∷ [])
    × AreKeptForward (main_to_x ∷ no_tags ∷ []) branch_and_tag []
maps_the_tag = (
  keeps _ branch_and_tag [] _ tag_hits (None, [], no_main_id 0 main_to_x refl, refl, refl)
      (tag_hits, [], main_hits, refl, refl) (Some _, [], search (rules, not_excluded), refl, refl),
  keeps _ branch_and_tag [] [] tag_hits (None, [], no_main_id 0 main_to_x refl, search rules, refl)
      (tag_hits, [], main_hits, search rules, refl)
      (None, [], (λ m stays. stays.1.included (inr (inl (search (rules, tags_excluded))))), refl, refl),
)

abbrev q_hit : ℕ → Ref → Hit
q_hit item r = record { spec = 0; item = item; near = r.name; far = Some (codes "refs/q") }

-- the branch and the tag are both mapped back, in the order of the list
pub tracks_both : AreKeptBackward (fetched Normal (codes "refs/q") (Some (codes "main")) ∷ []) branch_and_tag
    (mapping 0 (codes "refs/q") (Some (codes "refs/heads/main")) 0 ∷ mapping 1 (codes "refs/q")
    (Some (codes "refs/tags/main")) 0 ∷ [])
tracks_both = keeps_back _ branch_and_tag _ (q_hit 0 main_branch ∷ q_hit 1 main_tag ∷ []) (
  _,
  [],
  inl (
    _,
    search rules,
    (
      Some _,
      _,
      tracked_at 0 main_branch takes_the_tag.2,
      (Some _, [], tracked_at 1 main_tag takes_the_tag.0.matches, refl, refl),
      refl,
    ),
  ),
  refl,
  refl,
)
    (Some _, _, search rules, (Some _, [], search rules, refl, refl), refl)
  where
    tracked_at : (item : ℕ) (r : Ref) → Matches (codes "main") r None
        → IsHit Matches (record { near = codes "main"; far = Some (codes "refs/q") }) 0 item r (q_hit item r)
    tracked_at item r matches =
        record {
          word = None;
          takes = matches;
          far = (full_name (codes "refs/q"), search (arith, Lacks-tested), refl);
          near = refl;
          spec = refl;
          item = refl;
        }
