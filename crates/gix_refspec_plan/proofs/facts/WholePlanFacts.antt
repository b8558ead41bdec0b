-- Examples of the definitions on plans over the branches of a remote: what is tracked besides, and a whole plan.
use Rattle.gix_refspec_plan.proofs.Common.{◌≡◌, get_or, HasPair, HasOrigin, IsTakenOver, rules, inl, inr, ℕ, ◌+◌, false}
use Rattle.gix_refspec_plan.proofs.Common.{List, [], ◌∷◌, ◌++◌, None, Some, codes, map, refl, sym, ap, arith}
use Rattle.gix_refspec_plan.proofs.Common.{AllByRecursion, AllZip, append-nil, same_Some, Forced, Negative, Reading}
use Rattle.gix_refspec_plan.proofs.Common.{fetched, IsSplit, pattern, the_name, lacks_no_pattern, Ref, Takes}
use Rattle.gix_refspec_plan.proofs.Common.{IsMadeFrom, Mapped, AreAsked, AreConfigured, AreMapped, AreNested}
use Rattle.gix_refspec_plan.proofs.Common.{AreUncovered, IsObstructed, Asked, IsCompleted, IsNegativeReading, IsPlan}
use Rattle.gix_refspec_plan.proofs.Common.{IsTakenAt, IsTracked, Wish, Origin, Configured, Given, Written}
use Rattle.gix_refspec_plan.proofs.facts.ExampleLemmas.{IsKept, AreForwardEnds, Hit, IsHit, alone, every}
use Rattle.gix_refspec_plan.proofs.facts.ExampleLemmas.{forward_beside, forward_of, heads_split, listed, merged}
use Rattle.gix_refspec_plan.proofs.facts.ExampleLemmas.{main_ref, mapping, named, no_dev, nothing_in, none_excluded}
use Rattle.gix_refspec_plan.proofs.facts.ExampleLemmas.{not_excluded, pair_clear, one_in, one_merge, origin_split}
use Rattle.gix_refspec_plan.proofs.facts.ExampleLemmas.{ref_names, sound, update, whole_pattern}
use Rattle.gix_refspec_text.specs.Matching.Side.{Excludes}
use Rattle.gix_refspec_text.proofs.facts.FitFacts.{dev_ref, excludes_dev, excludes_no_main, split_at_end}

abbrev branch : List ℕ → Ref
branch name = named (codes "refs/heads/" ++ name)

abbrev no_main : Reading
no_main = fetched Negative (codes "refs/heads/main") None

module _ (far : List ℕ) where
  -- the spec that writes the branches below a folder, what it takes of branches, and the mapping of one
  abbrev to_below : Reading
  to_below = fetched Forced (codes "refs/heads/*") (Some (far ++ codes "*"))

  abbrev hits : ℕ → List (List ℕ) → List Hit
  hits j [] = []
  hits j (x ∷ xs) = record { spec = 0; item = j; near = codes "refs/heads/" ++ x; far = Some (far ++ (x ++ [])) } ∷ hits
      (j + 1) xs

  abbrev below_at : ℕ → List ℕ → Mapped
  below_at item name = mapping item (codes "refs/heads/" ++ name) (Some (far ++ (name ++ []))) 0

module _ (far : List ℕ) (split : IsSplit far [] (far ++ codes "*")) where
  -- the spec takes each branch; beside negative specs the mappings of these are all, of which some are kept
  hit : (l : List Ref) (j : ℕ) (names : List (List ℕ))
      → IsMadeFrom (IsHit (Takes l) (record { near = codes "refs/heads/*"; far = Some (far ++ codes "*") }) 0) j
      (map branch names) (hits far j names)
  hit l j [] = refl
  hit l j (x ∷ xs) =
      let m = hit l (j + 1) xs in
      let it : Takes l (codes "refs/heads/*") (branch x) (Some x) = record {
        matches = record {
          kind = pattern (codes "refs/heads/") [];
          of = heads_split;
          is =
              ap (λ (y : List ℕ). codes "refs/heads/" ++ y) (sym (append-nil x));
        };
        first = λ n kind. absurd (lacks_no_pattern (codes "refs/heads/*") (codes "refs/heads/") [] kind.1 heads_split);
      } in (
        Some _,
        _,
        record {
          word = Some x;
          takes = it;
          far = (pattern far [], split, refl);
          near = refl;
          spec = refl;
          item = refl;
        },
        m,
        refl,
      )

  mapped : (names : List (List ℕ)) (o : Origin) (l : List Asked) (kept : List Mapped)
      → AllZip IsCompleted (map (λ a. a.reading) l) (map (λ a. a.reading) l) → AllByRecursion IsNegativeReading
      (map (λ a. a.reading) l)
      → IsKept (to_below far ∷ map (λ a. a.reading) l) (map forward_of (hits far 0 names)) kept
      → AreMapped (listed (to_below far) o ∷ l) (map branch names) kept
  mapped names o l kept done negative is =
      let near : AreForwardEnds (to_below far) (record { near = codes "refs/heads/*"; far = Some (far ++ codes "*") }) =
      record { positive = tt; near = refl; far = refl; no_object = λ bytes kind. grind arith } in
      let all = forward_beside _ _ (hits far 0 names) near negative (hit (map branch names) 0 names) in
      record { completed = _; are = (whole_pattern far, done); kept = record { all = _; forward = all; is = is } }

-- a merged ref that a configured spec maps and another excludes isn't covered
pub excluded_uncovered :
    AreUncovered (record {
      given = [];
      configured = every ∷ no_main ∷ [];
      merges = codes "refs/heads/main" ∷ [];
      tags =
          false;
    }) (main_ref ∷ []) (merged (codes "refs/heads/main") ∷ [])
excluded_uncovered =
    let name : Excludes (codes "refs/heads/main") (codes "refs/heads/main") = the_name (search (rules, arith)) refl in
    let none = mapped (codes "refs/remotes/origin/") origin_split (codes "main" ∷ []) (Configured 0)
    (listed no_main (Configured 1) ∷ []) [] (search rules, tt) (refl, tt)
    (None, [], (λ m is. is.1.included (inr (inl (search (rules, name))))), refl, refl) in
    inr (
      listed every (Configured 0) ∷ listed no_main (Configured 1) ∷ [],
      [],
      (Some _, _, (refl, tt), (Some _, [], (refl, tt), refl, refl), refl),
      none,
      one_merge _ [] ref_names.0 (λ covers. grind arith),
    )

-- a merged ref that no spec maps is behind what is configured
pub merges_behind :
    AreConfigured (record { given = []; configured = every ∷ []; merges = codes "refs/heads/main" ∷ []; tags = false })
    [] (listed every (Configured 0) ∷ merged (codes "refs/heads/main") ∷ [])
merges_behind = AreConfigured.by_configuration (listed every (Configured 0) ∷ []) _ (inl (λ none. cc))
    (Some _, [], (refl, tt), refl, refl)
    (inr (
      listed every (Configured 0) ∷ [],
      [],
      (Some _, [], (refl, tt), refl, refl),
      mapped _ origin_split [] (Configured 0) [] [] tt tt refl,
      one_merge _ [] ref_names.0 (λ covers. grind arith),
    ))
    refl

-- a fetch of the branches without `dev-*`, besides which all are configured
abbrev fetch_branches : Wish
fetch_branches = record {
  given = to_below (codes "refs/x/") ∷ no_dev ∷ [];
  configured = every ∷ [];
  merges = [];
  tags =
      false;
}

abbrev main_below : List ℕ → Mapped
main_below far = below_at far 1 (codes "main")

module _ (far : List ℕ) (split : IsSplit far [] (far ++ codes "*")) where
  -- the negative spec excludes dev-a; without it both branches are mapped
  main_mapped : (o p : Origin) → AreMapped (listed (to_below far) o ∷ listed no_dev p ∷ []) (dev_ref ∷ main_ref ∷ [])
      (main_below far ∷ [])
  main_mapped o p = mapped far split (codes "dev-a" ∷ codes "main" ∷ []) o (listed no_dev p ∷ []) (main_below far ∷ [])
      (search rules, tt) (refl, tt) (
        None,
        _,
        (λ m is. is.1.included (inr (inl (search (rules, excludes_dev))))),
        (
          Some _,
          [],
          (refl, record { first = λ pair. grind arith; included = not_excluded tt excludes_no_main }),
          refl,
          refl,
        ),
        refl,
      )

-- the configured spec is applied to the branches that the call takes, and the negative spec of the call excludes from
-- them
pub tracked : IsTracked fetch_branches (dev_ref ∷ main_ref ∷ [])
    (listed every (Configured 0) ∷ listed no_dev (Given 1) ∷ []) (0 ∷ 1 ∷ [])
    (main_below (codes "refs/remotes/origin/") ∷ [])
tracked =
    let taken = mapped (codes "refs/x/") (split_at_end (codes "refs/x/") refl) (codes "dev-a" ∷ codes "main" ∷ [])
    (Given 0) [] (below_at (codes "refs/x/") 0 (codes "dev-a") ∷ main_below (codes "refs/x/") ∷ []) tt tt (
      Some _,
      _,
      (refl, record { first = λ none. none; included = none_excluded tt }),
      (Some _, [], (refl, record { first = λ pair. grind arith; included = none_excluded tt }), refl, refl),
      refl,
    ) in
    let dev : IsTakenAt (below_at (codes "refs/x/") 0 (codes "dev-a") ∷ main_below (codes "refs/x/") ∷ []) 0 =
    (_, (0, omega arith, refl), sound _ _ refl refl, refl) in
    let main : IsTakenAt (below_at (codes "refs/x/") 0 (codes "dev-a") ∷ main_below (codes "refs/x/") ∷ []) 1 =
    (_, (1, omega arith, refl), sound _ _ refl refl, refl) in
    IsTracked.by_call (listed every (Configured 0) ∷ []) (listed no_dev (Given 1) ∷ []) (dev_ref ∷ main_ref ∷ [])
    (λ none. cc)
    (Some _, [], (refl, tt), refl, refl) (
      None,
      _,
      (λ a both. cc (both.1)),
      (Some _, [], (refl, refl), refl, refl),
      refl,
    ) refl
    (record {
      asked = listed (to_below (codes "refs/x/")) (Given 0) ∷ [];
      mapped = _;
      are_asked = (Some _, [], (refl, tt), (None, [], (λ a both. both.1), refl, refl), refl);
      are_mapped = taken;
      are_indexes = (Some 0, _, (refl, dev), (Some 1, [], (refl, main), refl, refl), refl);
      are_taken = (Some dev_ref, _, (refl, dev), (Some main_ref, [], (refl, main), refl, refl), refl);
    })
    (main_mapped (codes "refs/remotes/origin/") origin_split (Configured 0) (Given 1))

-- a ref that no spec of the call takes isn't tracked
pub untaken : IsTracked (record { given = no_dev ∷ []; configured = every ∷ []; merges = []; tags = false })
    (main_ref ∷ []) (listed every (Configured 0) ∷ listed no_dev (Given 0) ∷ []) [] []
untaken =
    let none : (k : ℕ) → ¬ (IsTakenAt [] k) = λ k (m, has, is, at). nothing_in [] m refl has in
    IsTracked.by_call (listed every (Configured 0) ∷ []) (listed no_dev (Given 0) ∷ []) [] (λ none. cc)
    (Some _, [], (refl, tt), refl, refl) (Some _, [], (refl, refl), refl, refl) refl
    (record {
      asked = [];
      mapped = [];
      are_asked = (None, [], (λ a both. both.1), refl, refl);
      are_mapped = record {
        completed = [];
        are = tt;
        kept =
            record {
              all = [];
              forward = record { ids = []; hits = []; are_ids = refl; are_hits = refl; all = refl };
              is =
                  refl;
            };
      };
      are_indexes = (None, [], (λ k told. none 0 told.1), refl, refl);
      are_taken = (None, [], (λ r told. none 0 told.1), refl, refl);
    })
    (mapped (codes "refs/remotes/origin/") origin_split [] (Configured 0) (listed no_dev (Given 0) ∷ []) []
    (search rules, tt) (refl, tt) refl)

no_nest : ¬ (AreNested (codes "refs/x/main") (codes "refs/remotes/origin/main"))
no_nest (inl is) = let differ : 120 ≡ 114 = sym (ap (λ (l : List ℕ). get_or l 5 0) is.here) in omega (arith, differ)
no_nest (inr is) = let differ : 114 ≡ 120 = sym (ap (λ (l : List ℕ). get_or l 5 0) is.here) in omega (arith, differ)

-- refs/x/main and refs/remotes/origin/main aren't in each other's way
both_clear : ¬ (IsObstructed (main_below (codes "refs/x/") ∷ main_below (codes "refs/remotes/origin/") ∷ [])
    (main_below (codes "refs/x/")))
    × ¬ (IsObstructed (main_below (codes "refs/x/") ∷ main_below (codes "refs/remotes/origin/") ∷ [])
    (main_below (codes "refs/remotes/origin/")))
both_clear = pair_clear _ _ (codes "refs/x/main") (codes "refs/remotes/origin/main") refl refl no_nest

-- what is fetched comes before what is tracked besides
pub fetched_first : IsPlan fetch_branches (dev_ref ∷ main_ref ∷ [])
    (update (main_below (codes "refs/x/")) 1 (Given 0) Written ∷ update (main_below (codes "refs/remotes/origin/")) 1
    (Configured 0) Written ∷ []) []
fetched_first = record {
  asked = _;
  firsts = _;
  tracking = _;
  indexes = _;
  seconds = _;
  before = update (main_below (codes "refs/x/")) 1 (Given 0) Written ∷ [];
  behind = update (main_below (codes "refs/remotes/origin/")) 1 (Configured 0) Written ∷ [];
  are_asked = AreAsked.by_call _ (λ none. cc) (Some _, _, (refl, tt), (Some _, [], (refl, tt), refl, refl), refl) refl;
  are_firsts = main_mapped (codes "refs/x/") (split_at_end (codes "refs/x/") refl) (Given 0) (Given 1);
  are_seconds = tracked;
  are_before = (
    Some _,
    [],
    record {
      source = refl;
      item = refl;
      destination = refl;
      origin = (_, refl, refl);
      verdict =
          (sound _ _ refl refl, alone _, both_clear.0);
    },
    refl,
    refl,
  );
  are_behind =
      let new : ¬ (HasPair (main_below (codes "refs/x/") ∷ []) (main_below (codes "refs/remotes/origin/"))) =
      λ pair. grind arith in
      let free : ¬ (IsTakenOver (main_below (codes "refs/x/") ∷ []) (main_below (codes "refs/remotes/origin/"))) =
      λ (n, has, is, share). grind (arith, one_in) in
      let from : HasOrigin (listed every (Configured 0) ∷ listed no_dev (Given 1) ∷ [])
      (main_below (codes "refs/remotes/origin/")) (Configured 0) = (_, refl, refl) in
      (Some _, [], search (rules, arith, sound, alone, both_clear.1), refl, refl);
  all = refl;
  lacks = (
    None,
    [],
    (λ o told. let named = rw (← same_Some _ _ told.2.is) at told.2.named in grind arith),
    (None, [], (λ o told. told.2.positive), refl, refl),
    refl,
  );
}
