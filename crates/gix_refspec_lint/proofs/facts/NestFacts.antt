-- Specs of which one writes a directory of what the other writes, and specs of which none does.
use Rattle.gix_refspec_lint.proofs.Common.{every, heads_split, origin_split, other_byte, inl, inr, ℕ, List, [], ◌∷◌}
use Rattle.gix_refspec_lint.proofs.Common.{◌++◌, Some, codes, refl, arith, Source, Ref, the_name, Forced, Reading, star}
use Rattle.gix_refspec_lint.proofs.Common.{Lacks-tested, AreStorable, IsExcludedBy, name, refs_of, Fetches}
use Rattle.gix_refspec_lint.proofs.facts.LintFacts.{below, maps_in, no, none_negative, pulls, split_as}
use Rattle.gix_refspec_lint.proofs.lemmas.StorableLemmas.{pair_storable}
use Rattle.gix_refspec_plan.proofs.lemmas.plan.DirectoryLemmas.{not_itself}
use Rattle.gix_refspec_lint.specs.Matching.Lint.{IsNesting, IsNestingOf, Nesting, NestingOver}

-- a branch `pr`, and a pull request in the directory of its name
abbrev pub pr : Nesting
pr = record {
  upper = 0;
  lower = 1;
  one = name (codes "refs/heads/pr");
  other = name (codes "refs/pull/7/head");
  directory = codes "refs/remotes/origin/pr";
  nested = codes "refs/remotes/origin/pr/7";
}

abbrev refs : List Ref
refs = refs_of pr.one ++ refs_of pr.other

together : AreStorable refs
together =
    pair_storable (codes "refs/heads/pr") (codes "refs/pull/7/head")
    (λ d. other_byte 5 (codes "refs/pull/7/head") (codes "refs/heads/pr/" ++ d.after) (λ equal. omega (arith, equal))
    d.here)
    (λ d. other_byte 5 (codes "refs/heads/pr") (codes "refs/pull/7/head/" ++ d.after) (λ equal. omega (arith, equal))
    d.here)

pub nesting : IsNestingOf (every ∷ pulls ∷ []) 0 1 pr
nesting =
    let included = none_negative pulls refl in
    let one : Fetches (every ∷ pulls ∷ []) refs 0 pr.one (Some pr.directory) = record {
      maps = maps_in Forced tt _ [] (codes "refs/remotes/origin/") [] (codes "pr") heads_split origin_split refs
          (inl refl) (every ∷ pulls ∷ []) 0 refl (inl (below (codes "heads/pr") refl)) (below _ refl);
      included = included _;
    } in
    let other : Fetches (every ∷ pulls ∷ []) refs 1 pr.other (Some pr.nested) = record {
      maps = maps_in Forced tt (codes "refs/pull/") (codes "/head") (codes "refs/remotes/origin/pr/") [] (codes "7")
          (split_as _ _ refl refl) (split_as _ _ refl refl) refs (inr (inl refl)) (every ∷ pulls ∷ []) 1 refl
          (inl (below _ refl)) (below _ refl);
      included = included _;
    } in
    record {
      upper = refl;
      lower = refl;
      over = record {
        storable = together;
        upper = one;
        lower = other;
        nested =
            record { after = codes "7"; here = refl };
      };
    }

-- it is one of these two specs in their order, not the other way round; so a pair of specs is listed once
pub listed_once : IsNesting (every ∷ pulls ∷ []) 0 1 pr × ¬ (IsNesting (every ∷ pulls ∷ []) 1 0 pr)
listed_once = (record { before = omega arith; either = inl nesting }, λ n. omega (arith, n.before))

-- a negative spec that excludes either source leaves nothing in the way
pub none_excluded : ¬ (IsNestingOf (every ∷ pulls ∷ no (codes "refs/heads/pr") ∷ []) 0 1 pr)
none_excluded n =
    let by : IsExcludedBy (codes "refs/heads/pr") (no (codes "refs/heads/pr")) =
    record {
      negative = refl;
      text = _;
      source = refl;
      excludes =
          the_name (Lacks-tested star (codes "refs/heads/pr") refl) refl;
    } in
    n.over.upper.included (inr (inr (inl by)))

-- specs that write one ref don't nest by it: that is a conflict
pub none_of_one : (g : List Reading) (l : List Ref) (i j : ℕ) (s t : Source) (d : List ℕ)
    → ¬ (NestingOver g l i j s t d d)
none_of_one g l i j s t d n = not_itself d n.nested
