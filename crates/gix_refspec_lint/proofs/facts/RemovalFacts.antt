-- What a fetch does because of one value, on both sides of each border.
use Rattle.gix_refspec_lint.proofs.Common.{every, heads_split, origin_split, false≢true, ◌≡◌, inl, inr, ℕ, zero, suc}
use Rattle.gix_refspec_lint.proofs.Common.{List, [], ◌∷◌, None, Some, codes, refl, sym, ap, ◌∙◌, subst, arith, Any}
use Rattle.gix_refspec_lint.proofs.Common.{Contains, same_Some, Ref, fetched, Normal, Negative, IsPositive, Reading}
use Rattle.gix_refspec_lint.proofs.Common.{star, head, IsSplit, Lacks-tested, lacks_no_pattern, IsExcluded, name}
use Rattle.gix_refspec_lint.proofs.Common.{MakesForward, IsRefName, CanBeWritten, IsCompleted, HasKind, full_name}
use Rattle.gix_refspec_lint.proofs.Common.{named_some, Maps, HasSourcePattern, ref_named}
use Rattle.gix_refspec_lint.proofs.lemmas.OneSpecLemmas.{makes_positive}
use Rattle.gix_refspec_lint.proofs.lemmas.PatternLemmas.{spec_maps, two_patterns}
use Rattle.gix_refspec_lint.proofs.lemmas.StaleLemmas.{excluded_in, excluding_in, no_object, pattern_written}
use Rattle.gix_refspec_text.proofs.lemmas.texts.TestedLemmas.{IsName-tested}
use Rattle.gix_refspec_plan.specs.Matching.Stale.{CanWriteObject, IsStale}
use Rattle.gix_refspec_lint.specs.Matching.Removal.{FollowsTagsBy, HasDestination, MergesFirst, Prunes, Tracks}
use Rattle.gix_refspec_lint.specs.Private.Removals.{WritesPatterns}

one_in : (x q : Reading) → Contains (x ∷ []) q → q ≡ x
one_in x q (zero, below, is) = sym is
one_in x q (suc k, below, is) = absurd (omega (arith, below))

-- ---- tags

one_holds : (r : Reading) → Any HasDestination (r ∷ []) → HasDestination r
one_holds r (zero, q, below, is, holds) = subst HasDestination (sym is) holds
one_holds r (suc k, q, below, is, holds) = absurd (omega (arith, below))

abbrev head_alone : Reading
head_alone = fetched Normal head None

abbrev to_a : Reading
to_a = fetched Normal (codes "refs/heads/*") (Some (codes "a/*"))

-- tags are followed because of the only value with a destination, though it maps nothing
pub tags_by_one : FollowsTagsBy (head_alone ∷ to_a ∷ []) 1
tags_by_one = ((1, to_a, omega arith, refl, (tt, refl)), λ rest. false≢true (one_holds head_alone rest).1)

-- and not because of one of two
pub tags_by_two : ¬ (FollowsTagsBy (every ∷ to_a ∷ []) 1)
tags_by_two both = both.1 (0, every, omega arith, refl, (tt, refl))

-- ---- what `git pull` merges

abbrev full : List ℕ
full = codes "refs/heads/main"

abbrev main : Reading
main = fetched Normal full None

main_kind : HasKind full (full_name full)
main_kind = (refl, Lacks-tested star full refl, record { after = codes "heads/main"; here = refl })

none_excluded : (r : Reading) → IsPositive r.mode → (n : List ℕ) → ¬ (IsExcluded (r ∷ []) n)
none_excluded r positive n (inl by) = subst IsPositive by.negative positive
none_excluded r positive n (inr none) = none

-- the first value, if it has no star
main_merged : MergesFirst (main ∷ [])
main_merged =
    let refs = ref_named full ∷ [] in
    let makes : MakesForward refs (name full) None main = record {
      ends = record { near = full; far = None };
      has = record { positive = tt; near = refl; far = refl; no_object = λ bytes of. of.1 main_kind.2 };
      one = named_some _ refs full (inl refl) (λ r named. record {
        word = None;
        name = named;
        takes = record {
          matches = record { kind = full_name full; of = main_kind; is = (refl, named) };
          first =
              λ n of. absurd (of.2 main_kind.2);
        };
        becomes = refl;
      });
    } in
    record {
      reading = main;
      at = refl;
      plain = λ x is one. lacks_no_pattern full one.0 one.1 main_kind.1
          (subst (IsSplit one.0 one.1) (sym (same_Some _ _ is)) one.2);
      refs = refs;
      source = name full;
      destination = None;
      fetches = record {
        maps = record {
          maps = record {
            reading = main;
            at = refl;
            completed = main;
            is =
                record { operation = refl; mode = refl; source = refl; destination = refl };
            makes = makes;
          };
          source = inl (main_kind.2, IsName-tested full refl);
          destination = tt;
        };
        included = none_excluded main tt full;
      };
    }

-- and not the second, behind a negative one
pub none_merged : ¬ (MergesFirst (fetched Negative (codes "refs/heads/topic") None ∷ main ∷ []))
none_merged m =
    let maps = m.fetches.maps.maps in
    let same = same_Some _ _ maps.at in
    subst IsPositive (maps.is.mode ∙ ap (λ (r : Reading). r.mode) (sym same))
    (makes_positive m.refs m.source m.destination maps.completed maps.makes)

-- nor one with a star
star_not_merged : ¬ (MergesFirst (every ∷ []))
star_not_merged m = let same = same_Some _ _ m.at in m.plain (codes "refs/heads/*")
    (ap (λ (r : Reading). r.source) (sym same)) (codes "refs/heads/", [], heads_split)

-- ---- refs of the command line

abbrev branch : List ℕ
branch = codes "refs/heads/a"

abbrev tracking : List ℕ
tracking = codes "refs/remotes/origin/a"

branch_valid : IsRefName branch
branch_valid = inl (record { after = codes "heads/a"; here = refl }, IsName-tested branch refl)

tracking_written : CanBeWritten (Some tracking)
tracking_written = (record { after = codes "remotes/origin/a"; here = refl }, IsName-tested tracking refl)

every_source : HasSourcePattern every (codes "refs/heads/") []
every_source = record { text = _; has = refl; split = heads_split }

every_completed : IsCompleted every every
every_completed = record {
  operation = refl;
  mode = refl;
  source = refl;
  destination =
      inl (record { before = codes "refs/remotes/origin/"; after = []; here = refl }, refl);
}

first_tracks : Tracks (every ∷ []) 0
first_tracks =
    let refs = ref_named branch ∷ [] in
    let spec = two_patterns every (codes "refs/heads/") [] (codes "refs/remotes/origin/") [] _ tt every_source refl
    origin_split in
    let maps : Maps (every ∷ []) refs 0 (name branch) (Some tracking) =
    record {
      reading = every;
      at = refl;
      completed = every;
      is = every_completed;
      makes =
          spec_maps every (codes "refs/heads/") [] spec refs (codes "a") (inl refl);
    } in
    record {
      refs = refs;
      valid = (branch_valid, tt);
      source = name branch;
      destination = tracking;
      maps = record { maps = maps; source = branch_valid; destination = tracking_written };
      first = λ h below. absurd (omega (arith, below));
    }

-- a value like an earlier one doesn't
pub second_does_not : ¬ (Tracks (every ∷ every ∷ []) 1)
second_does_not t = let m = t.maps.maps in t.first 0 (omega arith)
    (record { reading = m.reading; at = m.at; completed = m.completed; is = m.is; makes = m.makes })

-- ---- pruning

every_writes : WritesPatterns every (codes "refs/heads/") [] (codes "refs/remotes/origin/") []
every_writes = record {
  positive = tt;
  source = every_source;
  destination =
      record { text = _; has = refl; split = origin_split };
}

-- without its only value a fetch prunes nothing
pub alone_prunes : Prunes (every ∷ []) 0
alone_prunes = record {
  remote = [];
  valid = tt;
  local = tracking;
  named = inl tracking_written;
  differ = inl (
    record {
      writable = (
        every,
        Some (codes "a"),
        (0, omega arith, refl),
        pattern_written every _ (codes "refs/remotes/origin/") [] tracking (codes "a") tt refl origin_split refl,
      );
      no_object = λ (q, there, asks). no_object every (codes "refs/heads/") [] (codes "refs/remotes/origin/") []
          every_writes tracking (subst (λ r. CanWriteObject r tracking) (one_in every q there) asks);
      absent = λ s source none. none;
      included = λ s source. none_excluded every tt s;
    },
    λ stale. let (q, word, there, by) = stale.writable in omega (arith, there.1),
  );
}

stale_as : (g h : List Reading) (remote : List Ref) (n : List ℕ) → ((q : Reading) → Contains g q → Contains h q)
    → ((q : Reading) → Contains h q → Contains g q) → IsStale g remote n → IsStale h remote n
stale_as g h remote n to from stale = record {
  writable = let (q, word, there, by) = stale.writable in (q, word, to q there, by);
  no_object = λ (q, there, asks). stale.no_object (q, from q there, asks);
  absent = λ s (q, there, writes). stale.absent s (q, from q there, writes);
  included = λ s (q, there, writes) by. let (e, inside, one) = excluding_in h s by in stale.included s
      (q, from q there, writes) (excluded_in g e s (from e inside) one);
}

twice_cases : (q : Reading) → Contains (every ∷ every ∷ []) q → Contains (every ∷ []) q
twice_cases q (zero, below, is) = (0, omega arith, is)
twice_cases q (suc zero, below, is) = (0, omega arith, is)
twice_cases q (suc (suc k), below, is) = absurd (omega (arith, below))

once_cases : (q : Reading) → Contains (every ∷ []) q → Contains (every ∷ every ∷ []) q
once_cases q (zero, below, is) = (0, omega arith, is)
once_cases q (suc k, below, is) = absurd (omega (arith, below))

-- and without a value that is there twice it prunes the same
pub twice_same : ¬ (Prunes (every ∷ every ∷ []) 1)
twice_same o = elim o.differ [
  | inl x ↦ x.1 (stale_as (every ∷ every ∷ []) (every ∷ []) o.remote o.local twice_cases once_cases x.0)
  | inr x ↦ x.0 (stale_as (every ∷ []) (every ∷ every ∷ []) o.remote o.local once_cases twice_cases x.1)
]
