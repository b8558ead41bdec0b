-- What two lists of values do otherwise, on both sides of each border.
use Rattle.gix_refspec_diff.proofs.Common.{AreValid, CanBeWritten, Fetches, IsCompleted, IsPositive, IsRefName, List}
use Rattle.gix_refspec_diff.proofs.Common.{MakesForward, Maps, Negative, None, Normal, Option, Reading, Ref, Some}
use Rattle.gix_refspec_diff.proofs.Common.{Source, [], ap, arith, false≢true, inl, inr, name, ref_named, refl}
use Rattle.gix_refspec_diff.proofs.Common.{same_Some, slice_get, subst, sym, zero, ℕ, ◌∷◌, ◌≡◌}
use Rattle.gix_refspec_lint.proofs.Common.{HasKind, HasSourcePattern, IsExcluded, IsSplit, Lacks-tested, codes, every}
use Rattle.gix_refspec_lint.proofs.Common.{fetched, full_name, head, heads_split, lacks_no_pattern, named_some}
use Rattle.gix_refspec_lint.proofs.Common.{origin_split, star, suc}
use Rattle.gix_refspec_lint.proofs.facts.LintFacts.{every_never}
use Rattle.gix_refspec_lint.proofs.lemmas.OneSpecLemmas.{makes_positive}
use Rattle.gix_refspec_lint.proofs.lemmas.PatternLemmas.{spec_maps, two_patterns}
use Rattle.gix_refspec_lint.proofs.lemmas.SourceLemmas.{destination_made}
use Rattle.gix_refspec_text.proofs.lemmas.texts.TestedLemmas.{IsName-tested}
use Rattle.gix_refspec_text.specs.Specs.Reading.{fetched_alone}
use Rattle.gix_refspec_lint.specs.Matching.Removal.{FollowsTags, HasDestination}
use Rattle.gix_refspec_match.specs.Matching.Missing.{LacksSource}
use Rattle.gix_refspec_diff.specs.Matching.Difference.{AreFetchedAlone, AreLackedAlone, FetchAlike, FetchesAlone}
use Rattle.gix_refspec_diff.specs.Matching.Difference.{FetchesBeyond, FollowAlike, IsFetchedAlone, LackAlike}
use Rattle.gix_refspec_diff.specs.Matching.Difference.{LacksAlone, LacksBeyond, LacksSome, MergeAlike, MergesBeyond}
use Rattle.gix_refspec_diff.specs.Matching.Difference.{MergesSource, PairExample, TrackAlike, UpdatesBeyond}
use Rattle.gix_refspec_diff.specs.Matching.Difference.{UpdatesPair, or_head, refs_in}

-- ---- no values

pub without_values : or_head [] ≡ fetched_alone head ∷ []
without_values = refl

-- a list of negative values isn't empty
pub negative_alone : (n : List ℕ) → or_head (fetched Negative n None ∷ []) ≡ fetched Negative n None ∷ []
negative_alone n = refl

-- ---- what one list alone fetches

abbrev branch : List ℕ
branch = codes "refs/heads/a"

abbrev tracking : List ℕ
tracking = codes "refs/remotes/origin/a"

branch_valid : IsRefName branch
branch_valid = inl (record { after = codes "heads/a"; here = refl }, IsName-tested branch refl)

tracking_written : CanBeWritten (Some tracking)
tracking_written = (record { after = codes "remotes/origin/a"; here = refl }, IsName-tested tracking refl)

abbrev refs : List Ref
refs = ref_named branch ∷ []

module _ (r : Reading) (positive : IsPositive r.mode) (source : r.source ≡ Some (codes "refs/heads/*"))
    (to : r.destination ≡ Some (codes "refs/remotes/origin/*")) where
  completed : IsCompleted r r
  completed = record {
    operation = refl;
    mode = refl;
    source = refl;
    destination = rw to (inl (record { before = codes "refs/remotes/origin/"; after = []; here = refl }, refl));
  }

  maps : (g : List Reading) (k : ℕ) → slice_get g k ≡ Some r → Maps g refs k (name branch) (Some tracking)
  maps g k at =
      let side : HasSourcePattern r (codes "refs/heads/") [] = record { text = _; has = source; split = heads_split } in
      let spec = two_patterns r (codes "refs/heads/") [] (codes "refs/remotes/origin/") [] _ positive side to
      origin_split in
      record {
        reading = r;
        at = at;
        completed = r;
        is = completed;
        makes = spec_maps r (codes "refs/heads/") [] spec refs (codes "a") (inl refl);
      }

  fetches : (g : List Reading) (k : ℕ) → slice_get g k ≡ Some r → ¬ (IsExcluded g branch)
      → Fetches g refs k (name branch) (Some tracking)
  fetches g k at included = record {
    maps = record { maps = maps g k at; source = branch_valid; destination = tracking_written };
    included = included;
  }

one_included : (r : Reading) → IsPositive r.mode → ¬ (IsExcluded (r ∷ []) branch)
one_included r positive (inl by) = subst IsPositive by.negative positive
one_included r positive (inr none) = none

no_destination : (k : ℕ) (r c : Reading) (x : List ℕ) → slice_get (or_head []) k ≡ Some r → IsCompleted r c
    → ¬ (c.destination ≡ Some x)
no_destination zero r c x at is has =
    let same : r ≡ fetched_alone head = same_Some _ _ (sym at) in
    let none = (rw same at is).destination in
    cc (none, has)
no_destination (suc k) r c x at is has = cc at

-- without a value that fetches a branch, no other fetches it
pub lost_with_its_value : FetchesAlone (every ∷ []) (or_head []) refs 0 (name branch) (Some tracking)
lost_with_its_value = record {
  one = record {
    fetches = fetches every tt refl refl (every ∷ []) 0 refl (one_included every tt);
    first = λ h below. absurd (omega (arith, below));
  };
  other = λ (k, f).
      let m = f.maps.maps in
      let made = destination_made refs (name branch) tracking m.completed m.makes in
      no_destination k m.reading m.completed made.0 m.at m.is made.2;
}

-- of two such values only the first one is named
pub second_not_first : (h : List Reading)
    → ¬ (FetchesAlone (every ∷ every ∷ []) h refs 1 (name branch) (Some tracking))
second_not_first h alone =
    alone.one.first 0 (omega arith) (maps every tt refl refl (every ∷ every ∷ []) 0 refl)

-- an example of it
abbrev example : PairExample
example = record { spec = 0; source = name branch; destination = Some tracking; beside = [] }

pub one_listed : AreFetchedAlone (every ∷ []) (or_head []) (example ∷ [])
one_listed = (
  Some example,
  [],
  record { spec = refl; valid = (branch_valid, tt); alone = lost_with_its_value },
  refl,
  refl,
)

pub at_its_index : (g h : List Reading) (k : ℕ) (e : PairExample) → IsFetchedAlone g h k e → e.spec ≡ k
at_its_index g h k e is = is.spec

pub on_a_remote : (g h : List Reading) (k : ℕ) (e : PairExample) → IsFetchedAlone g h k e → AreValid (refs_in e)
on_a_remote g h k e is = is.valid

-- whose remote has the source and the refs beside it
pub source_and_others : (k : ℕ) (d : Option (List ℕ))
    → refs_in (record { spec = k; source = name branch; destination = d; beside = tracking ∷ [] })
    ≡ ref_named branch ∷ ref_named tracking ∷ []
source_and_others k d = refl

-- a negative value alone fetches nothing
abbrev excluding : Reading
excluding = fetched Negative branch None

not_positive : (k : ℕ) (r : Reading) → slice_get (excluding ∷ []) k ≡ Some r → ¬ (IsPositive r.mode)
not_positive zero r at positive = subst (λ (q : Reading). IsPositive q.mode) (same_Some _ _ (sym at)) positive
not_positive (suc k) r at positive = cc at

never_maps : (k : ℕ) (s : Source) (d : Option (List ℕ)) → ¬ (Maps (excluding ∷ []) refs k s d)
never_maps k s d m =
    not_positive k m.reading m.at (subst IsPositive m.is.mode (makes_positive refs s d m.completed m.makes))

beyond : FetchesBeyond (every ∷ []) (excluding ∷ [])
beyond = record {
  refs = refs;
  valid = (branch_valid, tt);
  source = name branch;
  destination = Some tracking;
  fetches = (0, lost_with_its_value.one.fetches);
  other = λ (k, f). never_maps k (name branch) (Some tracking) f.maps.maps;
}

-- so the lists don't fetch alike
pub lost_beyond : ¬ (FetchAlike (every ∷ []) (excluding ∷ []))
lost_beyond alike = alike.0 beyond

pub gained_beyond : ¬ (FetchAlike (excluding ∷ []) (every ∷ []))
gained_beyond alike = alike.1 beyond

-- a list fetches what it fetches
pub fetch_itself : (g : List Reading) → FetchAlike g g
fetch_itself g = ((λ b. b.other b.fetches), (λ b. b.other b.fetches))

-- a value that is there in both lists loses nothing
pub nothing_lost : (g : List Reading) (k : ℕ) (d : List ℕ) → ¬ (FetchesAlone g g refs k (name branch) (Some d))
nothing_lost g k d alone = alone.other (k, alone.one.fetches)

-- ---- missing sources

-- a value of one branch
abbrev named : Reading
named = fetched Normal branch None

branch_kind : HasKind branch (full_name branch)
branch_kind = (refl, Lacks-tested star branch refl, record { after = codes "heads/a"; here = refl })

named_lacks : LacksSource [] named
named_lacks = record {
  positive = tt;
  source = branch;
  is = refl;
  named = inl branch_kind;
  absent = λ ref word (k, below, is). absurd (omega (arith, below));
}

-- where there is no branch, only the value lacks one that names it; a pattern never does
no_source : ¬ (LacksSome (every ∷ []) [])
no_source (zero, r, below, is, lacks) = every_never [] (subst (LacksSource []) (sym is) lacks)
no_source (suc k, r, below, is, lacks) = absurd (omega (arith, below))

pub lacked_without_refs : LacksAlone (named ∷ []) (every ∷ []) 0
lacked_without_refs = record {
  refs = [];
  valid = tt;
  one = record {
    lacks = record { reading = named; at = refl; lacks = named_lacks };
    first = λ j below. absurd (omega (arith, below));
  };
  other = no_source;
}

pub lacking_listed : AreLackedAlone (named ∷ []) (every ∷ []) (0 ∷ [])
lacking_listed = (Some 0, [], (refl, lacked_without_refs), refl, refl)

-- so the lists don't fail alike
missing_beyond : LacksBeyond (named ∷ []) (every ∷ [])
missing_beyond = record {
  refs = [];
  valid = tt;
  lacks = (0, named, omega arith, refl, named_lacks);
  other = no_source;
}

pub lacked_beyond : ¬ (LackAlike (named ∷ []) (every ∷ []))
lacked_beyond alike = alike.0 missing_beyond

pub lacked_by_the_other : ¬ (LackAlike (every ∷ []) (named ∷ []))
lacked_by_the_other alike = alike.1 missing_beyond

-- of two values that name it only the first lacks it alone
pub second_unlacked : (h : List Reading) → ¬ (LacksAlone (named ∷ named ∷ []) h 1)
second_unlacked h alone =
    let second : alone.one.lacks.reading ≡ named = same_Some _ _ (sym alone.one.lacks.at) in
    alone.one.first 0 (omega arith)
    (record { reading = named; at = refl; lacks = subst (LacksSource alone.refs) second alone.one.lacks.lacks })

-- and none where the other list lacks it too
pub lack_itself : (g : List Reading) → LackAlike g g
lack_itself g = ((λ b. b.other b.lacks), (λ b. b.other b.lacks))

-- ---- what else the values do

-- a ref that is named on the command line is updated though a negative value excludes it from other fetches
pub excluded_updated : UpdatesPair (every ∷ fetched Negative branch None ∷ []) refs (name branch) tracking
excluded_updated = (
  0,
  record {
    maps = maps every tt refl refl (every ∷ fetched Negative branch None ∷ []) 0 refl;
    source = branch_valid;
    destination = tracking_written;
  },
)

-- by no value without a destination
pub nothing_updated : (d : List ℕ) → ¬ (UpdatesPair (or_head []) refs (name branch) d)
nothing_updated d (k, u) =
    let m = u.maps in
    let made = destination_made refs (name branch) d m.completed m.makes in
    no_destination k m.reading m.completed made.0 m.at m.is made.2

-- so refs of the command line aren't stored alike with it and without
stored_beyond : UpdatesBeyond (every ∷ []) (or_head [])
stored_beyond = record {
  refs = refs;
  valid = (branch_valid, tt);
  source = name branch;
  destination = tracking;
  updates = (0, lost_with_its_value.one.fetches.maps);
  other = nothing_updated tracking;
}

pub stored_by_one : ¬ (TrackAlike (every ∷ []) (or_head []))
stored_by_one alike = alike.0 stored_beyond

pub stored_by_the_other : ¬ (TrackAlike (or_head []) (every ∷ []))
stored_by_the_other alike = alike.1 stored_beyond

-- a value with a destination makes tags followed
pub tags_followed : ¬ (FollowAlike (fetched_alone head ∷ []) (fetched_alone head ∷ every ∷ []))
tags_followed alike = none_followed (alike.1 (1, every, omega arith, refl, (tt, refl)))
  where
    none_followed : ¬ (FollowsTags (fetched_alone head ∷ []))
    none_followed (zero, r, below, is, has) = false≢true (subst HasDestination (sym is) has).1
    none_followed (suc k, r, below, is, has) = absurd (omega (arith, below))

-- ---- what is merged

branch_made : MakesForward refs (name branch) None named
branch_made = record {
  ends = record { near = branch; far = None };
  has = record { positive = tt; near = refl; far = refl; no_object = λ bytes of. of.1 branch_kind.2 };
  one = named_some _ refs branch (inl refl) (λ r at. record {
    word = None;
    name = at;
    takes = record {
      matches = record { kind = full_name branch; of = branch_kind; is = (refl, at) };
      first = λ n of. absurd (of.2 branch_kind.2);
    };
    becomes = refl;
  });
}

both_included : ¬ (IsExcluded (named ∷ every ∷ []) branch)
both_included (inl by) = subst IsPositive by.negative tt
both_included (inr (inl by)) = subst IsPositive by.negative tt
both_included (inr (inr none)) = none

-- the first value is, if it has no star
pub first_merged : MergesSource (named ∷ every ∷ []) refs (name branch)
first_merged = record {
  reading = named;
  at = refl;
  plain = λ x is one. lacks_no_pattern branch one.0 one.1 branch_kind.1
      (subst (IsSplit one.0 one.1) (sym (same_Some _ _ is)) one.2);
  destination = None;
  fetches = record {
    maps = record {
      maps = record {
        reading = named;
        at = refl;
        completed = named;
        is = record { operation = refl; mode = refl; source = refl; destination = refl };
        makes = branch_made;
      };
      source = branch_valid;
      destination = tt;
    };
    included = both_included;
  };
}

pub star_not_merged : (rs : List Ref) (s : Source) → ¬ (MergesSource (every ∷ named ∷ []) rs s)
star_not_merged rs s m = let same = same_Some _ _ m.at in m.plain (codes "refs/heads/*")
    (ap (λ (r : Reading). r.source) (sym same)) (codes "refs/heads/", [], heads_split)

-- so the order of values decides
merged_beyond : MergesBeyond (named ∷ every ∷ []) (every ∷ named ∷ [])
merged_beyond = (
  name branch,
  record {
    refs = refs;
    valid = (branch_valid, tt);
    merges = first_merged;
    other = star_not_merged refs (name branch);
  },
)

pub merged_by_one : ¬ (MergeAlike (named ∷ every ∷ []) (every ∷ named ∷ []))
merged_by_one alike = alike.0 merged_beyond

pub merged_by_the_other : ¬ (MergeAlike (every ∷ named ∷ []) (named ∷ every ∷ []))
merged_by_the_other alike = alike.1 merged_beyond

-- a list merges what it merges
pub merge_itself : (g : List Reading) → MergeAlike g g
merge_itself g = ((λ (s, a). a.other a.merges), (λ (s, a). a.other a.merges))
