-- How names of which one is a directory of another are found. Only private functions use these definitions.
use Rattle.std.specs.Prelude.{◌+◌, ◌==◌, ℕ, List, cond, MatchOption}
use Rattle.std.specs.Borrow.{Bor}
use Rattle.std.specs.BTreeMap.{BTreeMap, get_by}
use Rattle.std.specs.Cmp.Lexicographic.{slice_cmp}
use Rattle.std.specs.List.{Contains}
use Rattle.std.specs.List.Sorted.{IsSorted}
use Rattle.std.specs.Ordering.{nat_cmp}
use Rattle.std.specs.declared.cmp.Ordering.{Ordering}
use Rattle.gix_refspec_text.specs.Texts.Bytes.{slash}
use Rattle.gix_refspec_plan.specs.Matching.Plan.{AreNested}

-- a byte's place in an order of bytes in which `/` is the lowest
abbrev pub rank : ℕ → ℕ
rank b = cond (b == slash) 0 (b + 1)

-- the order of names by these
abbrev pub by_component : List ℕ → List ℕ → Ordering
by_component = slice_cmp (λ x y. nat_cmp (rank x) (rank y))

abbrev pub AreInOrder : List (Bor (List ℕ)) → Type 0
AreInOrder names = IsSorted (λ x y. by_component x.now y.now) names

-- d is one of the names, and another one is a directory of it, or is in it
abbrev pub IsNestedIn : List (List ℕ) → List ℕ → Type 0
IsNestedIn names d = Contains names d × ((e : List ℕ) × Contains names e × AreNested d e)

-- exactly these names are in the map, each with one that is a directory of it, or is in it
abbrev pub TellNestedIn : List (List ℕ) → BTreeMap (Bor (List ℕ)) (Bor (List ℕ)) → Type 0
TellNestedIn names nested = (d : List ℕ) → MatchOption (get_by (λ k. slice_cmp nat_cmp d k.now) nested)
    (¬ (IsNestedIn names d)) (λ e. Contains names d × (Contains names e.now × AreNested d e.now))
