-- What becomes of a ref by one spec of a group.
use Rattle.gix_refspec_why.proofs.Common.{◌≡◌, ◌+◌, ◌++◌, ◌∷◌, [], ℕ, List, Option, None, Some, refl, sym}
use Rattle.gix_refspec_why.proofs.Common.{subst, arith, take, slice_get, slice_get_within, length-take-le}
use Rattle.gix_refspec_why.proofs.Common.{Any, Reading, Ref, name, CanBeWritten}
use Rattle.gix_refspec_why.proofs.Common.{IsValidSource, WritesTo, HasFate, HaveFatesIn, HasOwnFate}
use Rattle.gix_refspec_why.proofs.Common.{MapsFirst, MapsTo, MapsValidly, FirstOf, IsGroupOf}
use Rattle.gix_refspec_why.proofs.lemmas.FirstLemmas.{each_more, first_before, take_next}
use Rattle.gix_refspec_why.proofs.lemmas.RivalLemmas.{any_writes, made_kept}
use Rattle.gix_refspec_why.specs.Matching.Why.{Effect}
use Rattle.gix_refspec_why.specs.declared.Fate.{Fate}
use Rattle.gix_refspec_why.specs.declared.Fate.TheVariants as fate
use Rattle.gix_refspec_why.specs.declared.fates.Group.{Group}

-- a spec that doesn't map the ref has its own fate
pub own_fate : (g : List Reading) (refs : List Ref) (n : List ℕ) (k : ℕ) (r : Reading) (f : Fate)
    → HasOwnFate refs r n f → HasFate g refs n k r None f
own_fate g refs n k r (fate.Unmatched m) is = (refl, is)
own_fate g refs n k r (fate.Excludes word) is = (refl, is)
own_fate g refs n k r (fate.Excluded by) is = absurd is
own_fate g refs n k r fate.InvalidName is = absurd is
own_fate g refs n k r fate.InvalidDestination is = absurd is
own_fate g refs n k r (fate.Duplicate j) is = absurd is
own_fate g refs n k r (fate.InConflict rival) is = absurd is
own_fate g refs n k r (fate.DirectoryConflict rival) is = absurd is
own_fate g refs n k r fate.Written is = absurd is

-- the mapping of a spec that is the first is among those that are kept
pub first_writes : (g : List Reading) (refs : List Ref) (n d : List ℕ) (k : ℕ) (r : Reading) (group : Group)
    (is : IsGroupOf g refs n group) → slice_get g k ≡ Some r → MapsFirst g refs n (Some d) k r
    → Any (WritesTo d) is.kept
first_writes g refs n d k r group is at first =
    let (m, inside, from, to) = made_kept g refs is.kept is.are_kept (name n) (Some d) k r at first.maps.maps.maps
    first.maps.maps.included in
    any_writes is.kept d m inside (
      record {
        source = subst IsValidSource (sym from) first.maps.name;
        destination = subst CanBeWritten (sym to) first.maps.destination;
      },
      to,
    )

module _ (g : List Reading) (refs : List Ref) (n : List ℕ) (d : Option (List ℕ)) (k : ℕ) (r : Reading)
    (valid : MapsValidly g refs n d r) where
  -- an earlier spec maps the ref to the same destination
  pub duplicate_fate : (found : Option ℕ) (j : ℕ) → found ≡ Some j → FirstOf (MapsTo refs n d) (take k g) found
      → HasFate g refs n k r d (fate.Duplicate j)
  duplicate_fate found j is first =
      (valid, first_before (MapsTo refs n d) g k j (subst (FirstOf (MapsTo refs n d) (take k g)) is first))

  -- none does
  pub maps_first : (found : Option ℕ) → found ≡ None → FirstOf (MapsTo refs n d) (take k g) found
      → MapsFirst g refs n d k r
  maps_first found is first =
      record { maps = valid; first = subst (FirstOf (MapsTo refs n d) (take k g)) is first }

-- one more fate
pub fates_more : (g : List Reading) (refs : List Ref) (n : List ℕ) (i : ℕ) (r : Reading) (effects : List Effect)
    (e : Effect) → slice_get g i ≡ Some r → HaveFatesIn g refs n (take i g) effects
    → HasFate g refs n i r e.destination e.fate → HaveFatesIn g refs n (take (i + 1) g) (effects ++ e ∷ [])
fates_more g refs n i r effects e at so_far here =
    let below = slice_get_within g i r at in
    subst (λ l. HaveFatesIn g refs n l (effects ++ e ∷ [])) (sym (take_next g i r at))
    (each_more (λ k r e. HasFate g refs n k r e.destination e.fate) (take i g) effects r e so_far
    (subst (λ k. HasFate g refs n k r e.destination e.fate) (sym (length-take-le i g (omega (arith, below)))) here))
