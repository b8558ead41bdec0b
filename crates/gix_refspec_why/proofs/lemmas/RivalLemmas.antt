-- Mappings by their destinations, and which of them stand in the way of one.
use Rattle.gix_refspec_why.proofs.Common.{◌≡◌, ◌⊎◌, ◌++◌, ◌∷◌, ◌∙◌, [], ℕ, List, Option, None, Some, inl, inr}
use Rattle.gix_refspec_why.proofs.Common.{Bool, Bor, true, false, cond, IsSome, MatchOption, refl, sym, subst}
use Rattle.gix_refspec_why.proofs.Common.{Contains, Any, slice_get, BTreeMap, UpdatesBy}
use Rattle.gix_refspec_why.proofs.Common.{get_by, slice_cmp, nat_cmp, bytes_eq, bytes_eq-Decides, btree_map_updates_str}
use Rattle.gix_refspec_why.proofs.Common.{false≢true, same_Some, All-contains, All-from_recursion, some_of}
use Rattle.gix_refspec_why.proofs.Common.{Contains-append_left, Contains-push, Contains-push_cases, HasPair}
use Rattle.gix_refspec_why.proofs.Common.{HasPair-Any, IsOfPair, Reading, Ref, Mapped, Source, name, id}
use Rattle.gix_refspec_why.proofs.Common.{AreKeptForward, IsSourceExcluded, MakesForward, MakesForwardOf, AtSpec}
use Rattle.gix_refspec_why.proofs.Common.{any_at, kept_exactly, made_at_indexes, CanBeWritten, IsValidSource}
use Rattle.gix_refspec_why.proofs.Common.{WritesTo, AreNested, AreSoundDestinations}
use Rattle.gix_refspec_why.proofs.Common.{AreRivalsTo, IsAmong, IsContesting, IsObstructing, IsRival}
use Rattle.gix_refspec_why.proofs.Common.{IsRivalTo, IsFetchedAt, IsContestedBy, IsObstructedBy, slice_get_within}
use Rattle.gix_refspec_why.proofs.Common.{get_or_from_slice_get}
use Rattle.gix_refspec_plan.specs.Private.Directories.{IsNestedIn}
use Rattle.gix_refspec_why.specs.declared.Rival.{Rival}
use Rattle.gix_refspec_plan.proofs.lemmas.plan.OpposedLemmas.{pair_in}

abbrev rival_at : BTreeMap (Bor (List ℕ)) Rival → List ℕ → Option Rival
rival_at rivals d = get_by (λ k. slice_cmp nat_cmp d k.now) rivals

module _ (P : Mapped → Type 0) (l : List Mapped) (m : Mapped) where
  among_left : (rival : Rival) → IsAmong P l rival → IsAmong P (l ++ m ∷ []) rival
  among_left rival (x, inside, is, same) = (x, Contains-append_left l (m ∷ []) x inside, is, same)

  among_cases : (rival : Rival) → IsAmong P (l ++ m ∷ []) rival → IsAmong P l rival ⊎ P m
  among_cases rival (x, inside, is, same) = elim (Contains-push_cases l m x inside)
      [ inl old ↦ inl (x, old, is, same) | inr new ↦ inr (subst P (sym new) is) ]

module _ (without : Option (List ℕ)) (l : List Mapped) (m : Mapped) where
  -- a mapping that adds nothing: it is no rival, or its destination is known
  pub rivals_same : (rivals : BTreeMap (Bor (List ℕ)) Rival) → AreRivalsTo without l rivals
      → ((d : List ℕ) → IsRivalTo without d m → IsSome (rival_at rivals d)) → AreRivalsTo without (l ++ m ∷ []) rivals
  rivals_same rivals are known d = at (rival_at rivals d) (are d) (known d)
    where
      at : (found : Option Rival) → MatchOption found ((rival : Rival) → ¬ (IsAmong (IsRivalTo without d) l rival))
          (IsAmong (IsRivalTo without d) l) → (IsRivalTo without d m → IsSome found)
          → MatchOption found ((rival : Rival) → ¬ (IsAmong (IsRivalTo without d) (l ++ m ∷ []) rival))
          (IsAmong (IsRivalTo without d) (l ++ m ∷ []))
      at None none some = λ rival among. elim (among_cases (IsRivalTo without d) l m rival among)
          [ inl old ↦ none rival old | inr new ↦ false≢true (some new) ]
      at (Some rival) among some = among_left (IsRivalTo without d) l m rival among

  -- the first mapping to a destination
  pub rivals_more : (old new : BTreeMap (Bor (List ℕ)) Rival) (e : Bor (List ℕ)) (rival : Rival)
      → AreRivalsTo without l old → IsRivalTo without e.now m → IsRival m rival
      → UpdatesBy (λ x y. slice_cmp nat_cmp x.now y.now) (λ k. slice_cmp nat_cmp e.now k.now) old new (Some rival)
      → AreRivalsTo without (l ++ m ∷ []) new
  rivals_more old new e rival are is same updates d =
      rw (btree_map_updates_str e.now old new (Some rival) updates d) (by (bytes_eq e.now d) refl)
    where
      by : (b : Bool) → bytes_eq e.now d ≡ b
          → MatchOption (cond b (Some rival) (rival_at old d))
          ((other : Rival) → ¬ (IsAmong (IsRivalTo without d) (l ++ m ∷ []) other))
          (IsAmong (IsRivalTo without d) (l ++ m ∷ []))
      by true equal = let here = (bytes_eq-Decides e.now d).0 equal in
          (m, Contains-push l m, subst (λ d. IsRivalTo without d m) here is, same)
      by false other = at (rival_at old d) (are d)
        where
          apart : ¬ (IsRivalTo without d m)
          apart also = false≢true (sym other ∙ (bytes_eq-Decides e.now d).1 (same_Some e.now d (sym is.0.1 ∙ also.0.1)))

          at : (found : Option Rival) → MatchOption found ((other : Rival) → ¬ (IsAmong (IsRivalTo without d) l other))
              (IsAmong (IsRivalTo without d) l)
              → MatchOption found ((other : Rival) → ¬ (IsAmong (IsRivalTo without d) (l ++ m ∷ []) other))
              (IsAmong (IsRivalTo without d) (l ++ m ∷ []))
          at None none = λ other among. elim (among_cases (IsRivalTo without d) l m other among)
              [ inl old ↦ none other old | inr new ↦ apart new ]
          at (Some other) among = among_left (IsRivalTo without d) l m other among

-- each mapping is a rival by its indexes
abbrev pub rival_of : Mapped → Rival
rival_of m = record { spec_index = m.spec; item_index = m.item }

-- a mapping of the list that writes to a destination
pub any_writes : (l : List Mapped) (e : List ℕ) (m : Mapped) → Contains l m → WritesTo e m → Any (WritesTo e) l
any_writes l e m (i, below, at) writes = (i, m, below, at, writes)

module _ (l : List Mapped) (d : List ℕ) where
  -- no name is a directory of d, or in it
  pub unnested : (names : List (List ℕ)) → AreSoundDestinations l names → ¬ (IsNestedIn names d) → Any (WritesTo d) l
      → (rival : Rival) → ¬ (IsObstructing l d rival)
  unnested names are none any rival (e, nested, (m, inside, writes, same)) =
      none ((are d).1 any, (e, (are e).1 (any_writes l e m inside writes), nested))

  -- such a name is the destination of a mapping
  pub nested_rival : (e : List ℕ) (found : Option Rival)
      → MatchOption found ((rival : Rival) → ¬ (IsAmong (IsRivalTo None e) l rival)) (IsAmong (IsRivalTo None e) l)
      → Any (WritesTo e) l → AreNested d e
      → MatchOption found ((rival : Rival) → ¬ (IsObstructing l d rival)) (IsObstructing l d)
  nested_rival e None none (i, m, below, at, writes) nested =
      absurd (none (rival_of m) (m, (i, below, at), (writes, tt), record { spec = refl; item = refl }))
  nested_rival e (Some rival) (m, inside, (writes, any), same) some nested = (e, nested, (m, inside, writes, same))

-- ---- the mappings that are kept, and what a fetch does

-- the reading of what is fetched makes it
pub fetched_made : (g : List Reading) (refs : List Ref) (s : Source) (e : List ℕ) (rival : Rival)
    (is : IsFetchedAt g refs s e rival) → MakesForward refs s (Some e) is.reading
fetched_made g refs (name n) e rival is = record {
  ends = is.makes.ends;
  has = is.makes.has;
  one = (
    is.makes.index,
    is.makes.ref,
    slice_get_within refs is.makes.index is.makes.ref is.makes.stands,
    get_or_from_slice_get refs is.makes.index is.makes.ref is.makes.ref is.makes.stands,
    is.makes.paired,
  );
}
fetched_made g refs (id bytes) e rival is = is.makes.1

module _ (g : List Reading) (refs : List Ref) (kept : List Mapped) (are : AreKeptForward g refs kept) where
  -- a mapping of the list has its own pair
  pub has_own : (m : Mapped) → Contains kept m → HasPair kept m
  has_own m (i, below, at) = HasPair-Any kept m
      (some_of (IsOfPair m) kept (i, m, below, at, record { source = refl; destination = refl }))

  -- a valid mapping that is kept is fetched
  pub fetched_at : (m : Mapped) (e : List ℕ) (rival : Rival) → Contains kept m → WritesTo e m → IsRival m rival
      → IsFetchedAt g refs m.source e rival
  fetched_at m e rival inside writes same =
      let (r, at, makes) = All-contains (λ m. AtSpec g m (MakesForwardOf refs m.item m.source m.destination)) kept m
      (All-from_recursion _ kept ((made_at_indexes g refs).forward kept are)) inside in
      let included = (((kept_exactly g refs).forward kept are m).0 (has_own m inside)).1 in
      record {
        reading = r;
        at = subst (λ k. slice_get g k ≡ Some r) (sym same.spec) at;
        makes = subst (λ d. MakesForwardOf refs rival.item_index m.source d r) writes.1
            (subst (λ i. MakesForwardOf refs i m.source m.destination r) (sym same.item) makes);
        included = included;
        source = writes.0.source;
        destination = subst CanBeWritten writes.1 writes.0.destination;
      }

  -- what makes a pair whose source isn't excluded is kept
  pub made_kept : (s : Source) (d : Option (List ℕ)) (k : ℕ) (r : Reading) → slice_get g k ≡ Some r
      → MakesForward refs s d r → ¬ (IsSourceExcluded g s)
      → (m : Mapped) × Contains kept m × (m.source ≡ s) × (m.destination ≡ d)
  made_kept s d k r at makes included =
      let pair : Mapped = record { item = None; source = s; destination = d; spec = 0 } in
      let has = ((kept_exactly g refs).forward kept are pair).1
      (any_at (MakesForward refs s d) g k r at makes, included) in
      let (m, inside, same) = pair_in kept pair has in
      (m, inside, same.source, same.destination)

  -- what is fetched to a destination is kept, and valid
  pub fetched_kept : (s : Source) (e : List ℕ) (rival : Rival) → IsFetchedAt g refs s e rival
      → (m : Mapped) × Contains kept m × WritesTo e m × (m.source ≡ s)
  fetched_kept s e rival is =
      let (m, inside, from, to) = made_kept s (Some e) rival.spec_index is.reading is.at
      (fetched_made g refs s e rival is) is.included in (
        m,
        inside,
        (
          record {
            source = subst IsValidSource (sym from) is.source;
            destination =
                subst CanBeWritten (sym to) is.destination;
          },
          to,
        ),
        from,
      )

  module _ (n d : List ℕ) where
    pub contesting : (rival : Rival) → IsContesting kept n d rival → IsContestedBy g refs n (Some d) rival
    contesting rival (m, inside, (writes, other), same) =
        (d, m.source, refl, other, fetched_at m d rival inside writes same)

    pub uncontested : ((rival : Rival) → ¬ (IsContesting kept n d rival)) → (rival : Rival)
        → ¬ (IsContestedBy g refs n (Some d) rival)
    uncontested none rival (e, s, is, other, fetched) =
        let (m, inside, writes, from) = fetched_kept s e rival fetched in
        none (rival_of m) (
          m,
          inside,
          (subst (λ e. WritesTo e m) (sym (same_Some d e is)) writes, λ same. other (sym from ∙ same)),
          record { spec = refl; item = refl },
        )

    pub obstructing : (rival : Rival) → IsObstructing kept d rival → IsObstructedBy g refs (Some d) rival
    obstructing rival (e, nested, (m, inside, writes, same)) =
        (d, e, m.source, refl, nested, fetched_at m e rival inside writes same)

    pub unobstructed : ((rival : Rival) → ¬ (IsObstructing kept d rival)) → (rival : Rival)
        → ¬ (IsObstructedBy g refs (Some d) rival)
    unobstructed none rival (e, other, s, is, nested, fetched) =
        let (m, inside, writes, from) = fetched_kept s other rival fetched in
        none (rival_of m) (
          other,
          subst (λ e. AreNested e other) (sym (same_Some d e is)) nested,
          (m, inside, writes, record { spec = refl; item = refl }),
        )
