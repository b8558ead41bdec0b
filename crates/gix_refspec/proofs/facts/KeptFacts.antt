-- What a caller concludes from the laws on kept mappings: whether a pair is kept, and by which spec and item.
use Rattle.gix_refspec.proofs.Common.{some_of, by_cases, map, rules, branch_and_tag, main_tag, main_ends, main_to_x}
use Rattle.gix_refspec.proofs.Common.{no_tags, no_other_first, not_excluded, tags_excluded, takes_the_tag, x_kind}
use Rattle.gix_refspec.proofs.Common.{named, empty_blob, below_tags, blob, blob_kind, dev_ref, every, main_ref, no_dev}
use Rattle.gix_refspec.proofs.Common.{short_kind, tag_ref, blob_mapping, dev_excluded, main_stays, mapping, maps_all}
use Rattle.gix_refspec.proofs.Common.{only_dev, tracked, tracks_all, ◌≡◌, inl, inr, ℕ, List, [], ◌∷◌, ◌++◌, None, Some}
use Rattle.gix_refspec.proofs.Common.{codes, refl, sym, ap, ◌∙◌, subst, arith, AllByRecursion, Any, Contains, slice_get}
use Rattle.gix_refspec.proofs.Common.{partial, full_name, Ref, IsFirstCandidate, name, Mapped, HasPair, IsExcluded}
use Rattle.gix_refspec.proofs.Common.{AreKeptForward, AreKeptBackward, MakesForward, MakesBackward, PairsId}
use Rattle.gix_refspec.proofs.Common.{KeptExactly, FirstStays, NothingExcluded, ForwardIndexes, IsValidated}
use Rattle.gix_refspec.proofs.Common.{ItemIndexesFit, Removed, same_Some, Reading, id, MakesForwardOf, MakesBackwardOf}
use Rattle.gix_refspec.proofs.Common.{MadeAtIndexes, RemainsExactly, KeepsRefNames, LeftOut, AreBackwardEnds, IsPaired}
use Rattle.gix_refspec.proofs.Common.{Matches, of_element, AreForwardEnds, Takes}
use Rattle.gix_refspec.proofs.facts.RefNameFacts.{good, kept, no_ref_names, no_other_sides, to_bad}
use Rattle.gix_refspec.proofs.facts.ValidationFacts.{writable, unequal}
use Rattle.gix_refspec.specs.{Laws.Matching.IsFirstOfPair, Matching.Validation.BackwardIndexes}

abbrev pub group : List Reading
group = every ∷ no_dev ∷ []

abbrev tag_pair : Mapped
tag_pair = mapping 7 (codes "refs/tags/main") (Some (codes "refs/x")) 5

abbrev branch_pair : Mapped
branch_pair = mapping 0 (codes "refs/heads/main") (Some (codes "refs/x")) 0

pub of_one : {X : Type 0} (P : X → Type 0) (x : X) → Any P (x ∷ []) → P x
of_one P x some = by_cases (some_of P (x ∷ []) some) (λ holds. holds) (λ none. absurd none)

-- what holds of the spec at an index holds of the one that stands there
pub at_spec : (g : List Reading) (k : ℕ) (P : Reading → Type 0) (r : Reading) → slice_get g k ≡ Some r → (q : Reading)
    × (slice_get g k ≡ Some q) × P q → P r
at_spec g k P r is (q, here, holds) = subst P (same_Some q r (sym here ∙ is)) holds

-- the spec takes the tag at its index, not at that of the branch or without one, and so makes its pair, and none of the
-- branch
pub tag_made : MakesForwardOf branch_and_tag (Some 1) (name (codes "refs/tags/main")) (Some (codes "refs/x")) main_to_x
    × ¬ (MakesForwardOf branch_and_tag (Some 0) (name (codes "refs/tags/main")) (Some (codes "refs/x")) main_to_x)
    × ¬ (MakesForwardOf branch_and_tag None (name (codes "refs/tags/main")) (Some (codes "refs/x")) main_to_x)
    × MakesForward branch_and_tag (name (codes "refs/tags/main")) (Some (codes "refs/x")) main_to_x
    × ¬ (MakesForward branch_and_tag (name (codes "refs/heads/main")) (Some (codes "refs/x")) main_to_x)
tag_made =
    let has : AreForwardEnds main_to_x main_ends = search rules in
    let paired : IsPaired (Takes branch_and_tag) main_ends (codes "refs/tags/main") (Some (codes "refs/x")) main_tag =
    record {
      word = None;
      name = refl;
      takes = takes_the_tag.0;
      becomes =
          (full_name (codes "refs/x"), x_kind, refl);
    } in
    let no_branch : ¬ (MakesForward branch_and_tag (name (codes "refs/heads/main")) (Some (codes "refs/x")) main_to_x) =
    λ made. let (at, item, below, is, taken) = made.one in
    let first : IsFirstCandidate branch_and_tag (codes "main") item.name = taken.takes.first (codes "main")
    (rw (← same_Some _ _ made.has.near) short_kind) in no_other_first.0 (search rules) in
    search rules

abbrev local_x : List Ref
local_x = named (codes "refs/x") ∷ []

-- from right to left the destination matches the item, which makes the pair, and nothing is made without one
pub branch_back : MakesBackwardOf local_x (Some 0) (name (codes "refs/heads/main")) (Some (codes "refs/x")) main_to_x
    × MakesBackward local_x (name (codes "refs/heads/main")) (Some (codes "refs/x")) main_to_x
    × ¬ (MakesBackwardOf local_x None (name (codes "refs/heads/main")) (Some (codes "refs/x")) main_to_x)
    × ¬ (MakesBackwardOf local_x (Some 0) (name (codes "refs/heads/main")) None main_to_x)
branch_back =
    let has : AreBackwardEnds main_to_x (record { near = codes "refs/x"; far = Some (codes "main") }) = search rules in
    let paired : IsPaired Matches (record { near = codes "refs/x"; far = Some (codes "main") }) (codes "refs/x")
    (Some (codes "refs/heads/main")) (named (codes "refs/x")) =
    record {
      word = None;
      name = refl;
      takes = record {
        kind = full_name (codes "refs/x");
        of = x_kind;
        is =
            (refl, refl);
      };
      becomes = (partial (codes "main"), short_kind, refl);
    } in
    search rules

-- the spec makes the pair of the id that it asks for, and no item
pub id_without_item : PairsId empty_blob (Some (codes "refs/tags/blob")) blob
    × ((items : List Ref) → MakesForwardOf items None (id empty_blob) (Some (codes "refs/tags/blob")) blob
    × ¬ (MakesForwardOf items (Some 0) (id empty_blob) (Some (codes "refs/tags/blob")) blob))
id_without_item =
    let paired : PairsId empty_blob (Some (codes "refs/tags/blob")) blob =
    record {
      positive = tt;
      text = codes "e69de29bb2d1d6434b8b29ae775ad8c2e48c5391";
      side = refl;
      object = blob_kind;
      becomes = (full_name (codes "refs/tags/blob"), below_tags, refl);
    } in
    search rules

-- by the law the kept mappings have the pair of the tag and not that of the branch, the pair from right to left, and
-- that of the id. A pair whose source is excluded isn't kept, though a spec makes it
pub pairs_kept : (kept : List Mapped)
    → (KeptExactly (main_to_x ∷ []) branch_and_tag → AreKeptForward (main_to_x ∷ []) branch_and_tag kept
    → HasPair kept tag_pair × ¬ (HasPair kept branch_pair))
    × (KeptExactly (main_to_x ∷ []) local_x → AreKeptBackward (main_to_x ∷ []) local_x kept → HasPair kept branch_pair)
    × ((items : List Ref) → KeptExactly (blob ∷ []) items → AreKeptForward (blob ∷ []) items kept
    → HasPair kept blob_mapping)
    × (KeptExactly (main_to_x ∷ no_tags ∷ []) branch_and_tag → AreKeptForward (main_to_x ∷ no_tags ∷ []) branch_and_tag
    kept → ¬ (HasPair kept tag_pair))
    × ((items : List Ref) → NothingExcluded (main_to_x ∷ no_tags ∷ []) items
    → ¬ (AreKeptForward (main_to_x ∷ no_tags ∷ []) items (tag_pair ∷ kept))
    × ¬ (AreKeptBackward (main_to_x ∷ no_tags ∷ []) items (tag_pair ∷ kept)))
pairs_kept kept =
    let excluded : IsExcluded (main_to_x ∷ no_tags ∷ []) (codes "refs/tags/main") =
    inr (inl (search (rules, tags_excluded))) in (
      (λ law are. (
        (law.forward kept are tag_pair).1 ((0, main_to_x, omega arith, refl, tag_made.3), search rules),
        λ has. tag_made.4 (of_one _ main_to_x ((law.forward kept are branch_pair).0 has).0),
      )),
      (λ law are. (law.backward kept are branch_pair).1 (
        (0, main_to_x, omega arith, refl, branch_back.1),
        not_excluded (codes "refs/heads/main"),
      )),
      (λ items law are. (law.forward kept are blob_mapping).1 (
        (0, blob, omega arith, refl, id_without_item.0),
        λ none. none,
      )),
      (λ law are has. ((law.forward kept are tag_pair).0 has).1 excluded),
      λ items law. (
        (λ are. (law.names (tag_pair ∷ kept) (inl are)).0 excluded),
        λ are. (law.names (tag_pair ∷ kept) (inr are)).0 excluded,
      ),
    )

-- an excluded branch, a tag, a branch and its duplicate, and their tracking refs
abbrev pub remote_refs : List Ref
remote_refs = dev_ref ∷ tag_ref ∷ main_ref ∷ main_ref ∷ []

abbrev pub tracking_refs : List Ref
tracking_refs = named (codes "refs/remotes/origin/dev-a") ∷ named (codes "refs/remotes/origin/main") ∷ []

-- the duplicate has the same pair, and so isn't the first
no_first : (front rest : List Mapped) → tracked 0 (codes "dev-a") ∷ tracked 2 (codes "main") ∷ tracked 3 (codes "main")
    ∷ [] ≡ front ++ (tracked 3 (codes "main") ∷ rest) → ¬ (HasPair front (tracked 3 (codes "main"))) → ⊥
no_first (x ∷ y ∷ front) rest here new = let same : y ≡ tracked 2 (codes "main") = cc in search rules
no_first front rest here new = let items = ap (map (λ (m : Mapped). m.item)) here in cc

-- by the law the first mapping of the branch is kept, with its index, and neither its duplicate nor the excluded branch
pub first_there : (kept : List Mapped) → (FirstStays group remote_refs → AreKeptForward group remote_refs kept
    → Contains kept (tracked 2 (codes "main")) × ¬ (Contains kept (tracked 3 (codes "main")))
    × ¬ (Contains kept (tracked 0 (codes "dev-a"))))
    × (FirstStays group tracking_refs → AreKeptBackward group tracking_refs kept
    → Contains kept (tracked 1 (codes "main")) × ¬ (Contains kept (tracked 0 (codes "dev-a"))))
first_there kept =
    let first : IsFirstOfPair group (tracked 0 (codes "dev-a") ∷ tracked 2 (codes "main") ∷ tracked 3 (codes "main")
    ∷ []) (tracked 2 (codes "main")) =
    record {
      before = tracked 0 (codes "dev-a") ∷ [];
      after = _;
      here = refl;
      first = only_dev 2;
      included =
          main_stays;
    } in
    let back : IsFirstOfPair group (tracked 0 (codes "dev-a") ∷ tracked 1 (codes "main") ∷ [])
    (tracked 1 (codes "main")) =
    record {
      before = tracked 0 (codes "dev-a") ∷ [];
      after = [];
      here = refl;
      first = only_dev 1;
      included =
          main_stays;
    } in (
      (λ law are. let stays = law.forward _ kept maps_all are in (
        (stays _).1 first,
        (λ has. let is = (stays (tracked 3 (codes "main"))).0 has in no_first is.before is.after is.here
            is.first),
        λ has. ((stays (tracked 0 (codes "dev-a"))).0 has).included dev_excluded,
      )),
      λ law are. let stays = law.backward _ kept tracks_all are in
          ((stays _).1 back, λ has. ((stays (tracked 0 (codes "dev-a"))).0 has).included dev_excluded),
    )

-- the item at the index has the name of the destination
pub item_back : BackwardIndexes group tracking_refs (tracked 1 (codes "main"))
    × ¬ (BackwardIndexes group tracking_refs (tracked 0 (codes "main")))
item_back =
    let one : BackwardIndexes group tracking_refs (tracked 1 (codes "main")) =
    record {
      spec = omega arith;
      index = 1;
      ref = named (codes "refs/remotes/origin/main");
      item = refl;
      stands =
          refl;
      named = refl;
    } in (
      one,
      λ fits. let stands = rw (← same_Some 0 fits.index fits.item) at fits.stands in let same :
          codes "refs/remotes/origin/main" ≡ codes "refs/remotes/origin/dev-a" = cc in unequal same refl,
    )

-- by the law a mapping of the branch has neither the index of the tag nor that of a third spec, if there are two, and
-- one from right to left not that of another tracking ref. Mappings that fit do so once validated
pub no_other_indexes : (rest : List Mapped)
    → (ItemIndexesFit group remote_refs → ¬ (AreKeptForward group remote_refs (tracked 1 (codes "main") ∷ rest))
    × ¬ (AreKeptForward group remote_refs
    (mapping 2 (codes "refs/heads/main") (Some (codes "refs/remotes/origin/main")) 2 ∷ rest)))
    × (ItemIndexesFit group tracking_refs → ¬ (AreKeptBackward group tracking_refs (tracked 0 (codes "main") ∷ rest)))
    × ((items : List Ref) (l : List Mapped) (fixes : List Removed) → ItemIndexesFit (every ∷ []) items
    → IsValidated (every ∷ []) l rest fixes → AllByRecursion (ForwardIndexes (every ∷ []) items) l
    → AllByRecursion (ForwardIndexes (every ∷ []) items) rest)
no_other_indexes rest = search (rules, item_back)

-- by the law a mapping of the branch has the index neither of the negative spec nor of the tag
pub not_of_others : (rest : List Mapped)
    → (MadeAtIndexes group remote_refs
    → ¬ (AreKeptForward group remote_refs
    (mapping 2 (codes "refs/heads/main") (Some (codes "refs/remotes/origin/main")) 1 ∷ rest))
    × ¬ (AreKeptForward group remote_refs (tracked 1 (codes "main") ∷ rest)))
    × ((items : List Ref) → MadeAtIndexes group items
    → ¬ (AreKeptBackward group items
    (mapping 0 (codes "refs/heads/main") (Some (codes "refs/remotes/origin/main")) 1 ∷ rest)))
not_of_others rest =
    let none : ¬ (MakesForwardOf remote_refs (Some 1) (name main_ref.name) (Some (codes "refs/remotes/origin/main"))
    every) = λ m. search rules in
    (search rules, λ items law are. (at_spec group 1 _ no_dev refl (law.backward _ are).0).has.positive)

-- by the law a mapping to a full name remains, and one to a partial name or to an invalid one doesn't, and none is new
pub good_remains : (g : List Reading) (rest : List Mapped)
    → (RemainsExactly g (kept ∷ mapping 1 good (Some (codes "main")) 0 ∷ []) → (fixes : List Removed)
    → IsValidated g (kept ∷ mapping 1 good (Some (codes "main")) 0 ∷ []) rest fixes
    → Contains rest kept × ¬ (Contains rest (mapping 1 good (Some (codes "main")) 0)))
    × (RemainsExactly g (kept ∷ to_bad ∷ []) → (out : List LeftOut) → KeepsRefNames (kept ∷ to_bad ∷ []) rest out
    → Contains rest kept × ¬ (Contains rest to_bad))
    × (RemainsExactly g [] → ((fixes : List Removed) → IsValidated g [] rest fixes → ¬ (Contains rest kept))
    × ((out : List LeftOut) → KeepsRefNames [] rest out → ¬ (Contains rest kept)))
good_remains g rest = search (rules, of_element, writable, no_other_sides, no_ref_names)
