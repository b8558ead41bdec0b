-- The words on matching at groups like those of git-fetch(1) under `<refspec>`: what is mapped, and what isn't.
use Rattle.gix_refspec_match.proofs.Common.{List, [], ◌∷◌, None, Some, codes, refl, ◌≡◌, ℕ, ◌++◌, Option, sym, ◌∙◌, inl}
use Rattle.gix_refspec_match.proofs.Common.{inr, ap, append-nil, same_Some, lacks_no_pattern, rules, first_of_one}
use Rattle.gix_refspec_match.proofs.Common.{taken_by_first, IsSplit, Ref, Matches, Takes, pattern, full_name}
use Rattle.gix_refspec_match.proofs.Common.{IsCandidate, Reading, IsMadeFrom, Ends, AreForwardEnds, AreBackwardEnds}
use Rattle.gix_refspec_match.proofs.Common.{Hit, IsHit, AreHits, IsIdMapping, AreBackward, AreForward, AreKeptForward}
use Rattle.gix_refspec_match.proofs.Common.{AreKeptBackward, name, id, Mapped, IsExcluded, IsKept, map, forward_of}
use Rattle.gix_refspec_match.proofs.Common.{backward_of, IsSourceExcluded, IsSamePair, HasPair}
use Rattle.gix_refspec_match.proofs.lemmas.hits.HitLemmas.{matches_as}
use Rattle.gix_refspec_match.proofs.lemmas.index.PlacedLemmas.{begins_as}
use Rattle.gix_refspec_match.specs.Matching.Mappings.{AreApart}
use Rattle.gix_refspec_text.proofs.facts.FaultFacts.{begins_not}
use Rattle.gix_refspec_text.proofs.facts.FitFacts.{excludes_dev, excludes_no_main, every, no_dev, dev_ref, tag_ref}
use Rattle.gix_refspec_text.proofs.facts.FitFacts.{main_ref, heads_split, origin_split, short, blob, below_tags}
use Rattle.gix_refspec_text.proofs.facts.FitFacts.{blob_kind, short_no_id, short_kind}
use Rattle.gix_refspec_text.proofs.facts.ManualFacts.{named}
use Rattle.gix_refspec_text.proofs.facts.ObjectIdFacts.{empty_blob}

-- the mapping that such a spec at place 0 gives of a branch at a place
abbrev pub tracked : ℕ → List ℕ → Mapped
tracked item branch = record {
  item = Some item;
  source = name (codes "refs/heads/" ++ branch);
  destination =
      Some (codes "refs/remotes/origin/" ++ branch);
  spec = 0;
}

-- the ends of a spec of two patterns, from left to right, and from right to left
abbrev pub forward_ends : Ends
forward_ends = record { near = codes "refs/heads/*"; far = Some (codes "refs/remotes/origin/*") }

abbrev pub backward_ends : Ends
backward_ends = record { near = codes "refs/remotes/origin/*"; far = Some (codes "refs/heads/*") }

-- that the spec at a place takes what is below a folder, at a place
abbrev hit_below : List ℕ → List ℕ → ℕ → ℕ → List ℕ → Hit
hit_below near far spec item branch = record {
  spec = spec;
  item = item;
  near = near ++ branch;
  far =
      Some (far ++ (branch ++ []));
}

takes_below : (near far : List ℕ) → IsSplit near [] (near ++ codes "*") → IsSplit far [] (far ++ codes "*")
    → (Taken : List ℕ → Ref → Option (List ℕ) → Type 0)
    → ((r : Ref) (word : Option (List ℕ)) → Matches (near ++ codes "*") r word → Taken (near ++ codes "*") r word)
    → (k j : ℕ) (branch : List ℕ) → IsHit Taken (record { near = near ++ codes "*"; far = Some (far ++ codes "*") }) k j
    (named (near ++ branch)) (hit_below near far k j branch)
takes_below near far near_split far_split Taken taken k j branch =
    let matches : Matches (near ++ codes "*") (named (near ++ branch)) (Some branch) =
    record {
      kind = pattern near [];
      of = near_split;
      is = ap (λ (y : List ℕ). near ++ y)
          (sym (append-nil branch));
    } in
    record {
      word = Some branch;
      takes = taken (named (near ++ branch)) (Some branch) matches;
      far =
          (pattern far [], far_split, refl);
      near = refl;
      spec = refl;
      item = refl;
    }

abbrev pub hit_by : ℕ → ℕ → List ℕ → Hit
hit_by spec item branch = hit_below (codes "refs/heads/") (codes "refs/remotes/origin/") spec item branch

pub taken_by : (items : List Ref) (k j : ℕ) (branch : List ℕ) → IsHit (Takes items) forward_ends k j
    (named (codes "refs/heads/" ++ branch)) (hit_by k j branch)
taken_by items = takes_below (codes "refs/heads/") (codes "refs/remotes/origin/") heads_split origin_split (Takes items)
    (λ r word matches.
    record {
      matches = matches;
      first =
          λ n kind. absurd (lacks_no_pattern (codes "refs/heads/*") (codes "refs/heads/") [] kind.1 heads_split);
    })

pub takes_back : (j : ℕ) (branch : List ℕ) → IsHit Matches backward_ends 0 j
    (named (codes "refs/remotes/origin/" ++ branch))
    (hit_below (codes "refs/remotes/origin/") (codes "refs/heads/") 0 j branch)
takes_back = takes_below (codes "refs/remotes/origin/") (codes "refs/heads/") origin_split heads_split Matches
    (λ r word matches. matches) 0

pub takes_no_tag : (items : List Ref) (j : ℕ) (hit : Hit) → ¬ (IsHit (Takes items) forward_ends 0 j tag_ref hit)
takes_no_tag items j hit is =
    let fits = matches_as (codes "refs/heads/*") (pattern (codes "refs/heads/") []) tag_ref is.word heads_split
    is.takes.matches in
    begins_not (codes "refs/heads/") tag_ref.name refl (begins_as (codes "refs/heads/") [] tag_ref is.word fits)

-- no spec of the group excludes a branch that doesn't begin so
pub main_stays : ¬ (IsSourceExcluded (every ∷ no_dev ∷ []) (name (codes "refs/heads/main")))
main_stays (inl by) = cc (by.negative)
main_stays (inr (inl by)) = excludes_no_main (rw (← same_Some _ _ by.source) at by.excludes)
main_stays (inr (inr none)) = none

pub dev_excluded : IsExcluded (every ∷ no_dev ∷ []) (codes "refs/heads/dev-a")
dev_excluded = inr (inl (search (rules, excludes_dev)))

pub only_dev : (item : ℕ) → ¬ (HasPair (tracked 0 (codes "dev-a") ∷ []) (tracked item (codes "main")))
only_dev item = search rules

-- what the group takes is what its first spec takes, since the other is negative
hits_of_every : (HasEnds : Reading → Ends → Type 0) (Taken : List ℕ → Ref → Option (List ℕ) → Type 0) (items : List Ref)
    (hits : List Hit) (ends : Ends) → HasEnds every ends → ((e : Ends) → ¬ (HasEnds no_dev e))
    → IsMadeFrom (IsHit Taken ends 0) 0 items hits → AreHits HasEnds Taken (every ∷ no_dev ∷ []) items hits
hits_of_every HasEnds Taken items hits ends has none taken =
    (hits, [], inl (ends, has, taken), ([], [], inr (none, refl), refl, refl), sym (append-nil hits))

-- the mappings of ids and hits, of which some are kept
pub keeps : (g : List Reading) (items : List Ref) (ids kept : List Mapped) (hits : List Hit)
    → IsMadeFrom IsIdMapping 0 g ids → AreHits AreForwardEnds (Takes items) g items hits
    → IsKept g (ids ++ map forward_of hits) kept → AreKeptForward g items kept
keeps g items ids kept hits are_ids are_hits is =
    record {
      all = _;
      forward = record { ids = ids; hits = hits; are_ids = are_ids; are_hits = are_hits; all = refl };
      is = is;
    }

pub keeps_back : (g : List Reading) (items : List Ref) (kept : List Mapped) (hits : List Hit)
    → AreHits AreBackwardEnds Matches g items hits → IsKept g (map backward_of hits) kept → AreKeptBackward g items kept
keeps_back g items kept hits are_hits is =
    record { all = _; backward = record { hits = hits; are_hits = are_hits; all = refl }; is = is }

-- of a branch, a tag, an excluded branch and the branch once more, the first is mapped alone
pub fetches_all_but_dev : AreKeptForward (every ∷ no_dev ∷ []) (dev_ref ∷ tag_ref ∷ main_ref ∷ main_ref ∷ [])
    (tracked 2 (codes "main") ∷ [])
fetches_all_but_dev =
    let items = dev_ref ∷ tag_ref ∷ main_ref ∷ main_ref ∷ [] in
    let hits = hit_by 0 0 (codes "dev-a") ∷ hit_by 0 2 (codes "main") ∷ hit_by 0 3 (codes "main") ∷ [] in
    let takes = taken_by items 0 in
    keeps _ items [] _ hits (search rules)
    (hits_of_every AreForwardEnds (Takes items) items hits forward_ends (search rules) (λ ends has. has.positive) (
      Some _,
      _,
      takes 0 (codes "dev-a"),
      (
        None,
        _,
        takes_no_tag items 1,
        (Some _, _, takes 2 (codes "main"), (Some _, [], takes 3 (codes "main"), refl, refl), refl),
        refl,
      ),
      refl,
    )) (
      None,
      _,
      (λ m is. is.1.included dev_excluded),
      (Some _, [], search (rules, only_dev, main_stays), (None, [], search (rules, only_dev), refl, refl), refl),
      refl,
    )

-- and from right to left, over the tracking refs of the excluded branch and of the other one
pub tracks_all_but_dev : AreKeptBackward (every ∷ no_dev ∷ [])
    (named (codes "refs/remotes/origin/dev-a") ∷ named (codes "refs/remotes/origin/main") ∷ [])
    (tracked 1 (codes "main") ∷ [])
tracks_all_but_dev =
    let items = named (codes "refs/remotes/origin/dev-a") ∷ named (codes "refs/remotes/origin/main") ∷ [] in
    let hits = hit_below (codes "refs/remotes/origin/") (codes "refs/heads/") 0 0 (codes "dev-a") ∷ hit_below
    (codes "refs/remotes/origin/") (codes "refs/heads/") 0 1 (codes "main") ∷ [] in
    keeps_back _ items _ hits
    (hits_of_every AreBackwardEnds Matches items hits backward_ends (search rules) (λ ends has. has.positive)
    (Some _, _, takes_back 0 (codes "dev-a"), (Some _, [], takes_back 1 (codes "main"), refl, refl), refl)) (
      None,
      _,
      (λ m is. is.1.included dev_excluded),
      (Some _, [], search (rules, only_dev, main_stays), refl, refl),
      refl,
    )

-- before exclusions and duplicates are left out, these are all mapped
pub maps_all : AreForward (every ∷ no_dev ∷ []) (dev_ref ∷ tag_ref ∷ main_ref ∷ main_ref ∷ [])
    (tracked 0 (codes "dev-a") ∷ tracked 2 (codes "main") ∷ tracked 3 (codes "main") ∷ [])
unfolding fetches_all_but_dev keeps
maps_all = fetches_all_but_dev.forward

pub tracks_all : AreBackward (every ∷ no_dev ∷ [])
    (named (codes "refs/remotes/origin/dev-a") ∷ named (codes "refs/remotes/origin/main") ∷ [])
    (tracked 0 (codes "dev-a") ∷ tracked 1 (codes "main") ∷ [])
unfolding tracks_all_but_dev keeps_back
tracks_all = tracks_all_but_dev.backward

-- a spec without a destination takes nothing from right to left
pub tracks_nothing : AreKeptBackward (short ∷ []) (main_ref ∷ []) []
tracks_nothing = search rules

-- a mapping of a name at a place by a spec
abbrev pub mapping : ℕ → List ℕ → Option (List ℕ) → ℕ → Mapped
mapping item source destination spec = record {
  item = Some item;
  source = name source;
  destination = destination;
  spec = spec;
}

abbrev pub tag_to_x : Mapped
tag_to_x = mapping 0 (codes "refs/tags/a") (Some (codes "refs/x/a")) 0

abbrev pub branch_to_x : Mapped
branch_to_x = mapping 1 (codes "refs/heads/a") (Some (codes "refs/x/a")) 1

abbrev pub tag_again : Mapped
tag_again = mapping 2 (codes "refs/tags/a") (Some (codes "refs/x/a")) 1

abbrev pub tag_to_foo : Mapped
tag_to_foo = mapping 0 (codes "refs/tags/a") (Some (codes "foo")) 1

abbrev pub tag_alone : Mapped
tag_alone = mapping 0 (codes "refs/tags/a") None 1

-- two mappings have the same pair whatever their items and specs are, and not with one side alone
pub pairs : IsSamePair tag_to_x tag_again × ¬ (IsSamePair tag_to_x branch_to_x) × ¬ (IsSamePair tag_to_x tag_to_foo)
    × ¬ (IsSamePair tag_to_x tag_alone)
    × AreApart (tag_to_x ∷ branch_to_x ∷ tag_to_foo ∷ tag_alone ∷ [])
    × ¬ (AreApart (tag_to_x ∷ branch_to_x ∷ tag_again ∷ []))
pairs = search rules

abbrev pub blob_mapping : Mapped
blob_mapping = record { item = None; source = id empty_blob; destination = Some (codes "refs/tags/blob"); spec = 1 }

pub main_candidate : IsCandidate (codes "main") (codes "refs/heads/main")
main_candidate = record {
  earlier = codes "main" ∷ codes "refs/main" ∷ codes "refs/tags/main" ∷ [];
  later = _;
  here =
      refl;
}

pub no_main_id : (k : ℕ) (r : Reading) → r.source ≡ Some (codes "main") → (m : Mapped) → ¬ (IsIdMapping k r m)
no_main_id k r is m made = short_no_id made.bytes (rw (same_Some _ _ (sym is ∙ made.side)) made.object.2)

pub no_blob_ends : (ends : Ends) → ¬ (AreForwardEnds blob ends)
no_blob_ends ends are = are.no_object empty_blob (rw (← same_Some _ _ are.near) blob_kind)

-- an id is before all items, and has none. A partial name without a destination maps to nothing
pub asks_for_ids_first : AreKeptForward (short ∷ blob ∷ []) (main_ref ∷ [])
    (blob_mapping ∷ mapping 0 (codes "refs/heads/main") None 0 ∷ [])
asks_for_ids_first =
    let ends : Ends = record { near = codes "main"; far = None } in
    let asks : IsIdMapping 1 blob blob_mapping =
    record {
      positive = tt;
      text = _;
      bytes = empty_blob;
      side = refl;
      object = blob_kind;
      item = refl;
      source = refl;
      destination = (full_name (codes "refs/tags/blob"), below_tags, refl);
      spec = refl;
    } in
    let takes = taken_by_first (main_ref ∷ []) _ main_ref short_kind (first_of_one _ main_ref main_candidate) in
    let taken : IsHit (Takes (main_ref ∷ [])) ends 0 0 main_ref
    (record { spec = 0; item = 0; near = codes "refs/heads/main"; far = None }) =
    record { word = None; takes = takes; far = refl; near = refl; spec = refl; item = refl } in
    keeps _ (main_ref ∷ []) _ _ _ (None, _, no_main_id 0 short refl, (Some _, [], asks, refl, refl), refl) (
      _,
      [],
      inl (ends, search (rules, short_no_id), (Some _, [], taken, refl, refl)),
      ([], [], inr (no_blob_ends, refl), refl, refl),
      refl,
    )
    (Some _, _, search rules, (Some _, [], search rules, refl, refl), refl)
