-- The words on one spec and one name: what is mapped in each direction, and what isn't.
use Rattle.gix_refspec_match.proofs.Common.{List, [], ◌∷◌, None, Some, codes, refl, ℕ, ◌++◌, Option, rules}
use Rattle.gix_refspec_match.proofs.Common.{fetched, Normal, full_name, pattern, object, partial}
use Rattle.gix_refspec_match.proofs.Common.{Mapped, Ends}
use Rattle.gix_refspec_match.proofs.Common.{IsCandidate, IsRenamed, MapsName, MapsNameBack, MatchesNamed}
use Rattle.gix_refspec_match.proofs.Common.{arith, same_Some, lacks_no_pattern}
use Rattle.gix_refspec_match.proofs.Common.{BeginsWith}
use Rattle.gix_refspec_match.proofs.lemmas.hits.SingleLemmas.{mapped_back_ends, mapped_ends, maps_back_name, maps_name}
use Rattle.gix_refspec_match.proofs.facts.MatchFacts.{backward_ends, forward_ends, main_candidate, mapping}
use Rattle.gix_refspec_match.proofs.facts.MatchFacts.{no_blob_ends, tracked}
use Rattle.gix_refspec_text.proofs.facts.{FaultFacts.begins_not, ManualFacts.none_some, ObjectIdFacts.empty_blob}
use Rattle.gix_refspec_text.proofs.facts.FitFacts.{below_tags, blob, blob_kind, every, heads_split, no_dev}
use Rattle.gix_refspec_text.proofs.facts.FitFacts.{origin_split, short, short_kind, short_no_id}
use Rattle.gix_refspec_text.specs.Texts.ObjectId.{lower_of}

not_below : (before n : List ℕ) → ¬ (BeginsWith before n) → (word : Option (List ℕ))
    → ¬ (MatchesNamed (pattern before []) n word)
not_below before n other None is = is
not_below before n other (Some w) is = other (record { after = w ++ []; here = is })

-- a pattern maps a name that it matches to the destination with its word, by the first spec and item, and no other name
pub maps_main : MapsName (codes "refs/heads/main") every (tracked 0 (codes "main"))
    × ¬ (MapsName (codes "refs/heads/main") every (tracked 1 (codes "main")))
    × ((m : Mapped) → ¬ (MapsName (codes "refs/tags/v1") every m))
maps_main = (
  maps_name _ every forward_ends (pattern (codes "refs/heads/") []) (Some (codes "main")) _
      (search rules) heads_split refl (pattern (codes "refs/remotes/origin/") [], origin_split, refl),
  (λ maps. grind (arith, maps.item)),
  λ m maps. let (ends, has, matched) = mapped_ends _ every m (pattern (codes "refs/heads/") []) maps in
      let (word, is) = matched (rw (← same_Some _ _ has.near) heads_split) in
      not_below (codes "refs/heads/") (codes "refs/tags/v1") (begins_not _ _ refl) word is,
)

-- so it does back, where the destination matches
pub maps_main_back : MapsNameBack (codes "refs/remotes/origin/main") every (tracked 0 (codes "main"))
    × ((m : Mapped) → ¬ (MapsNameBack (codes "refs/heads/main") every m))
maps_main_back = (
  maps_back_name _ every backward_ends (pattern (codes "refs/remotes/origin/") []) (Some (codes "main")) _
      (search rules) origin_split refl (pattern (codes "refs/heads/") [], heads_split, refl),
  λ m maps. let (ends, has, matched) = mapped_back_ends _ every m (pattern (codes "refs/remotes/origin/") []) maps in
      let (word, is) = matched (rw (← same_Some _ _ has.near) origin_split) in
      not_below (codes "refs/remotes/origin/") (codes "refs/heads/main") (begins_not _ _ refl) word is,
)

-- a partial name takes each candidate, and without a destination maps to nothing, and nothing back
pub takes_each_candidate : MapsName (codes "refs/heads/main") short (mapping 0 (codes "refs/heads/main") None 0)
    × MapsName (codes "refs/tags/main") short (mapping 0 (codes "refs/tags/main") None 0)
    × ((n : List ℕ) (m : Mapped) → ¬ (MapsNameBack n short m))
takes_each_candidate =
    let of_tag : IsCandidate (codes "main") (codes "refs/tags/main") =
    record { earlier = codes "main" ∷ codes "refs/main" ∷ []; later = _; here = refl } in
    let ends : Ends = record { near = codes "main"; far = None } in (
      maps_name _ short ends (partial (codes "main")) None None (search (rules, short_no_id)) short_kind
          (refl, main_candidate) refl,
      maps_name _ short ends (partial (codes "main")) None None (search (rules, short_no_id)) short_kind
          (refl, of_tag) refl,
      λ n m maps. let (ends, has, matched) = mapped_back_ends n short m (full_name []) maps in none_some _ has.near,
    )

-- the id of an object maps no name, and as a source it becomes a branch
pub maps_no_id : ((n : List ℕ) (m : Mapped) → ¬ (MapsName n blob m))
    × MapsNameBack (codes "refs/tags/blob") blob
    (mapping 0 (codes "refs/heads/" ++ lower_of empty_blob) (Some (codes "refs/tags/blob")) 0)
    × ((n : List ℕ) (m : Mapped) → ¬ (MapsNameBack n
    (fetched Normal (codes "refs/tags/blob") (Some (codes "e69de29bb2d1d6434b8b29ae775ad8c2e48c5391"))) m))
maps_no_id = (
  (λ n m maps. let (ends, has, matched) = mapped_ends n blob m (full_name []) maps in no_blob_ends ends has),
  maps_back_name _ blob (record {
    near = codes "refs/tags/blob";
    far =
        Some (codes "e69de29bb2d1d6434b8b29ae775ad8c2e48c5391");
  }) (full_name (codes "refs/tags/blob")) None _
      (search rules) below_tags (refl, refl) (object _, blob_kind, refl),
  λ n m maps. let (ends, has, matched) = mapped_back_ends n _ m (object empty_blob) maps in
      (matched (rw (← same_Some _ _ has.near) blob_kind)).1,
)

-- a negative spec maps nothing
pub negative_maps_nothing : (n : List ℕ) (m : Mapped) → ¬ (MapsName n no_dev m) × ¬ (MapsNameBack n no_dev m)
negative_maps_nothing n m = (
  (λ maps. let (ends, has, matched) = mapped_ends n no_dev m (full_name []) maps in has.positive),
  λ maps. let (ends, has, matched) = mapped_back_ends n no_dev m (full_name []) maps in has.positive,
)

-- a full name stays the same, and a pattern, a partial name and an id don't
pub renames : ¬ (IsRenamed None) × ¬ (IsRenamed (Some (codes "refs/tags/blob")))
    × IsRenamed (Some (codes "refs/heads/*")) × IsRenamed (Some (codes "main"))
    × IsRenamed (Some (codes "e69de29bb2d1d6434b8b29ae775ad8c2e48c5391"))
renames = (
  (λ none. none),
  (λ other. other _ below_tags),
  (λ n kind. lacks_no_pattern _ _ _ kind.1 heads_split),
  (λ n kind. short_kind.2 kind.2),
  λ n kind. blob_kind.1 kind.2,
)
