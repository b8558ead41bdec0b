-- The words on hits and mappings: which specs have no such ends, which items no hit, and which mappings no place.
use Rattle.gix_refspec_match.proofs.Common.{List, [], ◌∷◌, None, Some, codes, refl, ◌≡◌, ℕ, Option, arith, inl, inr}
use Rattle.gix_refspec_match.proofs.Common.{fetched, pushed, full_name, rules, First, ap, length, map, Matches}
use Rattle.gix_refspec_match.proofs.Common.{IsSourceExcluded, Takes, pattern, HasKind, Normal, Forced, Negative, Ends}
use Rattle.gix_refspec_match.proofs.Common.{AreForwardEnds, AreBackwardEnds, IsFilled, Hit, IsHit, AreSpecHits, AreHits}
use Rattle.gix_refspec_match.proofs.Common.{forward_of, backward_of, IsIdMapping, AreBackward, name, id, Mapped}
use Rattle.gix_refspec_match.proofs.Common.{IsExcludedBy, IsExcluded, IsKeptAt, IsKept}
use Rattle.gix_refspec_match.proofs.facts.MatchFacts.{pairs, blob_mapping, mapping, tag_to_x, tag_again, no_blob_ends}
use Rattle.gix_refspec_match.proofs.facts.MatchFacts.{no_main_id, forward_ends, backward_ends, hit_by, taken_by}
use Rattle.gix_refspec_match.proofs.lemmas.hits.HitLemmas.{matches_as, one_pair}
use Rattle.gix_refspec_match.proofs.lemmas.lists.JoinLemmas.{nothing_made}
use Rattle.gix_refspec_text.proofs.facts.FitFacts.{every, no_dev, excludes_dev, short, blob, blob_kind, dev_ref}
use Rattle.gix_refspec_text.proofs.facts.FitFacts.{main_ref, below_tags}
use Rattle.gix_refspec_text.proofs.facts.ManualFacts.{Lacks-tested, none_some, some_none}
use Rattle.gix_refspec_text.proofs.facts.ObjectIdFacts.{empty_blob}

-- a negative spec excludes wherever it is, and a positive one doesn't, nor one without a source. No spec excludes the
-- id of an object, and one that
-- names it excludes that name alone
pub exclusions : IsExcluded (no_dev ∷ every ∷ []) (codes "refs/heads/dev-a")
    × ¬ (IsExcluded (every ∷ []) (codes "refs/heads/dev-a")) × ¬ (IsExcluded [] (codes "refs/heads/dev-a"))
    × ¬ (IsExcludedBy (codes "a") (pushed Negative None (Some (codes "a"))))
    × ¬ (IsSourceExcluded (fetched Negative (codes "a") None ∷ []) (id (codes "a")))
    × IsSourceExcluded (fetched Negative (codes "a") None ∷ []) (name (codes "a"))
exclusions = (
  inl (search (rules, excludes_dev)),
  (λ by. grind arith),
  (λ none. none),
  (λ by. none_some by.text by.source),
  (λ none. none),
  search (rules, Lacks-tested),
)

-- of two equal pairs the first is kept, and of a list only what is before counts
pub stays_first : IsKeptAt [] (tag_to_x ∷ tag_again ∷ []) 0 tag_to_x
    × ¬ (IsKeptAt [] (tag_to_x ∷ tag_again ∷ []) 1 tag_again) × IsKept [] (tag_to_x ∷ tag_again ∷ []) (tag_to_x ∷ [])
stays_first = (
  search rules,
  (λ stays. stays.first (inl pairs.0)),
  (Some tag_to_x, [], search rules, (None, [], (λ m made. made.1.first (inl pairs.0)), refl, refl), refl),
)

-- a source alone is near, of a push too, but not that of a negative spec, nor an id, nor is a destination
pub forward_ends_of : AreForwardEnds every forward_ends × AreForwardEnds (pushed Normal (Some (codes "refs/x/a")) None)
    (record { near = codes "refs/x/a"; far = None })
    × ((ends : Ends) → ¬ (AreForwardEnds no_dev ends) × ¬ (AreForwardEnds blob ends)
    × ¬ (AreForwardEnds (pushed Normal None (Some (codes "a"))) ends)) × ¬ (AreForwardEnds every backward_ends)
    × ¬ (AreForwardEnds every (record { near = codes "refs/heads/*"; far = None }))
forward_ends_of = search (rules, no_blob_ends, none_some)

-- a destination is near where there is a source, of a push too, and an id may be far
pub backward_ends_of : AreBackwardEnds every backward_ends
    × AreBackwardEnds (pushed Normal (Some (codes "a")) (Some (codes "b")))
    (record { near = codes "b"; far = Some (codes "a") })
    × AreBackwardEnds blob
    (record { near = codes "refs/tags/blob"; far = Some (codes "e69de29bb2d1d6434b8b29ae775ad8c2e48c5391") })
    × ((ends : Ends) → ¬ (AreBackwardEnds no_dev ends) × ¬ (AreBackwardEnds short ends)
    × ¬ (AreBackwardEnds (pushed Normal None (Some (codes "a"))) ends)
    × ¬ (AreBackwardEnds (fetched Negative (codes "a") (Some (codes "b"))) ends))
    × ¬ (AreBackwardEnds every forward_ends)
backward_ends_of = search (rules, none_some)

-- the far side gets the word or keeps its star, and where there is none, nothing is there
pub fills : IsFilled None (Some (codes "a")) None × ((n : List ℕ) → ¬ (IsFilled None None (Some n)))
    × IsFilled (Some (codes "refs/x/*")) (Some (codes "a")) (Some (codes "refs/x/a"))
    × IsFilled (Some (codes "refs/x/*")) None (Some (codes "refs/x/*"))
    × ((word : Option (List ℕ)) → ¬ (IsFilled (Some (codes "refs/x/*")) word None))
fills =
    let kind : HasKind (codes "refs/x/*") (pattern (codes "refs/x/") []) = search (rules, Lacks-tested) in (
      refl,
      some_none,
      (pattern (codes "refs/x/") [], kind, refl),
      (pattern (codes "refs/x/") [], kind, refl),
      λ word filled. none_some _ filled.2,
    )

-- a hit has the places of its spec and of its item, and not these swapped
pub places_of_hits : IsHit (Takes []) forward_ends 5 3 main_ref (hit_by 5 3 (codes "main"))
    × ¬ (IsHit (Takes []) forward_ends 5 3 main_ref (hit_by 3 5 (codes "main")))
    × ¬ (IsHit (Takes []) forward_ends 5 3 main_ref (hit_by 5 3 (codes "mai")))
places_of_hits = (taken_by [] 5 3 (codes "main"), (λ is. omega (arith, is.spec)), λ is. cc (is.near))

abbrev pub of_spec : ℕ → List Hit
of_spec k = hit_by k 0 (codes "dev-a") ∷ hit_by k 1 (codes "main") ∷ []

-- two specs that take two branches have four hits: both of the first spec, and then both of the second. A spec that
-- takes an item has its hit, and one
-- without such ends has none
pub spec_hits : AreHits AreForwardEnds (Takes (dev_ref ∷ main_ref ∷ [])) (every ∷ every ∷ []) (dev_ref ∷ main_ref ∷ [])
    (hit_by 0 0 (codes "dev-a") ∷ hit_by 0 1 (codes "main") ∷ hit_by 1 0 (codes "dev-a") ∷ hit_by 1 1 (codes "main")
    ∷ [])
    × ¬ (AreSpecHits AreForwardEnds (Takes (main_ref ∷ [])) (main_ref ∷ []) 0 every [])
    × AreSpecHits AreForwardEnds (Takes (dev_ref ∷ main_ref ∷ [])) (dev_ref ∷ main_ref ∷ []) 0 no_dev []
    × ¬ (AreSpecHits AreForwardEnds (Takes (dev_ref ∷ main_ref ∷ [])) (dev_ref ∷ main_ref ∷ []) 0 no_dev
    (of_spec 0))
spec_hits = (
  (of_spec 0, of_spec 1, of_every 0, (of_spec 1, [], of_every 1, refl, refl), refl),
  missing,
  inr ((λ ends are. are.positive), refl),
  λ hits. grind arith,
)
  where
    of_every : (k : ℕ) → AreSpecHits AreForwardEnds (Takes (dev_ref ∷ main_ref ∷ [])) (dev_ref ∷ main_ref ∷ []) k every
        (of_spec k)
    of_every k = inl (
      forward_ends,
      search rules,
      (
        Some (hit_by k 0 (codes "dev-a")),
        _,
        taken_by _ k 0 (codes "dev-a"),
        (Some (hit_by k 1 (codes "main")), [], taken_by _ k 1 (codes "main"), refl, refl),
        refl,
      ),
    )

    missing : ¬ (AreSpecHits AreForwardEnds (Takes (main_ref ∷ [])) (main_ref ∷ []) 0 every [])
    missing (inl (ends, are, made)) = nothing_made (IsHit (Takes (main_ref ∷ [])) forward_ends 0) 0 [] main_ref []
        (hit_by 0 0 (codes "main"))
        (rw (one_pair First every ends forward_ends are (search rules)) at made)
        (taken_by (main_ref ∷ []) 0 0 (codes "main"))
    missing (inr (no_ends, same)) = no_ends forward_ends (search rules)

-- an item's name is the source in one which, and the destination in the other
pub mapped_hits :
    (map forward_of (record { spec = 5; item = 3; near = codes "a"; far = Some (codes "b") } ∷ record {
      spec = 5;
      item =
          3;
      near = codes "a";
      far = None;
    } ∷ [])
    ≡ mapping 3 (codes "a") (Some (codes "b")) 5 ∷ mapping 3 (codes "a") None 5 ∷ [])
    × (backward_of (record { spec = 5; item = 3; near = codes "a"; far = Some (codes "b") }) ≡ mapping 3 (codes "b")
    (Some (codes "a")) 5)
mapped_hits = (refl, refl)

-- the mapping of an id has the place of its spec and no item, and goes nowhere without a destination
pub id_mappings : IsIdMapping 7 (fetched Forced (codes "e69de29bb2d1d6434b8b29ae775ad8c2e48c5391") None)
    (record { item = None; source = id empty_blob; destination = None; spec = 7 })
    × ¬ (IsIdMapping 0 blob blob_mapping)
    × ¬ (IsIdMapping 1 blob
    (record { item = Some 0; source = id empty_blob; destination = Some (codes "refs/tags/blob"); spec = 1 }))
    × ((m : Mapped) → ¬ (IsIdMapping 1 (fetched Negative (codes "e69de29bb2d1d6434b8b29ae775ad8c2e48c5391") None) m)
    × ¬ (IsIdMapping 1 short m))
    × ¬ (IsIdMapping 1 blob
    (record { item = None; source = name empty_blob; destination = Some (codes "refs/tags/blob"); spec = 1 }))
id_mappings = search (rules, blob_kind, no_main_id)

-- from right to left the id of an object maps nothing where its destination matches nothing
pub no_id_back : AreBackward (blob ∷ []) (main_ref ∷ []) []
no_id_back =
    let none : (word : Option (List ℕ)) → ¬ (Matches (codes "refs/tags/blob") main_ref word) = λ word matches.
    omega (
      arith,
      ap length (matches_as (codes "refs/tags/blob") (full_name (codes "refs/tags/blob")) main_ref word below_tags
          matches).1,
    ) in
    record {
      hits = [];
      are_hits =
          ([], [], inl (_, backward_ends_of.2, (None, [], (λ hit is. none is.word is.takes), refl, refl)), refl, refl);
      all = refl;
    }
