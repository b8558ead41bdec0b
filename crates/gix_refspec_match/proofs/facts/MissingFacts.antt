-- Which specs lack their source: those of a name that no ref has, but neither of an id nor negative ones.
use Rattle.gix_refspec_match.proofs.Common.{List, [], ◌∷◌, None, Some, codes, refl, ◌≡◌, ℕ, Option, ap, length, arith}
use Rattle.gix_refspec_match.proofs.Common.{inl, inr, same_Some, ◌⊎◌, Ref, Matches, HasKind, full_name, partial}
use Rattle.gix_refspec_match.proofs.Common.{fetched, Normal, Negative, Contains, AreMissing, LacksSource}
use Rattle.gix_refspec_match.proofs.lemmas.hits.HitLemmas.{matches_as}
use Rattle.gix_refspec_text.proofs.facts.FitFacts.{blob, blob_kind, main_ref, of_element, short, short_kind}
use Rattle.gix_refspec_text.proofs.facts.ManualFacts.{Lacks-tested}

-- a full name that no ref has is missing
pub full_name_missing : AreMissing (fetched Normal (codes "refs/heads/a") None ∷ []) (main_ref ∷ []) (0 ∷ [])
full_name_missing =
    let kind : HasKind (codes "refs/heads/a") (full_name (codes "refs/heads/a")) = search (arith, Lacks-tested) in
    let absent : (ref : Ref) (word : Option (List ℕ)) → Contains (main_ref ∷ []) ref
    → ¬ (Matches (codes "refs/heads/a") ref word) = λ ref word there matches.
    omega (
      arith,
      ap length (matches_as (codes "refs/heads/a") (full_name (codes "refs/heads/a")) ref word kind matches).1,
      of_element (λ r. length r.name ≡ 15) (main_ref ∷ []) ref (refl, tt) there,
    ) in (
      Some 0,
      [],
      (
        refl,
        record {
          positive = tt;
          source = codes "refs/heads/a";
          is = refl;
          named = inl kind;
          absent =
              absent;
        },
      ),
      refl,
      refl,
    )

-- an id is asked for by itself, and isn't missing where no ref points to it
pub id_not_missing : AreMissing (blob ∷ []) [] []
id_not_missing = (None, [], (λ k told. no_name told.1.source (same_Some _ _ told.1.is) told.1.named), refl, refl)
  where
    no_name : (x : List ℕ) → codes "e69de29bb2d1d6434b8b29ae775ad8c2e48c5391" ≡ x
        → ¬ (HasKind x (full_name x) ⊎ HasKind x (partial x))
    no_name x is named = grind (arith, blob_kind)

-- of the same name, which no ref has, a negative spec lacks nothing, and a positive one lacks its source
pub negative_not_missing : AreMissing (fetched Negative (codes "main") None ∷ short ∷ []) [] (1 ∷ [])
negative_not_missing =
    let lacks : LacksSource [] short = record {
      positive = tt;
      source = codes "main";
      is = refl;
      named = inr short_kind;
      absent = λ ref word (k, below, is). omega (arith, below);
    } in
    (None, _, (λ k told. told.1.positive), (Some 1, [], (refl, lacks), refl, refl), refl)
