-- The specs in arguments, as on the command line of `git fetch`, and those that a command maps refs by.
use Rattle.std.proofs.Common.{◌≡◌, ◌≢◌, ℕ, List, [], ◌∷◌, codes, inl, inr, refl}
use Rattle.gix_refspec_text.proofs.readers.Texts.{differ}
use Rattle.refspec_request.specs.declared.arguments.Subcommand.TheVariants as command
use Rattle.refspec_git.specs.Wanted.{AreSpecs, mapping_texts, refmap_text}

other : codes "main" ≢ codes "tag"
other is = differ (codes "main") (codes "tag") refl is

-- `tag v1` is one spec, and `main` another
pub tags : AreSpecs (codes "main" ∷ (codes "tag" ∷ (codes "v1" ∷ [])))
    (codes "main" ∷ (codes "refs/tags/v1:refs/tags/v1" ∷ []))
tags = inr (other, codes "refs/tags/v1:refs/tags/v1" ∷ [], inl (refl, [], refl, refl), refl)

-- a last `tag` is no spec
pub no_name : (specs : List (List ℕ)) → ¬ (AreSpecs (codes "tag" ∷ []) specs)
no_name specs are = are.0 refl

-- a plan maps by the values of --refmap, and stale refs of given specs by these alone
pub mapped : (mapping_texts command.Plan (codes "a" ∷ []) (codes "b" ∷ []) (refmap_text (codes "c") ∷ [])
    ≡ refmap_text (codes "b") ∷ [])
    × (mapping_texts command.Plan (codes "a" ∷ []) [] (refmap_text (codes "c") ∷ []) ≡ refmap_text (codes "c") ∷ [])
    × (mapping_texts command.Stale (codes "a" ∷ []) [] (refmap_text (codes "c") ∷ []) ≡ [])
    × (mapping_texts command.Stale [] [] (refmap_text (codes "c") ∷ []) ≡ refmap_text (codes "c") ∷ [])
mapped = (refl, refl, refl, refl)
