-- The specs by which a client asks a server.
use Rattle.std.proofs.Common.{◌≡◌, [], ◌∷◌, codes, false, inl, inr, refl, true}
use Rattle.gix_refspec.proofs.facts.RefNameFacts.{no_ref_names, ref_names}
use Rattle.refspec_commands.specs.declared.prefixes.report.Notation.TheVariants as notation
use Rattle.refspec_fetch.specs.declared.question.Tags.TheVariants as tags
use Rattle.refspec_git.specs.Asked.{AreConfiguredTexts, AreMergedTexts, asks_tags, head_of, notation_of, unwritten}

-- a server is asked for the full names of merged refs, and `HEAD`, but for no partial name
pub merged : AreMergedTexts (codes "refs/heads/main" ∷ (codes "main" ∷ ([] ∷ [])))
    (unwritten (codes "refs/heads/main") ∷ (unwritten (codes "HEAD") ∷ []))
merged = inl (
  ref_names.0,
  unwritten (codes "HEAD") ∷ [],
  inr (no_ref_names.0, inl (ref_names.1, [], refl, refl)),
  refl,
)

-- without any spec for `HEAD`, and else for the configured ones
pub configured : AreConfiguredTexts [] [] (unwritten (codes "HEAD") ∷ [])
    × AreConfiguredTexts (unwritten (codes "a") ∷ []) (codes "main" ∷ []) (unwritten (codes "a") ∷ [])
configured = (refl, ([], inr (no_ref_names.0, refl), refl))

-- tags are asked for to follow them, and not if they are left
pub asked_for : (asks_tags tags.Followed ≡ true) × (asks_tags tags.Left ≡ false)
asked_for = (refl, refl)

-- patterns are asked for by an option
pub written : (notation_of true ≡ notation.Pattern) × (notation_of false ≡ notation.Argument)
written = (refl, refl)

-- `HEAD` is asked for by an option
pub head : (head_of true ≡ codes "HEAD" ∷ []) × (head_of false ≡ [])
head = (refl, refl)
