-- Canonical texts of specs, and none of refused texts.
use Rattle.std.proofs.Common.{◌≡◌, ℕ, List, [], ◌∷◌, ◌++◌, None, Some, inl, inr, codes, get_or, length, refl, sym, ap}
use Rattle.std.proofs.Common.{◌∙◌, arith}
use Rattle.std.specs.List.{flat_map}
use Rattle.gix_refspec_text.specs.declared.name.Error.TheVariants.{InvalidByte}
use Rattle.gix_refspec_text.specs.declared.parsing.Operation.TheVariants.{Fetch}
use Rattle.gix_refspec_text.specs.declared.types.Mode.TheVariants as mode
use Rattle.gix_refspec.specs.Specs.Meaning.{printed}
use Rattle.gix_refspec.specs.Specs.Refusal.{ReferenceName}
use Rattle.gix_refspec_text.proofs.lemmas.parsing.ReadOnceLemmas.{reads_once}
use Rattle.gix_refspec_text.proofs.facts.FitFacts.{other_byte}
use Rattle.gix_refspec_text.proofs.facts.GrammarFacts.{fetches_head, fetches_main}
use Rattle.gix_refspec_text.proofs.facts.UnreadFacts.{bad_sources}
use Rattle.gix_refspec_text.proofs.facts.ViewFacts.{Accepted}
use Rattle.refspec_io.specs.declared.call.Form.TheVariants as form
use Rattle.refspec_io.specs.Shown.{zero_ended}
use Rattle.refspec_io.proofs.facts.ReadFacts.{bad, good, head, main}
use Rattle.refspec_commands.specs.Canon.{AddsCanonical, AreCanonical, AreCanonicalOf}
use Rattle.std.proofs.lemmas.Option.{same_Some}

-- the canonical text of an empty text in a fetch is `HEAD`; a refused text is left out, and the text after it isn't
pub canonical : AreCanonical ((Fetch, []) ∷ (Fetch, codes "a b") ∷ (Fetch, codes "main") ∷ [])
    (codes "HEAD" ∷ codes "main" ∷ [])
    × AreCanonical [] []
canonical = (
  inl (
    head,
    codes "HEAD",
    codes "main" ∷ [],
    fetches_head.0,
    refl,
    inr (
      ReferenceName (InvalidByte 32),
      bad_sources.0,
      inl (main, codes "main", [], fetches_main.0, refl, refl, refl),
    ),
    refl,
  ),
  refl,
)

-- a refused text has no canonical text, a spec isn't left out, and its canonical text isn't another one
pub not_canonical : ¬ (AreCanonical ((Fetch, codes "a b") ∷ []) (codes "a b" ∷ []))
    × ¬ (AreCanonical ((Fetch, codes "main") ∷ []) []) × ¬ (AreCanonical ((Fetch, []) ∷ []) ([] ∷ []))
not_canonical = (refused, left_out, as_given)
  where
    refused : ¬ (AreCanonical ((Fetch, codes "a b") ∷ []) (codes "a b" ∷ []))
    refused (inl (r, name, rest, reads, prints, none, same)) = bad_sources.0.unread r reads
    refused (inr (e, is, none)) = omega (arith, ap length none)

    left_out : ¬ (AreCanonical ((Fetch, codes "main") ∷ []) [])
    left_out (inl (r, name, rest, reads, prints, none, same)) = omega (arith, ap length same)
    left_out (inr (e, is, none)) = is.unread main fetches_main.0

    as_given : ¬ (AreCanonical ((Fetch, []) ∷ []) ([] ∷ []))
    as_given (inl (r, name, rest, reads, prints, none, same)) =
        let is : codes "HEAD" ≡ name =
        same_Some (codes "HEAD") name (ap printed (reads_once Fetch [] head r fetches_head.0 reads) ∙ prints) in
        other_byte 0 (codes "HEAD") [] (λ byte. omega (arith, byte)) (is
        ∙ sym (ap (λ (l : List (List ℕ)). get_or l 0 []) same))
    as_given (inr (e, is, none)) = is.unread head fetches_head.0

-- the same for checked texts, in lines and ended by zero bytes
module _ (accepted : Accepted Fetch mode.Normal (Some (codes "main")) None) where
  pub canonical_of : AreCanonicalOf (bad ∷ good accepted ∷ []) (codes "main" ∷ [])
      × ¬ (AreCanonicalOf (bad ∷ []) ([] ∷ [])) × ¬ (AreCanonicalOf (good accepted ∷ []) [])
  canonical_of = (
    (codes "main", [], refl, refl, refl),
    (λ none. omega (arith, ap length none)),
    λ are. omega (arith, ap length are.4),
  )

  pub reported : AddsCanonical form.Lines (bad ∷ good accepted ∷ []) (codes "a\n") (codes "a\nmain\n")
      × AddsCanonical form.Zeros (good accepted ∷ bad ∷ []) [] (codes "main" ++ 0 ∷ [])
  reported = (
    (codes "main" ∷ [], canonical_of.0, (codes "main\n", (codes "main", [], inl refl, refl, refl), refl)),
    (codes "main" ∷ [], (codes "main", [], refl, refl, refl), refl),
  )

  pub not_reported : ¬ (AddsCanonical form.Zeros (good accepted ∷ []) [] [])
      × ¬ (AddsCanonical form.Zeros (bad ∷ []) [] (0 ∷ []))
  not_reported = (lost, λ adds. omega (arith, ap length (adds.2 ∙ ap (flat_map zero_ended) adds.1)))
    where
      lost : ¬ (AddsCanonical form.Zeros (good accepted ∷ []) [] [])
      lost (names, (name, rest, prints, none, same), adds) =
          omega (
            arith,
            ap length (adds
                ∙ ap (flat_map zero_ended) (same
                ∙ ap (λ (x : List ℕ). x ∷ rest) (sym (same_Some (codes "main") name prints)))),
          )
