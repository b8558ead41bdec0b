-- The reading of a forced fetch within `refs/`.
use Rattle.gix_refspec_remote.proofs.Common.{◌≡◌, ◌++◌, ℕ, List, Some, codes, refl, sym, subst, ◌∙◌, ◌≢◌, IfErr, Result}
use Rattle.gix_refspec_remote.proofs.Common.{Reading}
use Rattle.gix_refspec_text.proofs.lemmas.parsing.PartsLemmas.{parts_once}
use Rattle.gix_refspec_text.proofs.lemmas.parsing.ReadsLemmas.{fine_parts, made}
use Rattle.gix_refspec_remote.specs.Parts.{IsNoSpec}
use Rattle.gix_refspec_remote.specs.declared.parts.PartsError.{PartsError}
use Rattle.gix_refspec_remote.specs.declared.parts.PartsError.TheVariants.{Memory}
use Rattle.gix_refspec_text.specs.declared.spec.RefSpec.{RefSpec}
use Rattle.gix_refspec_text.specs.Specs.Grammar.{AreParts, Reads, fetched}
use Rattle.gix_refspec_text.specs.Specs.Reading.{Forced}
use Rattle.gix_refspec_text.specs.Texts.Words.{BeginsWith}
use Rattle.gix_refspec_text.specs.declared.parsing.Operation.TheVariants.{Fetch}

forced_made : (a b : List ℕ) → made Fetch Forced (codes "refs/" ++ a) (Some (codes "refs/" ++ b))
    ≡ fetched Forced (codes "refs/" ++ a) (Some (codes "refs/" ++ b))
forced_made a b = refl

-- two sides in `refs/` stay as they are in the reading
pub forced_reading : (s d text : List ℕ) (r : Reading) → BeginsWith (codes "refs/") s → BeginsWith (codes "refs/") d
    → AreParts Forced s (Some d) text → Reads Fetch text r → r ≡ fetched Forced s (Some d)
forced_reading s d text r by_s by_d parts reads =
    let (m, t, e, others, fine, is) = fine_parts Fetch text r reads in
    let same = parts_once m Forced t s e (Some d) text others parts in
    let whole : made Fetch Forced s (Some d) ≡ fetched Forced s (Some d) =
    subst (λ x. made Fetch Forced x (Some d) ≡ fetched Forced x (Some d)) (sym by_s.here)
    (subst (λ y. made Fetch Forced (codes "refs/" ++ by_s.after) (Some y)
    ≡ fetched Forced (codes "refs/" ++ by_s.after) (Some y)) (sym by_d.here) (forced_made by_s.after by_d.after)) in
    is ∙ rw (same.mode, same.source, same.destination) whole

-- why there is no spec, with equal sides
pub refused_alike : (result : Result RefSpec PartsError) (s t d e : List ℕ) → s ≡ t → d ≡ e
    → IfErr result (λ f. f ≢ Memory → IsNoSpec Fetch Forced s (Some d) f)
    → IfErr result (λ f. f ≢ Memory → IsNoSpec Fetch Forced t (Some e) f)
refused_alike result s t d e sources destinations refused =
    subst (λ x. IfErr result (λ f. f ≢ Memory → IsNoSpec Fetch Forced x (Some e) f)) sources
    (subst (λ y. IfErr result (λ f. f ≢ Memory → IsNoSpec Fetch Forced s (Some y) f)) destinations refused)
