-- Examples of texts made from parts, and of a part that begins with a sign.
use Rattle.gix_refspec_remote.proofs.Common.{◌≡◌, [], None, Some, codes, refl}
use Rattle.gix_refspec_remote.specs.Parts.{text_with}
use Rattle.gix_refspec_text.specs.Specs.Grammar.{AreParts}
use Rattle.gix_refspec_text.specs.Specs.Reading.{Forced, Negative, Normal}

-- a sign, the source, and a colon before a destination, even if that is empty
pub texts : (text_with Normal (codes "a") None ≡ codes "a") × (text_with Negative (codes "a") None ≡ codes "^a")
    × (text_with Forced (codes "a") (Some (codes "b")) ≡ codes "+a:b") × (text_with Normal [] (Some []) ≡ codes ":")
texts = (refl, refl, refl, refl)

-- `+a` is no source without a sign
pub sign_apart : ¬ (AreParts Normal (codes "+a") None (text_with Normal (codes "+a") None))
sign_apart is = is.signed.1.0 refl
