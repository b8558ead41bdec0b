-- The texts of the specs of a plan, and how they are told apart. This project's own rule.
use Rattle.std.specs.Prelude.{◌≡◌, ◌↔◌, ℕ, false, List, [], ◌∷◌, map, unwrap_or, codes, IsTrue, length}
use Rattle.std.specs.List.{slice_get}
use Rattle.bstr.specs.Owned.{bstring_bytes}
use Rattle.gix_refspec_plan.specs.declared.Origin.{Origin}
use Rattle.gix_refspec_plan.specs.declared.Origin.TheVariants as origin
use Rattle.gix_refspec_plan.specs.Matching.Plan.{Wish}
use Rattle.refspec_io.specs.Rows.{AreSpecTexts}
use Rattle.refspec_fetch.specs.declared.origins.SpecTexts.{SpecTexts}

-- the only spec of a wish is a given one
pub record IsAlone (wish : Wish) : Type 0 where
  pub one : length wish.given ≡ 1
  pub configured : wish.configured ≡ []
  pub tags : wish.tags ≡ false

-- the texts of the specs of a wish
pub record AreTextsOf (wish : Wish) (texts : SpecTexts) : Type 0 where
  pub given : AreSpecTexts wish.given (map bstring_bytes texts.given.items)
  pub configured : AreSpecTexts wish.configured (map bstring_bytes texts.configured.items)
  pub merges : map bstring_bytes texts.merges.items ≡ wish.merges
  pub alone : IsTrue texts.is_alone ↔ IsAlone wish

-- the first texts, or without any the others
abbrev pub first_texts : List (List ℕ) → List (List ℕ) → List (List ℕ)
first_texts [] others = others
first_texts (t ∷ firsts) others = t ∷ firsts

-- the texts of the specs by which a pruning fetch deletes refs: of the given ones, or without any of the configured
-- ones
abbrev pub pruning_texts : SpecTexts → List (List ℕ)
pruning_texts texts = first_texts (map bstring_bytes texts.given.items) (map bstring_bytes texts.configured.items)

-- the text of the spec from an origin; empty if there is none
abbrev pub text_of : SpecTexts → Origin → List ℕ
text_of texts (origin.Given k) = unwrap_or (slice_get (map bstring_bytes texts.given.items) k) []
text_of texts (origin.Configured k) = unwrap_or (slice_get (map bstring_bytes texts.configured.items) k) []
text_of texts (origin.Merge k) = unwrap_or (slice_get (map bstring_bytes texts.merges.items) k) []
text_of texts origin.Default = codes "HEAD"
text_of texts origin.AllTags = codes "refs/tags/*:refs/tags/*"

-- the name of an origin
abbrev pub origin_name : Origin → List ℕ
origin_name (origin.Given k) = codes "given"
origin_name (origin.Configured k) = codes "configured"
origin_name (origin.Merge k) = codes "merge"
origin_name origin.Default = codes "default"
origin_name origin.AllTags = codes "tags"

-- what lines say behind the text of a spec that isn't given
abbrev pub note_of : Origin → List ℕ
note_of (origin.Given k) = []
note_of (origin.Configured k) = codes " (configured)"
note_of (origin.Merge k) = codes " (merge)"
note_of origin.Default = codes " (default)"
note_of origin.AllTags = codes " (tags)"
