-- Laws of sides: where a spec has stars, and that a side has one kind, a name one word and a text one id.
-- They follow from the definitions in Grammar, Side and ObjectId, and add no rule.
use Rattle.std.specs.Prelude.{◌≡◌, ◌⊎◌, ℕ, List, Some}
use Rattle.gix_refspec_text.specs.Texts.Words.{Lacks}
use Rattle.gix_refspec_text.specs.Texts.Bytes.{star}
use Rattle.gix_refspec_text.specs.Texts.Name.{HasOneStar}
use Rattle.gix_refspec_text.specs.Texts.ObjectId.{IsIdText}
use Rattle.gix_refspec_text.specs.Specs.Reading.{Reading}
use Rattle.gix_refspec_text.specs.Matching.Side.{SideKind, HasKind}
use Rattle.gix_refspec_text.specs.Laws.Readings.{OneWord}

-- each side of the reading has at most one star; of two sides, both have a star or neither has
pub record SidesAgree (r : Reading) : Type 0 where
  pub each : (x : List ℕ) → (r.source ≡ Some x) ⊎ (r.destination ≡ Some x) → HasOneStar x ⊎ Lacks star x
  pub both : (s d : List ℕ) → r.source ≡ Some s → r.destination ≡ Some d → (HasOneStar s × HasOneStar d)
      ⊎ (Lacks star s × Lacks star d)

-- a side has at most one kind
abbrev pub OneKind : List ℕ → Type 0
OneKind x = (k l : SideKind) → HasKind x k → HasKind x l → k ≡ l

-- a text spells at most one id
abbrev pub OneId : List ℕ → Type 0
OneId t = (i j : List ℕ) → IsIdText t i → IsIdText t j → i ≡ j

-- for any bytes: at most one kind for a side, one word between a prefix and a suffix, and one id for a text
pub record OneOfEach : Type 0 where
  pub kind : (x : List ℕ) → OneKind x
  pub word : (before after n : List ℕ) → OneWord before after n
  pub id : (t : List ℕ) → OneId t
