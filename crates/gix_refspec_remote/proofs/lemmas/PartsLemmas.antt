-- The text of parts has these parts.
use Rattle.gix_refspec_remote.proofs.Common.{◌≡◌, [], ◌∷◌, ℕ, List, Bool, true, false, not, IsTrue, MatchBool, ◌↔◌}
use Rattle.gix_refspec_remote.proofs.Common.{refl, false≢true, Lacks-ContainsText, ContainsText, Lacks}

-- a text that isn't seen to contain a byte lacks it
pub lacks_tested : (b : ℕ) (x : List ℕ) (found : Bool) → MatchBool found (ContainsText (b ∷ []) x) (Lacks b x)
    → IsTrue (not found) ↔ Lacks b x
lacks_tested b x true contains = (
  (λ no. absurd (false≢true no)),
  λ lacks. absurd (Lacks-ContainsText b x lacks contains),
)
lacks_tested b x false lacks = ((λ yes. lacks), λ yes. refl)
