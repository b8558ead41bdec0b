-- `HEAD` is a name, and which bytes a name never contains.
use Rattle.gix_refspec_text.proofs.Common.{[], ◌≡◌, ◌≢◌, ℕ, false, List, ◌∷◌, ◌++◌, refl, sym, ap, ◌∙◌, arith, eq-eqb}
use Rattle.gix_refspec_text.proofs.Common.{false≢true, InvalidByte, Lacks, star, letter, plus, caret, colon, head}
use Rattle.gix_refspec_text.proofs.Common.{IsName, IsPattern, IsUnsigned, begins_with_plus}
use Rattle.gix_refspec_text.proofs.lemmas.texts.TextLemmas.{Lacks-from_absent}
use Rattle.gix_refspec_text.proofs.lemmas.texts.TestedLemmas.{IsName-tested}

pub IsName-head : IsName head
IsName-head = IsName-tested head refl

pub Lacks-colon_name : (x : List ℕ) → IsName x → Lacks colon x
Lacks-colon_name x name = Lacks-from_absent colon x (λ holds. name (InvalidByte colon) (holds, refl))

lacks_unreplaced : (b : ℕ) (front back : List ℕ) → star ≢ b → Lacks b (front ++ (letter ∷ back))
    → Lacks b (front ++ (star ∷ back))
lacks_unreplaced b [] back other lacks = (other, lacks.1)
lacks_unreplaced b (c ∷ front) back other lacks = (lacks.0, lacks_unreplaced b front back other lacks.1)

pub Lacks-colon_pattern : (x : List ℕ) → IsPattern x → Lacks colon x
Lacks-colon_pattern x pattern =
    let r = pattern.replaces in
    rw r.split.starred
    (lacks_unreplaced colon r.before r.after (λ h. omega arith)
    (rw r.replaced at (Lacks-colon_name pattern.with_letter pattern.name)))

pub unsigned_name : (x : List ℕ) → IsName x → begins_with_plus x ≡ false → IsUnsigned x
unsigned_name [] name other = tt
unsigned_name (b ∷ x) name other =
    let no_caret = λ (same : b ≡ caret). name (InvalidByte caret)
    (record { before = []; after = x; here = ap (λ c. c ∷ x) same }, refl) in
    (λ same. false≢true (sym other ∙ eq-eqb b plus same), no_caret)
