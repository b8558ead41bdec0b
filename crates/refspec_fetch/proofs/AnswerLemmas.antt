-- The answer to a question, and its status.
use Rattle.std.proofs.Common.{◌≡◌, ◌≢◌, ◌==◌, Bool, true, false, List, [], ◌∷◌, length, map, refl, ap, ◌∙◌, sym, arith}
use Rattle.std.proofs.lemmas.Bool.{eqb-true, false≢true}
use Rattle.bstr.specs.Owned.{bstring_bytes}
use Rattle.bstr.specs.declared.bstring.BString.{BString}
use Rattle.gix_refspec.specs.Views.Spec.{reading_of}
use Rattle.gix_refspec_text.specs.declared.spec.RefSpecRef.{RefSpecRef}
use Rattle.refspec_io.specs.declared.refs.BadRecord.{BadRecord}
use Rattle.refspec_io.specs.Refs.{bad_bytes}
use Rattle.refspec_fetch.specs.Answer.{first_of}
use Rattle.refspec_fetch.specs.Origins.{first_texts}

-- a list is empty where its length is 0
pub none_of : {A : Type 0} → (xs : List A) (empty : Bool) → empty ≡ (length xs == 0) → empty ≡ true → xs ≡ []
none_of [] empty is so = refl
none_of (x ∷ xs) empty is so = absurd (omega (arith, eqb-true (length (x ∷ xs)) 0 (sym is ∙ so)))

-- and has an element elsewhere
pub some_of : {A : Type 0} → (xs : List A) (empty : Bool) → empty ≡ (length xs == 0) → empty ≡ false → xs ≢ []
some_of [] empty is so = absurd (false≢true (sym so ∙ is))
some_of (x ∷ xs) empty is so = λ none. omega (arith, ap length none)

-- without given specs the configured ones prune
pub pruning_configured : (given configured : List RefSpecRef) → given ≡ [] → map reading_of configured ≡ first_of
    (map reading_of given) (map reading_of configured)
pruning_configured [] configured none = refl
pruning_configured (x ∷ xs) configured none = absurd (omega (arith, ap length none))

-- the given specs prune if there are any
pub pruning_given : (given configured : List RefSpecRef) → given ≢ [] → map reading_of given ≡ first_of
    (map reading_of given) (map reading_of configured)
pruning_given [] configured some = absurd (some refl)
pruning_given (x ∷ xs) configured some = refl

-- the same of their texts
pub texts_configured : (given configured : List BString) → given ≡ [] → map bstring_bytes configured ≡ first_texts
    (map bstring_bytes given) (map bstring_bytes configured)
texts_configured [] configured none = refl
texts_configured (x ∷ xs) configured none = absurd (omega (arith, ap length none))

pub texts_given : (given configured : List BString) → given ≢ [] → map bstring_bytes given ≡ first_texts
    (map bstring_bytes given) (map bstring_bytes configured)
texts_given [] configured some = absurd (some refl)
texts_given (x ∷ xs) configured some = refl

-- no record is bad where there is none
pub none_read : (xs : List BadRecord) → xs ≡ [] → map bad_bytes xs ≡ []
none_read xs none = ap (map bad_bytes) none

pub some_read : (xs : List BadRecord) → xs ≢ [] → map bad_bytes xs ≢ []
some_read [] some = absurd (some refl)
some_read (x ∷ xs) some = λ none. omega (arith, ap length none)
