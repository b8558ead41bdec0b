-- A test of each byte and the one before it, which only names pass, and most names do: it computes in examples.
use Rattle.gix_refspec_text.proofs.Common.{[], ◌≡◌, ℕ, ◌==◌, ◌||◌, ◌&&◌, Bool, false, List, ◌∷◌, ◌++◌, codes, sym, ap}
use Rattle.gix_refspec_text.proofs.Common.{eq-eqb, ◌∙◌, append_assoc, append-nil, or_parts, true≢false, Error}
use Rattle.gix_refspec_text.proofs.Common.{EmptyComponent, StartsWithDot, LockSuffix, EndsWithDot, RepeatedDot}
use Rattle.gix_refspec_text.proofs.Common.{ReflogPortion, Asterisk, InvalidByte, EndsWith, slash, star, dot, at, brace}
use Rattle.gix_refspec_text.proofs.Common.{is_refused_byte, IsName, LeavesFault, IsClean}
use Rattle.gix_refspec_text.proofs.lemmas.texts.NameLemmas.{IsName-from_clean}

-- b may not follow a. To recognise `.lock` by one byte, no component may end with its last byte, 107
abbrev pub are_apart : ℕ → ℕ → Bool
are_apart a b = b == slash && (a == slash || a == 107) || b == dot && (a == slash || a == dot) || b == brace && a == at

-- some byte of x isn't allowed in a name, or not after the byte before it (before the first byte, a); or the last byte
-- isn't allowed there
abbrev pub is_suspect : ℕ → List ℕ → Bool
is_suspect a [] = a == slash || a == dot || a == 107
is_suspect a (b ∷ x) = (b == star || (is_refused_byte b || are_apart a b)) || is_suspect b x

abbrev Sound : ℕ → List ℕ → Type 0
Sound b rest = ((b == star) ≡ false) × (is_refused_byte b ≡ false) × (is_suspect b rest ≡ false)

sound_at : (a b : ℕ) (before rest : List ℕ) → is_suspect a (before ++ (b ∷ rest)) ≡ false → Sound b rest
sound_at a b [] rest none =
    let parts = or_parts (b == star || (is_refused_byte b || are_apart a b)) (is_suspect b rest) none in
    let stars = or_parts (b == star) (is_refused_byte b || are_apart a b) parts.0 in
    (stars.0, (or_parts (is_refused_byte b) (are_apart a b) stars.1).0, parts.1)
sound_at a b (c ∷ before) rest none = sound_at c b before rest (or_parts _ (is_suspect c (before ++ (b ∷ rest))) none).1

sound_in : (y : List ℕ) → is_suspect 0 y ≡ false → (before : List ℕ) (b : ℕ) (rest : List ℕ) → y ≡ before ++ (b ∷ rest)
    → Sound b rest
sound_in y none before b rest here = sound_at 0 b before rest (ap (is_suspect 0) (sym here) ∙ none)

-- nothing is suspect in the rest of a text after a word that ends the part before it
after_word : (y before rest : List ℕ) (b : ℕ) (word : List ℕ) → is_suspect 0 y ≡ false → y ≡ before ++ rest
    → EndsWith (b ∷ word) before → is_suspect b (word ++ rest) ≡ false
after_word y before rest b word none here ends =
    let whole : y ≡ ends.before ++ (b ∷ (word ++ rest)) = here ∙ ap (λ z. z ++ rest) ends.here
    ∙ append_assoc ends.before (b ∷ word) rest in
    (sound_in y none ends.before b (word ++ rest) whole).2

after_byte : (y before after : List ℕ) (byte c b : ℕ) (word : List ℕ) → is_suspect 0 y ≡ false
    → y ≡ before ++ (byte ∷ after) → byte ≡ c → EndsWith (b ∷ word) before → is_suspect b (word ++ (c ∷ after)) ≡ false
after_byte y before after byte c b word none here same ends = after_word y before (c ∷ after) b word none
    (here ∙ ap (λ d. before ++ (d ∷ after)) same) ends

clean : (y : List ℕ) → is_suspect 0 y ≡ false → IsClean y
clean y none EmptyComponent added =
    true≢false (after_byte y added.before added.after added.byte slash slash [] none added.here added.fault.0
    added.fault.1)
clean y none StartsWithDot added =
    true≢false (after_byte y added.before added.after added.byte dot slash [] none added.here added.fault.0
    added.fault.1)
clean y none LockSuffix added =
    true≢false (after_byte y added.before added.after added.byte slash dot (codes "lock") none added.here added.fault.0
    added.fault.1)
clean y none RepeatedDot added =
    true≢false (after_byte y added.before added.after added.byte dot dot [] none added.here added.fault.0 added.fault.1)
clean y none ReflogPortion added =
    true≢false (after_byte y added.before added.after added.byte brace at [] none added.here added.fault.0
    added.fault.1)
clean y none Asterisk added =
    true≢false (sym (eq-eqb added.byte star added.fault)
    ∙ (sound_in y none added.before added.byte added.after added.here).0)
clean y none (InvalidByte c) added = true≢false (sym added.fault.1 ∙ ap is_refused_byte (sym added.fault.0)
    ∙ (sound_in y none added.before added.byte added.after added.here).1)
clean y none _ added = added.fault

left : (y : List ℕ) (e : Error) → is_suspect 0 y ≡ false → ¬ (LeavesFault y e)
left y EmptyComponent none fault = true≢false (after_word y y [] slash [] none (sym (append-nil y)) fault)
left y LockSuffix none fault = true≢false (after_word y y [] dot (codes "lock") none (sym (append-nil y)) fault)
left y EndsWithDot none fault = true≢false (after_word y y [] dot [] none (sym (append-nil y)) fault)
left y _ none fault = fault

pub IsName-tested : (x : List ℕ) → is_suspect slash x ≡ false → IsName x
IsName-tested x none = IsName-from_clean x (λ empty. true≢false (ap (is_suspect slash) (sym empty) ∙ none))
    (clean (slash ∷ x) none) (λ e. left (slash ∷ x) e none)
