-- Texts that are added one by one.
use Rattle.std.proofs.Common.{◌≡◌, ◌⊎◌, inl, inr, subst, ℕ, ◌+◌, ◌<◌, List, [], ◌∷◌, ◌++◌, length, take, get_or, map}
use Rattle.std.proofs.Common.{suc, refl, sym, ap, ◌∙◌, append_assoc, arith}
use Rattle.std.proofs.lemmas.List.{length-map, length-take-le, map-append, take_more}
use Rattle.gix_refspec_text.specs.declared.parsing.Operation.{Operation}
use Rattle.refspec_io.specs.declared.call.Terminator.{Terminator}
use Rattle.refspec_io.specs.declared.call.Terminator.TheVariants as ends
use Rattle.refspec_io.specs.declared.texts.Text.{Text}
use Rattle.refspec_io.specs.Input.{end_byte}
use Rattle.refspec_io.specs.declared.settings.Setting.{Setting}
use Rattle.refspec_io.specs.Settings.{AreSettingsOf}
use Rattle.refspec_io.specs.Texts.{AddsGiven, AddsRecords, AddsTexts, AddsValues, Given, given_of, numbered}
use Rattle.refspec_io.proofs.SettingLemmas.{AddsValues-split}

-- one more element was read, and what it gives was added
pub seen_next : {W X Y Z : Type 0} (f : W → Y) (h : X → W) (g : Z → Y) (xs : List X) (i : ℕ) (x : X) (old : List Y)
    (ts more : List Z) (z : Z) → i < length xs → more ≡ ts ++ z ∷ [] → g z ≡ f (h (get_or xs i x))
    → map g ts ≡ old ++ map f (map h (take i xs)) → map g more ≡ old ++ map f (map h (take (i + 1) xs))
seen_next f h g xs i x old ts more z below grown same so_far =
    let y = get_or xs i x in
    let all : map f (map h (take i xs)) ++ f (h y) ∷ [] ≡ map f (map h (take (i + 1) xs)) =
    sym (map-append f (map h (take i xs)) (h y ∷ []))
    ∙ ap (map f) (sym (map-append h (take i xs) (y ∷ [])) ∙ sym (ap (map h) (take_more xs i x below))) in
    ap (map g) grown
    ∙ (map-append g ts (z ∷ [])
    ∙ (ap (λ l. l ++ g z ∷ []) so_far
    ∙ (append_assoc old (map f (map h (take i xs))) (g z ∷ [])
    ∙ (ap (λ y. old ++ (map f (map h (take i xs)) ++ y ∷ [])) same ∙ ap (λ l. old ++ l) all))))

-- the last bytes have the last number
numbered-last : (give : ℕ → List ℕ → Given) (k : ℕ) (xs : List (List ℕ)) (y : List ℕ)
    → numbered give k (xs ++ y ∷ []) ≡ numbered give k xs ++ give (k + length xs) y ∷ []
numbered-last give k [] y = ap (λ (n : ℕ). give n y ∷ []) (sym (+0 k))
  where
    +0 : (n : ℕ) → n + 0 ≡ n
    +0 n = omega arith
numbered-last give k (x ∷ xs) y =
    let next : (k + 1) + length xs ≡ k + length (x ∷ xs) = omega arith in
    ap (λ l. give k x ∷ l) (numbered-last give (k + 1) xs y ∙ ap (λ (n : ℕ). numbered give (k + 1) xs ++ give n y ∷ [])
    next)

-- one more text was added, with its number
pub given_next : {X : Type 0} (give : ℕ → List ℕ → Given) (h : X → List ℕ) (xs : List X) (i number : ℕ) (x : X)
    (old : List Given) (ts more : List Text) (t : Text) → i < length xs → number ≡ i + 1 → more ≡ ts ++ t ∷ []
    → given_of t ≡ give number (h (get_or xs i x)) → map given_of ts ≡ old ++ numbered give 1 (map h (take i xs))
    → map given_of more ≡ old ++ numbered give 1 (map h (take (i + 1) xs))
given_next give h xs i number x old ts more t below is grown same so_far =
    let y = get_or xs i x in
    let front = map h (take i xs) in
    let many : length front ≡ i = length-map (take i xs) h ∙ length-take-le i xs (omega (arith, below)) in
    let location : number ≡ 1 + length front = omega (arith, is, many) in
    let step : map h (take (i + 1) xs) ≡ front ++ h y ∷ [] = ap (map h) (take_more xs i x below)
    ∙ map-append h (take i xs) (y ∷ []) in
    let last : numbered give 1 (map h (take (i + 1) xs)) ≡ numbered give 1 front ++ give number (h y) ∷ [] =
    ap (numbered give 1) step
    ∙ (numbered-last give 1 front (h y) ∙ ap (λ (n : ℕ). numbered give 1 front ++ give n (h y) ∷ [])
    (sym location)) in
    ap (map given_of) grown
    ∙ (map-append given_of ts (t ∷ [])
    ∙ (ap (λ l. l ++ given_of t ∷ []) so_far ∙ (append_assoc old (numbered give 1 front) (given_of t ∷ [])
    ∙ (ap (λ g. old ++ (numbered give 1 front ++ g ∷ [])) same ∙ ap (λ l. old ++ l) (sym last)))))

-- as many texts as elements
pub numbered-length : (give : ℕ → List ℕ → Given) (k : ℕ) (xs : List (List ℕ)) → length (numbered give k xs) ≡ length xs
numbered-length give k [] = refl
numbered-length give k (x ∷ xs) = ap suc (numbered-length give (k + 1) xs)

-- the records of an input, each a text
pub AddsTexts-of : (e : Terminator) (op : Operation) (name input : List ℕ) (old new : List Given) → (e ≡ ends.Newline)
    ⊎ (e ≡ ends.Zero) → AddsRecords (end_byte e) op name input old new → AddsTexts e op name input old new
AddsTexts-of ends.Newline op name input old new is added = added
AddsTexts-of ends.Zero op name input old new is added = added
AddsTexts-of ends.Settings op name input old new (inl is) added = cc
AddsTexts-of ends.Settings op name input old new (inr is) added = cc

-- the refspecs among the settings of both inputs
pub AddsTexts-settings : (e : Terminator) (op : Operation) (name other beside input : List ℕ) (settings : List Setting)
    (old new : List Given) → e ≡ ends.Settings → AreSettingsOf e beside input settings → AddsValues settings old new
    → (front : List Given) × AddsTexts e op name beside old front × AddsTexts e op other input front new
AddsTexts-settings e op name other beside input settings old new is of added =
    subst (λ (x : Terminator). (front : List Given) × AddsTexts x op name beside old front
    × AddsTexts x op other input front new) (sym is)
    (parts (subst (λ (x : Terminator). AreSettingsOf x beside input settings) is of))
  where
    parts : AreSettingsOf ends.Settings beside input settings → (front : List Given)
        × AddsTexts ends.Settings op name beside old front × AddsTexts ends.Settings op other input front new
    parts (xs, ys, first, second, both) =
        let (front, one, more) = AddsValues-split xs ys old new
        (subst (λ (l : List Setting). AddsValues l old new) both added) in
        (front, (xs, first, one), (ys, second, more))

AddsGiven-of : (e : Terminator) (op : Operation) (name specs : List ℕ) (old new : List Given) → (e ≡ ends.Newline)
    ⊎ (e ≡ ends.Zero) → AddsRecords (end_byte e) op name specs old new → AddsGiven e op name specs old new
AddsGiven-of ends.Newline op name specs old new is added = added
AddsGiven-of ends.Zero op name specs old new is added = added
AddsGiven-of ends.Settings op name specs old new (inl is) added = cc
AddsGiven-of ends.Settings op name specs old new (inr is) added = cc

-- the records of the file of specs are given
pub given-records : (e : Terminator) (op : Operation) (name specs : List ℕ) (words : List Given) (ts : List Text)
    (n : ℕ) → (e ≡ ends.Newline) ⊎ (e ≡ ends.Zero) → AddsRecords (end_byte e) op name specs words (map given_of ts)
    → n ≡ length ts → (front : List Given) × AddsGiven e op name specs words front × (n ≡ length front)
given-records e op name specs words ts n is added many = (
  map given_of ts,
  AddsGiven-of e op name specs words (map given_of ts) is added,
  many
      ∙ sym (length-map ts given_of),
)

-- of settings only the arguments are given
pub given-settings : (e : Terminator) (op : Operation) (name specs : List ℕ) (words : List Given) (ts : List Text)
    (n : ℕ) → e ≡ ends.Settings → map given_of ts ≡ words → n ≡ length ts → (front : List Given)
    × AddsGiven e op name specs words front × (n ≡ length front)
given-settings e op name specs words ts n is same many = (
  words,
  subst (λ (x : Terminator). AddsGiven x op name specs words words) (sym is) refl,
  many
      ∙ (sym (length-map ts given_of) ∙ ap length same),
)
