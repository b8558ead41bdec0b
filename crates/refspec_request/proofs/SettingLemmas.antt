-- Keys of settings, and the settings with a key.
use Rattle.std.proofs.Common.{◌≡◌, ◌≢◌, ℕ, ◌+◌, ◌<◌, Bool, IsTrue, ◌↔◌, true, false, cond, Bor, List, [], ◌∷◌, ◌++◌}
use Rattle.std.proofs.Common.{None, Some, Option, MatchOption, filter, length, take, get_or, sym, ap, subst, ◌∙◌}
use Rattle.std.proofs.Common.{refl, append-nil}
use Rattle.std.proofs.lemmas.Bool.{false≢true}
use Rattle.std.proofs.lemmas.Bool.Decides.{Decides-like, same_from_decides}
use Rattle.std.proofs.lemmas.List.{append_cancel_left}
use Rattle.std.proofs.lemmas.List.Elements.{filter_more}
use Rattle.std.proofs.lemmas.Slice.Eq.{bytes_eq-Decides}
use Rattle.std.specs.Str.{bytes_eq}
use Rattle.gix_refspec_text.specs.Texts.Words.{Lacks}
use Rattle.gix_refspec_text.proofs.lemmas.lists.LacksLemmas.{Lacks-here, last_once}
use Rattle.refspec_io.specs.declared.settings.Setting.{Setting}
use Rattle.refspec_request.specs.Settings.{IsKey, IsKeyWhere, joined_key, has_key, settings_with, value_in}
use Rattle.refspec_request.specs.Settings.{value_of_last}

-- what is left of a text without a part, without the dot that follows
pub part_stripped : (text part : List ℕ) (x : Bor (List ℕ)) (r : Option (Bor (List ℕ))) → text ≡ part ++ x.now
    → MatchOption r ((rest : List ℕ) → x.now ≢ 46 ∷ rest) (λ y. x.now ≡ 46 ∷ y.now)
    → MatchOption r ((rest : List ℕ) → text ≢ part ++ (46 ∷ rest)) (λ rest. text ≡ part ++ (46 ∷ rest.now))
part_stripped text part x None here none = λ rest e. none rest
    (append_cancel_left part x.now (46 ∷ rest) (sym here ∙ e))
part_stripped text part x (Some y) here some = here ∙ ap (λ z. part ++ z) some

-- what follows a part and a dot in a text
pub behind_dot : (part text rest other : List ℕ) → text ≡ part ++ (46 ∷ rest) → text ≡ part ++ (46 ∷ other) → rest
    ≡ other
behind_dot part text rest other here there =
    let one : 46 ∷ rest ≡ 46 ∷ other = append_cancel_left part (46 ∷ rest) (46 ∷ other) (sym here ∙ there) in
    cc

-- what follows the section of a key and a dot
pub same_rest : (section key rest name variable : List ℕ) → key ≡ section ++ (46 ∷ rest)
    → IsKey section name variable key
    → rest ≡ name ++ (46 ∷ variable)
same_rest section key rest name variable here is = behind_dot section key rest (name ++ (46 ∷ variable)) here is.parts

-- what follows the section of a key, split at its last dot
pub key_split : (section key : List ℕ) (rest : List ℕ) (r : Option (Bor (List ℕ) × Bor (List ℕ))) → key
    ≡ section ++ (46 ∷ rest)
    → MatchOption r (Lacks 46 rest) (λ parts. (rest ≡ parts.0.now ++ (46 ∷ parts.1.now)) × Lacks 46 parts.1.now)
    → MatchOption r ((name variable : List ℕ) → ¬ (IsKey section name variable key))
    (λ parts. IsKey section parts.0.now parts.1.now key)
key_split section key rest None here lacks = λ name variable is.
    let same : rest ≡ name ++ (46 ∷ variable) = same_rest section key rest name variable here is in
    Lacks-here 46 name variable (subst (Lacks 46) same lacks)
key_split section key rest (Some parts) here last = record
    { parts = here ∙ ap (λ z. section ++ (46 ∷ z)) last.0; last = last.1 }

-- the value of one more setting is that of the last
pub value_of_last-push : (xs : List Setting) (s : Setting) → value_of_last (xs ++ s ∷ []) ≡ value_in s
value_of_last-push [] s = refl
value_of_last-push (x ∷ []) s = refl
value_of_last-push (x ∷ (y ∷ xs)) s = value_of_last-push (y ∷ xs) s

-- one more setting with the key
pub with_more : (key : List ℕ) (xs : List Setting) (i : ℕ) (d : Setting) → i < length xs → true
    ≡ has_key key (get_or xs i d)
    → settings_with key (take (i + 1) xs) ≡ settings_with key (take i xs) ++ get_or xs i d ∷ []
with_more key xs i d below has = filter_more (has_key key) xs i d below
    ∙ ap (λ b. filter (has_key key) (take i xs) ++ cond b (get_or xs i d ∷ []) []) (sym has)

-- one more setting without it
pub with_same : (key : List ℕ) (xs : List Setting) (i : ℕ) (d : Setting) → i < length xs → false
    ≡ has_key key (get_or xs i d)
    → settings_with key (take (i + 1) xs) ≡ settings_with key (take i xs)
with_same key xs i d below other = filter_more (has_key key) xs i d below
    ∙ (ap (λ b. filter (has_key key) (take i xs) ++ cond b (get_or xs i d ∷ []) []) (sym other)
    ∙ append-nil (filter (has_key key) (take i xs)))

-- the last value with one more setting that has the key
pub last_more : (key : List ℕ) (xs : List Setting) (i : ℕ) (d : Setting) → i < length xs → true
    ≡ has_key key (get_or xs i d)
    → value_in (get_or xs i d) ≡ value_of_last (settings_with key (take (i + 1) xs))
last_more key xs i d below has =
    sym (ap value_of_last (with_more key xs i d below has)
    ∙ value_of_last-push (settings_with key (take i xs)) (get_or xs i d))

-- the last value with one that hasn't
pub last_same : (key : List ℕ) (xs : List Setting) (i : ℕ) (d : Setting) (last : Option (List ℕ)) → i < length xs
    → false ≡ has_key key (get_or xs i d) → last ≡ value_of_last (settings_with key (take i xs))
    → last ≡ value_of_last (settings_with key (take (i + 1) xs))
last_same key xs i d last below other so_far = so_far ∙ sym (ap value_of_last (with_same key xs i d below other))

-- the name and the variable of a key in a section are the only ones
pub key_once : (section key name variable other last : List ℕ) → IsKey section name variable key
    → IsKey section other last key
    → (name ≡ other) × (variable ≡ last)
key_once section key name variable other last one two =
    last_once 46 name other variable last one.last two.last
    (same_rest section key (name ++ (46 ∷ variable)) other last one.parts two)

-- a test that isn't true is false
pub false_unless : (b : Bool) → (b ≡ true → ⊥) → false ≡ b
false_unless true not_so = absurd (not_so refl)
false_unless false not_so = refl

-- a key in the section that has another name
pub no_name : (key section name variable rest : List ℕ) → key ≡ section ++ (46 ∷ rest)
    → ((after : List ℕ) → rest ≢ name ++ (46 ∷ after))
    → false ≡ bytes_eq key (joined_key section name variable)
no_name key section name variable rest here none =
    false_unless _ (λ t. none variable (behind_dot section key rest (name ++ (46 ∷ variable)) here
    ((bytes_eq-Decides key (joined_key section name variable)).0 t)))

-- a key with this section and name is compared by its variable
pub by_variable : (key section name variable rest last : List ℕ) → key ≡ section ++ (46 ∷ rest) → rest
    ≡ name ++ (46 ∷ last)
    → bytes_eq last variable ≡ bytes_eq key (joined_key section name variable)
by_variable key section name variable rest last here there =
    same_from_decides (bytes_eq last variable) (bytes_eq key (joined_key section name variable))
    (bytes_eq-Decides last variable)
    (Decides-like _
    (λ e. behind_dot name rest last variable there (behind_dot section key rest (name ++ (46 ∷ variable)) here e))
    (λ e. here ∙ ap (λ z. section ++ (46 ∷ z)) (there ∙ ap (λ z. name ++ (46 ∷ z)) e))
    (bytes_eq-Decides key (joined_key section name variable)))

-- whether P holds of the name and the variable of a key, by a test of the ones that were found
pub key_where : (section key name variable : List ℕ) (P : List ℕ → List ℕ → Type 0) (test : Bool)
    → IsKey section name variable key
    → IsTrue test ↔ P name variable → IsTrue test ↔ IsKeyWhere section P key
key_where section key name variable P test is tested = (
  (λ so. (name, variable, is, tested.0 so)),
  λ some. let same = key_once section key some.0 some.1 name variable some.2 is in
      tested.1 (subst (λ v. P name v) same.1 (subst (λ n. P n some.1) same.0 some.3)),
)

-- what a comparison of two texts tells
pub same_bytes : (x y : List ℕ) (test : Bool) → test ≡ bytes_eq x y → IsTrue test ↔ (x ≡ y)
same_bytes x y test is = ((λ so. (bytes_eq-Decides x y).0 (sym is ∙ so)), λ same. is ∙ (bytes_eq-Decides x y).1 same)

-- what a test that came out false rules out
pub not_so : (P : Type 0) → IsTrue false ↔ P → ¬ P
not_so P tested = λ p. false≢true (tested.1 p)
