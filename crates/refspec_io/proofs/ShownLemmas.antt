-- Names that are shown, in order.
use Rattle.std.proofs.Common.{◌≡◌, ◌==◌, ℕ, true, false, List, [], ◌∷◌, ◌++◌, ◌+◌, ◌<◌, ◌≤◌, length, take, take_all}
use Rattle.std.proofs.Common.{get_or, map, flat_map, Result, Ok, Err, IfOk, OnOk, refl, sym, ap, ◌∙◌, subst}
use Rattle.std.proofs.Common.{append_assoc, arith}
use Rattle.std.proofs.lemmas.Bool.{eqb-true, false≢true}
use Rattle.std.proofs.lemmas.List.{append-nil, take_more}
use Rattle.std.proofs.lemmas.Grind.{flat_map-append}
use Rattle.refspec_io.specs.declared.call.Form.{Form}
use Rattle.refspec_io.specs.declared.call.Form.TheVariants as form
use Rattle.refspec_io.specs.declared.report.Report.{Report}
use Rattle.refspec_io.specs.Shown.{AddsNames, AreLines, Grows, KeepsReport, KeepsResults, escaped, zero_ended}

-- a fact about a success implies its consequence
pub on_ok : {T E : Type 0} (r : Result T E) (P Q : Type 0) → OnOk r P → (P → Q) → OnOk r Q
on_ok (Ok x) P Q holds gives = gives holds
on_ok (Err e) P Q holds gives = holds

-- the same for a fact about its value
pub if_ok : {T E : Type 0} (r : Result T E) (P Q : T → Type 0) → IfOk r P → ((x : T) → P x → Q x) → IfOk r Q
if_ok (Ok x) P Q holds gives = gives x holds
if_ok (Err e) P Q holds gives = holds

-- two facts about a success imply their consequence
pub both_ok : {T E : Type 0} (r : Result T E) (P Q R : Type 0) → OnOk r P → OnOk r Q → (P → Q → R) → OnOk r R
both_ok (Ok x) P Q R one other gives = gives one other
both_ok (Err e) P Q R one other gives = one

-- bytes appended twice
pub behind : (old inner mid more new : List ℕ) → mid ≡ old ++ inner → new ≡ mid ++ more → new ≡ old ++ (inner ++ more)
behind old inner mid more new before write = write ∙ (ap (λ l. l ++ more) before ∙ append_assoc old inner more)

-- the same, whatever they are
pub grows_on : (a b c : List ℕ) → Grows a b → Grows b c → Grows a c
grows_on a b c (first, is) (second, then_is) = (first ++ second, behind a first b second c is then_is)

-- a list mapped twice
pub map-twice : {X Y Z : Type 0} (f : Y → Z) (g : X → Y) (xs : List X) → map (λ x. f (g x)) xs ≡ map f (map g xs)
map-twice f g [] = refl
map-twice f g (x ∷ xs) = ap (λ l. f (g x) ∷ l) (map-twice f g xs)

-- the lines of some names, and then those of others
AreLines-append : (before : List ℕ) (xs ys : List (List ℕ)) (front back : List ℕ) → AreLines before xs front
    → AreLines before ys back → AreLines before (xs ++ ys) (front ++ back)
AreLines-append before [] ys front back none more = subst (λ (l : List ℕ). AreLines before ys (l ++ back))
    (sym none) more
AreLines-append before (x ∷ xs) ys front back some more = (
  some.0,
  some.1 ++ back,
  some.2,
  AreLines-append before xs ys some.1 back some.3 more,
  ap (λ l. l ++ back) some.4
      ∙ (append_assoc before (some.0 ++ (10 ∷ some.1)) back
      ∙ ap (λ l. before ++ l) (append_assoc some.0 (10 ∷ some.1) back)),
)

-- if nothing was appended, no name was shown
pub AddsNames-none : (f : Form) (before old new : List ℕ) → new ≡ old → AddsNames f before [] old new
AddsNames-none form.Lines before old new kept = ([], refl, kept ∙ sym (append-nil old))
AddsNames-none form.Zeros before old new kept = kept ∙ sym (append-nil old)
AddsNames-none form.Json before old new kept = kept

pub KeepsResults-same : (f : Form) (old : List ℕ) → KeepsResults f old old
KeepsResults-same form.Lines old = refl
KeepsResults-same form.Zeros old = refl
KeepsResults-same form.Json old = ([], sym (append-nil old))

-- some names, and then others
pub AddsNames-append : (f : Form) (before : List ℕ) (xs ys : List (List ℕ)) (old mid new : List ℕ)
    → AddsNames f before xs old mid → AddsNames f before ys mid new → AddsNames f before (xs ++ ys) old new
AddsNames-append form.Lines before xs ys old mid new a b = (
  a.0 ++ b.0,
  AreLines-append before xs ys a.0 b.0 a.1 b.1,
  behind old a.0 mid b.0 new a.2 b.2,
)
AddsNames-append form.Zeros before xs ys old mid new a b =
    behind old (flat_map zero_ended xs) mid (flat_map zero_ended ys) new a b
    ∙ ap (λ l. old ++ l) (sym (flat_map-append zero_ended xs ys))
AddsNames-append form.Json before xs ys old mid new a b = b ∙ a

-- results that were kept twice
pub KeepsResults-next : (f g : Form) (old mid new : List ℕ) → g ≡ f → KeepsResults f old mid → KeepsResults g mid new
    → KeepsResults f old new
KeepsResults-next form.Lines g old mid new same a b = subst (λ (x : Form). KeepsResults x mid new) same b ∙ a
KeepsResults-next form.Zeros g old mid new same a b = subst (λ (x : Form). KeepsResults x mid new) same b ∙ a
KeepsResults-next form.Json g old mid new same a b =
    let b2 = subst (λ (x : Form). KeepsResults x mid new) same b in
    (a.0 ++ b2.0, behind old a.0 mid b2.0 new a.1 b2.1)

-- reports that keep their results
pub KeepsReport-same : (p : Report) → KeepsReport p p
KeepsReport-same p = record { form = refl; kept = KeepsResults-same p.form p.results.items }

pub KeepsReport-next : (p q r : Report) → KeepsReport p q → KeepsReport q r → KeepsReport p r
KeepsReport-next p q r a b =
    record {
      form = b.form ∙ a.form;
      kept = KeepsResults-next p.form q.form p.results.items q.results.items
          r.results.items a.form a.kept b.kept;
    }

-- one more byte in quotes
pub escaped-next : (text : List ℕ) (i d b : ℕ) (old mid new : List ℕ) → i < length text → b ≡ get_or text i d
    → mid ≡ old ++ (34 ∷ flat_map escaped (take i text)) → new ≡ mid ++ escaped b
    → new ≡ old ++ (34 ∷ flat_map escaped (take (i + 1) text))
escaped-next text i d b old mid new below is before write =
    let step : flat_map escaped (take (i + 1) text) ≡ flat_map escaped (take i text) ++ escaped b =
    ap (flat_map escaped) (take_more text i d below) ∙ (flat_map-append escaped (take i text) (get_or text i d ∷ [])
    ∙ (ap (λ l. flat_map escaped (take i text) ++ l) (append-nil (escaped (get_or text i d)))
    ∙ ap (λ x. flat_map escaped (take i text) ++ escaped x) (sym is))) in
    behind old (34 ∷ flat_map escaped (take i text)) mid (escaped b) new before write ∙ ap (λ l. old ++ (34 ∷ l))
    (sym step)

-- all bytes
pub escaped-all : (text old new : List ℕ) (i : ℕ) → length text ≤ i → new ≡ old ++ (34 ∷ flat_map escaped (take i text))
    → new ≡ old ++ (34 ∷ flat_map escaped text)
escaped-all text old new i long so_far = so_far ∙ ap (λ (l : List ℕ). old ++ (34 ∷ flat_map escaped l))
    (take_all i text long)

-- the names of an empty list, and of another one
pub no_names : {A : Type 0} (f : A → List ℕ) (xs : List A) → true ≡ (length xs == 0) → map f xs ≡ []
no_names f [] is = refl
no_names f (x ∷ xs) is = absurd (omega (arith, eqb-true _ _ (sym is)))

pub some_names : {A : Type 0} (f : A → List ℕ) (xs : List A) → false ≡ (length xs == 0) → map f xs ≡ [] → ⊥
some_names f [] is none = false≢true is
some_names f (x ∷ xs) is none = cc
