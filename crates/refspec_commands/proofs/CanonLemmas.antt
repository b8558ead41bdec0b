-- The canonical texts of checked texts, in order.
use Rattle.std.proofs.Common.{◌≡◌, ◌⊎◌, ℕ, ◌+◌, ◌<◌, List, [], ◌∷◌, ◌++◌, map, Option, None, Some, inl, inr, length}
use Rattle.std.proofs.Common.{take, take_all, ◌≤◌, get_or, refl, sym, ap, ◌∙◌, subst}
use Rattle.std.specs.List.{AllZip}
use Rattle.std.proofs.lemmas.List.{take_more}
use Rattle.gix_refspec.specs.Specs.Meaning.{printed}
use Rattle.gix_refspec.specs.Views.Spec.{reading_of}
use Rattle.gix_refspec_text.specs.declared.parsing.Error.{Error}
use Rattle.gix_refspec_text.specs.declared.spec.RefSpecRef.{RefSpecRef}
use Rattle.refspec_json.specs.declared.specs.SpecKind.{SpecKind}
use Rattle.refspec_json.specs.declared.specs.SpecKind.TheVariants as kind
use Rattle.refspec_io.specs.declared.call.Form.{Form}
use Rattle.refspec_io.specs.declared.checked.Checked.{Checked}
use Rattle.refspec_io.specs.declared.checked.Checked.TheVariants as checked
use Rattle.refspec_io.specs.declared.texts.Text.{Text}
use Rattle.refspec_io.specs.declared.call.Form.TheVariants as form
use Rattle.refspec_io.specs.Json.{AddsRefusal, AreInOrder}
use Rattle.refspec_io.specs.Read.{IsChecked, IsRefusal, IsRefusalOf}
use Rattle.refspec_io.specs.Shown.{AddsNames}
use Rattle.refspec_io.specs.Texts.{given_of, said}
use Rattle.refspec_io.proofs.JsonLemmas.{AddsObjects-more, AddsObjects-one, AddsObjects-push}
use Rattle.refspec_io.proofs.JsonLemmas.{AddsObjects-refusal, AddsObjects-start}
use Rattle.refspec_io.proofs.ShownLemmas.{AddsNames-append, AddsNames-none}
use Rattle.refspec_commands.specs.Canon.{AddsCanonical, AddsCanonicalName, AddsShown, AreCanonical, AreCanonicalOf}
use Rattle.refspec_commands.specs.Canon.{IsCanonicalObject, IsCanonicalOrRefusal, ShowsCanonical}

AreCanonicalOf-append : (xs ys : List Checked) (ns ms : List (List ℕ)) → AreCanonicalOf xs ns → AreCanonicalOf ys ms
    → AreCanonicalOf (xs ++ ys) (ns ++ ms)
AreCanonicalOf-append [] ys ns ms none more = subst (λ (l : List (List ℕ)). AreCanonicalOf ys (l ++ ms)) (sym none) more
AreCanonicalOf-append (checked.Good text spec ∷ xs) ys ns ms some more =
    (some.0, some.1 ++ ms, some.2, AreCanonicalOf-append xs ys some.1 ms some.3 more, ap (λ l. l ++ ms) some.4)
AreCanonicalOf-append (checked.Bad text error ∷ xs) ys ns ms some more = AreCanonicalOf-append xs ys ns ms some more

-- at the start nothing was reported
pub AddsCanonical-start : (f : Form) (old : List ℕ) → AddsCanonical f [] old old
AddsCanonical-start form.Lines old = ([], refl, AddsNames-none form.Lines [] old old refl)
AddsCanonical-start form.Zeros old = ([], refl, AddsNames-none form.Zeros [] old old refl)
AddsCanonical-start form.Json old = AddsObjects-start form.Json IsCanonicalOrRefusal old

AddsCanonical-push : (f : Form) (xs : List Checked) (y : Checked) (old mid new : List ℕ) → AddsCanonical f xs old mid
    → AddsCanonical f (y ∷ []) mid new → AddsCanonical f (xs ++ y ∷ []) old new
AddsCanonical-push form.Lines xs y old mid new a b = (
  a.0 ++ b.0,
  AreCanonicalOf-append xs (y ∷ []) a.0 b.0 a.1 b.1,
  AddsNames-append form.Lines [] a.0 b.0 old mid new a.2 b.2,
)
AddsCanonical-push form.Zeros xs y old mid new a b = (
  a.0 ++ b.0,
  AreCanonicalOf-append xs (y ∷ []) a.0 b.0 a.1 b.1,
  AddsNames-append form.Zeros [] a.0 b.0 old mid new a.2 b.2,
)
AddsCanonical-push form.Json xs y old mid new a b = AddsObjects-push form.Json form.Json IsCanonicalOrRefusal xs y old
    mid new refl a b

-- one more text
pub AddsCanonical-next : (f g : Form) (xs : List Checked) (i : ℕ) (y : Checked) (old mid new : List ℕ) → i < length xs
    → g ≡ f → y ≡ get_or xs i y → AddsCanonical f (take i xs) old mid → AddsCanonical g (y ∷ []) mid new
    → AddsCanonical f (take (i + 1) xs) old new
AddsCanonical-next f g xs i y old mid new below same is a b =
    let b2 = subst (λ (x : Form). AddsCanonical x (y ∷ []) mid new) same b in
    let step : take (i + 1) xs ≡ take i xs ++ y ∷ [] = take_more xs i y below ∙ ap (λ z. take i xs ++ z ∷ [])
    (sym is) in
    subst (λ (l : List Checked). AddsCanonical f l old new) (sym step)
    (AddsCanonical-push f (take i xs) y old mid new a b2)

-- a name that is shown
pub AddsCanonicalName-shown : (f : Form) (t : Text) (name old new : List ℕ) → (f ≡ form.Lines) ⊎ (f ≡ form.Zeros)
    → AddsNames f [] (name ∷ []) old new → AddsCanonicalName f t name old new
AddsCanonicalName-shown f t name old new (inl is) reported = subst (λ (x : Form). AddsCanonicalName x t name old new)
    (sym is) (subst (λ (x : Form). AddsNames x [] (name ∷ []) old new) is reported)
AddsCanonicalName-shown f t name old new (inr is) reported = subst (λ (x : Form). AddsCanonicalName x t name old new)
    (sym is) (subst (λ (x : Form). AddsNames x [] (name ∷ []) old new) is reported)

-- the canonical text of a spec was reported
good_one : (f : Form) (text : Text) (spec : RefSpecRef) (old new : List ℕ)
    → ((name : List ℕ) × (printed (reading_of spec) ≡ Some name) × AddsCanonicalName f text name old new)
    → AddsCanonical f (checked.Good text spec ∷ []) old new
good_one form.Lines text spec old new (name, is, reported) = (name ∷ [], (name, [], is, refl, refl), reported)
good_one form.Zeros text spec old new (name, is, reported) = (name ∷ [], (name, [], is, refl, refl), reported)
good_one form.Json text spec old new (name, is, (line, of, write)) = AddsObjects-one form.Json IsCanonicalOrRefusal
    (checked.Good text spec) line old new refl (name, is, of) write

pub AddsCanonical-good : (f : Form) (c : Checked) (text : Text) (spec : RefSpecRef) (old new : List ℕ)
    → c ≡ checked.Good text spec
    → ((name : List ℕ) × (printed (reading_of spec) ≡ Some name) × AddsCanonicalName f text name old new)
    → AddsCanonical f (c ∷ []) old new
AddsCanonical-good f c text spec old new is reported = subst (λ (x : Checked). AddsCanonical f (x ∷ []) old new)
    (sym is) (good_one f text spec old new reported)

-- a text was refused
bad_one : (f : Form) (text : Text) (error : Error) (old new : List ℕ) → AddsRefusal f text error old new
    → AddsCanonical f (checked.Bad text error ∷ []) old new
bad_one form.Lines text error old new kept = ([], refl, AddsNames-none form.Lines [] old new kept)
bad_one form.Zeros text error old new kept = ([], refl, AddsNames-none form.Zeros [] old new kept)
bad_one form.Json text error old new write = AddsObjects-refusal form.Json IsCanonicalOrRefusal (checked.Bad text error)
    text error old new (λ line is. is) write

pub AddsCanonical-bad : (f : Form) (c : Checked) (text : Text) (error : Error) (old new : List ℕ)
    → c ≡ checked.Bad text error → AddsRefusal f text error old new → AddsCanonical f (c ∷ []) old new
AddsCanonical-bad f c text error old new is reported = subst (λ (x : Checked). AddsCanonical f (x ∷ []) old new)
    (sym is) (bad_one f text error old new reported)

-- ---- what a kind says

-- at the start nothing was reported
pub AddsShown-start : (k : Option SpecKind) (f : Form) (old : List ℕ) → AddsShown k f [] old old
AddsShown-start None f old = AddsObjects-start f IsRefusalOf old
AddsShown-start (Some kind.Canonical) f old = AddsCanonical-start f old
AddsShown-start (Some kind.Meaning) f old = tt
AddsShown-start (Some kind.Good) f old = tt

-- one more text
pub AddsShown-next : (k : Option SpecKind) (f g : Form) (xs : List Checked) (i : ℕ) (y : Checked) (old mid new : List ℕ)
    → i < length xs → g ≡ f → y ≡ get_or xs i y → AddsShown k f (take i xs) old mid → AddsShown k g (y ∷ []) mid new
    → AddsShown k f (take (i + 1) xs) old new
AddsShown-next None f g xs i y old mid new below same is a b =
    AddsObjects-more f g IsRefusalOf xs i y old mid new below same is a b
AddsShown-next (Some kind.Canonical) f g xs i y old mid new below same is a b =
    AddsCanonical-next f g xs i y old mid new below same is a b
AddsShown-next (Some kind.Meaning) f g xs i y old mid new below same is a b = tt
AddsShown-next (Some kind.Good) f g xs i y old mid new below same is a b = tt

-- all texts
pub AddsShown-all : (k : Option SpecKind) (f : Form) (xs : List Checked) (i : ℕ) (old new : List ℕ) → length xs ≤ i
    → AddsShown k f (take i xs) old new → AddsShown k f xs old new
AddsShown-all k f xs i old new long so_far =
    subst (λ (l : List Checked). AddsShown k f l old new) (take_all i xs long) so_far

-- a text was refused
pub AddsShown-bad : (k : Option SpecKind) (f : Form) (c : Checked) (text : Text) (error : Error) (old new : List ℕ)
    → c ≡ checked.Bad text error → AddsRefusal f text error old new → AddsShown k f (c ∷ []) old new
AddsShown-bad None f c text error old new is reported =
    AddsObjects-refusal f IsRefusalOf c text error old new
    (λ line of. subst (λ (x : Checked). IsRefusalOf x line) (sym is) of) reported
AddsShown-bad (Some kind.Canonical) f c text error old new is reported =
    AddsCanonical-bad f c text error old new is reported
AddsShown-bad (Some kind.Meaning) f c text error old new is reported = tt
AddsShown-bad (Some kind.Good) f c text error old new is reported = tt

-- the canonical text of a spec was reported
pub AddsShown-canonical : (k : Option SpecKind) (f : Form) (c : Checked) (text : Text) (spec : RefSpecRef)
    (old new : List ℕ) → k ≡ Some kind.Canonical → c ≡ checked.Good text spec
    → ((name : List ℕ) × (printed (reading_of spec) ≡ Some name) × AddsCanonicalName f text name old new)
    → AddsShown k f (c ∷ []) old new
AddsShown-canonical k f c text spec old new of is reported =
    subst (λ (x : Option SpecKind). AddsShown x f (c ∷ []) old new) (sym of)
    (AddsCanonical-good f c text spec old new is reported)

-- the canonical texts of the checked texts are those of the texts
AreCanonical-of : (texts : List Text) (all : List Checked) (names : List (List ℕ)) → AllZip IsChecked texts all
    → AreCanonicalOf all names → AreCanonical (map said (map given_of texts)) names
AreCanonical-of [] [] names is none = none
AreCanonical-of [] (c ∷ all) names is of = absurd is
AreCanonical-of (t ∷ texts) [] names is of = absurd is
AreCanonical-of (t ∷ texts) (checked.Good text spec ∷ all) names is of =
    inl (reading_of spec, of.0, of.1, is.0.1, of.2, AreCanonical-of texts all of.1 is.1 of.3, of.4)
AreCanonical-of (t ∷ texts) (checked.Bad text error ∷ all) names is of =
    inr (is.0.1.0, is.0.1.2, AreCanonical-of texts all names is.1 of)

-- and so are their objects
canonical_objects : (texts : List Text) (all : List Checked) (lines : List ℕ) → AllZip IsChecked texts all
    → AreInOrder IsCanonicalOrRefusal all lines → AreInOrder (λ t line. IsCanonicalObject t line ⊎ IsRefusal t line)
    (map given_of texts) lines
canonical_objects [] [] lines is reported = reported
canonical_objects [] (c ∷ all) lines is reported = absurd is
canonical_objects (t ∷ texts) [] lines is reported = absurd is
canonical_objects (t ∷ texts) (checked.Good text spec ∷ all) lines is (one, rest, (name, printed, line), more, sum) = (
  one,
  rest,
  inl (record {
    text = text;
    reading = reading_of spec;
    name = name;
    is_text = ap given_of is.0.0;
    read = is.0.1;
    is_name = printed;
    is = line;
  }),
  canonical_objects texts all rest is.1 more,
  sum,
)
canonical_objects (t ∷ texts) (checked.Bad text error ∷ all) lines is (one, rest, line, more, sum) = (
  one,
  rest,
  inr (record { text = text; error = error; is_text = ap given_of is.0.0; refused = is.0.1; is = line }),
  canonical_objects texts all rest is.1 more,
  sum,
)

-- the report on the checked texts shows the canonical texts of the texts
pub ShowsCanonical-of : (f : Form) (texts : List Text) (all : List Checked) (new : List ℕ) → AllZip IsChecked texts all
    → AddsCanonical f all [] new → ShowsCanonical f (map given_of texts) new
ShowsCanonical-of form.Lines texts all new is reported =
    (reported.0, AreCanonical-of texts all reported.0 is reported.1, reported.2)
ShowsCanonical-of form.Zeros texts all new is reported =
    (reported.0, AreCanonical-of texts all reported.0 is reported.1, reported.2)
ShowsCanonical-of form.Json texts all new is (lines, reported, write) =
    subst (AreInOrder (λ t line. IsCanonicalObject t line ⊎ IsRefusal t line) (map given_of texts)) (sym write)
    (canonical_objects texts all lines is reported)
