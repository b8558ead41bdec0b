-- Checked texts, in order.
use Rattle.std.proofs.Common.{◌≡◌, ℕ, ◌+◌, ◌<◌, ◌≤◌, Bool, true, false, MatchBool, List, [], ◌∷◌, ◌++◌, length, map}
use Rattle.std.proofs.Common.{take, take_all, get_or, zero, suc, inl, inr, refl, sym, ap, ◌∙◌, subst, arith}
use Rattle.std.proofs.lemmas.List.{map-append, take_more}
use Rattle.std.specs.List.{AllZip}
use Rattle.refspec_io.specs.declared.call.Form.{Form}
use Rattle.refspec_io.specs.declared.call.Form.TheVariants as form
use Rattle.refspec_io.specs.declared.checked.Checked.{Checked}
use Rattle.refspec_io.specs.declared.checked.Checked.TheVariants as checked
use Rattle.refspec_io.specs.declared.texts.Text.{Text}
use Rattle.gix_refspec.specs.Specs.Grammar.{Reads}
use Rattle.gix_refspec.specs.Specs.Reading.{Reading}
use Rattle.gix_refspec_text.specs.declared.parsing.Error.{Error}
use Rattle.gix_refspec.specs.Views.Spec.{reading_of}
use Rattle.gix_refspec_text.specs.declared.spec.RefSpecRef.{RefSpecRef}
use Rattle.refspec_io.specs.Json.{AddsObjects, AreInOrder}
use Rattle.refspec_io.specs.Read.{AddsIfGood, AddsIfRead, AreGood, AreRead, HasBad, HasRefused, IsChecked}
use Rattle.refspec_io.specs.Read.{IsReadOrRefusal, IsRefusalOf, IsSpec, DecidesRefused}
use Rattle.refspec_io.specs.Texts.{given_of, said}
use Rattle.std.proofs.lemmas.Slice.Zip.{all_zipped_more}

-- one more element
pub zip_next : {A B : Type 0} (R : A → B → Type 0) (xs : List A) (i : ℕ) (d : A) (ys more : List B) (y : B)
    → i < length xs → AllZip R (take i xs) ys → R (get_or xs i d) y → more ≡ ys ++ y ∷ []
    → AllZip R (take (i + 1) xs) more
zip_next {A} {B} R xs i d ys more y below so_far is grown =
    subst (λ (l : List A). AllZip R l more) (sym (take_more xs i d below))
    (subst (AllZip R (take i xs ++ get_or xs i d ∷ [])) (sym grown)
    (all_zipped_more R (take i xs) ys (get_or xs i d) y so_far is))

-- all elements
pub zip_all : {A B : Type 0} (R : A → B → Type 0) (xs : List A) (i : ℕ) (ys : List B) → length xs ≤ i
    → AllZip R (take i xs) ys → AllZip R xs ys
zip_all {A} R xs i ys long so_far = subst (λ (l : List A). AllZip R l ys) (take_all i xs long) so_far

-- all elements, where the first ones are mapped
pub zip_mapped_all : {A C D : Type 0} (R : C → D → Type 0) (f : A → C) (xs : List A) (i : ℕ) (ys : List D)
    → length xs ≤ i → AllZip R (map f (take i xs)) ys → AllZip R (map f xs) ys
zip_mapped_all {A} R f xs i ys long so_far = subst (λ (l : List A). AllZip R (map f l) ys) (take_all i xs long) so_far

-- one more spec
pub specs_next : (all : List Checked) (i : ℕ) (c : Checked) (t : Text) (spec : RefSpecRef) (old new : List RefSpecRef)
    → i < length all → c ≡ get_or all i c → c ≡ checked.Good t spec → new ≡ old ++ spec ∷ []
    → AllZip IsSpec (take i all) (map reading_of old) → AllZip IsSpec (take (i + 1) all) (map reading_of new)
specs_next all i c t spec old new below here is grown so_far =
    let good : IsSpec (get_or all i c) (reading_of spec) = subst (λ (x : Checked). IsSpec x (reading_of spec))
    (sym (sym here ∙ is)) refl in
    zip_next IsSpec all i c (map reading_of old) (map reading_of new) (reading_of spec) below so_far good
    (ap (map reading_of) grown ∙ map-append reading_of old (spec ∷ []))

-- a refused text is one of all
pub HasBad-at : (all : List Checked) (i : ℕ) (c : Checked) (t : Text) (error : Error) → i < length all
    → c ≡ get_or all i c → c ≡ checked.Bad t error → HasBad all
HasBad-at [] i c t error below here is = absurd (omega (arith, below))
HasBad-at (checked.Bad u e ∷ all) i c t error below here is = tt
HasBad-at (checked.Good u spec ∷ all) zero c t error below here is = absurd (good_is_bad (sym here ∙ is))
  where
    good_is_bad : checked.Good u spec ≡ checked.Bad t error → ⊥
    good_is_bad same = cc
HasBad-at (checked.Good u spec ∷ all) (suc i) c t error below here is = HasBad-at all i c t error (omega (arith, below))
    here is

-- the readings of the specs are those of their texts
pub AreRead-of : (texts : List Text) (all : List Checked) (g : List Reading) → AllZip IsChecked texts all
    → AllZip IsSpec all g → AreRead (map said (map given_of texts)) g
AreRead-of [] [] [] is good = tt
AreRead-of [] [] (r ∷ g) is good = absurd good
AreRead-of [] (c ∷ all) g is good = absurd is
AreRead-of (t ∷ texts) [] g is good = absurd is
AreRead-of (t ∷ texts) (checked.Good text spec ∷ all) [] is good = absurd good
AreRead-of (t ∷ texts) (checked.Good text spec ∷ all) (r ∷ g) is good =
    (subst (Reads t.operation t.bytes.now) (sym good.0) is.0.1, AreRead-of texts all g is.1 good.1)
AreRead-of (t ∷ texts) (checked.Bad text error ∷ all) [] is good = absurd good
AreRead-of (t ∷ texts) (checked.Bad text error ∷ all) (r ∷ g) is good = absurd good.0

-- if some checked text is bad, some text is refused
pub HasRefused-of : (texts : List Text) (all : List Checked) → AllZip IsChecked texts all → HasBad all
    → HasRefused (map said (map given_of texts))
HasRefused-of [] [] is bad = absurd bad
HasRefused-of [] (c ∷ all) is bad = absurd is
HasRefused-of (t ∷ texts) [] is bad = absurd is
HasRefused-of (t ∷ texts) (checked.Good text spec ∷ all) is bad = inr (HasRefused-of texts all is.1 bad)
HasRefused-of (t ∷ texts) (checked.Bad text error ∷ all) is bad = inl (is.0.1.0, is.0.1.2)

-- the objects of refused checked texts are those of the texts
refusals_of : (texts : List Text) (all : List Checked) (lines : List ℕ) → AllZip IsChecked texts all
    → AreInOrder IsRefusalOf all lines → AreInOrder IsReadOrRefusal (map given_of texts) lines
refusals_of [] [] lines is reported = reported
refusals_of [] (c ∷ all) lines is reported = absurd is
refusals_of (t ∷ texts) [] lines is reported = absurd is
refusals_of (t ∷ texts) (checked.Good text spec ∷ all) lines is (one, rest, none, more, sum) =
    (one, rest, inl ((reading_of spec, is.0.1), none), refusals_of texts all rest is.1 more, sum)
refusals_of (t ∷ texts) (checked.Bad text error ∷ all) lines is (one, rest, line, more, sum) = (
  one,
  rest,
  inr (record { text = text; error = error; is_text = ap given_of is.0.0; refused = is.0.1; is = line }),
  refusals_of texts all rest is.1 more,
  sum,
)

AddsRefusals-of : (f : Form) (texts : List Text) (all : List Checked) (old new : List ℕ) → AllZip IsChecked texts all
    → AddsObjects f IsRefusalOf all old new → AddsObjects f IsReadOrRefusal (map given_of texts) old new
AddsRefusals-of form.Lines texts all old new is kept = kept
AddsRefusals-of form.Zeros texts all old new is kept = kept
AddsRefusals-of form.Json texts all old new is (lines, reported, write) =
    (lines, refusals_of texts all lines is reported, write)

-- a report on the checked texts is one on the texts
pub AddsIfRead-of : (Adds : List Reading → List ℕ → List ℕ → Type 0) (Refuses Says : Type 0) (f : Form) (refused : Bool)
    (texts : List Text) (all : List Checked) (old new : List ℕ) → AllZip IsChecked texts all → (Refuses → Says)
    → AddsIfGood Adds Refuses f refused all old new → AddsIfRead Adds Says f refused (map given_of texts) old new
AddsIfRead-of Adds Refuses Says f refused texts all old new is says (inl reported) =
    inl (reported.0, AreRead-of texts all reported.0 is reported.1, reported.2)
AddsIfRead-of Adds Refuses Says f refused texts all old new is says (inr kept) =
    inr (HasRefused-of texts all is kept.0, AddsRefusals-of f texts all old new is kept.1, kept.2, says kept.3)

-- if all checked texts are specs, all texts have readings
all_read : (texts : List Text) (all : List Checked) → AllZip IsChecked texts all → AreGood all → (g : List Reading)
    × AreRead (map said (map given_of texts)) g
all_read [] [] is good = ([], tt)
all_read [] (c ∷ all) is good = absurd is
all_read (t ∷ texts) [] is good = absurd is
all_read (t ∷ texts) (checked.Good text spec ∷ all) is good =
    let rest = all_read texts all is.1 good in
    (reading_of spec ∷ rest.0, (is.0.1, rest.1))
all_read (t ∷ texts) (checked.Bad text error ∷ all) is good = absurd good

-- whether some text is refused
pub DecidesRefused-of : (refused : Bool) (texts : List Text) (all : List Checked) → AllZip IsChecked texts all
    → MatchBool refused (HasBad all) (AreGood all) → DecidesRefused refused (map said (map given_of texts))
DecidesRefused-of true texts all is bad = HasRefused-of texts all is bad
DecidesRefused-of false texts all is good = all_read texts all is good

AreGood-more : (xs : List Checked) (c : Checked) → AreGood xs → AreGood (c ∷ []) → AreGood (xs ++ c ∷ [])
AreGood-more [] c good is = is
AreGood-more (checked.Good text spec ∷ xs) c good is = AreGood-more xs c good is
AreGood-more (checked.Bad text error ∷ xs) c good is = absurd good

-- one more spec
pub AreGood-next : (all : List Checked) (i : ℕ) (c : Checked) → i < length all → c ≡ get_or all i c → AreGood (c ∷ [])
    → AreGood (take i all) → AreGood (take (i + 1) all)
AreGood-next all i c below is good so_far =
    subst AreGood (sym (take_more all i c below))
    (AreGood-more (take i all) (get_or all i c) so_far (subst (λ (x : Checked). AreGood (x ∷ [])) is good))

-- all specs
pub AreGood-all : (all : List Checked) (i : ℕ) → length all ≤ i → AreGood (take i all) → AreGood all
AreGood-all all i long so_far = subst AreGood (take_all i all long) so_far

-- a bad text is one of all
pub HasBad-here : (all : List Checked) (i : ℕ) (c : Checked) → i < length all → c ≡ get_or all i c → HasBad (c ∷ [])
    → HasBad all
HasBad-here all i (checked.Good text spec) below here bad = absurd bad
HasBad-here all i (checked.Bad text error) below here bad = HasBad-at all i (checked.Bad text error) text error below
    here refl
