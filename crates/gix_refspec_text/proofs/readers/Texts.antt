-- Tests that compute what a text contains, which faults it has and whether it is a name or a pattern, so that examples
-- need no witnesses.
use Rattle.gix_refspec_text.proofs.Common.{ArePartsAt, length-append, filter, get_or, if◌then◌else◌, ◌≡◌, ◌≢◌, ℕ, Bool}
use Rattle.gix_refspec_text.proofs.Common.{true, false, not, ◌==◌, ◌||◌, ◌&&◌, ◌-◌, nat_eq, bytes_eq, bytes_eq-Decides}
use Rattle.gix_refspec_text.proofs.Common.{List, [], ◌∷◌, ◌++◌, length, take, drop, codes, refl, sym, ap, ◌∙◌, subst}
use Rattle.gix_refspec_text.proofs.Common.{arith, All, AllByRecursion, All-from_recursion, Decides, Decides-eqb}
use Rattle.gix_refspec_text.proofs.Common.{starts_with, ends_with, starts_is, ends_is, slice_split, join_with_byte}
use Rattle.gix_refspec_text.proofs.Common.{list_any, count_by, false≢true, eqb-false, eqb-true, ne_eqb, or_parts}
use Rattle.gix_refspec_text.proofs.Common.{or_cases, and_parts, Error, Empty, EmptyComponent, StartsWithDot, LockSuffix}
use Rattle.gix_refspec_text.proofs.Common.{EndsWithDot, RepeatedDot, ReflogPortion, Asterisk, InvalidByte}
use Rattle.gix_refspec_text.proofs.Common.{is_refused_byte, Lacks, ContainsText, BeginsWith, EndsWith, SomeComponent}
use Rattle.gix_refspec_text.proofs.Common.{HasFault, HasOneStar, HasSeveralStars, IsName, IsPattern, IsPatternFault}
use Rattle.gix_refspec_text.proofs.Common.{ReplacesStar, slash, star, with_letters, inl, inr, Refusal}
use Rattle.gix_refspec_text.proofs.Common.{PatternUnsupported, ReferenceName, IsBadPattern}
use Rattle.gix_refspec_text.specs.declared.name.PatternError.TheVariants.{Name}
use Rattle.std.proofs.lemmas.Bool.Decides.{Decides-and, Decides-not, not_from_Decides}
use Rattle.std.proofs.Math.Bool.{or-true}
use Rattle.std.proofs.lemmas.List.Folds.{list_any-append}
use Rattle.std.proofs.lemmas.List.Splits.{slice_split_none, slice_split_at, join_with_byte-slice_split}
use Rattle.gix_refspec_text.proofs.lemmas.lists.AllLemmas.{all_weaker}
use Rattle.gix_refspec_text.proofs.lemmas.texts.TestedLemmas.{IsName-tested, is_suspect}
use Rattle.gix_refspec_text.proofs.lemmas.parsing.SideLemmas.{HasSeveralStars-replaced, pattern_fine, plain_fine}
use Rattle.gix_refspec_text.proofs.lemmas.parsing.SideLemmas.{replaced_once}
use Rattle.gix_refspec_text.proofs.lemmas.texts.LetterLemmas.{HasOneStar-count_by, count_by-HasOneStar}
use Rattle.gix_refspec_text.proofs.lemmas.texts.LetterLemmas.{pattern_with_letter, replaces_one}

-- texts that differ
pub differ : (x y : List ℕ) → bytes_eq x y ≡ false → x ≢ y
differ x y = not_from_Decides (bytes_eq x y) (bytes_eq-Decides x y)

-- a text without a byte, and one with it
pub Lacks-tested : (b : ℕ) (x : List ℕ) → list_any (λ c. c == b) x ≡ false → Lacks b x
Lacks-tested b [] none = tt
Lacks-tested b (c ∷ x) none = let both = or_parts (c == b) (list_any (λ c. c == b) x) none in
    (eqb-false c b both.0, Lacks-tested b x both.1)

begins_is : (w x : List ℕ) → Decides (starts_with nat_eq x w) (BeginsWith w x)
begins_is w x = let told = starts_is Decides-eqb x w (starts_with nat_eq x w) refl in
    ((λ so. record { after = drop (length w) x; here = told.0 so }), λ begins. told.1 begins.after begins.here)

ends_with_is : (w x : List ℕ) → Decides (ends_with nat_eq x w) (EndsWith w x)
ends_with_is w x = let told = ends_is Decides-eqb x w (ends_with nat_eq x w) refl in
    ((λ so. record { before = take (length x - length w) x; here = told.0 so }), λ ends. told.1 ends.before ends.here)

pub begins : (w x : List ℕ) → starts_with nat_eq x w ≡ true → BeginsWith w x
begins w x = (begins_is w x).0

pub begins_not : (w x : List ℕ) → starts_with nat_eq x w ≡ false → ¬ (BeginsWith w x)
begins_not w x = not_from_Decides (starts_with nat_eq x w) (begins_is w x)

-- whether a text contains a word
abbrev pub holds : List ℕ → List ℕ → Bool
holds w [] = starts_with nat_eq [] w
holds w (b ∷ x) = starts_with nat_eq (b ∷ x) w || holds w x

at_start : (w x : List ℕ) → starts_with nat_eq x w ≡ true → ContainsText w x
at_start w x so = let found = begins w x so in record { before = []; after = found.after; here = found.here }

pub contains : (w x : List ℕ) → holds w x ≡ true → ContainsText w x
contains w [] so = at_start w [] so
contains w (b ∷ x) so = elim (or_cases _ _ so) [
  | inl first ↦ at_start w (b ∷ x) first
  | inr later ↦ let f =
      contains w x later in record { before = b ∷ f.before; after = f.after; here = ap (λ y. b ∷ y) f.here }
]

holds_after : (w before after x : List ℕ) → x ≡ before ++ (w ++ after) → holds w x ≡ true
holds_after w [] after [] here = (begins_is w []).1 (record { after = after; here = here })
holds_after w [] after (b ∷ x) here = ap (λ v. v || holds w x)
    ((begins_is w (b ∷ x)).1 (record { after = after; here = here }))
holds_after w (c ∷ before) after [] here = cc
holds_after w (c ∷ before) after (b ∷ x) here = grind (arith, or-true, holds_after w before after x)

holds_is : (w x : List ℕ) → Decides (holds w x) (ContainsText w x)
holds_is w x = (contains w x, λ has. holds_after w has.before has.after x has.here)

pub holds_not : (w x : List ℕ) → holds w x ≡ false → ¬ (ContainsText w x)
holds_not w x = not_from_Decides (holds w x) (holds_is w x)

-- the components of a text
abbrev pub components : List ℕ → List (List ℕ)
components x = slice_split (λ c. c == slash) x

no_slash : (x : List ℕ) → Lacks slash x → All (λ c. (c == slash) ≡ false) x
no_slash x lacks = All-from_recursion (λ c. (c == slash) ≡ false) x
    (all_weaker (λ c. c ≢ slash) (λ c. (c == slash) ≡ false) (λ c other. ne_eqb c slash other) x lacks)

-- parts without a slash are those that a text is split into
split_joined : (ps : List (List ℕ)) → ps ≢ [] → AllByRecursion (Lacks slash) ps
    → components (join_with_byte slash ps) ≡ ps
split_joined [] full lack = absurd (full refl)
split_joined (p ∷ []) full lack = slice_split_none (λ c. c == slash) p (no_slash p lack.0)
split_joined (p ∷ q ∷ ps) full lack =
    slice_split_at (λ c. c == slash) p slash (join_with_byte slash (q ∷ ps)) (no_slash p lack.0) refl
    ∙ ap (λ l. p ∷ l) (split_joined (q ∷ ps) (λ e. cc) lack.1)

pub split_again : (P : List ℕ → Type 0) (x : List ℕ) (some : SomeComponent P x)
    → components x ≡ some.before ++ (some.component ∷ some.after)
split_again P x some =
    ap components (sym some.components.joined)
    ∙ split_joined _ (λ e. omega (arith, ap length e, length-append some.before (some.component ∷ some.after)))
    some.components.whole

parts_lack : (x : List ℕ) → AllByRecursion (Lacks slash) (components x)
parts_lack [] = (tt, tt)
parts_lack (b ∷ x) = grind (arith, eqb-false, parts_lack x)

-- an element that passes a test, with those before and after it
pub passes : (p : List ℕ → Bool) (xs : List (List ℕ)) → list_any p xs ≡ true → (before : List (List ℕ)) × (w : List ℕ)
    × (after : List (List ℕ)) × (xs ≡ before ++ (w ∷ after)) × (p w ≡ true)
passes p [] so = absurd (false≢true so)
passes p (x ∷ xs) so = elim (or_cases _ _ so) [
  | inl first ↦ ([], x, xs, refl, first)
  | inr later ↦ let found =
      passes p xs later in (x ∷ found.0, found.1, found.2, ap (λ l. x ∷ l) found.3, found.4)
]

pub passes_back : (p : List ℕ → Bool) (before : List (List ℕ)) (x : List ℕ) (after : List (List ℕ)) → p x ≡ true
    → list_any p (before ++ (x ∷ after)) ≡ true
passes_back p before x after pass = grind (arith, list_any-append, or-true)

split_parts : (x : List ℕ) → ArePartsAt slash (components x) x
split_parts x = record { joined = join_with_byte-slice_split slash x; whole = parts_lack x }

component_is : (P : List ℕ → Type 0) (p : List ℕ → Bool) (x : List ℕ) → ((w : List ℕ) → Decides (p w) (P w))
    → Decides (list_any p (components x)) (SomeComponent P x)
component_is P p x is = (
  (λ so. let f = passes p (components x) so in record {
    before = f.0;
    component = f.1;
    after = f.2;
    fact =
        (is f.1).0 f.4;
    components = subst (λ l. ArePartsAt slash l x) f.3 (split_parts x);
  }),
  λ some. ap (list_any p) (split_again P x some) ∙ passes_back p some.before some.component some.after
      ((is some.component).1 some.fact),
)

-- whether a text is empty
abbrev pub is_empty : List ℕ → Bool
is_empty [] = true
is_empty (b ∷ x) = false

empty_is : (x : List ℕ) → Decides (is_empty x) (x ≡ [])
empty_is x = grind (arith, false≢true)

-- whether the text has the fault
abbrev pub has_fault : List ℕ → Error → Bool
has_fault x Empty = is_empty x
has_fault x EmptyComponent = not (is_empty x) && list_any is_empty (components x)
has_fault x StartsWithDot = list_any (λ w. starts_with nat_eq w (codes ".")) (components x)
has_fault x LockSuffix = list_any (λ w. ends_with nat_eq w (codes ".lock")) (components x)
has_fault x EndsWithDot = ends_with nat_eq x (codes ".")
has_fault x RepeatedDot = holds (codes "..") x
has_fault x ReflogPortion = holds (codes "@{") x
has_fault x Asterisk = holds (codes "*") x
has_fault x (InvalidByte b) = holds (b ∷ []) x && is_refused_byte b

fault_is : (x : List ℕ) (e : Error) → Decides (has_fault x e) (HasFault x e)
fault_is x Empty = empty_is x
fault_is x EmptyComponent = Decides-and _ _ (Decides-not _ (empty_is x))
    (component_is (λ w. w ≡ []) is_empty x empty_is)
fault_is x StartsWithDot = component_is (BeginsWith (codes ".")) (λ w. starts_with nat_eq w (codes ".")) x
    (begins_is (codes "."))
fault_is x LockSuffix = component_is (EndsWith (codes ".lock")) (λ w. ends_with nat_eq w (codes ".lock")) x
    (ends_with_is (codes ".lock"))
fault_is x EndsWithDot = ends_with_is (codes ".") x
fault_is x RepeatedDot = holds_is (codes "..") x
fault_is x ReflogPortion = holds_is (codes "@{") x
fault_is x Asterisk = holds_is (codes "*") x
fault_is x (InvalidByte b) = Decides-and _ _ (holds_is (b ∷ []) x) ((λ so. so), λ so. so)

pub faulty : (x : List ℕ) (e : Error) → has_fault x e ≡ true → HasFault x e
faulty x e = (fault_is x e).0

pub faultless : (x : List ℕ) (e : Error) → has_fault x e ≡ false → ¬ (HasFault x e)
faultless x e = not_from_Decides (has_fault x e) (fault_is x e)

-- a text that has a fault isn't a name
abbrev some_fault : List ℕ → Error
some_fault x = if has_fault x Empty then Empty else if has_fault x EmptyComponent then EmptyComponent else if has_fault
    x StartsWithDot then StartsWithDot
    else if has_fault x LockSuffix then LockSuffix else if has_fault x EndsWithDot then EndsWithDot else if has_fault x
    RepeatedDot then RepeatedDot
    else if has_fault x ReflogPortion then ReflogPortion else if has_fault x Asterisk then Asterisk else InvalidByte
    (get_or (filter is_refused_byte x) 0 0)

pub no_name : (x : List ℕ) → has_fault x (some_fault x) ≡ true → ¬ (IsName x)
no_name x so name = name (some_fault x) (faulty x (some_fault x) so)

-- how many stars a text has
abbrev pub stars : List ℕ → ℕ
stars x = count_by (λ b. b == star) x

-- whether a text has one star, and nothing suspect with the letter in its place
abbrev pub is_pattern : List ℕ → Bool
is_pattern x = (stars x == 1) && not (is_suspect slash (with_letters x))

pub not_true : (b : Bool) → not b ≡ true → b ≡ false
not_true b so = grind arith

pub a_pattern : (x : List ℕ) → is_pattern x ≡ true → IsPattern x
a_pattern x so = grind (arith, and_parts, pattern_with_letter, HasOneStar-count_by, eqb-true, IsName-tested, not_true)

pub not_one_star : (x : List ℕ) → (stars x == 1) ≡ false → ¬ (HasOneStar x)
not_one_star x other one = eqb-false (stars x) 1 other (count_by-HasOneStar x one)

pub no_pattern : (x : List ℕ) → (stars x == 1) ≡ false → ¬ (IsPattern x)
no_pattern x other pattern = not_one_star x other (
  pattern.replaces.before,
  pattern.replaces.after,
  pattern.replaces.split,
)

-- a text with one star has the letter in its place, with which it may have a fault
pub replaced : (x y : List ℕ) → (stars x == 1) ≡ true → with_letters x ≡ y → ReplacesStar x y
replaced x y one same = let split = HasOneStar-count_by x (eqb-true (stars x) 1 one) in subst (ReplacesStar x) same
    (replaces_one split.0 split.1 x split.2)

pub pattern_fault : (x : List ℕ) (e : Error) → (stars x == 1) ≡ true → has_fault (with_letters x) e ≡ true
    → IsPatternFault (Name e) x
pattern_fault x e one so = (with_letters x, replaced x _ one refl, faulty (with_letters x) e so)

-- whether there are three parts, as a text with two stars has between its stars
abbrev pub are_three : List (List ℕ) → Bool
are_three (p ∷ q ∷ r ∷ rest) = true
are_three parts = false

pub several : (x : List ℕ) → are_three (slice_split (λ c. c == star) x) ≡ true → HasSeveralStars x
several x so = grind (arith, false≢true, join_with_byte-slice_split star x)

pub pattern_faultless : (x : List ℕ) (e : Error) → (stars x == 1) ≡ true → has_fault (with_letters x) e ≡ false
    → ¬ (IsPatternFault (Name e) x)
pattern_faultless x e one none bad =
    faultless (with_letters x) e none
    (subst (λ (y : List ℕ). HasFault y e) (replaced_once x bad.0 (with_letters x) bad.1 (replaced x _ one refl))
    bad.2)

-- so it isn't a pattern
pub unfit : (x : List ℕ) → (stars x == 1) ≡ true → has_fault (with_letters x) (some_fault (with_letters x)) ≡ true
    → ¬ (IsPattern x)
unfit x one so pattern = pattern_fine x pattern (ReferenceName (some_fault (with_letters x)))
    (pattern_fault x (some_fault (with_letters x)) one so)

pub not_several : (x : List ℕ) → (stars x == 1) ≡ true → ¬ (HasSeveralStars x)
not_several x one = HasSeveralStars-replaced x (with_letters x) (replaced x _ one refl)

pub unstarred : (x : List ℕ) (e : Refusal) → list_any (λ c. c == star) x ≡ false → ¬ (IsBadPattern x e)
unstarred x e none = plain_fine x (Lacks-tested star x none) e

-- whether a word is a bad pattern for this reason or, where names are needed, a bad name
abbrev pub is_bad : Bool → List ℕ → Refusal → Bool
is_bad names x (PatternUnsupported p) = are_three (slice_split (λ c. c == star) x) && bytes_eq p x
is_bad names x (ReferenceName f) = (names && (not (list_any (λ c. c == star) x) && has_fault x f)) ||
    ((stars x == 1) && has_fault (with_letters x) f)
is_bad names x e = false
