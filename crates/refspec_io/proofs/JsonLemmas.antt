-- Texts as JSON strings, and JSON objects in order.
use Rattle.std.proofs.Common.{◌≡◌, ℕ, zero, suc, ◌+◌, ◌<◌, ◌≤◌, append_assoc, length, map, take, take_all, ◌/◌, ◌%◌}
use Rattle.std.proofs.Common.{◌==◌, ◌&&◌, ◌||◌, Bool, true, false, not, nat_lt, List, [], ◌∷◌, ◌++◌, Option, get_or}
use Rattle.std.proofs.Common.{cond, codes, decimal, flat_map, inl, inr, refl, sym, ap, ◌∙◌, subst, arith, ltb-true}
use Rattle.std.proofs.lemmas.Bool.{and_parts, cases_eq}
use Rattle.std.proofs.lemmas.List.{append-nil, map-append, take_more}
use Rattle.std.proofs.lemmas.Str.{IsUtf8-append, IsUtf8-encode, IsUtf8-from_is_utf8, IsUtf8-nil, encode_ascii}
use Rattle.std.proofs.lemmas.Str.{is_utf8-from_IsUtf8}
use Rattle.std.specs.Fmt.{digit_glyph, digits, digits_onto}
use Rattle.std.specs.Str.{IsUtf8, is_utf8}
use lib.Utf8.{low_scalar}
use Rattle.refspec_json.specs.Objects.{line_of, refused_object, spec_object}
use Rattle.gix_refspec_text.specs.declared.parsing.Error.{Error}
use Rattle.gix_refspec_text.specs.Specs.Explained.{explained, reason_name}
use Rattle.refspec_io.specs.declared.call.Form.{Form}
use Rattle.refspec_io.specs.declared.call.Form.TheVariants as form
use Rattle.refspec_io.specs.declared.texts.Location.{Location}
use Rattle.refspec_io.specs.declared.texts.Location.TheVariants as location
use Rattle.refspec_io.specs.declared.texts.Text.{Text}
use Rattle.refspec_io.specs.Json.{AddsObjects, AddsRefusal, AreInOrder, IsRefusedLine, ShowsWrong, WritesRefused}
use Rattle.refspec_io.specs.Json.{WritesSpec, begins_quoted, json_text, operation_name}
use Rattle.refspec_io.specs.Messages.{IsLocation}
use Rattle.refspec_io.specs.Shown.{IsQuoted, escaped, in_quotes}
use Rattle.refspec_io.proofs.ShownLemmas.{behind}

-- ---- escapes are ASCII

ascii_then : (x : ℕ) (xs : List ℕ) → x < 128 → IsUtf8 xs → IsUtf8 (x ∷ xs)
ascii_then x xs small u = IsUtf8-append (x ∷ []) xs
    (subst IsUtf8 (encode_ascii x small) (IsUtf8-encode x (low_scalar x (omega arith)))) u

abbrev are_ascii : List ℕ → Bool
are_ascii [] = true
are_ascii (x ∷ xs) = nat_lt x 128 && are_ascii xs

IsUtf8-are_ascii : (xs : List ℕ) → are_ascii xs ≡ true → IsUtf8 xs
IsUtf8-are_ascii [] e = IsUtf8-nil
IsUtf8-are_ascii (x ∷ xs) e = let p = and_parts _ _ e in ascii_then x xs (ltb-true _ _ p.0) (IsUtf8-are_ascii xs p.1)

-- the escapes of the bytes below n are ASCII
abbrev escapes_below : ℕ → Bool
escapes_below zero = true
escapes_below (suc n) = are_ascii (escaped n) && escapes_below n

escape_below : (n : ℕ) → escapes_below n ≡ true → (x : ℕ) → x < n → are_ascii (escaped x) ≡ true
escape_below zero e x h = absurd (omega arith)
escape_below (suc n) e x h =
    let p = and_parts _ _ e in
    elim (cases_eq x n) [ inl same ↦ rw same p.0 | inr other ↦ escape_below n p.1 x (omega arith) ]

all_ascii : escapes_below 256 ≡ true
all_ascii = refl

IsUtf8-escapes : (bytes : List ℕ) → ((k : ℕ) → get_or bytes k 0 < 256) → IsUtf8 (flat_map escaped bytes)
IsUtf8-escapes [] small = IsUtf8-nil
IsUtf8-escapes (b ∷ bytes) small =
    IsUtf8-append _ _ (IsUtf8-are_ascii (escaped b) (escape_below 256 all_ascii b (small 0)))
    (IsUtf8-escapes bytes (λ k. small (suc k)))

-- a name in quotes is UTF-8
pub IsUtf8-in_quotes : (bytes : List ℕ) → ((k : ℕ) → get_or bytes k 0 < 256) → IsUtf8 (in_quotes bytes)
IsUtf8-in_quotes bytes small = ascii_then 34 _ (omega arith)
    (IsUtf8-append _ _ (IsUtf8-escapes bytes small) (ascii_then 34 [] (omega arith) IsUtf8-nil))

-- a UTF-8 name as shown is UTF-8
pub IsUtf8-quoted : (name shown : List ℕ) → ((k : ℕ) → get_or name k 0 < 256) → IsUtf8 name → IsQuoted name shown
    → IsUtf8 shown
IsUtf8-quoted name shown small utf8 (inl raw) = subst IsUtf8 (sym raw) utf8
IsUtf8-quoted name shown small utf8 (inr quoted) = subst IsUtf8 (sym quoted) (IsUtf8-in_quotes name small)

-- ---- texts as strings

pub json_text-begins : (bytes : List ℕ) → begins_quoted bytes ≡ true → in_quotes bytes ≡ json_text bytes
json_text-begins bytes begins = sym (ap (λ b. cond (b || not (is_utf8 bytes)) (in_quotes bytes) bytes) begins)

pub json_text-raw : (bytes : List ℕ) → begins_quoted bytes ≡ false → IsUtf8 bytes → bytes ≡ json_text bytes
json_text-raw bytes plain utf8 = sym (ap (λ b. cond (b || not (is_utf8 bytes)) (in_quotes bytes) bytes) plain
    ∙ ap (λ b. cond (not b) (in_quotes bytes) bytes) (is_utf8-from_IsUtf8 bytes utf8))

not_utf8 : (bytes : List ℕ) (b : Bool) → is_utf8 bytes ≡ b → ¬ (IsUtf8 bytes) → is_utf8 bytes ≡ false
not_utf8 bytes true is none = absurd (none (IsUtf8-from_is_utf8 bytes is))
not_utf8 bytes false is none = is

pub json_text-other : (bytes : List ℕ) → begins_quoted bytes ≡ false → ¬ (IsUtf8 bytes)
    → in_quotes bytes ≡ json_text bytes
json_text-other bytes plain none = sym (ap (λ b. cond (b || not (is_utf8 bytes)) (in_quotes bytes) bytes) plain
    ∙ ap (λ b. cond (not b) (in_quotes bytes) bytes) (not_utf8 bytes (is_utf8 bytes) refl none))

-- ---- locations

digit_ascii : (b : Bool) (d : ℕ) → d < 10 → cond b (48 + d) (87 + d) < 128
digit_ascii true d small = omega arith
digit_ascii false d small = omega arith

either : (b : Bool) (xs ys : List ℕ) → IsUtf8 xs → IsUtf8 ys → IsUtf8 (cond b xs ys)
either true xs ys p q = p
either false xs ys p q = q

IsUtf8-digits : (k n : ℕ) (after : List ℕ) → IsUtf8 after → IsUtf8 (digits_onto k 10 false n after)
IsUtf8-digits zero n after u = u
IsUtf8-digits (suc k) n after u =
    let more = ascii_then (digit_glyph false (n % 10)) after (digit_ascii (nat_lt (n % 10) 10) (n % 10) (omega arith))
    u in
    either (n / 10 == 0) _ _ more (IsUtf8-digits k (n / 10) _ more)

IsUtf8-decimal : (n : ℕ) → IsUtf8 (decimal n)
unfolding digits
IsUtf8-decimal n = IsUtf8-digits 64 n [] IsUtf8-nil

pub IsUtf8-location : (p : Location) (shown : List ℕ) → IsLocation form.Json p shown → IsUtf8 shown
IsUtf8-location (location.Argument number) shown is =
    subst IsUtf8 (sym is) (IsUtf8-append (codes "spec ") _ (IsUtf8-are_ascii (codes "spec ") refl)
    (IsUtf8-decimal number))
IsUtf8-location (location.Record input number) shown (name, is, all) =
    subst IsUtf8 (sym all) (IsUtf8-append name _ is.1 (ascii_then 58 _ (omega arith) (IsUtf8-decimal number)))
IsUtf8-location (location.Setting origin key) shown (one, other, first, second, all) =
    subst IsUtf8 (sym all)
    (IsUtf8-append one _ first.1 (IsUtf8-append (codes ": ") other (IsUtf8-are_ascii (codes ": ") refl) second.1))

-- ---- objects, in order

AreInOrder-push : {X : Type 0} (Reports : X → List ℕ → Type 0) (xs : List X) (x : X) (lines one : List ℕ)
    → AreInOrder Reports xs lines → Reports x one → AreInOrder Reports (xs ++ x ∷ []) (lines ++ one)
AreInOrder-push Reports [] x lines one none is = (one, [], is, refl, ap (λ l. l ++ one) none ∙ sym (append-nil one))
AreInOrder-push Reports (y ∷ xs) x lines one (first, rest, here, more, all) is = (
  first,
  rest ++ one,
  here,
  AreInOrder-push Reports xs x rest one more is,
  ap (λ l. l ++ one) all
      ∙ append_assoc first rest one,
)

pub AreInOrder-append : {X : Type 0} (Reports : X → List ℕ → Type 0) (xs ys : List X) (front back : List ℕ)
    → AreInOrder Reports xs front → AreInOrder Reports ys back → AreInOrder Reports (xs ++ ys) (front ++ back)
AreInOrder-append Reports [] ys front back none more = subst (λ (l : List ℕ). AreInOrder Reports ys (l ++ back))
    (sym none) more
AreInOrder-append Reports (x ∷ xs) ys front back (first, rest, here, others, all) more = (
  first,
  rest ++ back,
  here,
  AreInOrder-append Reports xs ys rest back others more,
  ap (λ l. l ++ back) all
      ∙ append_assoc first rest back,
)

-- at the start there is no object
pub AddsObjects-start : {X : Type 0} (f : Form) (Reports : X → List ℕ → Type 0) (old : List ℕ)
    → AddsObjects f Reports [] old old
AddsObjects-start form.Lines Reports old = refl
AddsObjects-start form.Zeros Reports old = refl
AddsObjects-start form.Json Reports old = ([], refl, sym (append-nil old))

-- the objects of more elements
pub AddsObjects-append : {X : Type 0} (f g : Form) (Reports : X → List ℕ → Type 0) (xs ys : List X)
    (old mid new : List ℕ) → g ≡ f → AddsObjects f Reports xs old mid → AddsObjects g Reports ys mid new
    → AddsObjects f Reports (xs ++ ys) old new
AddsObjects-append {X} form.Lines g Reports xs ys old mid new same a b =
    subst (λ (h : Form). AddsObjects h Reports ys mid new) same b ∙ a
AddsObjects-append {X} form.Zeros g Reports xs ys old mid new same a b =
    subst (λ (h : Form). AddsObjects h Reports ys mid new) same b ∙ a
AddsObjects-append {X} form.Json g Reports xs ys old mid new same a b =
    let (lines, are, write) = subst (λ (h : Form). AddsObjects h Reports ys mid new) same b in
    (a.0 ++ lines, AreInOrder-append Reports xs ys a.0 lines a.1 are, behind old a.0 mid lines new a.2 write)

pub AddsObjects-push : {X : Type 0} (f g : Form) (Reports : X → List ℕ → Type 0) (xs : List X) (x : X)
    (old mid new : List ℕ) → g ≡ f → AddsObjects f Reports xs old mid → AddsObjects g Reports (x ∷ []) mid new
    → AddsObjects f Reports (xs ++ x ∷ []) old new
AddsObjects-push {X} form.Lines g Reports xs x old mid new same a b =
    subst (λ (h : Form). AddsObjects h Reports (x ∷ []) mid new) same b ∙ a
AddsObjects-push {X} form.Zeros g Reports xs x old mid new same a b =
    subst (λ (h : Form). AddsObjects h Reports (x ∷ []) mid new) same b ∙ a
AddsObjects-push {X} form.Json g Reports xs x old mid new same a b =
    last (subst (λ (h : Form). AddsObjects h Reports (x ∷ []) mid new) same b)
  where
    last : AddsObjects form.Json Reports (x ∷ []) mid new → AddsObjects form.Json Reports (xs ++ x ∷ []) old new
    last (lines, (one, rest, is, none, all), write) =
        let whole : lines ≡ one = all ∙ (ap (λ l. one ++ l) none ∙ append-nil one) in (
          a.0 ++ one,
          AreInOrder-push Reports xs x a.0 one a.1 is,
          behind old a.0 mid one new a.2
              (write ∙ ap (λ l. mid ++ l) whole),
        )

-- the object of one more element, which is mapped
pub AddsObjects-next : {X Y : Type 0} (f g : Form) (Reports : Y → List ℕ → Type 0) (shown : X → Y) (xs : List X) (i : ℕ)
    (d : X) (y : Y) (old mid new : List ℕ) → i < length xs → g ≡ f → y ≡ shown (get_or xs i d)
    → AddsObjects f Reports (map shown (take i xs)) old mid → AddsObjects g Reports (y ∷ []) mid new
    → AddsObjects f Reports (map shown (take (i + 1) xs)) old new
AddsObjects-next {X} {Y} f g Reports shown xs i d y old mid new below same is a b =
    let step : map shown (take (i + 1) xs) ≡ map shown (take i xs) ++ y ∷ [] = ap (map shown) (take_more xs i d below)
    ∙ (map-append shown (take i xs) (get_or xs i d ∷ []) ∙ ap (λ z. map shown (take i xs) ++ z ∷ []) (sym is)) in
    subst (λ (l : List Y). AddsObjects f Reports l old new) (sym step)
    (AddsObjects-push f g Reports (map shown (take i xs)) y old mid new same a b)

-- the same without a map
pub AddsObjects-more : {X : Type 0} (f g : Form) (Reports : X → List ℕ → Type 0) (xs : List X) (i : ℕ) (x : X)
    (old mid new : List ℕ) → i < length xs → g ≡ f → x ≡ get_or xs i x → AddsObjects f Reports (take i xs) old mid
    → AddsObjects g Reports (x ∷ []) mid new → AddsObjects f Reports (take (i + 1) xs) old new
AddsObjects-more {X} f g Reports xs i x old mid new below same is a b =
    let step : take (i + 1) xs ≡ take i xs ++ x ∷ [] = take_more xs i x below ∙ ap (λ z. take i xs ++ z ∷ [])
    (sym is) in
    subst (λ (l : List X). AddsObjects f Reports l old new) (sym step)
    (AddsObjects-push f g Reports (take i xs) x old mid new same a b)

-- the same for the element at its index
pub AddsObjects-item : {X : Type 0} (f g : Form) (Reports : X → List ℕ → Type 0) (xs : List X) (i : ℕ) (d : X)
    (old mid new : List ℕ) → i < length xs → g ≡ f → AddsObjects f Reports (take i xs) old mid
    → AddsObjects g Reports (get_or xs i d ∷ []) mid new → AddsObjects f Reports (take (i + 1) xs) old new
AddsObjects-item {X} f g Reports xs i d old mid new below same a b =
    subst (λ (l : List X). AddsObjects f Reports l old new) (sym (take_more xs i d below))
    (AddsObjects-push f g Reports (take i xs) (get_or xs i d) old mid new same a b)

-- if each line on an element is one on its image, so are the lines in order
mapped_in_order : {X Y : Type 0} (Reports : X → List ℕ → Type 0) (Says : Y → List ℕ → Type 0) (f : X → Y) (xs : List X)
    (lines : List ℕ) → ((x : X) (line : List ℕ) → Reports x line → Says (f x) line) → AreInOrder Reports xs lines
    → AreInOrder Says (map f xs) lines
mapped_in_order Reports Says f [] lines gives none = none
mapped_in_order Reports Says f (x ∷ xs) lines gives (one, rest, here, more, all) =
    (one, rest, gives x one here, mapped_in_order Reports Says f xs rest gives more, all)

pub AddsObjects-map : {X Y : Type 0} (h : Form) (Reports : X → List ℕ → Type 0) (Says : Y → List ℕ → Type 0) (f : X → Y)
    (xs : List X) (old new : List ℕ) → ((x : X) (line : List ℕ) → Reports x line → Says (f x) line)
    → AddsObjects h Reports xs old new → AddsObjects h Says (map f xs) old new
AddsObjects-map form.Lines Reports Says f xs old new gives kept = kept
AddsObjects-map form.Zeros Reports Says f xs old new gives kept = kept
AddsObjects-map form.Json Reports Says f xs old new gives (lines, reported, write) =
    (lines, mapped_in_order Reports Says f xs lines gives reported, write)

-- all elements
pub AddsObjects-all : {X : Type 0} (f : Form) (Reports : X → List ℕ → Type 0) (xs : List X) (i : ℕ) (old new : List ℕ)
    → length xs ≤ i → AddsObjects f Reports (take i xs) old new → AddsObjects f Reports xs old new
AddsObjects-all {X} f Reports xs i old new long so_far = subst (λ (l : List X). AddsObjects f Reports l old new)
    (take_all i xs long) so_far

-- one element with an object
pub AddsObjects-one : {X : Type 0} (f : Form) (Reports : X → List ℕ → Type 0) (x : X) (line old new : List ℕ)
    → f ≡ form.Json → Reports x line → new ≡ old ++ line → AddsObjects f Reports (x ∷ []) old new
AddsObjects-one {X} f Reports x line old new same is write =
    subst (λ (h : Form). AddsObjects h Reports (x ∷ []) old new) (sym same)
    (line, (line, [], is, refl, sym (append-nil line)), write)

-- one element whose object is that of a refusal
pub AddsObjects-refusal : {X : Type 0} (f : Form) (Reports : X → List ℕ → Type 0) (x : X) (t : Text) (e : Error)
    (old new : List ℕ) → ((line : List ℕ) → IsRefusedLine t e line → Reports x line) → AddsRefusal f t e old new
    → AddsObjects f Reports (x ∷ []) old new
AddsObjects-refusal form.Lines Reports x t e old new gives kept = kept
AddsObjects-refusal form.Zeros Reports x t e old new gives kept = kept
AddsObjects-refusal {X} form.Json Reports x t e old new gives write = AddsObjects-one form.Json Reports x write.0 old
    new refl (gives write.0 write.1) write.2

-- ---- the object of a refusal, and of a spec

pub WritesRefused-of : (t : Text) (e : Error) (at purpose text reason sentence : List ℕ) (side part : Option (List ℕ))
    (index : Option ℕ) (advice old new : List ℕ) → IsLocation form.Json t.location at
    → ShowsWrong t.operation t.bytes.now side part index → purpose ≡ operation_name t.operation
    → text ≡ json_text t.bytes.now → reason ≡ reason_name e → sentence ≡ explained e
    → new ≡ old ++ line_of (refused_object at purpose text reason sentence side part index advice)
    → WritesRefused t e old new
WritesRefused-of t e at purpose text reason sentence side part index advice old new is_location is_wrong is_purpose
    is_text is_reason is_sentence write = (
      line_of (refused_object at (operation_name t.operation) (json_text t.bytes.now) (reason_name e)
          (explained e) side part index advice),
      record {
        location = at;
        side = side;
        part = part;
        index = index;
        advice = advice;
        is_location = is_location;
        is_wrong = is_wrong;
        is = refl;
      },
      write ∙ (ap (λ x. old ++ line_of (refused_object at x text reason sentence side part index advice)) is_purpose
          ∙ (ap (λ x. old ++ line_of (refused_object at (operation_name t.operation) x reason sentence side part index
          advice)) is_text
          ∙ (ap (λ x. old ++ line_of (refused_object at (operation_name t.operation) (json_text t.bytes.now) x sentence
          side
          part index advice)) is_reason
          ∙ ap (λ x. old ++ line_of (refused_object at (operation_name t.operation) (json_text t.bytes.now)
          (reason_name e) x side part index advice)) is_sentence))),
    )

-- the object of a spec, member by member
pub WritesSpec-of : (kind : List ℕ) (t : Text) (canonical : List ℕ) (meaning same_as : Option (List ℕ))
    (at purpose text name old new : List ℕ) → IsLocation form.Json t.location at → purpose ≡ operation_name t.operation
    → text ≡ json_text t.bytes.now → name ≡ json_text canonical
    → new ≡ old ++ line_of (spec_object kind at purpose text name meaning same_as)
    → WritesSpec kind t canonical meaning same_as old new
WritesSpec-of kind t canonical meaning same_as at purpose text name old new is_location is_purpose is_text is_name
    write = (
      line_of (spec_object kind at (operation_name t.operation) (json_text t.bytes.now) (json_text canonical) meaning
          same_as),
      record { location = at; is_location = is_location; is = refl },
      write ∙ (ap (λ x. old ++ line_of (spec_object kind at x text name meaning same_as)) is_purpose
          ∙ (ap (λ x. old ++ line_of (spec_object kind at (operation_name t.operation) x name meaning same_as)) is_text
          ∙ ap (λ x. old ++ line_of (spec_object kind at (operation_name t.operation) (json_text t.bytes.now) x meaning
          same_as)) is_name)),
    )
