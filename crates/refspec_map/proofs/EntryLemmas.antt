-- The entries of the lines of an input, one after another.
use Rattle.std.proofs.Common.{◌≡◌, ◌≢◌, ◌⊎◌, inl, inr, ℕ, ◌+◌, ◌≤◌, ◌==◌, Bool, true, false, Option, None, Some, List}
use Rattle.std.proofs.Common.{[], ◌∷◌, ◌++◌, map, length, refl, sym, ap, ◌∙◌, subst, append_assoc, length-append}
use Rattle.std.proofs.Common.{eq-eqb, Result, OnOk, arith}
use Rattle.std.specs.List.{AllZip}
use Rattle.std.proofs.lemmas.Bool.{eqb-true, false≢true}
use Rattle.std.proofs.lemmas.List.{append-nil, map-append}
use Rattle.std.proofs.lemmas.Result.{on_ok_weaker}
use Rattle.gix_refspec_text.specs.declared.parsing.Operation.TheVariants.{Fetch}
use Rattle.gix_refspec_text.specs.declared.spec.RefSpecRef.{RefSpecRef}
use Rattle.gix_refspec_match.specs.declared.types.Item.{Item}
use Rattle.gix_refspec.specs.Specs.Grammar.{Reads}
use Rattle.gix_refspec.specs.Matching.Match.{Ref}
use Rattle.gix_refspec.specs.Views.Spec.{reading_of}
use Rattle.refspec_map.specs.declared.fault.Fault.{Fault}
use Rattle.refspec_map.specs.declared.line.ParsedRef.{ParsedRef}
use Rattle.refspec_map.specs.declared.line.Entries.{Entries}
use Rattle.refspec_map.specs.Fault.{IsMemory}
use Rattle.refspec_map.specs.Input.{newline, AreLines, IsFirstLine}
use Rattle.refspec_map.specs.Line.{Entry, reading, ref, spec, item, Says, Gives, readings_in, refs_in, IsFaultOf}
use Rattle.refspec_map.specs.Line.{IsFirstFault}
use Rattle.refspec_map.specs.Parsed.{IsSeenAs, parsed_ref, bare, named, seen, kept_refs, Adds, AreEntries}
use Rattle.refspec_map.proofs.OutputLemmas.{lines_more}

-- a ref was appended to the old entries, as it is kept
pub record AddsRef {A : Type 0} (blank : Option A) (r : Ref) (old new : Entries) : Type 0 where
  pub specs : new.specs ≡ old.specs
  pub refs : kept_refs blank new ≡ kept_refs blank old ++ seen blank (r ∷ [])

-- a ref with its ids was appended to the entries
pub AddsRef-whole : {T E : Type 0} (A : Type 0) (r : Result T E) (old new : Entries) (t : ParsedRef)
    → new.specs ≡ old.specs → OnOk r (new.refs.items ≡ old.refs.items ++ t ∷ [])
    → OnOk r (AddsRef {A = A} None (parsed_ref t) old new)
AddsRef-whole A r old new t same pushed =
    on_ok_weaker r
    (λ append. record {
      specs = same;
      refs = ap (map parsed_ref) append ∙ map-append parsed_ref old.refs.items
          (t ∷ []);
    }) pushed

-- a ref with only its name was appended to the entries
pub AddsRef-name : {T E A : Type 0} (r : Result T E) (old new : Entries) (blank : A) (t : Ref) (i : Item)
    → named i ≡ bare t → new.specs ≡ old.specs → OnOk r (new.items.items ≡ old.items.items ++ i ∷ [])
    → OnOk r (AddsRef (Some blank) t old new)
AddsRef-name r old new blank t i is same pushed =
    on_ok_weaker r
    (λ append. record {
      specs = same;
      refs = ap (map named) append
          ∙ (map-append named old.items.items (i ∷ []) ∙ ap (λ n. map named old.items.items ++ n ∷ []) is);
    }) pushed

-- refs that are seen as the same are kept as the same
seen_same : {A : Type 0} (blank : Option A) (r t : Ref) → IsSeenAs blank r t → seen blank (t ∷ []) ≡ seen blank (r ∷ [])
seen_same None r t same = ap (λ x. x ∷ []) same
seen_same (Some blank) r t same = ap (λ x. x ∷ []) same

-- a line of a ref appended it to the entries
pub Adds-ref : {T E A : Type 0} (r : Result T E) (blank : Option A) (line : List ℕ) (old new : Entries) (t : Ref)
    → (s : Ref) × Says line (item s) × IsSeenAs blank s t → OnOk r (AddsRef blank t old new)
    → OnOk r (Adds blank line old new)
Adds-ref r blank line old new t (s, says, same) added = on_ok_weaker r (λ is. record {
  entry = ref s;
  gives = says;
  specs = ap (λ v. map reading_of v.items) is.specs ∙ sym (append-nil (map reading_of old.specs.items));
  refs = is.refs ∙ ap (λ l. kept_refs blank old ++ l) (seen_same blank s t same);
}) added

no_refs : {A : Type 0} (blank : Option A) → seen blank [] ≡ []
no_refs None = refl
no_refs (Some b) = refl

kept_same : {A : Type 0} (blank : Option A) (old new : Entries) → new.refs ≡ old.refs → new.items ≡ old.items
    → kept_refs blank new ≡ kept_refs blank old
kept_same None old new refs items = ap (λ v. map parsed_ref v.items) refs
kept_same (Some b) old new refs items = ap (λ v. map named v.items) items

-- a line of a spec appended it to the entries
pub Adds-spec : {T E A : Type 0} (r : Result T E) (blank : Option A) (line text : List ℕ) (old new : Entries)
    (s : RefSpecRef) → Says line (spec text) → Reads Fetch text (reading_of s) → new.refs ≡ old.refs
    → new.items ≡ old.items → OnOk r (new.specs.items ≡ old.specs.items ++ s ∷ []) → OnOk r (Adds blank line old new)
Adds-spec r blank line text old new s says reads refs items pushed = on_ok_weaker r (λ append. record {
  entry = reading (reading_of s);
  gives = (text, says, reads);
  specs = ap (map reading_of) append ∙ map-append reading_of old.specs.items (s ∷ []);
  refs = kept_same blank old new refs items
      ∙ (sym (append-nil (kept_refs blank old)) ∙ ap (λ l. kept_refs blank old ++ l) (sym (no_refs blank)));
}) pushed

-- the first lines of the input, as many as the count, gave these entries, and the rest is left
pub record Reaches {A : Type 0} (blank : Option A) (input : List ℕ) (made : Entries) (count : ℕ) (rest : List ℕ) :
    Type 0 where
  pub before : List (List ℕ)
  pub entries : List Entry
  pub split : (lines : List (List ℕ)) → AreLines lines rest → AreLines (before ++ lines) input
  pub given : AllZip Gives before entries
  pub specs : map reading_of made.specs.items ≡ readings_in entries
  pub refs : kept_refs blank made ≡ seen blank (refs_in entries)
  pub counted : count ≡ length before
  pub room : count + length rest ≤ length input

kept_none : {A : Type 0} (blank : Option A) (made : Entries) → made.refs.items ≡ [] → made.items.items ≡ []
    → kept_refs blank made ≡ seen blank []
kept_none None made refs items = ap (map parsed_ref) refs
kept_none (Some b) made refs items = ap (map named) items

-- at the start the whole input is left
pub Reaches-start : {A : Type 0} (blank : Option A) (input : List ℕ) (made : Entries) → made.specs.items ≡ []
    → made.refs.items ≡ [] → made.items.items ≡ [] → Reaches blank input made 0 input
Reaches-start blank input made no_specs none no_items = record {
  before = [];
  entries = [];
  split = λ lines is. is;
  given = tt;
  specs = ap (map reading_of) no_specs;
  refs = kept_none blank made none no_items;
  counted = refl;
  room = omega arith;
}

-- at the end the entries are those of all lines
pub Reaches-end : {A : Type 0} (blank : Option A) (input : List ℕ) (made : Entries) (count : ℕ) (rest : List ℕ)
    → rest ≡ [] → Reaches blank input made count rest → AreEntries blank input made
Reaches-end blank input made count rest empty reaches = record {
  lines = reaches.before;
  entries = reaches.entries;
  split = subst (λ (ls : List (List ℕ)). AreLines ls input) (append-nil reaches.before) (reaches.split [] empty);
  given = reaches.given;
  specs = reaches.specs;
  refs = reaches.refs;
}

readings_in-append : (xs ys : List Entry) → readings_in (xs ++ ys) ≡ readings_in xs ++ readings_in ys
readings_in-append [] ys = refl
readings_in-append (reading r ∷ xs) ys = ap (λ l. r ∷ l) (readings_in-append xs ys)
readings_in-append (ref r ∷ xs) ys = readings_in-append xs ys

refs_in-append : (xs ys : List Entry) → refs_in (xs ++ ys) ≡ refs_in xs ++ refs_in ys
refs_in-append [] ys = refl
refs_in-append (reading r ∷ xs) ys = refs_in-append xs ys
refs_in-append (ref r ∷ xs) ys = ap (λ l. r ∷ l) (refs_in-append xs ys)

given_more : (lines : List (List ℕ)) (entries : List Entry) (line : List ℕ) (e : Entry) → AllZip Gives lines entries
    → Gives line e → AllZip Gives (lines ++ line ∷ []) (entries ++ e ∷ [])
given_more [] [] line e given one = (one, tt)
given_more [] (f ∷ entries) line e given one = absurd given
given_more (l ∷ lines) [] line e given one = absurd given
given_more (l ∷ lines) (f ∷ entries) line e given one = (given.0, given_more lines entries line e given.1 one)

-- the lines before a text, its first line and the lines of its rest are the lines of the input
split_more : (input text line rest : List ℕ) (before lines : List (List ℕ)) → text ≢ [] → IsFirstLine text line rest
    → ((all : List (List ℕ)) → AreLines all text → AreLines (before ++ all) input) → AreLines lines rest
    → AreLines (before ++ (line ∷ lines)) input
split_more input text line rest before lines full first split of_rest =
    let all = lines_more text line rest lines full first of_rest in
    subst (λ (ls : List (List ℕ)). AreLines (before ++ ls) input) all.2 (split all.0 all.1)

-- what follows the first line of a text is shorter than the text
shorter_by : (text line rest : List ℕ) → text ≢ [] → (text ≡ line ++ (newline ∷ rest)) ⊎ ((text ≡ line) × (rest ≡ []))
    → 1 + length rest ≤ length text
shorter_by text line rest full (inl ended) = omega (arith, ap length ended, length-append line (newline ∷ rest))
shorter_by [] line rest full (inr last) = absurd (full refl)
shorter_by (b ∷ text) line rest full (inr last) = omega (arith, ap length last.1)

seen-append : {A : Type 0} (blank : Option A) (xs ys : List Ref) → seen blank (xs ++ ys) ≡ seen blank xs
    ++ seen blank ys
seen-append None xs ys = refl
seen-append (Some b) xs ys = map-append bare xs ys

-- the next line adds its entry
pub Reaches-line : {A : Type 0} (blank : Option A) (input : List ℕ) (old new : Entries) (count : ℕ)
    (text line rest : List ℕ) → text ≢ [] → IsFirstLine text line rest → Adds blank line old new
    → Reaches blank input old count text → Reaches blank input new (count + 1) rest
Reaches-line blank input old new count text line rest full first adds reaches = record {
  before = reaches.before ++ line ∷ [];
  entries = reaches.entries ++ adds.entry ∷ [];
  split = λ lines is. subst (λ (ls : List (List ℕ)). AreLines ls input)
      (sym (append_assoc reaches.before (line ∷ []) lines))
      (split_more input text line rest reaches.before lines full first reaches.split is);
  given = given_more reaches.before reaches.entries line adds.entry reaches.given adds.gives;
  specs = adds.specs ∙ (ap (λ l. l ++ readings_in (adds.entry ∷ [])) reaches.specs
      ∙ sym (readings_in-append reaches.entries (adds.entry ∷ [])));
  refs =
      adds.refs
      ∙ (ap (λ l. l ++ seen blank (refs_in (adds.entry ∷ []))) reaches.refs
      ∙ (sym (seen-append blank (refs_in reaches.entries) (refs_in (adds.entry ∷ [])))
      ∙ ap (seen blank) (sym (refs_in-append reaches.entries (adds.entry ∷ [])))));
  counted = omega (arith, reaches.counted, length-append reaches.before (line ∷ []));
  room = omega (arith, reaches.room, shorter_by text line rest full first.1);
}

some_byte : (b : ℕ) (x : List ℕ) → b ∷ x ≢ []
some_byte b x none = omega (arith, ap length none)

-- a byte before the first line, other than a newline, belongs to that line
longer_by : (b : ℕ) (text line : List ℕ) (lines : List (List ℕ))
    → ((rest : List ℕ) × (text ≡ line ++ (newline ∷ rest)) × AreLines lines rest)
    ⊎ ((line ≢ []) × (lines ≡ []) × (text ≡ line))
    → ((rest : List ℕ) × (b ∷ text ≡ (b ∷ line) ++ (newline ∷ rest)) × AreLines lines rest)
    ⊎ ((b ∷ line ≢ []) × (lines ≡ []) × (b ∷ text ≡ b ∷ line))
longer_by b text line lines (inl split) = inl (split.0, ap (λ t. b ∷ t) split.1, split.2)
longer_by b text line lines (inr split) = inr (some_byte b line, split.1, ap (λ t. b ∷ t) split.2)

has_lines_by : (b : ℕ) (text : List ℕ) (lines : List (List ℕ)) (ends : Bool) → (b == newline) ≡ ends
    → AreLines lines text → (all : List (List ℕ)) × AreLines all (b ∷ text)
has_lines_by b text lines true is split =
    ([] ∷ lines, (tt, inl (text, ap (λ c. c ∷ text) (eqb-true b newline is), split)))
has_lines_by b text [] false is split = (
  (b ∷ []) ∷ [],
  ((λ same. false≢true (sym is ∙ eq-eqb b newline same), tt), inr (some_byte b [], refl, ap (λ t. b ∷ t) split)),
)
has_lines_by b text (line ∷ lines) false is split = (
  (b ∷ line) ∷ lines,
  (
    (λ same. false≢true (sym is ∙ eq-eqb b newline same), split.0),
    longer_by b text line lines split.1,
  ),
)

-- every text has lines
has_lines : (text : List ℕ) → (lines : List (List ℕ)) × AreLines lines text
has_lines [] = ([], refl)
has_lines (b ∷ text) = let lines = has_lines text in has_lines_by b text lines.0 (b == newline) refl lines.1

-- the fault of the first bad line
pub Reaches-fault : {A : Type 0} (blank : Option A) (input : List ℕ) (made : Entries) (count : ℕ)
    (text line rest : List ℕ) (f : Fault) → text ≢ [] → IsFirstLine text line rest → IsMemory f
    ⊎ IsFaultOf (count + 1) line f → Reaches blank input made count text → IsMemory f ⊎ IsFirstFault input f
Reaches-fault blank input made count text line rest f full first (inl memory) reaches = inl memory
Reaches-fault blank input made count text line rest f full first (inr fault) reaches =
    let lines = has_lines rest in
    inr (
      count + 1,
      line,
      record {
        before = reaches.before;
        after = lines.0;
        entries = reaches.entries;
        split = split_more input text line rest reaches.before lines.0 full first reaches.split lines.1;
        good = reaches.given;
        counted = ap (λ n. n + 1) reaches.counted;
      },
      fault,
    )
