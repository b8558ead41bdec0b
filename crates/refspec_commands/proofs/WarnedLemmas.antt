-- The warnings on groups of specs, in JSON.
use Rattle.std.proofs.Common.{arith, Bool, ◌≢◌, true, false, refl, is_some, length-append, append-nil, option_to_list}
use Rattle.std.proofs.Common.{MatchBool, slice_get, ◌⊎◌, inl, inr, zero, suc, Option, None, Some, IfOk, IfErr, Vec}
use Rattle.std.proofs.Common.{Global, ◌+◌, ◌<◌, ◌≤◌, ◌∷◌, get_or, length, map, subst, sym, take, ◌≡◌, ℕ, List}
use Rattle.std.proofs.Common.{[], ◌++◌, codes, append_assoc, ap, ◌∙◌, Result, Ok, Err, OnOk, is_ok, if◌then◌else◌}
use Rattle.std.proofs.lemmas.List.{get_or-map, get_or_default, length-map, length-take-le, map-append, take_more}
use Rattle.std.proofs.lemmas.Option.{same_Some, slice_get-get_or, slice_get_within}
use Rattle.std.proofs.lemmas.Slice.Zip.{all_zipped_more}
use Rattle.std.proofs.lemmas.List.{Elements.All-from_recursion}
use Rattle.std.specs.declared.alloc.AllocError.{AllocError}
use Rattle.std.specs.List.{All, AllByRecursion, AllZip}
use Rattle.gix_refspec_text.specs.declared.spec.RefSpecRef.{RefSpecRef}
use Rattle.gix_refspec_text.specs.Views.Spec.{reading_of}
use Rattle.gix_refspec_text.specs.Specs.Reading.{Reading}
use Rattle.gix_refspec_text.specs.Specs.Grammar.{IsPositive}
use Rattle.gix_refspec_text.specs.Texts.Bytes.{head, star}
use Rattle.gix_refspec_text.specs.Texts.Words.{BeginsWith, Lacks}
use Rattle.gix_refspec_text.proofs.lemmas.lists.AllLemmas.{all_join}
use Rattle.gix_refspec_match.proofs.lemmas.lists.JoinLemmas.{made_next}
use Rattle.gix_refspec_match.specs.Matching.Lists.{IsJoinedFrom, IsMadeFrom}
use Rattle.gix_refspec_lint.specs.declared.Error.{Error}
use Rattle.gix_refspec_lint.specs.declared.Error.TheVariants as error
use Rattle.gix_refspec_lint.specs.Matching.Lint.{AreExamples, AreNestings, Configuration, Example, IsExample, IsFree}
use Rattle.gix_refspec_lint.specs.Matching.Lint.{IsNesting, IsNestingOf, Nesting, specs_of, tags_spec}
use Rattle.refspec_io.specs.Rows.{source_text}
use Rattle.refspec_io.specs.Shown.{WritesQuoted}
use Rattle.refspec_json.specs.declared.warnings.WarnedSpec.{WarnedSpec}
use Rattle.refspec_json.specs.Objects.{line_of, warning_object}
use Rattle.refspec_json.specs.Views.{warned_texts}
use Rattle.refspec_io.specs.declared.call.Form.{Form}
use Rattle.refspec_io.specs.declared.call.Form.TheVariants as form
use Rattle.refspec_io.specs.declared.report.Report.{Report}
use Rattle.refspec_io.specs.Json.{json_text}
use Rattle.refspec_io.specs.Messages.{IsSpot}
use Rattle.refspec_io.proofs.JsonLemmas.{AreInOrder-append}
use Rattle.refspec_io.proofs.ShownLemmas.{behind}
use Rattle.gix_refspec_lint.specs.declared.IdleSpec.{IdleSpec}
use Rattle.gix_refspec_lint.specs.declared.Reason.{Reason}
use Rattle.gix_refspec_lint.specs.declared.Reason.TheVariants as reason
use Rattle.gix_refspec_lint.specs.Matching.Lint.{AreIdle, AreIdleExclusions, IsIdleBy, IsUnused, Unused}
use Rattle.gix_refspec_lint.specs.Views.Lint.{unused_of}
use Rattle.refspec_commands.specs.declared.warnings.Warning.{Warning}
use Rattle.refspec_commands.specs.declared.warnings.group.Group.{Group}
use Rattle.refspec_commands.specs.Seen.{Seen}
use Rattle.refspec_commands.specs.Warned.{AddsSaid, AreConflictsSaid, AreExclusionsSaid, AreIdleSaid, AreNestingsSaid}
use Rattle.refspec_commands.specs.Warned.{AreSaidOf, AreSaidOn, AreSources, AreWithin, Asked, FoundOrNone, IsAmong}
use Rattle.refspec_commands.specs.Warned.{IsExampleMessage, IsExclusionSaid, IsForFetch, IsIdleSaid, IsInside}
use Rattle.refspec_commands.specs.Warned.{IsNestingMessage, IsOtherSaid, IsSaidLine, IsSaidText, IsWarned, MayBeFull}
use Rattle.refspec_commands.specs.Warned.{MayExclude, MayNameRefs, Said, excludable_by, fetched_by, other_of}
use Rattle.refspec_commands.specs.WarnedViews.{AreOthers, IsGroup, said_of, topic_name}
use Rattle.refspec_commands.proofs.SeenLemmas.{good_group}
use Rattle.refspec_io.specs.Texts.{Given, given_of}

-- bytes that grew by two texts, before more
grown : (old one two new more : List ℕ) → new ≡ (old ++ one) ++ two → new ++ more ≡ old ++ (one ++ (two ++ more))
grown old one two new more is = ap (λ l. l ++ more) is ∙ (append_assoc (old ++ one) two more ∙ append_assoc old one
    (two ++ more))

pub IsExampleMessage-of : (e : Example) (start first second third end : List ℕ) → start ≡ []
    → WritesQuoted (source_text e.one) (start ++ codes "A remote with ") first
    → WritesQuoted (source_text e.other) (first ++ codes " and ") second
    → WritesQuoted e.destination (second ++ codes " would write both to ") third
    → end ≡ third ++ codes ", and git fetch would write nothing." → IsExampleMessage e end
IsExampleMessage-of e start first second third end none (a, is_a, to_first) (b, is_b, to_second)
    (d, is_d, to_third) to_end =
    let last : List ℕ = codes ", and git fetch would write nothing." in
    let both : List ℕ = codes " would write both to " ++ (d ++ last) in
    let also : List ℕ = codes " and " ++ (b ++ both) in
    record {
      first = a;
      second = b;
      destination = d;
      is_first = is_a;
      is_second = is_b;
      is_destination = is_d;
      is = to_end ∙ (grown second (codes " would write both to ") d third last to_third
          ∙ (grown first (codes " and ") b second both to_second
          ∙ (grown start (codes "A remote with ") a first also to_first ∙ ap (λ l. l ++ (codes "A remote with " ++
          (a ++ also))) none)));
    }

-- the sentence with a directory conflict
pub IsNestingMessage-of : (n : Nesting) (sources second third end : List ℕ) → AreSources n sources
    → WritesQuoted n.directory (sources ++ codes " would write ") second
    → WritesQuoted n.nested (second ++ codes " and ") third
    → end ≡ third
    ++ codes ": one is a directory of the other, so git fetch would write one of them, and end with status 1."
    → IsNestingMessage n end
IsNestingMessage-of n sources second third end of_sources (d, is_d, to_second) (e, is_e, to_third) to_end =
    let last : List ℕ =
    codes ": one is a directory of the other, so git fetch would write one of them, and end with status 1." in
    let also : List ℕ = codes " and " ++ (e ++ last) in
    record {
      sources = sources;
      directory = d;
      nested = e;
      of_sources = of_sources;
      is_directory = is_d;
      is_nested = is_e;
      is = to_end ∙ (grown second (codes " and ") e third last to_third
          ∙ grown sources (codes " would write ") d second also to_second);
    }

-- the two sources of one
pub AreSources-both : (n : Nesting) (start mid end : List ℕ) → start ≡ [] → source_text n.one ≢ source_text n.other
    → WritesQuoted (source_text n.one) (start ++ codes "A remote with ") mid
    → WritesQuoted (source_text n.other) (mid ++ codes " and ") end → AreSources n end
AreSources-both n start mid end none differ (first, is_first, to_mid) (second, is_second, to_end) =
    let also : List ℕ = codes " and " ++ second in (
      first,
      is_first,
      inr (
        differ,
        second,
        is_second,
        (to_end ∙ append_assoc mid (codes " and ") second)
            ∙ (grown start (codes "A remote with ") first mid also to_mid
            ∙ ap (λ l. l ++ (codes "A remote with " ++ (first ++ also))) none),
      ),
    )

-- what holds after bytes were appended, if they were
pub after_append : {T E : Type 0} (r : Result T E) (new more old : List ℕ) (Q : Type 0) → new ≡
    (if is_ok r then more else old) → (new ≡ more → Q) → OnOk r Q
after_append (Ok x) new more old Q is gives = gives is
after_append (Err e) new more old Q is gives = tt

-- one more element, where both lists are mapped
pub zip_mapped_next : {A B C D : Type 0} (R : C → D → Type 0) (f : A → C) (g : B → D) (xs : List A) (i : ℕ) (x : A)
    (old new : List B) (y : B)
    → i < length xs → x ≡ get_or xs i x → AllZip R (map f (take i xs)) (map g old) → R (f x) (g y)
    → new ≡ old ++ y ∷ []
    → AllZip R (map f (take (i + 1) xs)) (map g new)
zip_mapped_next {A} {B} {C} {D} R f g xs i x old new y below is so_far here grew =
    let step : map f (take (i + 1) xs) ≡ map f (take i xs) ++ f x ∷ [] =
    ap (map f) (take_more xs i x below) ∙ (map-append f (take i xs) (get_or xs i x ∷ []) ∙ ap (λ z. map f
    (take i xs) ++ f z ∷ []) (sym is)) in
    let longer : map g new ≡ map g old ++ g y ∷ [] = ap (map g) grew ∙ map-append g old (y ∷ []) in
    subst (λ (l : List C). AllZip R l (map g new)) (sym step)
    (subst (AllZip R (map f (take i xs) ++ f x ∷ [])) (sym longer) (all_zipped_more R (map f (take i xs))
    (map g old) (f x) (g y) so_far here))

-- the same for an element of a slice of values that are copied
pub zip_mapped_or : {A B C D : Type 0} (R : C → D → Type 0) (f : A → C) (g : B → D) (xs : List A) (i : ℕ) (d : A)
    (old new : List B) (y : B) → i < length xs → AllZip R (map f (take i xs)) (map g old) → R (f (get_or xs i d)) (g y)
    → new ≡ old ++ y ∷ [] → AllZip R (map f (take (i + 1) xs)) (map g new)
zip_mapped_or R f g xs i d old new y below so_far here grew =
    zip_mapped_next R f g xs i (get_or xs i d) old new y below (get_or_default xs i d (get_or xs i d) below) so_far here
    grew

-- what holds of all images holds of that of an element
pub all_mapped_at : {A B : Type 0} (P : B → Type 0) (f : A → B) (xs : List A) (i : ℕ) (x : A) → All P (map f xs)
    → i < length xs → x ≡ get_or xs i x → P (f x)
all_mapped_at P f xs i x all below is =
    subst P (get_or-map f xs i x (f x) below ∙ ap f (sym is)) (all i (f x) (omega (arith, below, length-map xs f)))

pub all_mapped_or : {A B : Type 0} (P : B → Type 0) (f : A → B) (xs : List A) (i : ℕ) (d : A) → All P (map f xs)
    → i < length xs → P (f (get_or xs i d))
all_mapped_or P f xs i d all below =
    subst P (get_or-map f xs i d (f d) below) (all i (f d) (omega (arith, below, length-map xs f)))

-- ---- what the linter found

pub all_taken : {A B : Type 0} (P : B → Type 0) (f : A → B) (n : ℕ) (xs : List A) → AllByRecursion P (map f xs)
    → AllByRecursion P (map f (take n xs))
all_taken P f zero xs all = tt
all_taken P f (suc n) [] all = tt
all_taken P f (suc n) (x ∷ xs) all = (all.0, all_taken P f n xs all.1)

-- what is made of elements at indexes below a limit
made_within : {X Y : Type 0} (P : Y → Type 0) (R : ℕ → X → Y → Type 0) (n k : ℕ) (xs : List X) (ys : List Y)
    → ((j : ℕ) (x : X) (y : Y) → j < n → R j x y → P y) → k + length xs ≤ n → IsMadeFrom R k xs ys → AllByRecursion P ys
made_within P R n k [] ys holds fits none = subst (AllByRecursion P) (sym none) tt
made_within P R n k (x ∷ xs) ys holds fits (None, rest, makes, more, all) =
    subst (AllByRecursion P) (sym all) (made_within P R n (k + 1) xs rest holds (omega (arith, fits)) more)
made_within P R n k (x ∷ xs) ys holds fits (Some y, rest, is, more, all) =
    subst (AllByRecursion P) (sym all) (
      holds k x y (omega (arith, fits)) is,
      made_within P R n (k + 1) xs rest holds (omega (arith, fits)) more,
    )

joined_within : {X Y : Type 0} (P : Y → Type 0) (R : ℕ → X → List Y → Type 0) (n k : ℕ) (xs : List X) (ys : List Y)
    → ((i : ℕ) (x : X) (made : List Y) → i < n → R i x made → AllByRecursion P made) → k + length xs ≤ n
    → IsJoinedFrom R k xs ys → AllByRecursion P ys
joined_within P R n k [] ys holds fits none = subst (AllByRecursion P) (sym none) tt
joined_within P R n k (x ∷ xs) ys holds fits (made, rest, is, more, all) =
    subst (AllByRecursion P) (sym all) (all_join P made rest (holds k x made (omega (arith, fits)) is)
    (joined_within P R n (k + 1) xs rest holds (omega (arith, fits)) more))

-- the specs of examples are among all
pub examples_inside : (g : List Reading) (es : List Example) → AreExamples g es → AllByRecursion (IsAmong (length g)) es
examples_inside g es are = joined_within (IsAmong (length g))
    (λ i r made. IsMadeFrom (λ j q e. IsExample g i j e) 0 g made)
    (length g) 0 g es (λ i r made below of_first. made_within (IsAmong (length g)) (λ j q e. IsExample g i j e)
    (length g) 0 g
    made (λ j q e under is. both i j e below under is) (omega arith) of_first) (omega arith) are
  where
    both : (i j : ℕ) (e : Example) → i < length g → j < length g → IsExample g i j e → IsAmong (length g) e
    both i j e below under is = record {
      first = omega (arith, below, is.first);
      second = omega (arith, under, is.second);
    }

-- and so are those of directory conflicts
pub nestings_inside : (g : List Reading) (ns : List Nesting) → AreNestings g ns
    → AllByRecursion (AreWithin (length g)) ns
nestings_inside g ns are = joined_within (AreWithin (length g))
    (λ i r made. IsMadeFrom (λ j q n. IsNesting g i j n) 0 g made)
    (length g) 0 g ns (λ i r made below of_first. made_within (AreWithin (length g)) (λ j q n. IsNesting g i j n)
    (length g) 0 g
    made (λ j q n under is. both i j n below under is.either) (omega arith) of_first) (omega arith) are
  where
    both : (i j : ℕ) (n : Nesting) → i < length g → j < length g → IsNestingOf g i j n ⊎ IsNestingOf g j i n
        → AreWithin (length g) n
    both i j n below under (inl is) = record {
      upper = omega (arith, below, is.upper);
      lower = omega (arith, under, is.lower);
    }
    both i j n below under (inr is) = record {
      upper = omega (arith, under, is.upper);
      lower = omega (arith, below, is.lower);
    }

none_zipped : {A B : Type 0} (R : A → B → Type 0) (ys : List B) → AllZip R [] ys → ys ≡ []
none_zipped R [] zipped = refl
none_zipped R (y ∷ ys) zipped = absurd zipped

-- what a call found, or nothing without a free byte
abbrev pub FoundBy : {X Y : Type 0} → List Reading → (X → Y) → (List Y → Type 0) → Result (Vec X Global) Error
    → Vec X Global → Type 0
FoundBy {X} {Y} g view Are r all =
    IfOk r (λ v. Are (map view v.items)) × IfErr r (λ e. e ≡ error.NoFreeByte → (b : ℕ) → ¬ (IsFree g b))
    × ((r ≡ Ok all) ⊎ ((r ≡ Err error.NoFreeByte) × (all.items ≡ [])))

pub found_or_none : {X Y : Type 0} (g : List Reading) (view : X → Y) (Are : List Y → Type 0) (r : Result
    (Vec X Global) Error) (all : Vec X Global) → FoundBy g view Are r all
    → Are (map view all.items) ⊎ (((b : ℕ) → ¬ (IsFree g b)) × (all.items ≡ []))
found_or_none {X} {Y} g view Are r all (are, refused, inl is) =
    inl (subst (λ (x : Result (Vec X Global) Error). IfOk x (λ v. Are (map view v.items))) is are)
found_or_none {X} {Y} g view Are r all (are, refused, inr (is, none)) =
    inr (
      subst (λ (x : Result (Vec X Global) Error). IfErr x (λ e. e ≡ error.NoFreeByte → (b : ℕ) → ¬
          (IsFree g b))) is refused refl,
      none,
    )

-- the specs of what was found are among the texts
pub found_inside : {X Y : Type 0} (view : X → Y) (Are : List Reading → List Y → Type 0) (Inside : ℕ → Y → Type 0)
    (a : Asked) (g : List Reading) (texts all : List Given) (fetch : Configuration) (r : Result (Vec X Global) Error)
    (found : Vec X Global) (n : ℕ)
    → ((h : List Reading) (ys : List Y) → Are h ys → AllByRecursion (Inside (length h)) ys) → fetch ≡ fetched_by a g
    → FoundBy (specs_of fetch) view (Are (specs_of fetch)) r found → length g ≡ length texts
    → all ≡ texts ++ option_to_list a.tags → All (Inside (length all)) (map view (take n found.items))
found_inside {X} {Y} view Are Inside a g texts all fetch r found n within by is same whole =
    All-from_recursion (Inside (length all)) (map view (take n found.items)) (all_taken (Inside (length all)) view n
    found.items (inside (found_or_none (specs_of fetch) view (Are (specs_of fetch)) r found is)))
  where
    count : length (specs_of fetch) ≡ length all
    count = ap (λ (c : Configuration). length (specs_of c)) by ∙ (tagged a.tags ∙ ap length (sym whole))
      where
        tagged : (t : Option Given) → length (g ++ tags_spec (is_some t)) ≡ length (texts ++ option_to_list t)
        tagged None = omega (arith, length-append {A = Reading} g [], length-append {A = Given} texts [], same)
        tagged (Some t) = omega (
          arith,
          length-append {A = Reading} g
              (tags_spec true),
          length-append {A = Given} texts (t ∷ []),
          same,
        )

    inside : Are (specs_of fetch) (map view found.items)
        ⊎ (((b : ℕ) → ¬ (IsFree (specs_of fetch) b)) × (found.items ≡ []))
        → AllByRecursion (Inside (length all)) (map view found.items)
    inside (inl are) = subst (λ (m : ℕ). AllByRecursion (Inside m) (map view found.items)) count
        (within (specs_of fetch) (map view found.items) are)
    inside (inr (free, none)) = subst (λ (l : List X). AllByRecursion (Inside (length all)) (map view l)) (sym none) tt

-- the warnings on what was found
pub found_said : {X Y : Type 0} (view : X → Y) (Are : List Reading → List Y → Type 0)
    (Says : List Given → Y → Said → Type 0) (a : Asked) (g : List Reading) (texts all : List Given)
    (fetch : Configuration) (r : Result (Vec X Global) Error) (found : Vec X Global) (said : List Said)
    → fetch ≡ fetched_by a g → FoundBy (specs_of fetch) view (Are (specs_of fetch)) r found
    → all ≡ texts ++ option_to_list a.tags → AllZip (Says all) (map view found.items) said
    → FoundOrNone (specs_of (fetched_by a g)) (Are (specs_of (fetched_by a g)))
    (λ ys ws. AllZip (Says (texts ++ option_to_list a.tags)) ys ws) said
found_said {X} {Y} view Are Says a g texts all fetch r found said by is whole zipped =
    subst (λ (c : Configuration). FoundOrNone (specs_of c) (Are (specs_of c))
    (λ ys ws. AllZip (Says (texts ++ option_to_list a.tags)) ys ws) said) by
    (of (found_or_none (specs_of fetch) view (Are (specs_of fetch)) r found is))
  where
    of : Are (specs_of fetch) (map view found.items) ⊎ (((b : ℕ) → ¬ (IsFree (specs_of fetch) b)) × (found.items ≡ []))
        → FoundOrNone (specs_of fetch) (Are (specs_of fetch))
        (λ ys ws. AllZip (Says (texts ++ option_to_list a.tags)) ys ws) said
    of (inl are) = inl (
      map view found.items,
      are,
      subst (λ (t : List Given). AllZip (Says t) (map view found.items) said) whole zipped,
    )
    of (inr (free, none)) = inr (
      free,
      none_zipped (Says all) said (subst (λ (l : List X). AllZip (Says all) (map view l) said) none zipped),
    )

-- four lists behind one
pub behind_four : {X : Type 0} (a b c d e w x y z : List X) → w ≡ a ++ b → x ≡ w ++ c → y ≡ x ++ d → z ≡ y ++ e
    → z ≡ a ++ (b ++ (c ++ (d ++ e)))
behind_four a b c d e w x y z one two three four =
    four ∙ (ap (λ l. l ++ e) (three ∙ ap (λ l. l ++ d) (two ∙ ap (λ l. l ++ c) one)) ∙ (append_assoc ((a ++ b) ++ c) d e
    ∙ (append_assoc (a ++ b) c (d ++ e) ∙ append_assoc a b (c ++ (d ++ e)))))

-- ---- the report

-- the object of a warning
pub IsSaidLine-of : (w : Warning) (name location message advice : List ℕ) (specs : List WarnedSpec)
    (old new : List ℕ) → name ≡ topic_name w.topic → IsSpot form.Json (said_of w).spot location
    → message ≡ json_text w.message.items → AllZip IsWarned (said_of w).texts (map warned_texts specs)
    → new ≡ old ++ line_of (warning_object name location (map warned_texts specs) message advice)
    → (line : List ℕ) × IsSaidLine (said_of w) line × (new ≡ old ++ line)
IsSaidLine-of w name location message advice specs old new is_name is_location is_message are wrote = (
  line_of (warning_object name location (map warned_texts specs) message advice),
  record {
    location = location;
    specs = map warned_texts specs;
    advice = advice;
    is_location = is_location;
    are = are;
    is = ap (λ n. line_of (warning_object n location (map warned_texts specs) message advice)) is_name
        ∙ ap (λ m. line_of (warning_object (topic_name w.topic) location (map warned_texts specs) m advice)) is_message;
  },
  wrote,
)

-- at the start there is no warning
pub AddsSaid-start : (f : Form) (p : Report) → AddsSaid f [] p p
AddsSaid-start form.Lines p = (refl, ([], refl, sym (append-nil p.messages.items)))
AddsSaid-start form.Zeros p = (refl, ([], refl, sym (append-nil p.messages.items)))
AddsSaid-start form.Json p = (refl, ([], refl, sym (append-nil p.results.items)))

-- the object of a warning was appended to the results, or its lines to the messages
pub AddsSaid-object : (f : Form) (s : Said) (p q : Report) → f ≡ form.Json → q.messages.items ≡ p.messages.items
    → (line : List ℕ) × IsSaidLine s line × (q.results.items ≡ p.results.items ++ line) → AddsSaid f (s ∷ []) p q
AddsSaid-object f s p q is same (line, of, write) =
    subst (λ (x : Form). AddsSaid x (s ∷ []) p q) (sym is)
    (same, (line, (line, [], of, refl, sym (append-nil line)), write))

pub AddsSaid-lines : (f : Form) (s : Said) (p q : Report) → (f ≡ form.Lines) ⊎ (f ≡ form.Zeros)
    → q.results.items ≡ p.results.items
    → (lines : List ℕ) × IsSaidText s lines × (q.messages.items ≡ p.messages.items ++ lines) → AddsSaid f (s ∷ []) p q
AddsSaid-lines f s p q (inl is) same (lines, of, write) =
    subst (λ (x : Form). AddsSaid x (s ∷ []) p q) (sym is)
    (same, (lines, (lines, [], of, refl, sym (append-nil lines)), write))
AddsSaid-lines f s p q (inr is) same (lines, of, write) =
    subst (λ (x : Form). AddsSaid x (s ∷ []) p q) (sym is)
    (same, (lines, (lines, [], of, refl, sym (append-nil lines)), write))

AddsSaid-append : (f : Form) (xs ys : List Said) (p q r : Report) → AddsSaid f xs p q → AddsSaid f ys q r
    → AddsSaid f (xs ++ ys) p r
AddsSaid-append form.Lines xs ys p q r (same, (one, are, wrote)) (then_same, (other, also, write)) = (
  then_same ∙ same,
  (
    one ++ other,
    AreInOrder-append IsSaidText xs ys one other are also,
    behind p.messages.items one q.messages.items other r.messages.items wrote write,
  ),
)
AddsSaid-append form.Zeros xs ys p q r (same, (one, are, wrote)) (then_same, (other, also, write)) = (
  then_same ∙ same,
  (
    one ++ other,
    AreInOrder-append IsSaidText xs ys one other are also,
    behind p.messages.items one q.messages.items other r.messages.items wrote write,
  ),
)
AddsSaid-append form.Json xs ys p q r (same, (one, are, wrote)) (then_same, (other, also, write)) = (
  then_same ∙ same,
  (
    one ++ other,
    AreInOrder-append IsSaidLine xs ys one other are also,
    behind p.results.items one q.results.items other r.results.items wrote write,
  ),
)

-- one more warning
pub AddsSaid-next : (f g : Form) (ws : List Warning) (i : ℕ) (w : Warning) (p q r : Report) → i < length ws → g ≡ f
    → w ≡ get_or ws i w → AddsSaid f (map said_of (take i ws)) p q → AddsSaid g (said_of w ∷ []) q r
    → AddsSaid f (map said_of (take (i + 1) ws)) p r
AddsSaid-next f g ws i w p q r below same is before here =
    let step : map said_of (take (i + 1) ws) ≡ map said_of (take i ws) ++ said_of w ∷ [] =
    ap (map said_of) (take_more ws i w below) ∙ (map-append said_of (take i ws) (get_or ws i w ∷ [])
    ∙ ap (λ z. map said_of (take i ws) ++ said_of z ∷ []) (sym is)) in
    subst (λ (l : List Said). AddsSaid f l p r) (sym step)
    (AddsSaid-append f (map said_of (take i ws)) (said_of w ∷ []) p q r before
    (subst (λ (x : Form). AddsSaid x (said_of w ∷ []) q r) same here))

-- ---- idle specs

-- an idle spec is one of all, and so is the one that explains it
inside_of : (g : List Reading) (k n : ℕ) (u : Unused) → k < length g → length g ≤ n → IsUnused g k u → IsInside n u
inside_of g k n u below fits is = record {
  spec = omega (arith, below, fits, is.spec);
  other = by u.reason is.reason;
}
  where
    by : (r : Reason) → IsIdleBy g k r → AllByRecursion (λ i. i < n) (other_of r)
    by reason.Invalid why = tt
    by (reason.Excluded e) why = (omega (arith, fits, slice_get_within g e _ why.1.at), tt)
    by (reason.Duplicate h) why = (omega (arith, fits, below, why.1.before), tt)
    by reason.Duplicates why = tt

-- the idle specs are among the texts
pub idle_inside : (g : List Reading) (n : ℕ) (r : Result (Vec IdleSpec Global) Error) (found : Vec IdleSpec Global)
    → FoundBy g unused_of (AreIdle g) r found → length g ≤ n → All (IsInside n) (map unused_of found.items)
idle_inside g n r found is fits = All-from_recursion (IsInside n) (map unused_of found.items)
    (inside (found_or_none g unused_of (AreIdle g) r found is))
  where
    inside : AreIdle g (map unused_of found.items) ⊎ (((b : ℕ) → ¬ (IsFree g b)) × (found.items ≡ []))
        → AllByRecursion (IsInside n) (map unused_of found.items)
    inside (inl are) = made_within (IsInside n) (λ j r u. IsPositive r.mode × IsUnused g j u) (length g) 0 g
        (map unused_of found.items) (λ j r u below is. inside_of g j n u below fits is.1) (omega arith) are
    inside (inr (free, none)) =
        subst (λ (l : List IdleSpec). AllByRecursion (IsInside n) (map unused_of l)) (sym none) tt

-- the warnings on idle specs
pub idle_said : (g : List Reading) (texts : List Given) (r : Result (Vec IdleSpec Global) Error)
    (found : Vec IdleSpec Global) (said : List Said) → FoundBy g unused_of (AreIdle g) r found
    → AllZip (IsIdleSaid texts) (map unused_of found.items) said → AreIdleSaid g texts said
idle_said g texts r found said is zipped = of (found_or_none g unused_of (AreIdle g) r found is)
  where
    of : AreIdle g (map unused_of found.items) ⊎ (((b : ℕ) → ¬ (IsFree g b)) × (found.items ≡ []))
        → AreIdleSaid g texts said
    of (inl are) = inl (map unused_of found.items, are, zipped)
    of (inr (free, none)) = inr (
      free,
      none_zipped (IsIdleSaid texts) said
          (subst (λ (l : List IdleSpec). AllZip (IsIdleSaid texts) (map unused_of l) said) none zipped),
    )

-- the warnings on negative specs that exclude nothing
pub exclusions_said : (a : Asked) (g : List Reading) (texts : List Given) (fetch : Configuration)
    (merges : List (List ℕ))
    (r : Result (Vec ℕ Global) Error) (found : Vec ℕ Global) (said : List Said) → fetch ≡ excludable_by a g
    → merges ≡ a.merges → IfOk r (λ v. AreIdleExclusions (specs_of fetch) merges v.items)
    × IfErr r (λ e. e ≡ error.NoFreeByte → (b : ℕ) → ¬ (IsFree (specs_of fetch) b))
    × ((r ≡ Ok found) ⊎ ((r ≡ Err error.NoFreeByte) × (found.items ≡ [])))
    → IsMadeFrom (λ i k s. IsExclusionSaid g texts k s) 0 found.items said → AreExclusionsSaid a g texts said
exclusions_said a g texts fetch merges r found said by same (are, refused, inl is) made =
    let here : AreIdleExclusions (specs_of fetch) merges found.items =
    subst (λ (x : Result (Vec ℕ Global) Error). IfOk x (λ v. AreIdleExclusions (specs_of fetch) merges v.items)) is
    are in
    inl (
      found.items,
      subst (λ (m : List (List ℕ)). AreIdleExclusions (specs_of (excludable_by a g)) m found.items) same
          (subst (λ (c : Configuration). AreIdleExclusions (specs_of c) merges found.items) by here),
      made,
    )
exclusions_said a g texts fetch merges r found said by same (are, refused, inr (is, none)) made =
    let free : (b : ℕ) → ¬ (IsFree (specs_of fetch) b) =
    subst (λ (x : Result (Vec ℕ Global) Error). IfErr x (λ e. e ≡ error.NoFreeByte → (b : ℕ) → ¬
    (IsFree (specs_of fetch) b))) is refused refl in
    inr (
      subst (λ (c : Configuration). (b : ℕ) → ¬ (IsFree (specs_of c) b)) by free,
      subst (λ (l : List ℕ). IsMadeFrom (λ i k s. IsExclusionSaid g texts k s) 0 l said) none made,
    )

-- ---- exclusions

-- a side that isn't a full name, nor a pattern for one
pub not_full : (side : List ℕ) → (side ≢ head) → ¬ (BeginsWith (codes "refs/") side)
    → ((before after : List ℕ) → side ≡ before ++ (star ∷ after) → Lacks star before
    → ¬ (BeginsWith before (codes "refs/") ⊎ BeginsWith before head)) → ¬ (MayBeFull side)
not_full side apart unbegun none (inl is) = apart is
not_full side apart unbegun none (inr (inl begins)) = unbegun begins
not_full side apart unbegun none (inr (inr (before, after, is, lacks, begins))) = none before after is lacks begins

-- what the spec at an index may exclude
pub excludes_at : (specs : List RefSpecRef) (k : ℕ) (spec : RefSpecRef) (b : Bool) → k < length specs
    → spec ≡ get_or specs k spec → MatchBool b (MayNameRefs (reading_of spec)) (¬ (MayNameRefs (reading_of spec)))
    → MatchBool b (MayExclude (map reading_of specs) k) (¬ (MayExclude (map reading_of specs) k))
excludes_at specs k spec b below is told = by b told
  where
    at : slice_get (map reading_of specs) k ≡ Some (reading_of spec)
    at = slice_get-get_or (map reading_of specs) k (reading_of spec) (omega (arith, below, length-map specs reading_of))
        ∙ ap Some (get_or-map reading_of specs k spec (reading_of spec) below ∙ ap reading_of (sym is))

    by : (b : Bool) → MatchBool b (MayNameRefs (reading_of spec)) (¬ (MayNameRefs (reading_of spec)))
        → MatchBool b (MayExclude (map reading_of specs) k) (¬ (MayExclude (map reading_of specs) k))
    by true full = (reading_of spec, at, full)
    by false short = λ may. short (subst MayNameRefs (same_Some may.0 (reading_of spec) (sym may.1 ∙ at)) may.2)

-- the warnings on one more negative spec: one, or none
exclusion_at : (ks : List ℕ) (i k : ℕ) → i < length ks → k ≡ get_or ks i k → take (i + 1) ks ≡ take i ks ++ k ∷ []
exclusion_at ks i k below is = take_more ks i k below ∙ ap (λ z. take i ks ++ z ∷ []) (sym is)

pub exclusion_more : (g : List Reading) (texts : List Given) (ks : List ℕ) (i k : ℕ) (old new : List Warning)
    (w : Warning)
    → i < length ks → k ≡ get_or ks i k → IsExclusionSaid g texts k (said_of w) → new ≡ old ++ w ∷ []
    → IsMadeFrom (λ i k s. IsExclusionSaid g texts k s) 0 (take i ks) (map said_of old)
    → IsMadeFrom (λ i k s. IsExclusionSaid g texts k s) 0 (take (i + 1) ks) (map said_of new)
exclusion_more g texts ks i k old new w below is said grew so_far =
    let R : ℕ → ℕ → Said → Type 0 = λ i k s. IsExclusionSaid g texts k s in
    subst (λ (l : List ℕ). IsMadeFrom R 0 l (map said_of new)) (sym (exclusion_at ks i k below is))
    (subst (IsMadeFrom R 0 (take i ks ++ k ∷ [])) (sym (ap (map said_of) grew ∙ map-append said_of old (w ∷ [])))
    (made_next R i (take i ks) k (map said_of old) (Some (said_of w)) (length-take-le i ks (omega (arith, below)))
    so_far said))

pub exclusion_less : (g : List Reading) (texts : List Given) (ks : List ℕ) (i k : ℕ) (all : List Warning)
    → i < length ks → k ≡ get_or ks i k → ¬ (MayExclude g k)
    → IsMadeFrom (λ i k s. IsExclusionSaid g texts k s) 0 (take i ks) (map said_of all)
    → IsMadeFrom (λ i k s. IsExclusionSaid g texts k s) 0 (take (i + 1) ks) (map said_of all)
exclusion_less g texts ks i k all below is none so_far =
    let R : ℕ → ℕ → Said → Type 0 = λ i k s. IsExclusionSaid g texts k s in
    subst (λ (l : List ℕ). IsMadeFrom R 0 l (map said_of all)) (sym (exclusion_at ks i k below is))
    (subst (IsMadeFrom R 0 (take i ks ++ k ∷ [])) (append-nil (map said_of all))
    (made_next R i (take i ks) k (map said_of all) None (length-take-le i ks (omega (arith, below))) so_far
    (λ s said. none said.full)))

-- ---- single specs

-- one more warning
pub others_more : (old new : List Warning) (w : Warning) → new ≡ old ++ w ∷ [] → AreOthers old → IsOtherSaid (said_of w)
    → AreOthers new
others_more old new w grew others is =
    subst AreOthers (sym grew) (subst (AllByRecursion IsOtherSaid) (sym (map-append said_of old (w ∷ [])))
    (all_join IsOtherSaid (map said_of old) (said_of w ∷ []) others (is, tt)))

-- ---- groups

-- all warnings on a group that isn't for a fetch
pub said_others : (a : Asked) (g : List Reading) (texts : List Given) (r : Result (Vec Warning Global) AllocError)
    → ¬ (IsForFetch texts) → IfOk r (λ v. AreOthers v.items) → IfOk r (λ v. AreSaidOn a g texts (map said_of v.items))
said_others a g texts (Ok v) push others = inr (push, others)
said_others a g texts (Err e) push others = tt

-- all warnings on a group for a fetch
pub said_fetch : (a : Asked) (g : List Reading) (texts : List Given) (c d i e o all : List Warning) → IsForFetch texts
    → AreConflictsSaid a g texts (map said_of c) → AreNestingsSaid a g texts (map said_of d)
    → AreIdleSaid g texts (map said_of i) → AreExclusionsSaid a g texts (map said_of e) → AreOthers o
    → all ≡ c ++ (d ++ (i ++ (e ++ o))) → AreSaidOn a g texts (map said_of all)
said_fetch a g texts c d i e o all fetch conflicts directories idle exclusions others whole = inl (
  fetch,
  record {
    conflicts = map said_of c;
    directories = map said_of d;
    idle = map said_of i;
    exclusions = map said_of e;
    others = map said_of o;
    of_conflicts = conflicts;
    of_directories = directories;
    of_idle = idle;
    of_exclusions = exclusions;
    of_others = others;
    is = ap (map said_of) whole ∙ (map-append said_of c (d ++ (i ++ (e ++ o))) ∙ ap (λ l. map said_of c ++ l)
        (map-append said_of d (i ++ (e ++ o)) ∙ ap (λ l. map said_of d ++ l)
        (map-append said_of i (e ++ o) ∙ ap (λ l. map said_of i ++ l) (map-append said_of e o))));
  },
)

-- no warnings on a group with a refused text
pub AreSaidOf-bad : (a : Asked) (seen : List Seen) (group : Group) (said : List Said) → IsGroup seen group
    → group.has_bad ≡ true → said ≡ [] → AreSaidOf a seen said
AreSaidOf-bad a seen group said is bad none = inl (rw bad at is.bad, none)

-- those on another one
pub AreSaidOf-good : (a : Asked) (seen : List Seen) (group : Group) (said : List Said) → IsGroup seen group
    → group.has_bad ≡ false → AreSaidOn a (map reading_of group.specs.items) (map given_of group.texts.items) said
    → AreSaidOf a seen said
AreSaidOf-good a seen group said is none are =
    let good = good_group seen group is none in
    inr (
      map reading_of group.specs.items,
      good.0,
      subst (λ (t : List Given). AreSaidOn a (map reading_of group.specs.items) t said) good.1 are,
    )
