-- The answer to a question of `track`, and its rows.
use Rattle.std.proofs.Common.{◌≡◌, ◌≢◌, ◌⊎◌, ℕ, ◌+◌, ◌<◌, ◌≤◌, ltb, zero, suc, MatchBool, List, [], ◌∷◌, ◌++◌, None}
use Rattle.std.proofs.Common.{Option, option_map, unwrap_or, length, map, flat_map, take, take_all, get_or, codes, inl}
use Rattle.std.proofs.Common.{inr, refl, sym, ap, ◌∙◌, subst, append_assoc, arith}
use Rattle.std.specs.List.{All, AllZip, Any, slice_get}
use Rattle.std.proofs.lemmas.List.{append-nil, length-map, map-append, map_more, nil_from_length, take_more}
use Rattle.std.proofs.lemmas.Grind.{flat_map-append}
use Rattle.bstr.specs.Owned.{bstring_bytes}
use Rattle.bstr.specs.declared.bstring.BString.{BString}
use Rattle.gix_refspec.specs.Laws.Items.{HasIdDestination}
use Rattle.gix_refspec.specs.Matching.Hits.{AreKeptBackward}
use Rattle.gix_refspec.specs.Matching.Mappings.{Mapped}
use Rattle.gix_refspec.specs.Matching.Match.{Ref}
use Rattle.gix_refspec.specs.Specs.Reading.{Reading}
use Rattle.gix_refspec.specs.Views.Group.{mapped_of, ref_of}
use Rattle.gix_refspec.specs.Views.Spec.{reading_of}
use Rattle.gix_refspec_match.specs.declared.types.Item.{Item}
use Rattle.gix_refspec_match.specs.declared.types.Mapping.{Mapping}
use Rattle.gix_refspec_text.specs.declared.spec.RefSpecRef.{RefSpecRef}
use Rattle.gix_refspec_text.proofs.lemmas.lists.MapLemmas.{map_next}
use Rattle.refspec_io.specs.declared.call.Form.{Form}
use Rattle.refspec_io.specs.declared.call.Form.TheVariants as form
use Rattle.refspec_io.specs.Json.{AreInOrder}
use Rattle.refspec_io.specs.Rows.{AddsMappings, AddsMappingsAmong, AreRowLines, fields, object_of, row_of}
use Rattle.refspec_commands.specs.declared.mappings.Row.{Row}
use Rattle.refspec_commands.specs.declared.tracking.answer.Found.{Found}
use Rattle.refspec_commands.specs.declared.tracking.answer.Found.TheVariants as how
use Rattle.refspec_commands.specs.declared.tracking.answer.Looked.{Looked}
use Rattle.refspec_commands.specs.declared.tracking.answer.Tracked.{Tracked}
use Rattle.refspec_commands.specs.declared.tracking.question.Remote.{Remote}
use Rattle.std.proofs.lemmas.List.Elements.{All-head, All-tail}
use Rattle.refspec_io.proofs.ShownLemmas.{map-twice}
use Rattle.refspec_commands.specs.declared.tracking.question.Order.TheVariants as order
use Rattle.refspec_commands.specs.Answer.{AddsAnswer, AreLeftOut, IsAnswer, IsFound, IsFoundBy, IsLooked, IsStatus}
use Rattle.refspec_commands.specs.Answer.{IsTracked, mappings_in, row_with, rows_in}
use Rattle.refspec_commands.specs.Rows.{AddsRows, AddsRowsAmong, IsRow, Shown, shown_row}
use Rattle.refspec_commands.specs.Track.{AddsTracked, AreByNames, HasUnwritten, IsEachWritten, IsWritten, named}
use Rattle.refspec_commands.proofs.TrackLemmas.{by_names-whole}

-- ---- the specs that are left out

-- one more spec whose destination is an object id, and one more whose isn't
AreLeftOut-more : (xs out : List Reading) (r : Reading) → HasIdDestination r → AreLeftOut xs out
    → AreLeftOut (xs ++ r ∷ []) (out ++ r ∷ [])
AreLeftOut-more [] out r has is = inl (has, ([], refl, ap (λ l. l ++ r ∷ []) is))
AreLeftOut-more (x ∷ xs) out r has (inl (it, (rest, is, same))) = inl (
  it,
  (rest ++ r ∷ [], AreLeftOut-more xs rest r has is, ap (λ l. l ++ r ∷ []) same),
)
AreLeftOut-more (x ∷ xs) out r has (inr (other, is)) = inr (other, AreLeftOut-more xs out r has is)

AreLeftOut-less : (xs out : List Reading) (r : Reading) → ¬ (HasIdDestination r) → AreLeftOut xs out
    → AreLeftOut (xs ++ r ∷ []) out
AreLeftOut-less [] out r none is = inr (none, is)
AreLeftOut-less (x ∷ xs) out r none (inl (it, (rest, is, same))) = inl (
  it,
  (rest, AreLeftOut-less xs rest r none is, same),
)
AreLeftOut-less (x ∷ xs) out r none (inr (other, is)) = inr (other, AreLeftOut-less xs out r none is)

pub AreLeftOut-added : (specs old new : List RefSpecRef) (i : ℕ) (s : RefSpecRef) → i < length specs
    → s ≡ get_or specs i s → HasIdDestination (reading_of s) → new ≡ old ++ s ∷ []
    → AreLeftOut (map reading_of (take i specs)) (map reading_of old)
    → AreLeftOut (map reading_of (take (i + 1) specs)) (map reading_of new)
AreLeftOut-added specs old new i s below is has grown so_far =
    subst (λ (l : List Reading). AreLeftOut l (map reading_of new)) (sym (map_next reading_of specs i s below is))
    (subst (AreLeftOut (map reading_of (take i specs) ++ reading_of s ∷ [])) (sym
    (ap (map reading_of) grown ∙ map-append reading_of old (s ∷ []))) (AreLeftOut-more
    (map reading_of (take i specs)) (map reading_of old) (reading_of s) has so_far))

pub AreLeftOut-same : (specs out : List RefSpecRef) (i : ℕ) (s : RefSpecRef) → i < length specs → s ≡ get_or specs i s
    → ¬ (HasIdDestination (reading_of s)) → AreLeftOut (map reading_of (take i specs)) (map reading_of out)
    → AreLeftOut (map reading_of (take (i + 1) specs)) (map reading_of out)
AreLeftOut-same specs out i s below is none so_far =
    subst (λ (l : List Reading). AreLeftOut l (map reading_of out)) (sym (map_next reading_of specs i s below is))
    (AreLeftOut-less (map reading_of (take i specs)) (map reading_of out) (reading_of s) none so_far)

pub AreLeftOut-all : (specs out : List RefSpecRef) (i : ℕ) → length specs ≤ i
    → AreLeftOut (map reading_of (take i specs)) (map reading_of out)
    → AreLeftOut (map reading_of specs) (map reading_of out)
AreLeftOut-all specs out i long so_far = subst (λ (l : List RefSpecRef). AreLeftOut (map reading_of l) (map reading_of
    out)) (take_all i specs long) so_far

-- each spec is looked up or left out
shares : (g kept out : List Reading) → AreByNames g kept → AreLeftOut g out → length kept + length out ≡ length g
shares [] kept out is none = omega (arith, ap length is, ap length none)
shares (r ∷ g) kept out (inl (has, is)) (inl (it, (rest, left, same))) = omega (
  arith,
  shares g kept rest is left,
  ap
      length same,
)
shares (r ∷ g) kept out (inl (has, is)) (inr (other, left)) = absurd (other has)
shares (r ∷ g) kept out (inr (other, (rest, is, same))) (inl (it, left)) = absurd (other it)
shares (r ∷ g) kept out (inr (other, (rest, is, same))) (inr (too, left)) = omega (
  arith,
  shares g rest out is left,
  ap
      length same,
)

-- if none is left out, all are looked up, and else not
all_looked_up : (g kept : List Reading) (out : List RefSpecRef) → AreByNames g kept → AreLeftOut g (map reading_of out)
    → out ≡ [] → kept ≡ g
all_looked_up g kept out is left none = by_names-whole g kept is (omega
    (arith, shares g kept (map reading_of out) is left, length-map out reading_of, ap length none))

not_all_looked_up : (g kept : List Reading) (out : List RefSpecRef) → AreByNames g kept
    → AreLeftOut g (map reading_of out) → out ≢ [] → kept ≢ g
not_all_looked_up g kept out is left some same = some (nil_from_length out (omega
    (arith, shares g kept (map reading_of out) is left, length-map out reading_of, ap length same)))

-- ---- the rows of mappings without a remote

lines_of : (texts : List (List ℕ)) (ms : List Mapped) (lines : List ℕ)
    → AreInOrder (IsRow form.Lines) (map (row_with None texts) ms) lines
    → AreRowLines (map (row_of (codes "FETCH_HEAD") texts) ms) lines
lines_of texts [] lines is = is
lines_of texts (m ∷ ms) lines (one, rest, here, more, all) = (one, rest, here, lines_of texts ms rest more, all)

zeros_of : (texts : List (List ℕ)) (ms : List Mapped) (lines : List ℕ)
    → AreInOrder (IsRow form.Zeros) (map (row_with None texts) ms) lines
    → lines ≡ flat_map fields (map (row_of [] texts) ms)
zeros_of texts [] lines is = is
zeros_of texts (m ∷ ms) lines (one, rest, here, more, all) = all ∙ (ap (λ l. l ++ rest) here ∙ ap
    (λ l. fields (row_of [] texts m) ++ l) (zeros_of texts ms rest more))

objects_of : (texts : List (List ℕ)) (ms : List Mapped) (lines : List ℕ)
    → AreInOrder (IsRow form.Json) (map (row_with None texts) ms) lines → lines ≡ flat_map (object_of texts) ms
objects_of texts [] lines is = is
objects_of texts (m ∷ ms) lines (one, rest, here, more, all) = all ∙ (ap (λ l. l ++ rest) here ∙ ap
    (λ l. object_of texts m ++ l) (objects_of texts ms rest more))

AddsMappings-of : (f : Form) (texts : List (List ℕ)) (ms : List Mapped) (old new : List ℕ)
    → AddsRows f (map (row_with None texts) ms) old new → AddsMappings f texts ms old new
AddsMappings-of form.Lines texts ms old new (lines, are, is) = (lines, lines_of texts ms lines are, is)
AddsMappings-of form.Zeros texts ms old new (lines, are, is) = is ∙ ap (λ l. old ++ l) (zeros_of texts ms lines are)
AddsMappings-of form.Json texts ms old new (lines, are, is) = is ∙ ap (λ l. old ++ l) (objects_of texts ms lines are)

-- the rows of one remote without a name
alone : (t : Tracked) (rows : List Row) → option_map (λ n. n.now) t.name ≡ None
    → map shown_row rows ≡ flat_map rows_in (t ∷ [])
    → map shown_row rows ≡ map (row_with None (map bstring_bytes t.texts.items)) (map mapped_of t.mappings.items)
alone t rows none are =
    let texts = map bstring_bytes t.texts.items in
    are ∙ (append-nil (rows_in t) ∙ (ap (λ (o : Option (List ℕ)). map (λ m. row_with o texts (mapped_of m))
    t.mappings.items) none ∙ map-twice (row_with None texts) mapped_of t.mappings.items))

reported_alone : (t : Tracked) (f : Form) (rows : List Row) (old new : List ℕ) → option_map (λ n. n.now) t.name ≡ None
    → map shown_row rows ≡ flat_map rows_in (t ∷ []) → AddsRowsAmong f (map shown_row rows) old new
    → AddsMappingsAmong f (map bstring_bytes t.texts.items) (map mapped_of t.mappings.items) old new
reported_alone t f rows old new none are among = record {
  first = among.first;
  last = among.last;
  before = among.before;
  reported = AddsMappings-of f (map bstring_bytes t.texts.items) (map mapped_of t.mappings.items) among.first among.last
      (subst (λ (l : List Shown). AddsRows f l among.first among.last) (alone t rows none are) among.reported);
  after = among.after;
}

-- ---- what is found by one remote

written_alone : (t : Tracked) → mappings_in (t ∷ []) ≡ map mapped_of t.mappings.items
written_alone t = append-nil (map mapped_of t.mappings.items)

-- one remote alone makes no ref ambiguous
not_written : (t : Tracked) (name : List ℕ) (f : Found) → IsFound (t ∷ []) name f → f ≢ how.Tracked
    → ¬ (IsWritten name (map mapped_of t.mappings.items))
not_written t name how.Untracked is other = subst (λ (ms : List Mapped). ¬ (IsWritten name ms)) (written_alone t) is
not_written t name how.Tracked is other = absurd (other refl)
not_written t name (how.Ambiguous n) is other = absurd (omega (arith, is.1, is.2))

is_written : (t : Tracked) (name : List ℕ) (f : Found) → IsFound (t ∷ []) name f → f ≡ how.Tracked
    → IsWritten name (map mapped_of t.mappings.items)
is_written t name f is same = subst (IsWritten name) (written_alone t) (subst (IsFound (t ∷ []) name) same is)

some_unwritten : (t : Tracked) (names : List (List ℕ)) (looked : List Looked)
    → AllZip (IsLooked (t ∷ [])) (map named names) looked → Any (λ l. l.found ≢ how.Tracked) looked
    → HasUnwritten names (map mapped_of t.mappings.items)
some_unwritten t [] [] are any = absurd (omega (arith, any.2))
some_unwritten t [] (l ∷ looked) are any = absurd are
some_unwritten t (name ∷ names) [] are any = absurd are
some_unwritten t (name ∷ names) (l ∷ looked) are (zero, x, below, at, other) = inl (not_written t name l.found are.0.1
    (subst (λ (y : Looked). y.found ≢ how.Tracked) (sym at) other))
some_unwritten t (name ∷ names) (l ∷ looked) are (suc k, x, below, at, other) = inr (some_unwritten t names looked are.1
    (k, x, omega (arith, below), at, other))

each_written : (t : Tracked) (names : List (List ℕ)) (looked : List Looked)
    → AllZip (IsLooked (t ∷ [])) (map named names) looked → All (λ l. l.found ≡ how.Tracked) looked
    → IsEachWritten names (map mapped_of t.mappings.items)
each_written t [] looked are all = tt
each_written t (name ∷ names) [] are all = absurd are
each_written t (name ∷ names) (l ∷ looked) are all = (
  is_written t name l.found are.0.1 (All-head (λ (x : Looked). x.found ≡ how.Tracked) l looked all),
  each_written t
      names looked are.1 (All-tail (λ (x : Looked). x.found ≡ how.Tracked) l looked all),
)

left_out_alone : (t : Tracked) → Any (λ t. t.left_out.items ≢ []) (t ∷ []) → t.left_out.items ≢ []
left_out_alone t (zero, x, below, at, some) = subst (λ (y : Tracked). y.left_out.items ≢ []) (sym at) some
left_out_alone t (suc k, x, below, at, some) = absurd (omega (arith, below))

status_alone : (names : List (List ℕ)) (refs : List Ref) (r : Remote) (t : Tracked) (looked : List Looked) (status : ℕ)
    (is : IsTracked refs r t) → AllZip (IsLooked (t ∷ [])) (map named names) looked → IsStatus (t ∷ []) looked status
    → MatchBool (ltb 0 status) ((is.by_names ≢ map reading_of r.specs.items) ⊎ HasUnwritten names (map mapped_of
    t.mappings.items)) ((is.by_names ≡ map reading_of r.specs.items) × IsEachWritten names (map mapped_of
    t.mappings.items))
status_alone names refs r t looked status is are (inl (one, inl some)) =
    rw one (inl (not_all_looked_up (map reading_of r.specs.items) is.by_names t.left_out.items is.looked_up is.left_out
    (left_out_alone t some)))
status_alone names refs r t looked status is are (inl (one, inr some)) = rw one (inr
    (some_unwritten t names looked are some))
status_alone names refs r t looked status is are (inr (zero_status, none, all)) =
    rw zero_status (
      all_looked_up (map reading_of r.specs.items) is.by_names t.left_out.items is.looked_up is.left_out
          (All-head (λ (x : Tracked). x.left_out.items ≡ []) t [] none),
      each_written t names looked are all,
    )

-- the report of one remote without a name
pub AddsTracked-of : (f : Form) (names : List (List ℕ)) (refs : List Item) (r : Remote) (ts : List Tracked) (looked :
    List Looked) (status : ℕ) (old new : List ℕ) → option_map (λ n. n.now) r.name ≡ None
    → map ref_of refs ≡ map named names → IsAnswer refs (r ∷ []) ts looked → AddsAnswer order.Specs ts f old new
    → IsStatus ts looked status → AddsTracked f names (ltb 0 status) (map reading_of r.specs.items) old new
AddsTracked-of f names refs r [] looked status old new none same is reported ended = absurd is.tracked
AddsTracked-of f names refs r (t ∷ u ∷ ts) looked status old new none same is reported ended = absurd is.tracked.1
AddsTracked-of f names refs r (t ∷ []) looked status old new none same is (rows, are, among) ended =
    let it : IsTracked (map ref_of refs) r t = is.tracked.0 in
    record {
      by_names = it.by_names;
      found = map mapped_of t.mappings.items;
      texts = map bstring_bytes t.texts.items;
      looked_up = it.looked_up;
      kept = subst (λ (rs : List Ref). AreKeptBackward it.by_names rs (map mapped_of t.mappings.items)) same it.kept;
      of_specs = it.of_specs;
      reported = reported_alone t f rows old new (it.name ∙ none) are among;
      status = status_alone names (map ref_of refs) r t looked status it (subst
          (λ (rs : List Ref). AllZip (IsLooked (t ∷ [])) rs looked) same is.looked_up) ended;
    }

-- ---- loops

-- the mappings of one more remote
pub mappings_in-more : (ts : List Tracked) (i : ℕ) (d : Tracked) → i < length ts
    → mappings_in (take (i + 1) ts) ≡ mappings_in (take i ts) ++ map mapped_of (get_or ts i d).mappings.items
mappings_in-more ts i d below =
    let ms = λ (t : Tracked). map mapped_of t.mappings.items in
    ap (flat_map ms) (take_more ts i d below) ∙ (flat_map-append ms (take i ts) (get_or ts i d ∷ []) ∙ ap (λ l. flat_map
    ms (take i ts) ++ l) (append-nil (ms (get_or ts i d))))

-- the rows of one more remote
pub rows_in-more : (ts : List Tracked) (i : ℕ) (d : Tracked) → i < length ts
    → flat_map rows_in (take (i + 1) ts) ≡ flat_map rows_in (take i ts) ++ rows_in (get_or ts i d)
rows_in-more ts i d below =
    ap (flat_map rows_in) (take_more ts i d below) ∙ (flat_map-append rows_in (take i ts) (get_or ts i d ∷ []) ∙ ap (λ
    l. flat_map rows_in (take i ts) ++ l) (append-nil (rows_in (get_or ts i d))))

-- a row of three parts
abbrev pub shown_of : Option (List ℕ) → Mapped → List ℕ → Shown
shown_of remote mapping text = record { remote = remote; mapping = mapping; text = text }

-- one more element of a list, whose image is that of an element of another
pub mapped_more : {X A B : Type 0} (f : X → B) (g : A → B) (xs : List A) (i : ℕ) (d : A) (before : List B)
    (ys more : List X) (y : X) → i < length xs → f y ≡ g (get_or xs i d) → more ≡ ys ++ y ∷ []
    → map f ys ≡ before ++ map g (take i xs) → map f more ≡ before ++ map g (take (i + 1) xs)
mapped_more f g xs i d before ys more y below same grown so_far =
    let front = map g (take i xs) in
    ap (map f) grown ∙ (map-append f ys (y ∷ []) ∙ (ap (λ l. l ++ f y ∷ []) so_far
    ∙ (append_assoc before front (f y ∷ []) ∙ (ap (λ z. before ++ (front ++ z ∷ [])) same
    ∙ ap (λ l. before ++ l) (sym (map_more g xs i d below))))))

-- the row of a mapping with the text of its spec
pub row_same : (t : Tracked) (texts : List BString) (text : List ℕ) (m : Mapping) → texts ≡ t.texts.items
    → text ≡ unwrap_or (slice_get (map bstring_bytes texts) (mapped_of m).spec) []
    → shown_of (option_map (λ n. n.now) t.name) (mapped_of m) text
    ≡ row_with (option_map (λ n. n.now) t.name) (map bstring_bytes t.texts.items) (mapped_of m)
row_same t texts text m same is =
    let at = λ (ts : List BString). unwrap_or (slice_get (map bstring_bytes ts) (mapped_of m).spec) [] in
    ap (shown_of (option_map (λ n. n.now) t.name) (mapped_of m)) (is ∙ ap at same)

-- a written ref for which Git finds this many remotes, of all
pub IsFound-by : (ts : List Tracked) (name : List ℕ) (count : ℕ) (f : Found) → IsWritten name (mappings_in ts)
    → count ≤ length ts → IsFoundBy count f → IsFound ts name f
IsFound-by ts name count how.Untracked is few by = absurd by
IsFound-by ts name count how.Tracked is few by = is
IsFound-by ts name count (how.Ambiguous n) is few by = (is, omega (arith, by.0, by.1), omega (arith, few, by.1))
