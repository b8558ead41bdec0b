-- Lines of refs: where their ids end, and the refs after many lines.
use Rattle.std.proofs.Common.{◌≡◌, ◌≢◌, ◌↔◌, Bool, true, false, not, ◌||◌, MatchBool, IsTrue, Bor, append_assoc, ℕ, ◌+◌}
use Rattle.std.proofs.Common.{◌-◌, ◌<◌, inl, inr, Option, None, Some, List, [], ◌∷◌, ◌++◌, map, length, take, drop}
use Rattle.std.proofs.Common.{get_or, refl, sym, ap, ◌∙◌, subst, length-append, arith}
use Rattle.std.proofs.Math.Seq.{get_or-append_seam, take-append_seam, drop-append_seam, take-length}
use Rattle.std.proofs.lemmas.List.{append-nil, length-map, map-append, take_more}
use Rattle.std.proofs.lemmas.Option.{get_or_from_slice_get, slice_get-map, slice_get_within}
use Rattle.std.specs.List.{slice_get}
use Rattle.std.specs.Option.{IfNone, option_map}
use Rattle.gix_refspec.specs.Matching.Match.{Ref}
use Rattle.gix_refspec.specs.Laws.Items.{HaveSameNames}
use Rattle.gix_refspec.specs.Views.Group.{ref_of}
use Rattle.gix_refspec_match.specs.declared.types.Item.{Item}
use Rattle.bstr.specs.BStr.{bstr_bytes}
use Rattle.gix_refspec.specs.Texts.ObjectId.{digits_of}
use Rattle.gix_refspec.specs.Texts.Words.{ContainsText, Lacks}
use Rattle.gix_refspec_text.specs.declared.oid.Kind.{Kind}
use Rattle.gix_refspec_text.specs.declared.oid.Kind.TheVariants.{Sha1, Sha256}
use Rattle.gix_refspec_text.proofs.lemmas.texts.TextLemmas.{Lacks-ContainsText}
use Rattle.refspec_io.specs.Input.{AreRecords, IsFirstRecord}
use Rattle.refspec_io.specs.Refs.{AddsLine, AddsLineByNames, AddsRefs, AddsListed, HasLast, IsIdThen, IsLast}
use Rattle.refspec_io.specs.Refs.{IsNoRefLine, IsOneWord, ListsNames, ListsRefs, ListsName, peeled}
use Rattle.refspec_io.proofs.RecordLemmas.{first_and_more}

-- a text that isn't empty is one word exactly if it contains no white space
pub one_word_if : (text : List ℕ) (newline return tab gap : Bool) → text ≢ []
    → MatchBool newline (ContainsText (10 ∷ []) text) (Lacks 10 text) → MatchBool return (ContainsText (13 ∷ []) text)
    (Lacks 13 text) → MatchBool tab (ContainsText (9 ∷ []) text) (Lacks 9 text)
    → MatchBool gap (ContainsText (32 ∷ []) text) (Lacks 32 text)
    → MatchBool (not ((newline || return) || (tab || gap))) (IsOneWord text) (¬ (IsOneWord text))
one_word_if text true r t g full n is_r is_t is_g = λ word. Lacks-ContainsText 10 text word.2 n
one_word_if text false true t g full n is_r is_t is_g = λ word. Lacks-ContainsText 13 text word.3 is_r
one_word_if text false false true g full n is_r is_t is_g = λ word. Lacks-ContainsText 9 text word.1 is_t
one_word_if text false false false true full n is_r is_t is_g = λ word. Lacks-ContainsText 32 text word.4 is_g
one_word_if text false false false false full n is_r is_t is_g = (full, is_t, n, is_r, is_g)

-- the byte after n digits is the space, and the name is after it
pub space_at : (line digits name : List ℕ) (space n : ℕ) → length digits ≡ n → line ≡ digits ++ (space ∷ name)
    → (n < length line) × (get_or line n 0 ≡ space) × (take n line ≡ digits) × (drop n line ≡ space ∷ name)
space_at line digits name space n long here = (
  omega (arith, ap length here, length-append digits (space ∷ name)),
  ap (λ l. get_or l n 0) here ∙ (ap (λ k. get_or (digits ++ (space ∷ name)) k 0) (sym long)
      ∙ get_or-append_seam digits space name 0),
  ap (take n) here ∙ (ap (λ k. take k (digits ++ (space ∷ name))) (sym long) ∙ take-append_seam digits (space ∷ name)),
  ap (drop n) here ∙ (ap (λ k. drop k (digits ++ (space ∷ name))) (sym long) ∙ drop-append_seam digits (space ∷ name)),
)

-- a line without digits of either length isn't an id and a name
pub IsNoRefLine-of : (line : List ℕ)
    → ((id name : List ℕ) (says : IsIdThen line id name) → ¬ (length says.digits ≡ digits_of Sha1))
    → ((id name : List ℕ) (says : IsIdThen line id name) → ¬ (length says.digits ≡ digits_of Sha256)) → IsNoRefLine line
IsNoRefLine-of line no_short no_long id name says = by_kind says.spelled.kind says.spelled.digits
  where
    by_kind : (kind : Kind) → length says.digits ≡ digits_of kind → ⊥
    by_kind Sha1 long = no_short id name says long
    by_kind Sha256 long = no_long id name says long

-- one more line
AddsRefs-append : (lines : List (List ℕ)) (line : List ℕ) (old mid new : List Ref) (bad one : List (List ℕ))
    → AddsRefs lines old mid bad → AddsLine line mid new one → AddsRefs (lines ++ line ∷ []) old new (bad ++ one)
AddsRefs-append [] line old mid new bad one none more = (
  new,
  one,
  [],
  subst (λ (l : List Ref). AddsLine line l new one) none.0 more,
  (refl, refl),
  ap (λ b. b ++ one) none.1 ∙ sym (append-nil one),
)
AddsRefs-append (l ∷ lines) line old mid new bad one (more, first, rest, adds, those, all) last = (
  more,
  first,
  rest ++ one,
  adds,
  AddsRefs-append lines line more mid new rest one those last,
  ap (λ b. b ++ one) all
      ∙ append_assoc first rest one,
)

-- some records list the refs so far, and any split of the rest completes these records to those of the input
abbrev ListsSoFar : ℕ → List Ref → List (List ℕ) → List ℕ → List ℕ → Type 0
ListsSoFar end refs bad rest input = (done : List (List ℕ)) × ((more : List (List ℕ)) → AreRecords end more rest
    → AreRecords end (done ++ more) input) × AddsRefs done [] refs bad

-- at the start the whole input is the rest
ListsSoFar-start : (end : ℕ) (refs : List Ref) (bad : List (List ℕ)) (input : List ℕ) → refs ≡ [] → bad ≡ []
    → ListsSoFar end refs bad input input
ListsSoFar-start end refs bad input none no_bad = ([], (λ more split. split), (none, no_bad))

-- one more record
ListsSoFar-more : (end : ℕ) (old new : List Ref) (bad one : List (List ℕ)) (text first rest input : List ℕ) → text ≢ []
    → IsFirstRecord end text first rest → AddsLine first old new one → ListsSoFar end old bad text input
    → ListsSoFar end new (bad ++ one) rest input
ListsSoFar-more end old new bad one text first rest input full is line (done, split, reported) = (
  done ++ first ∷ [],
  (λ more those. subst (λ (rs : List (List ℕ)). AreRecords end rs input) (sym (append_assoc done (first ∷ []) more))
      (split (first ∷ more) (first_and_more end text first rest more full is.0 those is.1))),
  AddsRefs-append done first [] old new bad one reported line,
)

-- at the end the rest is empty
ListsRefs-end : (end : ℕ) (refs : List Ref) (bad : List (List ℕ)) (rest input : List ℕ) → rest ≡ []
    → ListsSoFar end refs bad rest input → ListsRefs end input refs bad
ListsRefs-end end refs bad rest input none (done, split, reported) =
    (done, subst (λ (rs : List (List ℕ)). AreRecords end rs input) (append-nil done) (split [] none), reported)

-- a fact about None implies its consequence
pub on_none : {T : Type 0} (r : Option T) (P Q : Type 0) → IfNone r P → (P → Q) → IfNone r Q
on_none None P Q holds gives = gives holds
on_none (Some x) P Q holds gives = holds

-- ---- names

abbrev name_of : Ref → List ℕ
name_of r = r.name

-- the list is the other refs and the last one
last_after : (refs : List Ref) (r : Ref) → IsLast refs r → refs ≡ take (length refs - 1) refs ++ r ∷ []
last_after refs r last =
    let below : length refs - 1 < length refs = slice_get_within refs (length refs - 1) r last in
    let all : length refs ≡ (length refs - 1) + 1 = omega (arith, below) in
    let is : get_or refs (length refs - 1) r ≡ r = get_or_from_slice_get refs (length refs - 1) r r last in
    sym (take-length refs)
    ∙ (ap (λ k. take k refs) all
    ∙ (take_more refs (length refs - 1) r below ∙ ap (λ (x : Ref). take (length refs - 1) refs ++ x ∷ []) is))

-- replacing the last ref by one with the same name keeps the names
replaced_names : (refs : List Ref) (r q : Ref) → IsLast refs r → r.name ≡ q.name
    → HaveSameNames refs (take (length refs - 1) refs ++ q ∷ [])
replaced_names refs r q last same =
    let front = take (length refs - 1) refs in
    ap (map name_of) (last_after refs r last)
    ∙ (map-append name_of front (r ∷ [])
    ∙ (ap (λ (n : List ℕ). map name_of front ++ n ∷ []) same ∙ sym (map-append name_of front (q ∷ []))))

-- the last name is that of the last ref
last_name : (refs : List Ref) (n : List ℕ) → slice_get (map name_of refs) (length refs - 1) ≡ Some n → HasLast refs n
last_name refs n is = found (slice_get refs (length refs - 1)) refl (sym (slice_get-map name_of refs (length refs - 1))
    ∙ is)
  where
    found : (r : Option Ref) → slice_get refs (length refs - 1) ≡ r → option_map name_of r ≡ Some n → HasLast refs n
    found None here named = absurd (cc)
    found (Some r) here named = (r, here, cc)

name_last : (refs : List Ref) (n : List ℕ) → HasLast refs n → slice_get (map name_of refs) (length refs - 1) ≡ Some n
name_last refs n (r, last, named) = slice_get-map name_of refs (length refs - 1)
    ∙ (ap (option_map name_of) last ∙ ap Some named)

pub HasLast-iff : (items : List Item) (last : Bor Item) (n : List ℕ) (named : Bool) → Some last.now ≡ slice_get items
    (length items - 1) → (IsTrue named ↔ (bstr_bytes last.now.full_ref_name ≡ n))
    → IsTrue named ↔ HasLast (map ref_of items) n
HasLast-iff items last n named is (to, back) =
    let refs = map ref_of items in
    let here : slice_get refs (length refs - 1) ≡ Some (ref_of last.now) = ap (λ k. slice_get refs (k - 1))
    (length-map items ref_of) ∙ (slice_get-map ref_of items (length items - 1) ∙ ap (option_map ref_of) (sym is)) in (
      λ yes. (ref_of last.now, here, to yes),
      λ has. back (one (ref_of last.now) has.0 (sym here ∙ has.1) has.2),
    )
  where
    one : (r q : Ref) → Some r ≡ Some q → q.name ≡ n → r.name ≡ n
    one r q same is = let whole : r ≡ q = cc in ap name_of whole ∙ is

-- and that of other refs with the same names
last_also : (refs others : List Ref) (n : List ℕ) → HaveSameNames refs others → HasLast refs n → HasLast others n
last_also refs others n same has =
    let long : length others ≡ length refs = sym (length-map others name_of)
    ∙ (ap length (sym same) ∙ length-map refs name_of) in
    last_name others n (ap (λ k. slice_get (map name_of others) (k - 1)) long
    ∙ (ap (λ ns. slice_get ns (length refs - 1)) (sym same) ∙ name_last refs n has))

-- a good line, and a bad one
AddsListed-good : (line : List ℕ) (old new : List Ref) (bad_old bad_new : List (List ℕ))
    → AddsLineByNames line old new [] → bad_new ≡ bad_old → AddsListed line old new bad_old bad_new
AddsListed-good line old new bad_old bad_new adds same = ([], adds, same ∙ sym (append-nil bad_old))

-- the line of a ref
pub AddsListed-ref : (line : List ℕ) (r : Ref) (old new : List Ref) (bad_old bad_new : List (List ℕ))
    → ListsName line r.name → ((tag : List ℕ) → ¬ (r.name ≡ tag ++ peeled)) → new ≡ old ++ r ∷ [] → bad_new ≡ bad_old
    → AddsListed line old new bad_old bad_new
AddsListed-ref line r old new bad_old bad_new (id, says) whole grown same_bad =
    AddsListed-good line old new bad_old bad_new adds same_bad
  where
    adds : AddsLineByNames line old new []
    adds refs same =
        let reported : Ref = record { name = r.name; target = id; object = None } in (
          refs ++ reported ∷ [],
          inl (reported, record { says = says; whole = whole; object = refl }, refl, refl),
          ap (map name_of) grown
              ∙ (map-append name_of old (r ∷ [])
              ∙ (ap (λ ns. ns ++ r.name ∷ []) same ∙ sym (map-append name_of refs (reported ∷ [])))),
        )

-- the line of a peeled tag, which is the last ref
pub AddsListed-peeled : (line tag : List ℕ) (old new : List Ref) (bad_old bad_new : List (List ℕ))
    → ListsName line (tag ++ peeled) → HasLast old tag → new ≡ old → bad_new ≡ bad_old
    → AddsListed line old new bad_old bad_new
AddsListed-peeled line tag old new bad_old bad_new (id, says) has stays same_bad =
    AddsListed-good line old new bad_old bad_new adds same_bad
  where
    adds : AddsLineByNames line old new []
    adds refs same =
        let (r, last, named) = last_also old refs tag same has in
        let joined : Ref = record r { object = Some id } in (
          take (length refs - 1) refs ++ joined ∷ [],
          inr (inl (
            record {
              tag = r;
              id = id;
              says = subst (λ (x : List ℕ). IsIdThen line id (x ++ peeled))
                  (sym named) says;
              last = last;
              joined = refl;
            },
            refl,
          )),
          ap (map name_of) stays ∙ (same ∙ replaced_names refs r joined last refl),
        )

-- the line of a peeled tag that isn't the last ref
pub AddsListed-elsewhere : (line tag : List ℕ) (old new : List Ref) (bad_old bad_new : List (List ℕ))
    → ListsName line (tag ++ peeled) → ¬ (HasLast old tag) → new ≡ old → bad_new ≡ bad_old ++ line ∷ []
    → AddsListed line old new bad_old bad_new
AddsListed-elsewhere line tag old new bad_old bad_new (id, says) missing stays grown = (
  line ∷ [],
  (λ refs same. (
    refs,
    inr (inr (
      inl (record {
        tag = tag;
        id = id;
        says = says;
        elsewhere =
            λ has. missing (last_also refs old tag (sym same) has);
      }),
      refl,
      refl,
    )),
    ap (map name_of) stays ∙ same,
  )),
  grown,
)

-- a line that isn't an id and a name
pub AddsListed-none : (line : List ℕ) (old new : List Ref) (bad_old bad_new : List (List ℕ)) → IsNoRefLine line
    → new ≡ old → bad_new ≡ bad_old ++ line ∷ [] → AddsListed line old new bad_old bad_new
AddsListed-none line old new bad_old bad_new none stays grown =
    (line ∷ [], (λ refs same. (refs, inr (inr (inr none, refl, refl)), ap (map name_of) stays ∙ same)), grown)

-- some records list refs with the names so far, and any split of the rest completes these records
abbrev pub ListsNamesSoFar : ℕ → List Ref → List (List ℕ) → List ℕ → List ℕ → Type 0
ListsNamesSoFar end named bad rest input = (refs : List Ref) × ListsSoFar end refs bad rest input
    × HaveSameNames named refs

pub ListsNamesSoFar-start : (end : ℕ) (named : List Ref) (bad : List (List ℕ)) (input : List ℕ) → named ≡ [] → bad ≡ []
    → ListsNamesSoFar end named bad input input
ListsNamesSoFar-start end named bad input none no_bad =
    ([], ListsSoFar-start end [] bad input refl no_bad, ap (map name_of) none)

pub ListsNamesSoFar-more : (end : ℕ) (old new : List Ref) (bad_old bad_new : List (List ℕ))
    (text first rest input : List ℕ) → text ≢ [] → IsFirstRecord end text first rest
    → AddsListed first old new bad_old bad_new → ListsNamesSoFar end old bad_old text input
    → ListsNamesSoFar end new bad_new rest input
ListsNamesSoFar-more end old new bad_old bad_new text first rest input full is (one, adds, grown)
    (refs, reported, same) =
    let (more, line, also) = adds refs same in
    subst (λ (b : List (List ℕ)). ListsNamesSoFar end new b rest input) (sym grown)
    (more, ListsSoFar-more end refs more bad_old one text first rest input full is line reported, also)

pub ListsNames-end : (end : ℕ) (named : List Ref) (bad : List (List ℕ)) (rest input : List ℕ) → rest ≡ []
    → ListsNamesSoFar end named bad rest input → ListsNames end input named bad
ListsNames-end end named bad rest input none (refs, reported, same) =
    (refs, ListsRefs-end end refs bad rest input none reported, same)
