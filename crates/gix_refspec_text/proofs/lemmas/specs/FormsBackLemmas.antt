-- Each form is printed as a text that reads back with the same meaning.
use Rattle.gix_refspec_text.proofs.Common.{[], cases_Bool, ◌≡◌, ◌≢◌, inl, inr, ℕ, Bool, List, ◌∷◌, ◌++◌, Option, None}
use Rattle.gix_refspec_text.proofs.Common.{Some, option_map, refl, sym, ap, ◌∙◌, subst, arith, Operation, Push, Fetch}
use Rattle.gix_refspec_text.proofs.Common.{Lacks, IsName, IsPattern, star, caret, colon, head, Mode, Normal, Forced}
use Rattle.gix_refspec_text.proofs.Common.{Negative, Reading, named_by, IsPositive, IsNameOrPattern, AreAlike, AreParts}
use Rattle.gix_refspec_text.proofs.Common.{LooksLikeObjectHash, fetched, pushed, Reads, fetches_nothing_named}
use Rattle.gix_refspec_text.proofs.Common.{fetches_colon, fetches, updates, updates_from_head, fetch_excludes}
use Rattle.gix_refspec_text.proofs.Common.{pushes_plus, pushes_colon, pushes, deletes, pushes_pattern, pushes_to}
use Rattle.gix_refspec_text.proofs.Common.{push_excludes, meaning, meaning_of, included, printed, text_of, sign}
use Rattle.gix_refspec_text.proofs.Common.{begins_with_plus, push_all_matching, push_delete, push_matching}
use Rattle.gix_refspec_text.proofs.Common.{push_exclude, fetch_only, fetch_exclude, fetch_and_update, IsPrintedBack}
use Rattle.gix_refspec_text.proofs.Common.{ReadsOrRefused, EqualTexts, same_Some, true, false, at, Meaning}
use Rattle.gix_refspec_text.proofs.lemmas.parsing.SideLemmas.{Lacks-name, HasStar-pattern}
use Rattle.gix_refspec_text.proofs.lemmas.parsing.DecideLemmas.{read_or_refused}
use Rattle.gix_refspec_text.proofs.lemmas.texts.HeadLemmas.{IsName-head, Lacks-colon_name, unsigned_name}
use Rattle.gix_refspec_text.proofs.lemmas.texts.HeadLemmas.{Lacks-colon_pattern}
use Rattle.gix_refspec_text.proofs.lemmas.parsing.ReadsLemmas.{alike_full, name_not_empty, pattern_not_empty}
use Rattle.gix_refspec_text.proofs.lemmas.parsing.ReadsLemmas.{either_not_empty}
use Rattle.gix_refspec_text.proofs.lemmas.parsing.ReadOnceLemmas.{reads_once}
use Rattle.gix_refspec_text.proofs.lemmas.texts.TextLemmas.{Lacks-ContainsText}

-- a reading is printed back, given its meaning, and the reading of its canonical text, with the same meaning
printed_back : (op : Operation) (r q : Reading) (m : Meaning) → meaning_of r ≡ Some m → meaning_of q ≡ Some m
    → Reads op (text_of m) q → IsPrintedBack op r
printed_back op r q m says again reads =
    let once = λ (p : Reading) (by_p : Reads op (text_of m) p). reads_once op (text_of m) p q by_p reads in
    record {
      text = text_of m;
      is = ap (option_map text_of) says;
      again =
          record { reading = q; reads = reads; only = once };
      same = again ∙ sym says;
    }

pub named_so : (P : List ℕ → Type 0) (s : List ℕ) → P head → P s → P (named_by s)
named_so P s of_head of_s = grind arith

pub named_name : (s : List ℕ) → IsName s → IsName (named_by s)
named_name s name = named_so IsName s IsName-head name

pub named_once : (s : List ℕ) → named_by (named_by s) ≡ named_by s
named_once s = grind arith

-- a pattern names itself, as it isn't `@`, which has no star
pub named_pattern : (s : List ℕ) → IsPattern s → named_by s ≡ s
named_pattern s pattern = let other : s ≢ at ∷ [] = λ same. Lacks-ContainsText star s (rw same (omega arith))
    (HasStar-pattern s pattern) in grind arith

pub named_either : (s : List ℕ) → IsNameOrPattern s → IsNameOrPattern (named_by s)
named_either s h = grind (arith, named_name, named_pattern)

pub Lacks-colon_either : (s : List ℕ) → IsNameOrPattern s → Lacks colon s
Lacks-colon_either s h = grind (arith, Lacks-colon_name, Lacks-colon_pattern)

-- the flag of a positive mode, and its text
abbrev pub is_forced : Mode → Bool
is_forced Forced = true
is_forced _ = false

pub named_parts : (m : Mode) (s t : List ℕ) (d : Option (List ℕ)) (text : List ℕ) → IsPositive m → s ≢ []
    → AreParts m s d text → Lacks colon t → AreParts m (named_by s) (Some t)
    (sign (is_forced m) ++ (named_by s ++ (colon ∷ t)))
named_parts m s t d text pos full parts lacks = grind arith

means : (op : Operation) (m : Mode) (s d : Option (List ℕ)) → IsPositive m → meaning op m s d ≡ included op
    (is_forced m) s d
means op m s d pos = grind arith

back_only : (m : Mode) (s : List ℕ) → IsPositive m → IsName s → named_by s ≡ s → IsPrintedBack Fetch (fetched m s None)
back_only m s pos name once = elim (cases_Bool (begins_with_plus s)) [
  | inl so ↦ printed_back Fetch _ (fetched Forced s None) (fetch_only s) (means Fetch m (Some s) None pos) refl
      (rw so (fetches Forced s refl tt (inl (record { signed = refl; last = Lacks-colon_name s name })) name (rw once)))
  | inr other ↦ printed_back Fetch _ (fetched Normal s None) (fetch_only s) (means Fetch m (Some s) None pos) refl
      (rw other (fetches Normal s refl tt
      (inl (record { signed = (refl, unsigned_name s name other); last = Lacks-colon_name s name })) name
      (rw once)))
]

back_update : (m : Mode) (s d text : List ℕ) → IsPositive m → AreParts m s (Some d) text → AreAlike s d
    → IsPrintedBack Fetch (fetched m (named_by s) (Some d))
back_update m s d text pos parts alike =
    let says = means Fetch m (Some (named_by s)) (Some d) pos in
    let again = named_parts m s d (Some d) text pos (alike_full s d alike).0 parts parts.last in
    printed_back Fetch _ (fetched m (named_by s) (Some d)) (fetch_and_update (named_by s) d (is_forced m)) says says
    (updates m (named_by s) d refl pos again (grind (arith, named_name, named_pattern)) (rw (named_once s)))

named_hash : (s : List ℕ) → ¬ (LooksLikeObjectHash s) → ¬ (LooksLikeObjectHash (named_by s))
named_hash s other = named_so (λ (x : List ℕ). ¬ (LooksLikeObjectHash x)) s (λ hash. omega (arith, hash.long)) other

excluded_parts : (s : List ℕ) → IsNameOrPattern s → AreParts Negative (named_by s) None (caret ∷ named_by s)
excluded_parts s either = record { signed = refl; last = Lacks-colon_either (named_by s) (named_either s either) }

back_all : (m : Mode) → IsPositive m → IsPrintedBack Push (pushed m None None)
back_all m pos =
    let says = means Push m None None pos in
    printed_back Push _ _ (push_all_matching (is_forced m)) says says (pushes_colon m refl pos (grind arith) refl)

reads_twice : (m : Mode) (s text : List ℕ) → IsPositive m → AreParts m s (Some s) text → IsNameOrPattern s
    → Reads Push text (pushed m (Some (named_by s)) (Some s))
reads_twice m s text pos parts (inl name) = pushes_to m s s refl pos parts (name_not_empty s name)
    (Lacks-name s name) name refl
reads_twice m s text pos parts (inr pattern) = pushes_pattern m s s refl pos parts pattern pattern refl

back_push : (m : Mode) (s d : List ℕ) → IsPositive m → Reads Push (sign (is_forced m) ++ (named_by s ++ (colon ∷ d)))
    (pushed m (Some (named_by s)) (Some d)) → IsPrintedBack Push (pushed m (Some (named_by s)) (Some d))
back_push m s d pos reads = let says = means Push m (Some (named_by s)) (Some d) pos in printed_back Push _ _
    (push_matching (named_by s) d (is_forced m)) says says reads

pub read_back : (op : Operation) (text : List ℕ) (r : Reading) → Reads op text r → IsPrintedBack op r
read_back op text r (fetches_nothing_named m fetch pos parts is) =
    rw (fetch, is) (back_only m head pos IsName-head refl)
read_back op text r (fetches_colon m fetch pos parts is) = rw (fetch, is) (back_only m head pos IsName-head refl)
read_back op text r (fetches m s fetch pos parts name is) =
    rw (fetch, is) (back_only m (named_by s) pos (named_name s name) (named_once s))
read_back op text r (updates m s d fetch pos parts alike is) = rw (fetch, is) (back_update m s d text pos parts alike)
read_back op text r (updates_from_head m d fetch pos parts name is) =
    let lacks = Lacks-colon_name d name in
    rw (fetch, is) (back_update m head d (sign (is_forced m) ++ (head ++ (colon ∷ d))) pos (grind arith)
    (inl (IsName-head, name)))
read_back op text r (fetch_excludes s fetch parts either hash is) =
    let t = named_by s in
    rw (fetch, is) (printed_back Fetch _ (fetched Negative t None) (fetch_exclude t) refl refl
    (fetch_excludes t refl (excluded_parts s either) (named_either s either) (named_hash s hash)
    (rw (named_once s))))
read_back op text r (pushes_plus push parts is) = rw (push, is) (back_all Forced tt)
read_back op text r (pushes_colon m push pos parts is) = rw (push, is) (back_all m pos)
read_back op text r (pushes m s push pos parts either is) =
    let t = named_by s in
    let again = named_parts m s t None text pos (either_not_empty s either) parts
    (Lacks-colon_either t (named_either s either)) in
    rw (push, is) (printed_back Push _ (pushed m (Some t) (Some t)) (push_matching t t (is_forced m))
    (means Push m (Some t) None pos) (means Push m (Some t) (Some t) pos)
    (rw (named_once s) at (reads_twice m t _ pos again (named_either s either))))
read_back op text r (deletes m d push pos parts name is) =
    rw (push, is) (printed_back Push _ (pushed Normal None (Some d)) (push_delete d) (means Push m None (Some d) pos)
    refl
    (deletes Normal d refl tt (record { signed = (refl, omega arith); last = Lacks-colon_name d name }) name refl))
read_back op text r (pushes_pattern m s d push pos parts source destination is) =
    let pattern = subst IsPattern (sym (named_pattern s source)) source in
    let again = named_parts m s d (Some d) text pos (pattern_not_empty s source) parts parts.last in
    rw (push, is)
    (back_push m s d pos (pushes_pattern m (named_by s) d refl pos again pattern destination (rw (named_once s))))
read_back op text r (pushes_to m s d push pos parts full plain name is) =
    let lacks = named_so (Lacks star) s (Lacks-name head IsName-head) plain in
    let again = named_parts m s d (Some d) text pos full parts parts.last in
    rw (push, is)
    (back_push m s d pos
    (pushes_to m (named_by s) d refl pos again (named_so (λ (y : List ℕ). y ≢ []) s (λ same. cc) full) lacks name
    (rw (named_once s))))
read_back op text r (push_excludes s push parts either hash is) =
    let t = named_by s in
    rw (push, is) (printed_back Push _ (pushed Negative (Some t) None) (push_exclude t) refl refl
    (push_excludes t refl (excluded_parts s either) (named_either s either) (named_hash s hash)
    (rw (named_once s))))

pub once_or_refused : (op : Operation) (text : List ℕ) → ReadsOrRefused op text
once_or_refused op text =
    elim (read_or_refused op text) [
      | inl (q, reads) ↦
          inl (record { reading = q; reads = reads; only = λ r by_r. reads_once op text r q by_r reads })
      | inr refusal ↦
          inr refusal
    ]

same_meaning_by_text : (op : Operation) (r q : Reading) → IsPrintedBack op r → IsPrintedBack op q
    → printed r ≡ printed q → meaning_of r ≡ meaning_of q
same_meaning_by_text op r q back_r back_q same =
    let texts = same_Some back_r.text back_q.text (sym back_r.is ∙ (same ∙ back_q.is)) in
    let again = back_q.again.only back_r.again.reading
    (subst (λ (x : List ℕ). Reads op x back_r.again.reading) texts back_r.again.reads) in
    sym back_r.same ∙ (ap meaning_of again ∙ back_q.same)

pub equal_texts : (op : Operation) (a b : List ℕ) → EqualTexts op a b
equal_texts op a b r q by_r by_q = (
  λ same. ap (option_map text_of) same,
  λ same. same_meaning_by_text op r q (read_back op a r by_r)
      (read_back op b q by_q) same,
)
