-- The remotes and the specs that arguments choose.
use Rattle.std.proofs.Common.{◌≡◌, ◌≢◌, ◌⊎◌, ◌∙◌, ◌↔◌, ◌+◌, ◌<◌, ◌==◌, inl, inr, ℕ, suc, Bool, Bor, IsTrue, List, []}
use Rattle.std.proofs.Common.{◌∷◌, ◌++◌, MatchBool, Option, None, Some, ap, append-nil, append_assoc, arith, cond}
use Rattle.std.proofs.Common.{drop, false, not}
use Rattle.std.proofs.Common.{get_or, length, map, option_map, refl, subst, sym, take, true}
use Rattle.std.proofs.lemmas.Bool.{false≢true}
use Rattle.std.proofs.lemmas.List.{length-map, length-take-le, map-append}
use Rattle.std.proofs.lemmas.List.Elements.{All-nil, All-push, Contains-append_left, Contains-push, Contains-push_cases}
use Rattle.std.proofs.lemmas.Map.Text.{is_eq-slice_cmp}
use Rattle.std.proofs.lemmas.Slice.Eq.{bytes_eq-Decides}
use Rattle.std.specs.BTreeMap.{is_at}
use Rattle.std.specs.BTreeSet.{BTreeSet, Updates, contains_by}
use Rattle.std.specs.Cmp.Lexicographic.{slice_cmp}
use Rattle.std.specs.List.{All, AllZip, Any, Contains, list_any}
use Rattle.std.specs.Option.{option_to_list}
use Rattle.std.specs.Ordering.{is_eq, nat_cmp}
use Rattle.gix_refspec_match.proofs.lemmas.lists.SomeLemmas.{Any-right, some_at}
use Rattle.refspec_io.specs.declared.settings.Setting.{Setting}
use Rattle.refspec_io.specs.declared.checked.Checked.{Checked}
use Rattle.refspec_io.specs.declared.texts.Text.{Text}
use Rattle.refspec_io.specs.Read.{AreGood, HasBad, IsChecked}
use Rattle.refspec_io.specs.Settings.{HasLacking}
use Rattle.refspec_io.specs.Texts.{AddsValues, AreValues, Given, given_of}
use Rattle.refspec_io.proofs.CheckedLemmas.{DecidesRefused-of}
use Rattle.refspec_request.specs.declared.arguments.Request.{Request}
use Rattle.refspec_request.specs.declared.choice.Repository.{Repository}
use Rattle.refspec_request.specs.declared.refusal.Refusal.{Refusal}
use Rattle.refspec_request.specs.Choices.{HasNoOldForm, IsOldForm, NamesRemote}
use Rattle.refspec_request.proofs.ArgumentLemmas.{arguments_at}
use Rattle.refspec_git.specs.declared.answer.Stop.{Stop}
use Rattle.refspec_git.specs.declared.answer.Stop.TheVariants as stop
use Rattle.refspec_git.specs.Chosen.{AreNamed, AreSplit, AreUsable, AreValuesOf, HasNames, HasUnusable, IsAmong}
use Rattle.refspec_git.specs.Chosen.{IsRemote, IsSpec, IsValueOf}
use Rattle.refspec_git.specs.Chosen.{NamesNothing, RefusesNamed, RefusesNext, StopsAt, remote_of}
use Rattle.refspec_git.proofs.AskedLemmas.{empty, not_empty}

abbrev now : Bor (List ℕ) → List ℕ
now it = it.now

-- the remote of --remote
pub remote_is : (request : Request) (name : Bor (List ℕ)) → request.remote ≡ Some name
    → remote_of request ≡ name.now ∷ []
remote_is request name is = ap (λ (o : Option (Bor (List ℕ))). option_to_list (option_map now o)) is

-- so many are taken
pub count_taken : (all : List (Bor (List ℕ))) (i : ℕ) → i < length all → length (map now (take i all)) ≡ i
count_taken all i below = length-map (take i all) now ∙ length-take-le i all (omega (arith, below))

-- an option has a value
pub some_given : {X : Type 0} (o : Option X) (x : X) → o ≡ Some x → o ≢ None
some_given o x is e =
    let both : None ≡ Some x = sym e ∙ is in
    cc

-- each remote is among all
pub all_among : (o : Option (BTreeSet (Bor (List ℕ)))) (name : List ℕ) → o ≡ None → IsTrue true ↔ IsAmong o name
all_among o name none = ((λ so. subst (λ z. IsAmong z name) (sym none) tt), λ is. refl)

-- a remote is among some if their set contains it
pub some_among : (o : Option (BTreeSet (Bor (List ℕ)))) (names : BTreeSet (Bor (List ℕ))) (name : List ℕ)
    (test : Bool) → o ≡ Some names → test ≡ contains_by (λ n. slice_cmp nat_cmp name n.now) names
    → IsTrue test ↔ IsAmong o name
some_among o names name test is tested = (
  (λ so. subst (λ z. IsAmong z name) (sym is) (sym tested ∙ so)),
  λ has. tested ∙ subst (λ z. IsAmong z name) is has,
)

-- one more setting that is a value
pub value_kept : (names : Option (BTreeSet (Bor (List ℕ)))) (settings values : List Setting) (s : Setting)
    → AreValuesOf names settings values → IsValueOf names s → AreValuesOf names (settings ++ s ∷ []) (values ++ s ∷ [])
value_kept names [] values s none is = inl (is, [], refl, ap (λ l. l ++ s ∷ []) none)
value_kept names (x ∷ settings) values s (inl (own, rest, are, parts)) is =
    inl (own, rest ++ s ∷ [], value_kept names settings rest s are is, ap (λ l. l ++ s ∷ []) parts)
value_kept names (x ∷ settings) values s (inr (other, are)) is = inr (other, value_kept names settings values s are is)

-- one more that is none
pub value_skipped : (names : Option (BTreeSet (Bor (List ℕ)))) (settings values : List Setting) (s : Setting)
    → AreValuesOf names settings values → ¬ (IsValueOf names s) → AreValuesOf names (settings ++ s ∷ []) values
value_skipped names [] values s none skips = inr (skips, none)
value_skipped names (x ∷ settings) values s (inl (own, rest, are, parts)) skips =
    inl (own, rest, value_skipped names settings rest s are skips, parts)
value_skipped names (x ∷ settings) values s (inr (other, are)) skips =
    inr (other, value_skipped names settings values s are skips)

-- the values grew by it
pub value_added : (names : Option (BTreeSet (Bor (List ℕ)))) (settings old new : List Setting) (s : Setting)
    → new ≡ old ++ s ∷ [] → IsValueOf names s → AreValuesOf names settings old
    → AreValuesOf names (settings ++ s ∷ []) new
value_added names settings old new s grown is are =
    subst (AreValuesOf names (settings ++ s ∷ [])) (sym grown) (value_kept names settings old s are is)

-- a call names nothing if it has no arguments either
pub none_tested : (request : Request) (all : List (Bor (List ℕ))) (test : Bool) → request.remote ≡ None
    → all ≡ request.arguments.items → test ≡ (length all == 0)
    → MatchBool test (NamesNothing request) (¬ (NamesNothing request))
none_tested request all true none same tested = (none, sym same ∙ empty all tested)
none_tested request all false none same tested = λ nothing. not_empty all tested (same ∙ nothing.1)

-- the set of no names is empty
names_none : (set : BTreeSet (Bor (List ℕ))) → set.keys ≡ [] → HasNames set []
names_none set none name = (
  (λ has. absurd (false≢true (sym (ap (list_any (is_at (λ (n : Bor (List ℕ)). slice_cmp nat_cmp name n.now))) none)
      ∙ has))),
  λ some. absurd (omega (arith, some.1)),
)

-- a name was inserted
names_more : (old new : BTreeSet (Bor (List ℕ))) (key : Bor (List ℕ)) (names : List (List ℕ))
    → Updates (λ x y. slice_cmp nat_cmp x.now y.now) old new key true → HasNames old names
    → HasNames new (names ++ key.now ∷ [])
names_more old new key names updates has name = by (is_eq (slice_cmp nat_cmp key.now name)) refl
    (updates.0 (record { ref_ptr = (0, 0); now = name }))
  where
    held : BTreeSet (Bor (List ℕ)) → Bool
    held set = contains_by (λ n. slice_cmp nat_cmp name n.now) set

    by : (b : Bool) → is_eq (slice_cmp nat_cmp key.now name) ≡ b → held new ≡ cond b true (held old)
        → IsTrue (held new) ↔ Contains (names ++ key.now ∷ []) name
    by true same found = (
      (λ _. subst (Contains (names ++ key.now ∷ []))
          ((bytes_eq-Decides key.now name).0 (sym (is_eq-slice_cmp key.now name) ∙ same))
          (Contains-push names key.now)),
      λ _. found,
    )
    by false other found = (
      (λ it. Contains-append_left names (key.now ∷ []) name ((has name).0 (sym found ∙ it))),
      λ some. back (Contains-push_cases names key.now name some),
    )
      where
        back : Contains names name ⊎ (key.now ≡ name) → IsTrue (held new)
        back (inl before) = found ∙ (has name).1 before
        back (inr here) = absurd (false≢true (sym other
            ∙ (is_eq-slice_cmp key.now name ∙ (bytes_eq-Decides key.now name).1 here)))

-- one more argument is a remote
remote_split : (request : Request) (r : Repository) (k : ℕ) (front names specs : List (List ℕ)) (a : List ℕ)
    → AreSplit request r k front names specs → IsRemote request r a
    → AreSplit request r k (front ++ a ∷ []) (names ++ a ∷ []) specs
remote_split request r k [] names specs a none is =
    inl (is, [], (refl, none.1), ap (λ l. l ++ a ∷ []) none.0)
remote_split request r k (x ∷ front) names specs a (inl (own, more, are, parts)) is = inl (
  own,
  more ++ a ∷ [],
  remote_split request r (k + 1) front more specs a are is,
  ap (λ l. l ++ a ∷ []) parts,
)
remote_split request r k (x ∷ front) names specs a (inr (own, more, are, parts)) is =
    inr (own, more, remote_split request r (k + 1) front names more a are is, parts)

-- or a spec
spec_split : (request : Request) (r : Repository) (k n : ℕ) (front names specs : List (List ℕ)) (a : List ℕ)
    → n ≡ k + length front → AreSplit request r k front names specs → IsSpec request r n a
    → AreSplit request r k (front ++ a ∷ []) names (specs ++ a ∷ [])
spec_split request r k n [] names specs a count none is =
    let same : n ≡ k = omega (arith, count) in
    inr (
      subst (λ m. IsSpec request r m a) same is,
      [],
      (none.0, refl),
      ap (λ l. l ++ a ∷ []) none.1,
    )
spec_split request r k n (x ∷ front) names specs a count (inl (own, more, are, parts)) is =
    let rest : n ≡ (k + 1) + length front = omega (arith, count) in
    inl (own, more, spec_split request r (k + 1) n front more specs a rest are is, parts)
spec_split request r k n (x ∷ front) names specs a count (inr (own, more, are, parts)) is =
    let rest : n ≡ (k + 1) + length front = omega (arith, count) in
    inr (
      own,
      more ++ a ∷ [],
      spec_split request r (k + 1) n front names more a rest are is,
      ap (λ l. l ++ a ∷ []) parts,
    )

-- the names grew by a remote
pub remote_added : (request : Request) (r : Repository) (front specs : List (List ℕ)) (a : Bor (List ℕ))
    (old new : BTreeSet (Bor (List ℕ))) → AreNamed request r front old specs → IsRemote request r a.now
    → Updates (λ x y. slice_cmp nat_cmp x.now y.now) old new a true
    → AreNamed request r (front ++ a.now ∷ []) new specs
remote_added request r front specs a old new are is updates = record {
  names = are.names ++ a.now ∷ [];
  known = are.known;
  split = remote_split request r 0 front are.names specs a.now are.split is;
  named = subst (HasNames new) (append_assoc (remote_of request) are.names (a.now ∷ []))
      (names_more old new a (remote_of request ++ are.names) updates are.named);
}

-- the specs grew by one
pub spec_added : (request : Request) (r : Repository) (front : List (List ℕ)) (a : List ℕ) (number : ℕ)
    (set : BTreeSet (Bor (List ℕ))) (old new : List (Bor (List ℕ))) (t : Bor (List ℕ)) → length front ≡ number
    → AreNamed request r front set (map now old) → IsSpec request r number a → t.now ≡ a → new ≡ old ++ t ∷ []
    → AreNamed request r (front ++ a ∷ []) set (map now new)
spec_added request r front a number set old new t count are is same grown =
    let counted : number ≡ 0 + length front = omega (arith, count) in
    record {
      names = are.names;
      known = are.known;
      split = subst (AreSplit request r 0 (front ++ a ∷ []) are.names)
          (sym (ap (map now) grown ∙ (map-append now old (t ∷ []) ∙ ap (λ x. map now old ++ x ∷ []) same)))
          (spec_split request r 0 number front are.names (map now old) a counted are.split is);
      named = are.named;
    }

-- nothing is named without --remote, before the arguments
pub named_none : (request : Request) (r : Repository) (set : BTreeSet (Bor (List ℕ))) (specs : List (List ℕ))
    → request.remote ≡ None → set.keys ≡ [] → specs ≡ [] → AreNamed request r [] set specs
named_none request r set specs is empty_set none =
    let nothing : remote_of request ≡ [] = ap (λ (o : Option (Bor (List ℕ))). option_to_list (option_map now o)) is in
    record {
      names = [];
      known = subst (All (NamesRemote r)) (sym nothing) (All-nil (NamesRemote r));
      split = (refl, none);
      named = subst (λ l. HasNames set (l ++ [])) (sym nothing) (names_none set empty_set);
    }

-- and its remote with it
pub named_one : (request : Request) (r : Repository) (name : Bor (List ℕ)) (old new : BTreeSet (Bor (List ℕ)))
    (specs : List (List ℕ)) → request.remote ≡ Some name → NamesRemote r name.now → old.keys ≡ []
    → Updates (λ x y. slice_cmp nat_cmp x.now y.now) old new name true → specs ≡ []
    → AreNamed request r [] new specs
named_one request r name old new specs is known empty_set updates none =
    let own = remote_is request name is in
    record {
      names = [];
      known = subst (All (NamesRemote r)) (sym own)
          (All-push (NamesRemote r) [] name.now (All-nil (NamesRemote r)) known);
      split = (refl, none);
      named = subst (λ l. HasNames new (l ++ [])) (sym own)
          (names_more old new name [] updates (names_none old empty_set));
    }

-- why an argument is refused, as the first
pub one_refused : (request : Request) (r : Repository) (all : List (Bor (List ℕ))) (i : ℕ) (d : Bor (List ℕ))
    (set : BTreeSet (Bor (List ℕ))) (specs : List (List ℕ)) (s : Stop) → all ≡ request.arguments.items → i < length all
    → AreNamed request r (map now (take i all)) set specs → StopsAt request r i (get_or all i d).now s
    → RefusesNamed request r s
one_refused request r all i d set specs (stop.Refused e) same below are told = inr (record {
  front = map now (take i all);
  at = (get_or all i d).now;
  back = map now (drop (suc i) all);
  names = are.names;
  specs = specs;
  parts = ap (map now) (sym same) ∙ arguments_at all i d below;
  split = are.split;
  refuses = subst (λ n. RefusesNext request r n (get_or all i d).now e) (sym (count_taken all i below)) told;
})
one_refused request r all i d set specs (stop.Failed f) same below are told = told

-- the names in a set, one by one, of which none has a file of its own
pub old_next : (r : Repository) (keys seen all rest : List (Bor (List ℕ))) (x : Bor (List ℕ)) → keys ≡ seen ++ all
    → all ≡ x ∷ rest → All (λ n. HasNoOldForm r n.now) seen → HasNoOldForm r x.now
    → (more : List (Bor (List ℕ))) × (keys ≡ more ++ rest) × All (λ n. HasNoOldForm r n.now) more
old_next r keys seen all rest x parts next none own = (
  seen ++ x ∷ [],
  parts ∙ (ap (λ l. seen ++ l) next ∙ sym (append_assoc seen (x ∷ []) rest)),
  All-push (λ n. HasNoOldForm r n.now) seen x none own,
)

pub old_last : (r : Repository) (keys seen all : List (Bor (List ℕ))) → keys ≡ seen ++ all → all ≡ []
    → All (λ n. HasNoOldForm r n.now) seen → All (λ n. HasNoOldForm r n.now) keys
old_last r keys seen all parts done none = subst (All (λ n. HasNoOldForm r n.now))
    (sym (parts ∙ (ap (λ l. seen ++ l) done ∙ append-nil seen))) none

-- or one that has
pub old_found : (r : Repository) (keys seen all rest : List (Bor (List ℕ))) (x : Bor (List ℕ)) (e : Refusal)
    → keys ≡ seen ++ all → all ≡ x ∷ rest → IsOldForm r x.now e → Any (λ n. IsOldForm r n.now e) keys
old_found r keys seen all rest x e parts next is =
    let P : Bor (List ℕ) → Type 0 = λ n. IsOldForm r n.now e in
    subst (Any P) (sym (parts ∙ ap (λ l. seen ++ l) next))
    (some_at P (seen ++ x ∷ rest) (Any-right P seen (x ∷ rest) (inl is)))

-- no text was added to none
pub values_none : (texts : List Given) → texts ≡ [] → AddsValues [] [] texts
values_none texts none = ([], refl, none)

-- some were
pub values_alone : (settings : List Setting) (texts : List Given) → AddsValues settings [] texts
    → AreValues settings texts
values_alone settings texts (values, are, grown) = subst (AreValues settings) (sym grown) are

-- whether values are usable, by whether one is missing, and whether their texts are refused
pub values_decided : (values : List Setting) (texts : List Text) (all : List Checked) (test : Bool)
    → AreValues values (map given_of texts) → AllZip IsChecked texts all
    → MatchBool test (¬ (HasLacking values) × AreGood all) (HasLacking values ⊎ HasBad all)
    → MatchBool test (AreUsable values) (HasUnusable values)
values_decided values texts all true are checked (complete, good) =
    let read = DecidesRefused-of false texts all checked good in
    (complete, map given_of texts, are, read.0, read.1)
values_decided values texts all false are checked (inl lacks) = inl lacks
values_decided values texts all false are checked (inr bad) =
    inr (map given_of texts, are, DecidesRefused-of true texts all checked bad)

-- what was looked for is what is refused
pub none_bad : (values : List Setting) (all : List Checked) (bad : Bool) → ¬ (HasLacking values)
    → MatchBool bad (HasBad all) (AreGood all)
    → MatchBool (not bad) (¬ (HasLacking values) × AreGood all) (HasLacking values ⊎ HasBad all)
none_bad values all true complete is = inr is
none_bad values all false complete is = (complete, is)

-- the values, their texts and what these are, as they are lent
pub lent_decided : (settings values lent again : List Setting) (texts shown : List Text) (all checked : List Checked)
    (test : Bool) → AreValuesOf None settings values → lent ≡ values → AreValues lent (map given_of texts)
    → shown ≡ texts → AllZip IsChecked shown all → again ≡ values → checked ≡ all
    → MatchBool test (¬ (HasLacking again) × AreGood checked) (HasLacking again ⊎ HasBad checked)
    → AreValuesOf None settings values × MatchBool test (AreUsable values) (HasUnusable values)
lent_decided settings values lent again texts shown all checked test are same found lists told back seen is = (
  are,
  values_decided values texts all test (subst (λ (l : List Setting). AreValues l (map given_of texts)) same found)
      (subst (λ (l : List Text). AllZip IsChecked l all) lists told)
      (subst (λ (l : List Checked). MatchBool test (¬ (HasLacking values) × AreGood l) (HasLacking values ⊎ HasBad l))
      seen (subst (λ (l : List Setting). MatchBool test (¬ (HasLacking l) × AreGood checked)
      (HasLacking l ⊎ HasBad checked)) back is)),
)
