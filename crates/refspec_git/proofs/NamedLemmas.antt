-- The refs that arguments name, one after the other.
use Rattle.std.proofs.Common.{◌≡◌, ◌≢◌, ◌⊎◌, ◌↔◌, ◌∙◌, ◌+◌, ◌-◌, ◌++◌, ◌<◌, ◌≤◌, ℕ, Bool, true, false, IsTrue, Bor}
use Rattle.std.proofs.Common.{cond, List, [], ◌∷◌, MatchOption, None, Option, Some, ap, append_assoc, arith, drop}
use Rattle.std.proofs.Common.{get_or, inl, inr, length, map, refl, subst, sym, take, take_all}
use Rattle.std.proofs.lemmas.Bool.{false≢true}
use Rattle.std.proofs.lemmas.List.{append-nil, append_cancel_left, drop_all, drop_more, length-take-le, map-append}
use Rattle.std.proofs.lemmas.List.{map_more, take-append-drop, take_more}
use Rattle.std.proofs.lemmas.List.Concat.{flat_map-append}
use Rattle.std.proofs.lemmas.List.Elements.{Contains-append_left, Contains-push, Contains-push_cases}
use Rattle.std.proofs.lemmas.Map.Text.{is_eq-slice_cmp}
use Rattle.std.proofs.lemmas.Slice.Eq.{bytes_eq-Decides}
use Rattle.std.specs.BTreeMap.{BTreeMap}
use Rattle.std.specs.BTreeSet.{Updates, contains_by}
use Rattle.std.specs.Cmp.Lexicographic.{slice_cmp}
use Rattle.std.specs.Global.{Vec}
use Rattle.std.specs.List.{All, AllZip, Contains, flat_map}
use Rattle.std.specs.Ordering.{is_eq, nat_cmp}
use Rattle.bstr.specs.Owned.{bstring_bytes}
use Rattle.bstr.specs.declared.bstring.BString.{BString}
use Rattle.gix_refspec_text.specs.Matching.Side.{candidates}
use Rattle.gix_refspec_plan.proofs.lemmas.plan.NameLemmas.{zip_more}
use Rattle.refspec_commands.specs.declared.tracking.question.Remote.{Remote}
use Rattle.refspec_request.specs.Refusals.{IsForMemory}
use Rattle.refspec_request.specs.declared.refusal.Refusal.{Refusal}
use Rattle.refspec_request.specs.declared.refusal.Refusal.TheVariants as refusal
use Rattle.refspec_git.specs.declared.answer.Stop.{Stop}
use Rattle.refspec_git.specs.declared.answer.Stop.TheVariants as stop
use Rattle.refspec_git.specs.declared.named.NamedRef.{NamedRef}
use Rattle.refspec_git.specs.declared.named.Names.{Names}
use Rattle.refspec_git.specs.declared.refs.Meaning.{Meaning}
use Rattle.refspec_git.specs.declared.refs.Meaning.TheVariants as meaning
use Rattle.refspec_git.specs.Named.{AreNew, AreSeen, HasFirst, IsBad, IsCompleted, IsFolder, IsFound, IsFoundAs}
use Rattle.refspec_git.specs.Named.{IsNoRef, IsNothing, IsPrinted, RefusesName, RefusesNamed, RefusesNaming, first_in}
use Rattle.refspec_git.specs.Named.{has_ref, listed_for, name_lines, name_lines_from}
use Rattle.refspec_git.specs.Refs.{IsMeant}

-- the first element for which something holds, by its index
pub HasFirst-at : {X : Type 0} (Q P : X → Type 0) (xs : List X) (i : ℕ) (d : X) → i < length xs → All Q (take i xs)
    → P (get_or xs i d) → HasFirst Q P xs
HasFirst-at Q P xs i d below passed holds = record {
  before = take i xs;
  at = get_or xs i d;
  behind = drop (i + 1) xs;
  parts = sym (take-append-drop i xs) ∙ ap (λ l. take i xs ++ l) (drop_more xs i d below);
  passed = passed;
  holds = holds;
}

-- what names a ref isn't bad
pub not_bad : (a : List ℕ) (m : Meaning) → IsMeant a m → m ≢ meaning.Bad → ¬ (IsMeant a meaning.Bad)
not_bad a meaning.Expression is good bad = bad.0 is
not_bad a meaning.Bad is good bad = good refl
not_bad a meaning.Full is good bad = bad.1 is.1
not_bad a meaning.Short is good bad = bad.1 is.1

-- one more text, which is new
pub AreNew-more : (before xs new : List (List ℕ)) (x : List ℕ) → ¬ (Contains (before ++ new) x) → AreNew before xs new
    → AreNew before (xs ++ x ∷ []) (new ++ x ∷ [])
AreNew-more before [] new x other none = inr (
  subst (λ (l : List (List ℕ)). ¬ (Contains l x)) (ap (λ l. before ++ l) none ∙ append-nil before) other,
  [],
  refl,
  ap (λ l. l ++ x ∷ []) none,
)
AreNew-more before (y ∷ xs) new x other (inl (has, are)) = inl (has, AreNew-more before xs new x other are)
AreNew-more before (y ∷ xs) new x other (inr (first, rest, are, same)) = inr (
  first,
  rest ++ x ∷ [],
  AreNew-more (before ++ y ∷ []) xs rest x
      (subst (λ (l : List (List ℕ)). ¬ (Contains l x))
      (ap (λ l. before ++ l) same ∙ sym (append_assoc before (y ∷ []) rest)) other)
      are,
  ap (λ l. l ++ x ∷ []) same,
)

-- one more text, which was there
pub AreNew-same : (before xs new : List (List ℕ)) (x : List ℕ) → Contains (before ++ new) x → AreNew before xs new
    → AreNew before (xs ++ x ∷ []) new
AreNew-same before [] new x has none = inl (
  subst (λ (l : List (List ℕ)). Contains l x) (ap (λ l. before ++ l) none ∙ append-nil before) has,
  none,
)
AreNew-same before (y ∷ xs) new x has (inl (again, are)) = inl (again, AreNew-same before xs new x has are)
AreNew-same before (y ∷ xs) new x has (inr (first, rest, are, same)) = inr (
  first,
  rest,
  AreNew-same (before ++ y ∷ []) xs rest x
      (subst (λ (l : List (List ℕ)). Contains l x)
      (ap (λ l. before ++ l) same ∙ sym (append_assoc before (y ∷ []) rest)) has)
      are,
  same,
)

-- one argument more, whose index is that of the first and their number
lines_more : (k : ℕ) (named : List NamedRef) (n : NamedRef)
    → name_lines_from k (named ++ n ∷ []) ≡ name_lines_from k named ++ name_lines (k + length named) n
lines_more k [] n = append-nil (name_lines k n) ∙ ap (λ i. name_lines i n) (omega arith)
lines_more k (m ∷ named) n =
    ap (λ l. name_lines k m ++ l)
    (lines_more (k + 1) named n
    ∙ ap (λ i. name_lines_from (k + 1) named ++ name_lines i n) (omega arith))
    ∙ sym (append_assoc (name_lines k m) (name_lines_from (k + 1) named) (name_lines (k + length (m ∷ named)) n))

-- the same in a loop
pub lines_next : (named : List NamedRef) (i : ℕ) (d : NamedRef) (old new : List ℕ) → i < length named
    → new ≡ old ++ name_lines i (get_or named i d) → old ≡ name_lines_from 0 (take i named)
    → new ≡ name_lines_from 0 (take (i + 1) named)
lines_next named i d old new below grown so_far = grown
    ∙ (ap (λ l. l ++ name_lines i (get_or named i d)) so_far
    ∙ (ap (λ j. name_lines_from 0 (take i named) ++ name_lines j (get_or named i d))
    (omega (arith, length-take-le i named (omega (arith, below))))
    ∙ (sym (lines_more 0 (take i named) (get_or named i d))
    ∙ ap (name_lines_from 0) (sym (take_more named i d below)))))

-- the names of one argument more
pub listed_next : (named : List NamedRef) (i : ℕ) (d : NamedRef) (old new : List (List ℕ)) → i < length named
    → new ≡ old ++ listed_for (get_or named i d) → old ≡ flat_map listed_for (take i named)
    → new ≡ flat_map listed_for (take (i + 1) named)
listed_next named i d old new below grown so_far = grown
    ∙ (ap (λ l. l ++ listed_for (get_or named i d)) so_far
    ∙ sym (ap (flat_map listed_for) (take_more named i d below)
    ∙ (flat_map-append listed_for (take i named) (get_or named i d ∷ [])
    ∙ ap (λ l. flat_map listed_for (take i named) ++ l) (append-nil (listed_for (get_or named i d))))))

-- all but the first of some texts
pub tail_all : (xs : List BString) (i : ℕ) → length (take (length xs - 1) (drop 1 xs)) ≤ i
    → map bstring_bytes (take i (take (length xs - 1) (drop 1 xs))) ≡ drop 1 (map bstring_bytes xs)
tail_all [] i long = ap (map bstring_bytes) (take_all i [] long)
tail_all (x ∷ xs) i long =
    let all : take (length (x ∷ xs) - 1) xs ≡ xs = take_all (length (x ∷ xs) - 1) xs (omega arith) in
    ap (map bstring_bytes) (take_all i (take (length (x ∷ xs) - 1) xs) long ∙ all)

-- the next of some names that a ref may have
first_next : (refs : BTreeMap (Bor (List ℕ)) (Bor (List ℕ))) (names : List BString) (i : ℕ) (n : BString)
    → i < length names → n ≡ get_or names i n
    → first_in refs (map bstring_bytes (drop i names))
    ≡ cond (has_ref refs (bstring_bytes n)) (Some (bstring_bytes n))
    (first_in refs (map bstring_bytes (drop (i + 1) names)))
first_next refs names i n below is =
    ap (λ (l : List BString). first_in refs (map bstring_bytes l))
    (drop_more names i n below ∙ ap (λ (x : BString). x ∷ drop (i + 1) names) (sym is))

-- beyond the last there is none
pub first_none : (refs : BTreeMap (Bor (List ℕ)) (Bor (List ℕ))) (names : List BString) (i : ℕ) → length names ≤ i
    → first_in refs (map bstring_bytes (drop i names)) ≡ None
first_none refs names i long =
    ap (λ (l : List BString). first_in refs (map bstring_bytes l)) (drop_all i names long)

-- one more copy of a candidate
pub copy_next : (all : List BString) (i : ℕ) (x : BString) (start old new : List (Vec ℕ)) (v : Vec ℕ) → i < length all
    → x ≡ get_or all i x → new ≡ old ++ v ∷ [] → v.items ≡ bstring_bytes x
    → map (λ n. n.items) old ≡ map (λ n. n.items) start ++ map bstring_bytes (take i all)
    → map (λ n. n.items) new ≡ map (λ n. n.items) start ++ map bstring_bytes (take (i + 1) all)
copy_next all i x start old new v below is grown same so_far =
    ap (map (λ (n : Vec ℕ). n.items)) grown
    ∙ (map-append (λ (n : Vec ℕ). n.items) old (v ∷ [])
    ∙ (ap (λ l. l ++ v.items ∷ []) so_far
    ∙ (append_assoc (map (λ (n : Vec ℕ). n.items) start) (map bstring_bytes (take i all)) (v.items ∷ [])
    ∙ ap (λ l. map (λ (n : Vec ℕ). n.items) start ++ l)
    (ap (λ b. map bstring_bytes (take i all) ++ b ∷ []) (same ∙ ap bstring_bytes is)
    ∙ sym (map_more bstring_bytes all i x below)))))

-- one more name, which is new
pub AreSeen-new : (all : List (List ℕ)) (old new : Names) (name : Vec ℕ) (key : Vec ℕ) → key.items ≡ name.items
    → Updates (λ (x y : Vec ℕ). slice_cmp nat_cmp x.items y.items) old.seen new.seen key true
    → contains_by (λ (n : Vec ℕ). slice_cmp nat_cmp key.items n.items) old.seen ≡ false
    → new.all.items ≡ old.all.items ++ name ∷ [] → AreSeen all old → AreSeen (all ++ name.items ∷ []) new
AreSeen-new all old new name key same updates none grown seen = record {
  new = subst (AreNew [] (all ++ name.items ∷ [])) (sym listed)
      (AreNew-more [] all texts name.items absent seen.new);
  seen = λ q. by q (is_eq (slice_cmp nat_cmp key.items q.items)) refl (updates.0 q);
}
  where
    texts : List (List ℕ)
    texts = map (λ (n : Vec ℕ). n.items) old.all.items

    listed : map (λ (n : Vec ℕ). n.items) new.all.items ≡ texts ++ name.items ∷ []
    listed = ap (map (λ (n : Vec ℕ). n.items)) grown ∙ map-append (λ (n : Vec ℕ). n.items) old.all.items (name ∷ [])

    absent : ¬ (Contains texts name.items)
    absent has = false≢true (sym none ∙ (seen.seen key).1 (subst (Contains texts) (sym same) has))

    equal : (q : Vec ℕ) → is_eq (slice_cmp nat_cmp key.items q.items) ≡ true → key.items ≡ q.items
    equal q here = (bytes_eq-Decides key.items q.items).0 (sym (is_eq-slice_cmp key.items q.items) ∙ here)

    by : (q : Vec ℕ) (b : Bool) → is_eq (slice_cmp nat_cmp key.items q.items) ≡ b
        → contains_by (λ (n : Vec ℕ). slice_cmp nat_cmp q.items n.items) new.seen
        ≡ cond b true (contains_by (λ (n : Vec ℕ). slice_cmp nat_cmp q.items n.items) old.seen)
        → IsTrue (contains_by (λ (n : Vec ℕ). slice_cmp nat_cmp q.items n.items) new.seen)
        ↔ Contains (map (λ (n : Vec ℕ). n.items) new.all.items) q.items
    by q true here found = (
      (λ _. subst (λ (l : List (List ℕ)). Contains l q.items) (sym listed)
          (subst (Contains (texts ++ name.items ∷ [])) (sym same ∙ equal q here)
          (Contains-push texts name.items))),
      (λ _. found),
    )
    by q false other found = (
      (λ has. subst (λ (l : List (List ℕ)). Contains l q.items) (sym listed)
          (Contains-append_left texts (name.items ∷ []) q.items ((seen.seen q).0 (sym found ∙ has)))),
      (λ has. found ∙ (seen.seen q).1 (elim (Contains-push_cases texts name.items q.items
          (subst (λ (l : List (List ℕ)). Contains l q.items) listed has)) [
            | inl before ↦ before
            | inr here ↦ absurd (false≢true (sym other ∙ (is_eq-slice_cmp key.items q.items
                ∙ (bytes_eq-Decides key.items q.items).1 (same ∙ here))))
          ])),
    )

-- one that was there
pub AreSeen-same : (all : List (List ℕ)) (old new : Names) (name : Vec ℕ) (key : Vec ℕ) → key.items ≡ name.items
    → Updates (λ (x y : Vec ℕ). slice_cmp nat_cmp x.items y.items) old.seen new.seen key true
    → contains_by (λ (n : Vec ℕ). slice_cmp nat_cmp key.items n.items) old.seen ≡ true
    → new.all ≡ old.all → AreSeen all old → AreSeen (all ++ name.items ∷ []) new
AreSeen-same all old new name key same updates has kept seen = record {
  new = subst (λ l. AreNew [] (all ++ name.items ∷ []) (map (λ (n : Vec ℕ). n.items) l.items)) (sym kept)
      (AreNew-same [] all texts name.items there seen.new);
  seen = λ q. subst (λ l. IsTrue (contains_by (λ (n : Vec ℕ). slice_cmp nat_cmp q.items n.items) new.seen)
      ↔ Contains (map (λ (n : Vec ℕ). n.items) l.items) q.items) (sym kept)
      (by q (is_eq (slice_cmp nat_cmp key.items q.items)) refl (updates.0 q));
}
  where
    texts : List (List ℕ)
    texts = map (λ (n : Vec ℕ). n.items) old.all.items

    there : Contains texts name.items
    there = subst (Contains texts) same ((seen.seen key).0 has)

    by : (q : Vec ℕ) (b : Bool) → is_eq (slice_cmp nat_cmp key.items q.items) ≡ b
        → contains_by (λ (n : Vec ℕ). slice_cmp nat_cmp q.items n.items) new.seen
        ≡ cond b true (contains_by (λ (n : Vec ℕ). slice_cmp nat_cmp q.items n.items) old.seen)
        → IsTrue (contains_by (λ (n : Vec ℕ). slice_cmp nat_cmp q.items n.items) new.seen) ↔ Contains texts q.items
    by q true here found = (
      (λ _. subst (Contains texts)
          (sym same ∙ (bytes_eq-Decides key.items q.items).0 (sym (is_eq-slice_cmp key.items q.items) ∙ here)) there),
      (λ _. found),
    )
    by q false other found = (
      (λ it. (seen.seen q).0 (sym found ∙ it)),
      (λ it. found ∙ (seen.seen q).1 it),
    )

-- a ref has the next one, or none has
pub first_found : (refs : BTreeMap (Bor (List ℕ)) (Bor (List ℕ))) (names : List BString) (i : ℕ) (n : BString)
    → i < length names → n ≡ get_or names i n → has_ref refs (bstring_bytes n) ≡ true
    → first_in refs (map bstring_bytes (drop i names)) ≡ Some (bstring_bytes n)
first_found refs names i n below is has = first_next refs names i n below is
    ∙ ap (λ b. cond b (Some (bstring_bytes n)) (first_in refs (map bstring_bytes (drop (i + 1) names)))) has

pub first_passed : (refs : BTreeMap (Bor (List ℕ)) (Bor (List ℕ))) (names : List BString) (i : ℕ) (n : BString)
    → i < length names → n ≡ get_or names i n → has_ref refs (bstring_bytes n) ≡ false
    → first_in refs (map bstring_bytes (drop i names)) ≡ first_in refs (map bstring_bytes (drop (i + 1) names))
first_passed refs names i n below is none = first_next refs names i n below is
    ∙ ap (λ b. cond b (Some (bstring_bytes n)) (first_in refs (map bstring_bytes (drop (i + 1) names)))) none

-- a folder was stripped, and then perhaps the slash
pub folder_stripped : (path folder : List ℕ) (rest : Bor (List ℕ)) (found : Option (Bor (List ℕ)))
    → path ≡ folder ++ rest.now → MatchOption found ((t : List ℕ) → rest.now ≢ (47 ∷ []) ++ t)
    (λ t. rest.now ≡ (47 ∷ []) ++ t.now) → MatchOption found ((t : List ℕ) → path ≢ folder ++ (47 ∷ t))
    (λ t. path ≡ folder ++ (47 ∷ t.now))
folder_stripped path folder rest None is none =
    λ t same. none t (append_cancel_left folder rest.now (47 ∷ t) (sym is ∙ same))
folder_stripped path folder rest (Some t) is some = is ∙ ap (λ l. folder ++ l) some

-- one more element of a list and of what is made of it
pub zip_taken : {X Y : Type 0} (R : X → Y → Type 0) (xs : List X) (i : ℕ) (d : X) (ys : List Y) (y : Y) → i < length xs
    → AllZip R (take i xs) ys → R (get_or xs i d) y → AllZip R (take (i + 1) xs) (ys ++ y ∷ [])
zip_taken {X} R xs i d ys y below so_far here =
    subst (λ (l : List X). AllZip R l (ys ++ y ∷ [])) (sym (take_more xs i d below))
    (zip_more R (take i xs) ys (get_or xs i d) y so_far here)

-- no ref has the name that a partial one is completed to
pub completed_new : (refs : BTreeMap (Bor (List ℕ)) (Bor (List ℕ))) (remotes : List Remote) (a name folder : List ℕ)
    → first_in refs (candidates a) ≡ None → IsFolder remotes a folder → name ≡ folder ++ a
    → IsCompleted refs remotes a name
completed_new refs remotes a name folder none is same = rw none (folder, is, same)

-- what names a ref isn't nothing
pub not_nothing : (refs : BTreeMap (Bor (List ℕ)) (Bor (List ℕ))) (remotes : List Remote) (n : NamedRef) (name : List ℕ)
    → IsFound refs remotes n name → ¬ (IsNothing n)
not_nothing refs remotes n name found nothing = printed.1 (printed.0 ∙ nothing.1)
  where
    printed : IsPrinted n name
    printed = subst (λ m. IsFoundAs m refs remotes n name) nothing.0 found

-- the first argument that is refused, by its index
pub named_refused : (arguments : List (Bor (List ℕ))) (i : ℕ) (d : Bor (List ℕ)) (s : Stop) → i < length arguments
    → All (λ a. ¬ (IsBad a)) (take i arguments) → RefusesName (get_or arguments i d) s → RefusesNamed arguments s
named_refused arguments i d (stop.Refused e) below passed refuses =
    HasFirst-at (λ (a : Bor (List ℕ)). ¬ (IsBad a)) (λ (a : Bor (List ℕ)). RefusesName a (stop.Refused e)) arguments i d
    below passed refuses
named_refused arguments i d (stop.Failed fault) below passed refuses = tt

-- the first argument that means no ref, by its index
pub naming_refused : (named : List NamedRef) (i : ℕ) (d : NamedRef) (e : Refusal) → i < length named
    → All (λ n. ¬ (IsNothing n)) (take i named) → IsForMemory e ⊎ IsNoRef (get_or named i d) e → RefusesNaming named e
naming_refused named i d refusal.Memory below passed refuses = tt
naming_refused named i d (refusal.NotARef text) below passed (inl memory) = absurd memory
naming_refused named i d (refusal.NotARef text) below passed (inr none) =
    HasFirst-at (λ (n : NamedRef). ¬ (IsNothing n)) (λ (n : NamedRef). IsNoRef n (refusal.NotARef text)) named i d below
    passed
    none
naming_refused named i d _ below passed (inl memory) = absurd memory
naming_refused named i d _ below passed (inr none) = absurd none
