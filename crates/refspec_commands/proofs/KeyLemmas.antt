-- The groups of texts by their keys, and the warnings on each.
use Rattle.std.proofs.Common.{◌≡◌, ◌≢◌, ℕ, zero, suc, Bool, true, false, cond, List, [], ◌∷◌}
use Rattle.std.proofs.Common.{◌++◌, Option, Some, None, MatchOption, length, map, append-nil, append_assoc, refl, sym}
use Rattle.std.proofs.Common.{ap, ◌∙◌, subst, arith, slice_get, option_to_list, unwrap_or, Vec, Global, Result}
use Rattle.std.proofs.Common.{Ok, Err, IfOk}
use Rattle.std.proofs.lemmas.Bool.{false≢true}
use Rattle.std.proofs.lemmas.Cmp.{nat_list_cmp_total, on_total, tied_itself}
use Rattle.std.proofs.lemmas.List.{map-append}
use Rattle.std.proofs.lemmas.Map.Entries.{btree_map_get_place}
use Rattle.std.proofs.lemmas.Map.Text.{btree_map_updates_str}
use Rattle.std.proofs.lemmas.Slice.Eq.{bytes_eq-Decides}
use Rattle.std.specs.declared.alloc.AllocError.{AllocError}
use Rattle.std.specs.Borrow.{Bor}
use Rattle.std.specs.BTreeMap.{BTreeMap, IsOrdered, UpdatesBy, get_by}
use Rattle.std.specs.Cmp.Lexicographic.{slice_cmp, texts_ties}
use Rattle.std.specs.List.{AllByRecursion, Contains}
use Rattle.std.specs.List.Sorted.{IsStrictlySortedBy}
use Rattle.std.specs.Map.{keys_of, lookup}
use Rattle.std.specs.Option.{option_copied}
use Rattle.std.specs.Ordering.{is_eq, nat_cmp}
use Rattle.std.specs.Str.{bytes_eq}
use Rattle.std.specs.declared.cmp.Ordering.TheVariants.{Less}
use Rattle.refspec_io.specs.declared.call.Form.{Form}
use Rattle.refspec_io.specs.declared.call.Form.TheVariants as form
use Rattle.refspec_commands.specs.declared.warnings.Warning.{Warning}
use Rattle.refspec_commands.specs.declared.warnings.beside.Beside.{Beside}
use Rattle.refspec_commands.specs.declared.warnings.group.Group.{Group}
use Rattle.refspec_commands.specs.Seen.{Seen, key_of, of_key}
use Rattle.refspec_commands.specs.Warned.{AreInTurn, AreSaidOf, AreWarnings, Asked, Said, nothing_asked}
use Rattle.refspec_commands.specs.Warnings.{AreInJson, WarnsIf}
use Rattle.refspec_commands.specs.WarnedViews.{AreGroups, IsGroup, asked_at, asked_of, asked_or_nothing, said_of}
use Rattle.refspec_commands.proofs.SeenLemmas.{of_key-more}

-- the group at a key
abbrev pub group_at : BTreeMap (Bor (List ℕ)) Group → List ℕ → Option Group
group_at groups key = get_by (λ k. slice_cmp nat_cmp key k.now) groups

-- what the groups have at a key
abbrev IsGroupAt : List Seen → List ℕ → Option Group → Type 0
IsGroupAt seen key found = MatchOption found (of_key key seen ≡ [])
    (λ group. (of_key key seen ≢ []) × IsGroup (of_key key seen) group)

behind_some : (xs : List Seen) (s : Seen) → xs ++ s ∷ [] ≢ []
behind_some [] s = λ is. omega (arith, ap length is)
behind_some (x ∷ xs) s = λ is. omega (arith, ap length is)

-- a text more: its group is taken out, and put back with the text
pub one_more : (seen : List Seen) (s : Seen) (old mid new : BTreeMap (Bor (List ℕ)) Group) (e : Bor (List ℕ))
    (group : Group) → AreGroups seen old → e.now ≡ key_of s
    → UpdatesBy (λ x y. slice_cmp nat_cmp x.now y.now) (λ k. slice_cmp nat_cmp e.now k.now) old mid None
    → UpdatesBy (λ x y. slice_cmp nat_cmp x.now y.now) (λ k. slice_cmp nat_cmp e.now k.now) mid new (Some group)
    → IsGroup (of_key e.now seen ++ s ∷ []) group → AreGroups (seen ++ s ∷ []) new
one_more seen s old mid new e group are at taken put is d = by (bytes_eq e.now d) refl
  where
    looked : group_at new d ≡ cond (bytes_eq e.now d) (Some group) (cond (bytes_eq e.now d) None (group_at old d))
    looked = btree_map_updates_str e.now mid new (Some group) put d
        ∙ ap (λ (o : Option Group). cond (bytes_eq e.now d) (Some group) o)
        (btree_map_updates_str e.now old mid None taken d)

    by : (b : Bool) → bytes_eq e.now d ≡ b → IsGroupAt (seen ++ s ∷ []) d (group_at new d)
    by true same =
        let here : d ≡ e.now = sym ((bytes_eq-Decides e.now d).0 same) in
        let own : bytes_eq d (key_of s) ≡ true = (bytes_eq-Decides d (key_of s)).1 (here ∙ at) in
        let whole : of_key d (seen ++ s ∷ []) ≡ of_key e.now seen ++ s ∷ [] =
        of_key-more d seen s ∙ (ap (λ (b : Bool). of_key d seen ++ cond b (s ∷ []) []) own
        ∙ ap (λ k. of_key k seen ++ s ∷ []) here) in
        subst (IsGroupAt (seen ++ s ∷ []) d) (sym (looked
        ∙ ap (λ (b : Bool). cond b (Some group) (cond b None (group_at old d))) same)) (
          λ none. behind_some (of_key e.now seen) s (sym whole ∙ none),
          subst (λ l. IsGroup l group) (sym whole) is,
        )
    by false other =
        let apart : bytes_eq d (key_of s) ≡ false = differs (bytes_eq d (key_of s)) refl in
        let whole : of_key d (seen ++ s ∷ []) ≡ of_key d seen =
        of_key-more d seen s ∙ (ap (λ (b : Bool). of_key d seen ++ cond b (s ∷ []) []) apart
        ∙ append-nil (of_key d seen)) in
        subst (IsGroupAt (seen ++ s ∷ []) d) (sym (looked
        ∙ ap (λ (b : Bool). cond b (Some group) (cond b None (group_at old d))) other))
        (subst (λ l. MatchOption (group_at old d) (l ≡ []) (λ g. (l ≢ []) × IsGroup l g)) (sym whole) (are d))
      where
        differs : (b : Bool) → bytes_eq d (key_of s) ≡ b → bytes_eq d (key_of s) ≡ false
        differs false is = is
        differs true is = absurd (false≢true (sym other
            ∙ (bytes_eq-Decides e.now d).1 (at ∙ sym ((bytes_eq-Decides d (key_of s)).0 is))))

-- the texts of the key whose group is taken out: those of the group, or none
pub taken_group : (seen : List Seen) (old : BTreeMap (Bor (List ℕ)) Group) (key : List ℕ) (empty group : Group)
    (found : Option Group) → AreGroups seen old → found ≡ group_at old key → IsGroup [] empty
    → group ≡ unwrap_or found empty → IsGroup (of_key key seen) group
taken_group seen old key empty group found are is none same =
    by found is same (subst (IsGroupAt seen key) (sym is) (are key))
  where
    by : (f : Option Group) → f ≡ group_at old key → group ≡ unwrap_or f empty → IsGroupAt seen key f
        → IsGroup (of_key key seen) group
    by None at same here = subst (IsGroup (of_key key seen)) (sym same) (subst (λ l. IsGroup l empty) (sym here) none)
    by (Some g) at same here = subst (IsGroup (of_key key seen)) (sym same) here.1

-- ---- the warnings so far

abbrev pub key_in : Bor (List ℕ) × Group → List ℕ
key_in e = e.0.now

-- the warnings on the texts of some keys
abbrev pub AreSaidAt : (List ℕ → Asked) → List Seen → List (List ℕ) → List Said → Type 0
AreSaidAt asks seen keys said = AreInTurn (λ key some. AreSaidOf (asks key) (of_key key seen) some) keys said

-- what was found of groups before the rest
pub record HaveSaid (f : Form) (asks : List ℕ → Asked) (seen : List Seen) (rest : List (Bor (List ℕ) × Group))
    (found : List Said) : Type 0 where
  pub groups : BTreeMap (Bor (List ℕ)) Group
  pub done : List (Bor (List ℕ) × Group)
  pub are : AreGroups seen groups
  pub ordered : IsOrdered (λ x y. slice_cmp nat_cmp x.now y.now) groups
  pub entries : groups.entries ≡ done ++ rest
  pub said : f ≡ form.Json → AreSaidAt asks seen (map key_in done) found

at_length : {X : Type 0} (xs ys : List X) (x : X) → slice_get (xs ++ x ∷ ys) (length xs) ≡ Some x
at_length [] ys x = refl
at_length (z ∷ xs) ys x = at_length xs ys x

-- the next group is that of its key
pub next_group : (f : Form) (asks : List ℕ → Asked) (seen : List Seen) (e : Bor (List ℕ) × Group)
    (all rest : List (Bor (List ℕ) × Group)) (found : List Said) → HaveSaid f asks seen all found → all ≡ e ∷ rest
    → IsGroup (of_key e.0.now seen) e.1
next_group f asks seen e all rest old have is =
    let entries : have.groups.entries ≡ have.done ++ e ∷ rest = have.entries ∙ ap (λ l. have.done ++ l) is in
    let place : slice_get have.groups.entries (length have.done) ≡ Some (e.0, e.1) =
    ap (λ l. slice_get l (length have.done)) entries ∙ at_length have.done rest e in
    let at : group_at have.groups e.0.now ≡ Some e.1 =
    btree_map_get_place (on_total (λ (k : Bor (List ℕ)). k.now) nat_list_cmp_total) have.groups (length have.done) e.0
    e.1
    have.ordered place in
    (subst (IsGroupAt seen e.0.now) at (have.are e.0.now)).1

AreInTurn-push : (Says : List ℕ → List Said → Type 0) (keys : List (List ℕ)) (key : List ℕ) (said one : List Said)
    → AreInTurn Says keys said → Says key one → AreInTurn Says (keys ++ key ∷ []) (said ++ one)
AreInTurn-push Says [] key said one none is =
    (one, [], is, refl, ap (λ l. l ++ one) none ∙ sym (append-nil one))
AreInTurn-push Says (k ∷ keys) key said one (first, rest, here, more, all) is = (
  first,
  rest ++ one,
  here,
  AreInTurn-push Says keys key rest one more is,
  ap (λ l. l ++ one) all ∙ append_assoc first rest one,
)

-- the warnings on one more group
pub said_next : (f : Form) (asks : List ℕ → Asked) (seen : List Seen) (e : Bor (List ℕ) × Group)
    (all rest : List (Bor (List ℕ) × Group)) (old more new : List Warning) → HaveSaid f asks seen all (map said_of old)
    → all ≡ e ∷ rest → (f ≡ form.Json → AreSaidOf (asks e.0.now) (of_key e.0.now seen) (map said_of more))
    → new ≡ old ++ more → HaveSaid f asks seen rest (map said_of new)
said_next f asks seen e all rest old more new have is said grew = record {
  groups = have.groups;
  done = have.done ++ e ∷ [];
  are = have.are;
  ordered = have.ordered;
  entries = have.entries ∙ (ap (λ l. have.done ++ l) is ∙ sym (append_assoc have.done (e ∷ []) rest));
  said = λ json.
      let longer = ap (map said_of) grew ∙ map-append said_of old more in
      subst (AreSaidAt asks seen (map key_in (have.done ++ e ∷ []))) (sym longer)
      (subst (λ (l : List (List ℕ)). AreSaidAt asks seen l (map said_of old ++ map said_of more))
      (sym (map-append key_in have.done (e ∷ [])))
      (AreInTurn-push (λ key some. AreSaidOf (asks key) (of_key key seen) some) (map key_in have.done) e.0.now
      (map said_of old) (map said_of more) (have.said json) (said json)));
}

-- ---- all keys

below_texts : (k : Bor (List ℕ)) (es : List (Bor (List ℕ) × Group))
    → AllByRecursion (λ y. slice_cmp nat_cmp k.now y.now ≡ Less) (keys_of es)
    → AllByRecursion (λ y. slice_cmp nat_cmp k.now y ≡ Less) (map key_in es)
below_texts k [] below = tt
below_texts k (e ∷ es) below = (below.0, below_texts k es below.1)

sorted_texts : (es : List (Bor (List ℕ) × Group)) → IsStrictlySortedBy (λ x y. slice_cmp nat_cmp x.now y.now)
    (keys_of es)
    → IsStrictlySortedBy (slice_cmp nat_cmp) (map key_in es)
unfolding IsStrictlySortedBy
sorted_texts [] sorted = tt
sorted_texts (e ∷ es) sorted = (below_texts e.0 es sorted.0, sorted_texts es sorted.1)

-- a key is among the entries exactly if something is looked up there
looked_up : (es : List (Bor (List ℕ) × Group)) (key : List ℕ) → Contains (map key_in es) key
    → lookup (λ k. is_eq (slice_cmp nat_cmp key k.now)) es ≢ None
looked_up [] key has = absurd (omega (arith, has.1))
looked_up (e ∷ es) key (zero, below, is) =
    let same : is_eq (slice_cmp nat_cmp key e.0.now) ≡ true =
    ap is_eq (ap (slice_cmp nat_cmp key) is ∙ tied_itself nat_list_cmp_total key) in
    λ none. absurd
    (some_none (sym (ap (λ (b : Bool). cond b (Some e.1) (lookup (λ k. is_eq (slice_cmp nat_cmp key k.now)) es))
    same) ∙ none))
  where
    some_none : Some e.1 ≡ None → ⊥
    some_none is = omega (arith, ap (λ (o : Option Group). length (option_to_list o)) is)
looked_up (e ∷ es) key (suc i, below, is) =
    by (is_eq (slice_cmp nat_cmp key e.0.now)) (looked_up es key (i, omega (arith, below), is))
  where
    by : (b : Bool) → lookup (λ k. is_eq (slice_cmp nat_cmp key k.now)) es ≢ None
        → cond b (Some e.1) (lookup (λ k. is_eq (slice_cmp nat_cmp key k.now)) es) ≢ None
    by true more = λ is. omega (arith, ap (λ (o : Option Group). length (option_to_list o)) is)
    by false more = more

among : (es : List (Bor (List ℕ) × Group)) (key : List ℕ)
    → lookup (λ k. is_eq (slice_cmp nat_cmp key k.now)) es ≢ None → Contains (map key_in es) key
among [] key some = absurd (some refl)
among (e ∷ es) key some = by (is_eq (slice_cmp nat_cmp key e.0.now)) refl (among es key)
  where
    by : (b : Bool) → is_eq (slice_cmp nat_cmp key e.0.now) ≡ b
        → (lookup (λ k. is_eq (slice_cmp nat_cmp key k.now)) es ≢ None → Contains (map key_in es) key)
        → Contains (map key_in (e ∷ es)) key
    by true same more = (zero, omega arith, sym ((bytes_eq-Decides key e.0.now).0 (texts_ties key e.0.now ∙ same)))
    by false other more =
        let found = more (λ none. some (ap (λ (b : Bool). cond b (Some e.1)
        (lookup (λ k. is_eq (slice_cmp nat_cmp key k.now)) es)) other ∙ none)) in
        (suc found.0, omega (arith, found.1), found.2)

-- the warnings on all groups are all
pub said_all : (f : Form) (asks : List ℕ → Asked) (seen : List Seen) (rest : List (Bor (List ℕ) × Group))
    (found : List Said) → HaveSaid f asks seen rest found → rest ≡ [] → f ≡ form.Json → AreWarnings asks seen found
said_all f asks seen rest found have none json =
    let all : have.done ≡ have.groups.entries =
    sym (have.entries ∙ (ap (λ l. have.done ++ l) none ∙ append-nil have.done)) in
    let entries = have.groups.entries in (
      map key_in entries,
      record {
        sorted = sorted_texts entries have.ordered;
        all = λ key. (
          (λ has none. looked_up entries key has (absent key none)),
          (λ some. among entries key (λ missing. some (empty key missing))),
        );
      },
      subst (λ (l : List (Bor (List ℕ) × Group)). AreSaidAt asks seen (map key_in l) found) all (have.said json),
    )
  where
    absent : (key : List ℕ) → of_key key seen ≡ [] → group_at have.groups key ≡ None
    absent key none = by (group_at have.groups key) refl (have.are key)
      where
        by : (o : Option Group) → group_at have.groups key ≡ o → IsGroupAt seen key o → group_at have.groups key ≡ None
        by None is at = is
        by (Some g) is at = absurd (at.0 none)

    empty : (key : List ℕ) → group_at have.groups key ≡ None → of_key key seen ≡ []
    empty key missing = subst (IsGroupAt seen key) missing (have.are key)

-- ---- what was asked

-- what is found at a key, or nothing
pub asked_found : (beside : BTreeMap (Bor (List ℕ)) Beside) (key : List ℕ) (found : Option (Bor Beside))
    (nothing chosen : Bor Beside) → option_copied found ≡ get_by (λ k. slice_cmp nat_cmp key k.now) beside
    → asked_of nothing.now ≡ nothing_asked → chosen ≡ unwrap_or found nothing
    → asked_of chosen.now ≡ asked_at beside key
asked_found beside key None nothing chosen at none is =
    ap (λ (b : Bor Beside). asked_of b.now) is ∙ (none ∙ ap asked_or_nothing at)
asked_found beside key (Some b) nothing chosen at none is =
    ap (λ (b : Bor Beside). asked_of b.now) is ∙ ap asked_or_nothing at

-- where no remote is known, nothing is
pub asked_nothing : (beside : BTreeMap (Bor (List ℕ)) Beside) (key : List ℕ) → beside.entries ≡ []
    → asked_at beside key ≡ nothing_asked
asked_nothing beside key none = subst (λ (es : List (Bor (List ℕ) × Beside)).
    asked_or_nothing (lookup (λ k. is_eq (slice_cmp nat_cmp key k.now)) es) ≡ nothing_asked) (sym none) refl

in_turn_as : (Says Tells : List ℕ → List Said → Type 0) (keys : List (List ℕ)) (said : List Said)
    → ((key : List ℕ) (one : List Said) → Says key one → Tells key one) → AreInTurn Says keys said
    → AreInTurn Tells keys said
in_turn_as Says Tells [] said tells none = none
in_turn_as Says Tells (key ∷ keys) said tells (one, rest, here, more, all) =
    (one, rest, tells key one here, in_turn_as Says Tells keys rest tells more, all)

-- where no remote is known, the warnings are those on texts of which nothing is asked
pub AreWarnings-nothing : (beside : BTreeMap (Bor (List ℕ)) Beside) (seen : List Seen) (said : List Said)
    → beside.entries ≡ [] → AreWarnings (asked_at beside) seen said → AreWarnings (λ key. nothing_asked) seen said
AreWarnings-nothing beside seen said none (keys, are, all) = (
  keys,
  are,
  in_turn_as _ _ keys said
      (λ key some. subst (λ (a : Asked). AreSaidOf a (of_key key seen) some) (asked_nothing beside key none)) all,
)

-- and the same if they are asked for
pub WarnsIf-nothing : (warns : Bool) (f : Form) (beside : BTreeMap (Bor (List ℕ)) Beside) (seen : List Seen)
    (said : List Said) → beside.entries ≡ [] → WarnsIf warns f (asked_at beside) seen said
    → WarnsIf warns f (λ key. nothing_asked) seen said
WarnsIf-nothing false f beside seen said none are = are
WarnsIf-nothing true form.Lines beside seen said none are = tt
WarnsIf-nothing true form.Zeros beside seen said none are = tt
WarnsIf-nothing true form.Json beside seen said none are = AreWarnings-nothing beside seen said none are

-- warnings that are asked for
pub WarnsIf-said : (warns : Bool) (f : Form) (asks : List ℕ → Asked) (seen : List Seen)
    (r : Result (Vec Warning Global) AllocError) → warns ≡ true
    → (f ≡ form.Json → IfOk r (λ found. AreWarnings asks seen (map said_of found.items)))
    → IfOk r (λ found. WarnsIf warns f asks seen (map said_of found.items))
WarnsIf-said warns f asks seen (Err e) is are = tt
WarnsIf-said warns f asks seen (Ok found) is are =
    subst (λ (b : Bool). WarnsIf b f asks seen said) (sym is) (by f are)
  where
    said : List Said
    said = map said_of found.items

    by : (g : Form) → (g ≡ form.Json → AreWarnings asks seen said) → AreInJson g asks seen said
    by form.Lines are = tt
    by form.Zeros are = tt
    by form.Json are = are refl

-- none, if they aren't
pub WarnsIf-none : (warns : Bool) (f : Form) (asks : List ℕ → Asked) (seen : List Seen) (said : List Said)
    → warns ≡ false → said ≡ [] → WarnsIf warns f asks seen said
WarnsIf-none warns f asks seen said is none = subst (λ (b : Bool). WarnsIf b f asks seen said) (sym is) none
