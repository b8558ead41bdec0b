-- The values of names in a section, setting by setting.
use Rattle.std.proofs.Common.{◌≡◌, ◌⊎◌, inl, inr, ℕ, zero, suc, ◌<◌, Bool, Bor, true, false, cond, List, [], ◌∷◌, ◌++◌}
use Rattle.std.proofs.Common.{None, Some, Option, MatchOption, length, sym, ap, ◌∙◌, refl, subst, arith}
use Rattle.std.proofs.Common.{unwrap_or, append-nil}
use Rattle.std.proofs.lemmas.Bool.{false≢true}
use Rattle.std.proofs.lemmas.List.Elements.{filter-append}
use Rattle.std.proofs.lemmas.Map.Text.{btree_map_updates_str}
use Rattle.std.proofs.lemmas.Slice.Eq.{bytes_eq-Decides}
use Rattle.std.specs.BTreeMap.{BTreeMap, UpdatesBy, get_by}
use Rattle.std.specs.Cmp.Lexicographic.{slice_cmp}
use Rattle.std.specs.Global.{Vec}
use Rattle.std.specs.List.{Any}
use Rattle.std.specs.Ordering.{nat_cmp}
use Rattle.std.specs.Str.{bytes_eq}
use Rattle.gix_refspec_text.specs.Texts.Words.{Lacks}
use Rattle.refspec_io.specs.declared.settings.Setting.{Setting}
use Rattle.refspec_request.specs.Remotes.{AreValuesBy, IsOfName}
use Rattle.refspec_request.specs.Settings.{IsKey, has_key, joined_key, settings_with}
use Rattle.refspec_request.proofs.SettingLemmas.{by_variable, false_unless, key_once}

-- an element behind one more
pub Any-behind : {X : Type 0} (P : X → Type 0) (z : X) (xs : List X) → Any P xs → Any P (z ∷ xs)
Any-behind P z xs (k, x, below, at, p) = (suc k, x, omega (arith, below), at, p)

-- an element among some is one with others behind them
Any-left : {X : Type 0} (P : X → Type 0) (xs ys : List X) → Any P xs → Any P (xs ++ ys)
Any-left P [] ys (k, x, below, at, p) = absurd (omega (arith, below))
Any-left P (z ∷ xs) ys (zero, x, below, at, p) =
    let long : 0 < length (z ∷ (xs ++ ys)) = omega arith in (zero, x, long, at, p)
Any-left P (z ∷ xs) ys (suc k, x, below, at, p) =
    Any-behind P z (xs ++ ys) (Any-left P xs ys (k, x, omega (arith, below), at, p))

Any-last : {X : Type 0} (P : X → Type 0) (xs : List X) (y : X) → P y → Any P (xs ++ y ∷ [])
Any-last P [] y p = let long : 0 < length (y ∷ []) = omega arith in (zero, y, long, refl, p)
Any-last P (z ∷ xs) y p = Any-behind P z (xs ++ y ∷ []) (Any-last P xs y p)

-- it is among them, or the last
Any-split : {X : Type 0} (P : X → Type 0) (xs : List X) (y : X) → Any P (xs ++ y ∷ []) → Any P xs ⊎ P y
Any-split P [] y (zero, x, below, at, p) = inr (subst P (sym at) p)
Any-split P [] y (suc k, x, below, at, p) = absurd (omega (arith, below))
Any-split P (z ∷ xs) y (zero, x, below, at, p) =
    let long : 0 < length (z ∷ xs) = omega arith in inl (zero, x, long, at, p)
Any-split P (z ∷ xs) y (suc k, x, below, at, p) = elim (Any-split P xs y (k, x, omega (arith, below), at, p)) [
  | inl before ↦ inl (Any-behind P z xs before)
  | inr last ↦ inr last
]

-- what values have at a name
abbrev pub values_at : BTreeMap (Bor (List ℕ)) (Vec Setting) → List ℕ → Option (Vec Setting)
values_at values name = get_by (λ k. slice_cmp nat_cmp name k.now) values

abbrev IsAt : (section variable : List ℕ) → List Setting → List ℕ → Option (Vec Setting) → Type 0
IsAt section variable settings name found = MatchOption found (¬ (Any (IsOfName section name) settings))
    (λ values. Any (IsOfName section name) settings
    × (values.items ≡ settings_with (joined_key section name variable) settings))

-- a setting that isn't one of a name has no key of it
not_named : (section variable name : List ℕ) (s : Setting) → Lacks 46 variable → ¬ (IsOfName section name s)
    → false ≡ has_key (joined_key section name variable) s
not_named section variable name s lacks other = false_unless _ (λ t. other (
  name,
  variable,
  record { parts = (bytes_eq-Decides s.key.now (joined_key section name variable)).0 t; last = lacks },
  refl,
))

-- a name that no setting has, has no values
pub none_named : (section variable name : List ℕ) (xs : List Setting) → Lacks 46 variable
    → ¬ (Any (IsOfName section name) xs) → settings_with (joined_key section name variable) xs ≡ []
none_named section variable name [] lacks none = refl
none_named section variable name (x ∷ xs) lacks none =
    let long : 0 < length (x ∷ xs) = omega arith in
    let rest = settings_with (joined_key section name variable) xs in
    ap (λ b. cond b (x ∷ rest) rest)
    (sym (not_named section variable name x lacks (λ is. none (zero, x, long, refl, is))))
    ∙ none_named section variable name xs lacks (λ some. none (Any-behind (IsOfName section name) x xs some))

-- a setting more that isn't one of the name changes nothing
kept_at : (section variable : List ℕ) (seen : List Setting) (s : Setting) (name : List ℕ) (found : Option (Vec Setting))
    → Lacks 46 variable → ¬ (IsOfName section name s) → IsAt section variable seen name found
    → IsAt section variable (seen ++ s ∷ []) name found
kept_at section variable seen s name None lacks other none =
    λ some. elim (Any-split (IsOfName section name) seen s some) [
      | inl before ↦ none before
      | inr last ↦ other last
    ]
kept_at section variable seen s name (Some values) lacks other (some, is) =
    let key = joined_key section name variable in (
      Any-left (IsOfName section name) seen (s ∷ []) some,
      is ∙ sym (filter-append (has_key key) seen (s ∷ [])
          ∙ (ap (λ b. settings_with key seen ++ cond b (s ∷ []) [])
          (sym (not_named section variable name s lacks other))
          ∙ append-nil (settings_with key seen))),
    )

-- a setting more of no name in the section
pub values_same : (section variable : List ℕ) (seen : List Setting) (s : Setting)
    (values : BTreeMap (Bor (List ℕ)) (Vec Setting)) → Lacks 46 variable
    → ((n v : List ℕ) → ¬ (IsKey section n v s.key.now)) → AreValuesBy section variable seen values
    → AreValuesBy section variable (seen ++ s ∷ []) values
values_same section variable seen s values lacks other are name =
    kept_at section variable seen s name (values_at values name) lacks (λ (n, v, is, same). other n v is) (are name)

-- the values that are taken out are those so far
pub taken_values : (section variable : List ℕ) (seen : List Setting) (old : BTreeMap (Bor (List ℕ)) (Vec Setting))
    (name : List ℕ) (empty values : Vec Setting) (found : Option (Vec Setting)) → Lacks 46 variable
    → AreValuesBy section variable seen old → found ≡ values_at old name → empty.items ≡ []
    → values ≡ unwrap_or found empty → values.items ≡ settings_with (joined_key section name variable) seen
taken_values section variable seen old name empty values found lacks are is none same =
    by found same (subst (IsAt section variable seen name) (sym is) (are name))
  where
    by : (f : Option (Vec Setting)) → values ≡ unwrap_or f empty → IsAt section variable seen name f
        → values.items ≡ settings_with (joined_key section name variable) seen
    by None same not_so = ap (λ (v : Vec Setting). v.items) same
        ∙ (none ∙ sym (none_named section variable name seen lacks not_so))
    by (Some v) same here = ap (λ (v : Vec Setting). v.items) same ∙ here.1

-- with the setting, if it has the variable
pub with_value : (section variable : List ℕ) (seen : List Setting) (s : Setting) (name own : List ℕ)
    (old new : List Setting) → IsKey section name own s.key.now
    → old ≡ settings_with (joined_key section name variable) seen
    → new ≡ old ++ cond (bytes_eq own variable) (s ∷ []) []
    → new ≡ settings_with (joined_key section name variable) (seen ++ s ∷ [])
with_value section variable seen s name own old new is so_far grew =
    let key = joined_key section name variable in
    let tested : bytes_eq own variable ≡ has_key key s =
    by_variable s.key.now section name variable (name ++ (46 ∷ own)) own is.parts refl in
    grew ∙ (ap (λ l. l ++ cond (bytes_eq own variable) (s ∷ []) []) so_far
    ∙ (ap (λ b. settings_with key seen ++ cond b (s ∷ []) []) tested
    ∙ sym (filter-append (has_key key) seen (s ∷ []))))

-- a setting more of a name: its values are taken out, and put back
pub values_more : (section variable : List ℕ) (seen : List Setting) (s : Setting) (e : Bor (List ℕ)) (own : List ℕ)
    (old mid new : BTreeMap (Bor (List ℕ)) (Vec Setting)) (values : Vec Setting) → Lacks 46 variable
    → IsKey section e.now own s.key.now → AreValuesBy section variable seen old
    → UpdatesBy (λ x y. slice_cmp nat_cmp x.now y.now) (λ k. slice_cmp nat_cmp e.now k.now) old mid None
    → UpdatesBy (λ x y. slice_cmp nat_cmp x.now y.now) (λ k. slice_cmp nat_cmp e.now k.now) mid new (Some values)
    → values.items ≡ settings_with (joined_key section e.now variable) (seen ++ s ∷ [])
    → AreValuesBy section variable (seen ++ s ∷ []) new
values_more section variable seen s e own old mid new values lacks is are taken put items q = by (bytes_eq e.now q) refl
  where
    looked : values_at new q ≡ cond (bytes_eq e.now q) (Some values) (cond (bytes_eq e.now q) None (values_at old q))
    looked = btree_map_updates_str e.now mid new (Some values) put q
        ∙ ap (λ (o : Option (Vec Setting)). cond (bytes_eq e.now q) (Some values) o)
        (btree_map_updates_str e.now old mid None taken q)

    by : (b : Bool) → bytes_eq e.now q ≡ b → IsAt section variable (seen ++ s ∷ []) q (values_at new q)
    by true same =
        let here : e.now ≡ q = (bytes_eq-Decides e.now q).0 same in
        subst (IsAt section variable (seen ++ s ∷ []) q) (sym (looked
        ∙ ap (λ (b : Bool). cond b (Some values) (cond b None (values_at old q))) same)) (
          Any-last (IsOfName section q) seen s (e.now, own, is, here),
          items ∙ ap (λ n. settings_with (joined_key section n variable) (seen ++ s ∷ [])) here,
        )
    by false other =
        subst (IsAt section variable (seen ++ s ∷ []) q) (sym (looked
        ∙ ap (λ (b : Bool). cond b (Some values) (cond b None (values_at old q))) other))
        (kept_at section variable seen s q (values_at old q) lacks
        (λ (n, v, key, same). false≢true (sym other ∙ (bytes_eq-Decides e.now q).1
        ((key_once section s.key.now e.now own n v is key).0 ∙ same))) (are q))
