-- Names in the order in which those in the directory of a name follow it, and which of them are nested.
use Rattle.std.proofs.Common.{◌≡◌, ◌≢◌, ◌⊎◌, ◌↔◌, inl, inr, ℕ, ◌+◌, ◌<◌, Bool, Bor, true, false, cond, List, [], ◌∷◌}
use Rattle.std.proofs.Common.{◌++◌, Option, None, Some, MatchOption, is_some, bytes_eq, map, take, drop, get_or, length}
use Rattle.std.proofs.Common.{refl, sym, ap, ◌∙◌, subst, append_assoc, add-one, drop-cons, length-drop, zero, suc, ◌-◌}
use Rattle.std.proofs.Common.{◌≤◌, arith, IsTrue}
use Rattle.std.specs.BTreeMap.{BTreeMap, UpdatesBy, get_by, is_at}
use Rattle.std.specs.Cmp.{IsTotalOrder}
use Rattle.std.specs.Cmp.Lexicographic.{slice_cmp}
use Rattle.std.specs.List.{Contains}
use Rattle.std.specs.List.Sorted.{IsPermutation}
use Rattle.std.specs.Map.{lookup}
use Rattle.std.specs.Ordering.{is_lt, nat_cmp, ordering_then}
use Rattle.std.specs.declared.cmp.Ordering.{Ordering}
use Rattle.std.proofs.lemmas.Bool.{false≢true}
use Rattle.std.proofs.lemmas.Bool.Decides.{nat_tests}
use Rattle.std.proofs.lemmas.Cmp.{lists_total, on_total, nat_cmp_total, tied_itself}
use Rattle.std.proofs.lemmas.List.{get_or-map, get_or-take, get_or_default, length-map, map_more, length-take-le}
use Rattle.std.proofs.lemmas.List.Elements.{Contains-append_left, Contains-push, Contains-push_cases}
use Rattle.std.proofs.lemmas.List.Sorted.{Contains-permutation, IsPermutation-map, IsPermutation-sym, ranks_by}
use Rattle.std.proofs.lemmas.List.Sorted.{sorted_far}
use Rattle.std.proofs.lemmas.Map.Text.{btree_map_updates_str}
use Rattle.std.proofs.lemmas.Slice.Eq.{bytes_eq-Decides}
use Rattle.gix_refspec_text.specs.Texts.{Bytes.slash}
use Rattle.gix_refspec_plan.specs.Matching.Plan.{AreNested, IsDirectoryOf}
use Rattle.gix_refspec_plan.specs.Private.Directories.{AreInOrder, IsNestedIn, TellNestedIn, by_component, rank}

same_rank : (x y : ℕ) → rank x ≡ rank y → x ≡ y
same_rank x y same = grind (arith, nat_tests)

-- of two comparisons that are opposite, neither says Less if the first elements are the same
ties : (p q : ℕ) (o w : Ordering) → is_lt (ordering_then (nat_cmp p q) o) ≡ false
    → is_lt (ordering_then (nat_cmp q p) w) ≡ false → (p ≡ q) × (is_lt o ≡ false) × (is_lt w ≡ false)
ties p q o w up down = grind (arith, nat_tests)

-- d isn't behind e
abbrev pub IsUpTo : List ℕ → List ℕ → Type 0
IsUpTo d e = is_lt (by_component e d) ≡ false

-- what is between a name and one in its directory is in that too
between : (d e after : List ℕ) → IsUpTo d e → IsUpTo e ((d ++ slash ∷ []) ++ after) → (d ≡ e) ⊎ IsDirectoryOf d e
between [] [] after low high = inl refl
between [] (y ∷ e) after low high =
    let lowest : y ≡ slash = grind (arith, nat_tests) in inr (record { after = e; here = ap (λ (z : ℕ). z ∷ e) lowest })
between (x ∷ d) [] after low high = absurd (false≢true (sym low))
between (x ∷ d) (y ∷ e) after low high =
    let (rank_same, low_rest, high_rest) = ties (rank y) (rank x) _ _ low high in
    let same : y ≡ x = same_rank y x rank_same in
    elim (between d e after low_rest high_rest) [
      | inl is ↦ inl (λ i. sym same i ∷ is i)
      | inr in_d ↦ inr (record { after = in_d.after; here = λ i. same i ∷ in_d.here i })
    ]

before_nested : (d after : List ℕ) → is_lt (by_component d ((d ++ slash ∷ []) ++ after)) ≡ true
before_nested [] after = refl
before_nested (x ∷ d) after = rw (tied_itself nat_cmp_total (rank x)) (before_nested d after)

pub never_behind : (d e : List ℕ) → IsDirectoryOf d e → ¬ (IsUpTo e d)
never_behind d e in_d up = false≢true (sym (rw in_d.here at up) ∙ before_nested d in_d.after)

pub follows : (d e f : List ℕ) → IsUpTo d e → IsUpTo e f → IsDirectoryOf d f → (d ≡ e) ⊎ IsDirectoryOf d e
follows d e f low high in_d = between d e in_d.after low (rw in_d.here at high)

pub deeper : (d e f : List ℕ) → IsDirectoryOf d e → IsDirectoryOf e f → IsDirectoryOf d f
deeper d e f one other = record {
  after = (one.after ++ slash ∷ []) ++ other.after;
  here = other.here ∙ ap (λ (x : List ℕ). (x ++ slash ∷ []) ++ other.after) one.here
      ∙ ap (λ (x : List ℕ). x ++ other.after) (append_assoc (d ++ slash ∷ []) one.after (slash ∷ []))
      ∙ append_assoc (d ++ slash ∷ []) (one.after ++ slash ∷ []) other.after;
}

pub component_total : IsTotalOrder by_component
component_total = lists_total (on_total rank nat_cmp_total)

pub up_to_itself : (d : List ℕ) → IsUpTo d d
up_to_itself d = ap is_lt (tied_itself component_total d)

pub not_itself : (d : List ℕ) → ¬ (IsDirectoryOf d d)
not_itself d in_d = never_behind d d in_d (up_to_itself d)

-- no name is nested with itself
pub nested_once : (d : List ℕ) → ¬ (AreNested d d)
nested_once d (inl in_d) = not_itself d in_d
nested_once d (inr in_d) = not_itself d in_d

pub turned : (d e : List ℕ) → AreNested d e → AreNested e d
turned d e (inl in_d) = inr in_d
turned d e (inr in_e) = inl in_e

-- ---- comparing

then_apart : (p q : ℕ) (o : Ordering) → p ≢ q → ordering_then (nat_cmp p q) o ≡ nat_cmp p q
then_apart p q o differ = grind (arith, nat_tests)

then_same : (p q : ℕ) (o : Ordering) → p ≡ q → ordering_then (nat_cmp p q) o ≡ o
then_same p q o same = grind (arith, nat_tests)

module _ (xs ys : List ℕ) (i : ℕ) (in_xs : i < length xs) (in_ys : i < length ys) where
  both_more : by_component (drop i xs) (drop i ys) ≡ ordering_then
      (nat_cmp (rank (get_or xs i 0)) (rank (get_or ys i 0))) (by_component (drop (suc i) xs) (drop (suc i) ys))
  both_more = ap (λ (l : List ℕ). by_component l (drop i ys)) (drop-cons xs i 0 in_xs)
      ∙ ap (λ (l : List ℕ). by_component (get_or xs i 0 ∷ drop (suc i) xs) l) (drop-cons ys i 0 in_ys)

  pub differ_here : (p q : ℕ) → p ≡ rank (get_or xs i 0) → q ≡ rank (get_or ys i 0) → p ≢ q
      → by_component (drop i xs) (drop i ys) ≡ nat_cmp p q
  differ_here p q is also differ = both_more ∙ rw (← is, ← also) (then_apart p q _ differ)

  pub same_here : (p q : ℕ) → p ≡ rank (get_or xs i 0) → q ≡ rank (get_or ys i 0) → p ≡ q
      → by_component (drop i xs) (drop i ys) ≡ by_component (drop (i + 1) xs) (drop (i + 1) ys)
  same_here p q is also same = both_more ∙ rw (← is, ← also, add-one) (then_same p q _ same)

ends : (xs ys : List ℕ) → (length xs ≡ 0) ⊎ (length ys ≡ 0) → by_component xs ys ≡ nat_cmp (length xs) (length ys)
ends [] [] over = refl
ends [] (y ∷ ys) over = grind (arith, nat_tests)
ends (x ∷ xs) [] over = grind (arith, nat_tests)
ends (x ∷ xs) (y ∷ ys) over = absurd (omega arith)

shifted : (p q i : ℕ) → i ≤ p → i ≤ q → nat_cmp (p - i) (q - i) ≡ nat_cmp p q
shifted p q i in_p in_q = grind (arith, nat_tests)

pub at_end : (xs ys : List ℕ) (i : ℕ) → i ≤ length xs → i ≤ length ys → (i ≡ length xs) ⊎ (i ≡ length ys)
    → by_component (drop i xs) (drop i ys) ≡ nat_cmp (length xs) (length ys)
at_end xs ys i in_xs in_ys over =
    let long : length (drop i xs) ≡ length xs - i = length-drop i xs in
    let also : length (drop i ys) ≡ length ys - i = length-drop i ys in
    ends (drop i xs) (drop i ys)
    (elim over [ inl is ↦ inl (omega (arith, long, is)) | inr is ↦ inr (omega (arith, also, is)) ])
    ∙ ap (λ (n : ℕ). nat_cmp n (length (drop i ys))) long ∙ ap (λ (n : ℕ). nat_cmp (length xs - i) n) also
    ∙ shifted (length xs) (length ys) i in_xs in_ys

-- ---- one name in the directory of another

pub directory_told : (d e : List ℕ) (r : Bool) → length d < length e → get_or e (length d) 0 ≡ slash
    → (r ≡ true → e ≡ d ++ drop (length d) e) × ((rest : List ℕ) → e ≡ d ++ rest → r ≡ true)
    → IsTrue r ↔ IsDirectoryOf d e
directory_told d e r longer is told = (
  (λ found. record {
    after = drop (suc (length d)) e;
    here = told.0 found ∙ ap (λ (x : List ℕ). d ++ x)
        (drop-cons e (length d) 0 longer ∙ ap (λ (b : ℕ). b ∷ drop (suc (length d)) e) is)
        ∙ sym (append_assoc d (slash ∷ []) (drop (suc (length d)) e));
  }),
  (λ in_d. told.1 (slash ∷ in_d.after) (in_d.here ∙ append_assoc d (slash ∷ []) in_d.after)),
)

get_or_same : {X : Type 0} (xs : List X) (k : ℕ) (d e : X) → k < length xs → get_or xs k d ≡ get_or xs k e
get_or_same xs k d e below = get_or_default xs k d e below

match_weaker : {X : Type 0} (o : Option X) {N M : Type 0} {P Q : X → Type 0} → (N → M) → ((x : X) → P x → Q x)
    → MatchOption o N P → MatchOption o M Q
match_weaker None none some told = none told
match_weaker (Some x) none some told = some x told

-- what a map has for a name
abbrev known : BTreeMap (Bor (List ℕ)) (Bor (List ℕ)) → List ℕ → Option (Bor (List ℕ))
known nested d = get_by (λ k. slice_cmp nat_cmp d k.now) nested

-- ---- one pass over sorted names

-- the last of some sorted names that is in no directory of another: all later ones are in its directory
pub record IsUpper (names : List (List ℕ)) (top : List ℕ) : Type 0 where
  pub has : Contains names top
  pub free : (d : List ℕ) → Contains names d → ¬ (IsDirectoryOf d top)
  pub upto : (d : List ℕ) → Contains names d → IsUpTo d top ⊎ IsDirectoryOf top d

module _ (names : List (List ℕ)) (top name : List ℕ) (up : IsUpper names top) (order : (d : List ℕ) → Contains names d
    → IsUpTo d name) where
  above : (d : List ℕ) → Contains names d → IsDirectoryOf d name → (d ≡ top) ⊎ IsDirectoryOf top d
  above d has in_d = elim (up.upto d has) [
    | inl low ↦ elim (follows d top name low (order top up.has) in_d) [
      | inl is ↦ inl is
      | inr in_top ↦
          absurd (up.free d has in_top)
    ]
    | inr in_top ↦ inr in_top
  ]

  never_in : (d : List ℕ) → Contains names d → ¬ (IsDirectoryOf name d)
  never_in d has in_name = never_behind name d in_name (order d has)

  kept : (d : List ℕ) → IsNestedIn names d → IsNestedIn (names ++ name ∷ []) d
  kept d (has, (e, also, nested)) =
      (Contains-append_left names (name ∷ []) d has, (e, Contains-append_left names (name ∷ []) e also, nested))

  last : Contains (names ++ name ∷ []) name
  last = Contains-push names name

  top_in : Contains (names ++ name ∷ []) top
  top_in = Contains-append_left names (name ∷ []) top up.has

  module _ (inside : IsDirectoryOf top name) where
    inside_cases : (d : List ℕ) → IsNestedIn (names ++ name ∷ []) d → (IsNestedIn names d ⊎ (d ≡ top)) ⊎ (d ≡ name)
    inside_cases d (has, (e, also, nested)) = elim (Contains-push_cases names name d has) [
      | inr is ↦ inr (sym is)
      | inl old ↦ elim (Contains-push_cases names name e also) [
        | inl too ↦ inl (inl (old, (e, too, nested)))
        | inr is ↦ elim nested [
          | inl in_d ↦ elim (above d old (subst (IsDirectoryOf d) (sym is) in_d)) [
            | inl same ↦ inl (inr same)
            | inr in_top ↦ inl (inl (old, (top, up.has, inr in_top)))
          ]
          | inr in_e ↦ absurd (never_in d old (subst (λ (x : List ℕ). IsDirectoryOf x d) (sym is) in_e))
        ]
      ]
    ]

    pub inside_upper : IsUpper (names ++ name ∷ []) top
    inside_upper = record {
      has = top_in;
      free = λ d has in_d. elim (Contains-push_cases names name d has) [
        | inl old ↦ up.free d old in_d
        | inr is ↦
            never_in top up.has (subst (λ (x : List ℕ). IsDirectoryOf x top) (sym is) in_d)
      ];
      upto = λ d has. elim (Contains-push_cases names name d has) [
        | inl old ↦ up.upto d old
        | inr is ↦
            inr (subst (IsDirectoryOf top) is inside)
      ];
    }

  module _ (outside : ¬ (IsDirectoryOf top name)) where
    alone : (d : List ℕ) → Contains names d → ¬ (AreNested d name)
    alone d has (inl in_d) =
        elim (above d has in_d) [
          | inl is ↦ outside (subst (λ (x : List ℕ). IsDirectoryOf x name) is in_d)
          | inr in_top ↦
              outside (deeper top d name in_top in_d)
        ]
    alone d has (inr in_name) = never_in d has in_name

    outside_cases : (d : List ℕ) → IsNestedIn (names ++ name ∷ []) d → IsNestedIn names d
    outside_cases d (has, (e, also, nested)) = elim (Contains-push_cases names name d has) [
      | inl old ↦ elim (Contains-push_cases names name e also) [
        | inl too ↦ (old, (e, too, nested))
        | inr is ↦ absurd (alone d old (subst (AreNested d) (sym is) nested))
      ]
      | inr is ↦ elim (Contains-push_cases names name e also) [
        | inl too ↦ absurd (alone e too (turned name e (subst (λ (x : List ℕ). AreNested x e) (sym is) nested)))
        | inr same ↦ absurd
            (elim nested [
              | inl in_d ↦ not_itself d (subst (IsDirectoryOf d) (sym same ∙ is) in_d)
              | inr in_e ↦
                  not_itself d (subst (λ (x : List ℕ). IsDirectoryOf x d) (sym same ∙ is) in_e)
            ])
      ]
    ]

    pub outside_upper : IsUpper (names ++ name ∷ []) name
    outside_upper = record {
      has = last;
      free = λ d has in_d. elim (Contains-push_cases names name d has) [
        | inl old ↦ alone d old (inl in_d)
        | inr is ↦
            not_itself name (subst (λ (x : List ℕ). IsDirectoryOf x name) (sym is) in_d)
      ];
      upto = λ d has. inl
          (elim (Contains-push_cases names name d has) [
            | inl old ↦ order d old
            | inr is ↦
                subst (λ (x : List ℕ). IsUpTo x name) is (up_to_itself name)
          ]);
    }

    pub outside_told : (nested : BTreeMap (Bor (List ℕ)) (Bor (List ℕ))) → TellNestedIn names nested
        → TellNestedIn (names ++ name ∷ []) nested
    outside_told nested told d = match_weaker (known nested d) (λ none is. none (outside_cases d is))
        (λ e (has, (also, nests)). (
          Contains-append_left names (name ∷ []) d has,
          (Contains-append_left names (name ∷ []) e.now also, nests),
        )) (told d)

-- what is looked up after an insertion
inserted : (old new : BTreeMap (Bor (List ℕ)) (Bor (List ℕ))) (e v : Bor (List ℕ))
    → UpdatesBy (λ x y. slice_cmp nat_cmp x.now y.now) (λ k. slice_cmp nat_cmp e.now k.now) old new (Some v)
    → (d : List ℕ) → ((known new d ≡ Some v) × (d ≡ e.now)) ⊎ ((known new d ≡ known old d) × (d ≢ e.now))
inserted old new e v updates d = by (bytes_eq e.now d) refl
  where
    looked : known new d ≡ cond (bytes_eq e.now d) (Some v) (known old d)
    looked = btree_map_updates_str e.now old new (Some v) updates d

    by : (b : Bool) → bytes_eq e.now d ≡ b → ((known new d ≡ Some v) × (d ≡ e.now))
        ⊎ ((known new d ≡ known old d) × (d ≢ e.now))
    by true same = inl (
      looked ∙ ap (λ (b : Bool). cond b (Some v) (known old d)) same,
      sym ((bytes_eq-Decides e.now d).0 same),
    )
    by false other = inr (
      looked ∙ ap (λ (b : Bool). cond b (Some v) (known old d)) other,
      λ is. false≢true (sym other ∙ (bytes_eq-Decides e.now d).1 (sym is)),
    )

-- d is one of the names, and e another one that is a directory of it, or is in it
abbrev IsOther : List (List ℕ) → List ℕ → Bor (List ℕ) → Type 0
IsOther names d e = Contains names d × (Contains names e.now × AreNested d e.now)

pub inside_told : (names : List (List ℕ)) (old mid new : BTreeMap (Bor (List ℕ)) (Bor (List ℕ)))
    (top name : Bor (List ℕ)) → IsUpper names top.now → ((d : List ℕ) → Contains names d → IsUpTo d name.now)
    → IsDirectoryOf top.now name.now → UpdatesBy (λ x y. slice_cmp nat_cmp x.now y.now)
    (λ k. slice_cmp nat_cmp top.now k.now) old mid (Some name)
    → UpdatesBy (λ x y. slice_cmp nat_cmp x.now y.now) (λ k. slice_cmp nat_cmp name.now k.now) mid new (Some top)
    → TellNestedIn names old → TellNestedIn (names ++ name.now ∷ []) new
inside_told names old mid new top name up order inside first second told d =
    let more = names ++ name.now ∷ [] in
    let has_name : Contains more name.now = Contains-push names name.now in
    let has_top : Contains more top.now = Contains-append_left names (name.now ∷ []) top.now up.has in
    let Told : Option (Bor (List ℕ)) → Type 0 = λ o. MatchOption o (¬ (IsNestedIn more d)) (IsOther more d) in
    elim (inserted mid new name top second d) [
      | inl (is, d_is) ↦
          subst Told (sym is) (subst (λ (x : List ℕ). IsOther more x top) (sym d_is) (has_name, (has_top, inr inside)))
      | inr (same, no_name) ↦ subst Told (sym same) (elim (inserted old mid top name first d) [
        | inl (is, d_is) ↦
            subst Told (sym is)
            (subst (λ (x : List ℕ). IsOther more x name) (sym d_is) (has_top, (has_name, inl inside)))
        | inr (also, no_top) ↦ subst Told (sym also) (match_weaker (known old d)
            (λ none is. elim (inside_cases names top.now name.now up order inside d is) [
              | inl before ↦ elim before [ inl earlier ↦ none earlier | inr d_is ↦ no_top d_is ]
              | inr d_is ↦ no_name d_is
            ])
            (λ e (has, (too, nests)). (
              Contains-append_left names (name.now ∷ []) d has,
              (Contains-append_left names (name.now ∷ []) e.now too, nests),
            )) (told d))
      ])
    ]

-- ---- the names of a list up to an index

abbrev pub texts : List (Bor (List ℕ)) → List (List ℕ)
texts names = map (λ name. name.now) names

pub order_at : (names : List (Bor (List ℕ))) (at : ℕ) (name : Bor (List ℕ)) → AreInOrder names → at < length names
    → name ≡ get_or names at name → (d : List ℕ) → Contains (texts (take at names)) d → IsUpTo d name.now
order_at names at name sorted below is d (k, inside, here) =
    let long : k < length (take at names) =
    omega (arith, inside, length-map (take at names) (λ (x : Bor (List ℕ)). x.now)) in
    let short : k < at = omega (arith, long, length-take-le at names (omega (arith, below))) in
    let same : d ≡ (get_or names k name).now = sym here ∙ get_or-map (λ (x : Bor (List ℕ)). x.now)
    (take at names) k name d long ∙ ap (λ (x : Bor (List ℕ)). x.now) (get_or-take at names k name short) in
    let far = sorted_far (λ (x y : Bor (List ℕ)). is_lt (by_component x.now y.now))
    (ranks_by component_total (λ (x : Bor (List ℕ)). x.now)) names sorted k at name (omega (arith, short)) below in
    ap (λ (x : List ℕ). is_lt (by_component x d)) (ap (λ (x : Bor (List ℕ)). x.now) is)
    ∙ ap (λ (x : List ℕ). is_lt (by_component (get_or names at name).now x)) same ∙ far

only : (x d : List ℕ) → Contains (x ∷ []) d → d ≡ x
only x d (zero, below, is) = sym is
only x d (suc k, below, is) = absurd (omega (arith, below))

single_free : (names : List (Bor (List ℕ))) (d : List ℕ) → ¬ (IsNestedIn (texts (take 1 names)) d)
single_free [] d (has, any) = absurd (omega (arith, has.1))
single_free (x ∷ xs) d (has, (e, also, nested)) =
    let is = only x.now d has in
    let same = only x.now e also in
    elim nested [
      | inl in_d ↦ not_itself d (subst (IsDirectoryOf d) (same ∙ sym is) in_d)
      | inr in_e ↦
          not_itself d (subst (λ (y : List ℕ). IsDirectoryOf y d) (same ∙ sym is) in_e)
    ]

pub none_told : (names : List (Bor (List ℕ))) (empty : BTreeMap (Bor (List ℕ)) (Bor (List ℕ))) → empty.entries ≡ []
    → TellNestedIn (texts (take 1 names)) empty
none_told names empty none d =
    subst (λ (es : List (Bor (List ℕ) × Bor (List ℕ))). MatchOption (lookup (is_at (λ k. slice_cmp nat_cmp d k.now)) es)
    (¬ (IsNestedIn (texts (take 1 names)) d)) (IsOther (texts (take 1 names)) d)) (sym none) (single_free names d)

pub first_upper : (names : List (Bor (List ℕ))) (e : Bor (List ℕ)) → 1 ≤ length names → IsUpper (texts (take 1 names))
    (get_or names 0 e).now
first_upper [] e some = absurd (omega (arith, some))
first_upper (x ∷ xs) e some = record {
  has = (0, omega arith, refl);
  free = λ d has in_d. not_itself d (subst (IsDirectoryOf d) (sym (only x.now d has)) in_d);
  upto = λ d has. inl (subst (λ (y : List ℕ). IsUpTo y x.now) (sym (only x.now d has)) (up_to_itself x.now));
}

-- what is known of the names up to an index
pub record HavePassed (names : List (Bor (List ℕ))) (at upper : ℕ) (nested : BTreeMap (Bor (List ℕ)) (Bor (List ℕ))) :
    Type 0 where
  pub below : upper < at
  pub told : TellNestedIn (texts (take at names)) nested
  pub passed : at ≤ length names → (e : Bor (List ℕ)) → IsUpper (texts (take at names)) (get_or names upper e).now

module _ (names : List (Bor (List ℕ))) (at upper : ℕ) (old : BTreeMap (Bor (List ℕ)) (Bor (List ℕ)))
    (sorted : AreInOrder names) (so_far : HavePassed names at upper old) (top name : Bor (List ℕ))
    (below : at < length names) (is_top : top ≡ get_or names upper top) (is : name ≡ get_or names at name) where
  upper_now : IsUpper (texts (take at names)) top.now
  upper_now = subst (IsUpper (texts (take at names))) (ap (λ (x : Bor (List ℕ)). x.now) (sym is_top))
      (so_far.passed (omega (arith, below)) top)

  one_more : texts (take (at + 1) names) ≡ texts (take at names) ++ name.now ∷ []
  one_more = map_more (λ (x : Bor (List ℕ)). x.now) names at name below
      ∙ ap (λ (x : Bor (List ℕ)). texts (take at names) ++ x.now ∷ []) (sym is)

  pub passed_inside : (mid new : BTreeMap (Bor (List ℕ)) (Bor (List ℕ))) → IsDirectoryOf top.now name.now
      → UpdatesBy (λ x y. slice_cmp nat_cmp x.now y.now) (λ k. slice_cmp nat_cmp top.now k.now) old mid (Some name)
      → UpdatesBy (λ x y. slice_cmp nat_cmp x.now y.now) (λ k. slice_cmp nat_cmp name.now k.now) mid new (Some top)
      → HavePassed names (at + 1) upper new
  passed_inside mid new inside first second = record {
    below = omega (arith, so_far.below);
    told = subst (λ (l : List (List ℕ)). TellNestedIn l new) (sym one_more)
        (inside_told (texts (take at names)) old mid new top name upper_now (order_at names at name sorted below is)
        inside first second so_far.told);
    passed = λ fits e. subst (λ (l : List (List ℕ)). IsUpper l (get_or names upper e).now) (sym one_more)
        (inside_upper (texts (take at names)) (get_or names upper e).now name.now
        (so_far.passed (omega (arith, below)) e) (order_at names at name sorted below is)
        (subst (λ (x : Bor (List ℕ)). IsDirectoryOf x.now name.now)
        (is_top ∙ get_or_same names upper top e (omega (arith, below, so_far.below))) inside));
  }

  pub passed_outside : ¬ (IsDirectoryOf top.now name.now) → HavePassed names (at + 1) at old
  passed_outside outside = record {
    below = omega arith;
    told = subst (λ (l : List (List ℕ)). TellNestedIn l old) (sym one_more)
        (outside_told (texts (take at names)) top.now name.now upper_now (order_at names at name sorted below is)
        outside old so_far.told);
    passed = λ fits e. subst (λ (l : List (List ℕ)). IsUpper l (get_or names at e).now) (sym one_more)
        (subst (λ (x : Bor (List ℕ)). IsUpper (texts (take at names) ++ name.now ∷ []) x.now)
        (is ∙ get_or_same names at name e below)
        (outside_upper (texts (take at names)) top.now name.now upper_now (order_at names at name sorted below is)
        outside));
  }

-- what is told of names in another order is the same
pub told_permuted : (names others : List (Bor (List ℕ))) (nested : BTreeMap (Bor (List ℕ)) (Bor (List ℕ)))
    → IsPermutation names others → TellNestedIn (texts others) nested → TellNestedIn (texts names) nested
told_permuted names others nested permuted told d =
    let moved = IsPermutation-map (λ (x : Bor (List ℕ)). x.now) names others permuted in
    let there : (x : List ℕ) → Contains (texts names) x → Contains (texts others) x = λ x has. Contains-permutation
    (texts names) (texts others) x moved has in
    let back : (x : List ℕ) → Contains (texts others) x → Contains (texts names) x = λ x has. Contains-permutation
    (texts others) (texts names) x (IsPermutation-sym (texts names) (texts others) moved) has in match_weaker
    (known nested d) (λ none (has, (e, also, nests)). none (there d has, (e, there e also, nests)))
    (λ e (has, (also, nests)). (back d has, (back e.now also, nests))) (told d)

-- whether something is told of a name
pub some_told : (names : List (List ℕ)) (d : List ℕ) (o : Option (Bor (List ℕ)))
    → MatchOption o (¬ (IsNestedIn names d)) (IsOther names d) → IsTrue (is_some o) ↔ IsNestedIn names d
some_told names d None none = ((λ found. absurd (false≢true found)), (λ is. absurd (none is)))
some_told names d (Some e) (has, (also, nests)) = ((λ found. (has, (e.now, also, nests))), (λ is. refl))
