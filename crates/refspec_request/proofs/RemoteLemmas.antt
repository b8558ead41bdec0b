-- Settings of remotes among others.
use Rattle.std.proofs.Common.{◌≡◌, ◌≢◌, ◌⊎◌, inl, inr, ◌↔◌, ℕ, ◌+◌, ◌<◌, ◌≤◌, Bool, Bor, IsTrue, not}
use Rattle.std.proofs.Common.{List, None, Some, Option, MatchOption, option_map, codes, length, take, get_or, sym, ap}
use Rattle.std.proofs.Common.{◌∙◌, refl, subst, arith, take_all, min, [], ◌∷◌, ◌++◌, length-append}
use Rattle.std.proofs.lemmas.Bool.{cases_Bool, cases_lt}
use Rattle.std.proofs.lemmas.Bool.Decides.{not_from_Decides}
use Rattle.std.proofs.lemmas.List.{get_or-take, length-take-le, get_or_default, take_more, append-nil}
use Rattle.std.proofs.lemmas.Slice.Eq.{bytes_eq-Decides}
use Rattle.std.proofs.Math.Nat.{le-min, min-eq_left, min_comm}
use Rattle.std.proofs.lemmas.Grind.{flat_map-append}
use Rattle.std.specs.List.{Any, flat_map}
use Rattle.std.specs.Str.{bytes_eq}
use Rattle.refspec_io.specs.declared.settings.Setting.{Setting}
use Rattle.refspec_request.specs.declared.remotes.OldRemote.{OldRemote}
use Rattle.refspec_request.specs.Settings.{IsKey}
use Rattle.refspec_request.specs.Remotes.{IsConfigured, IsDefault, IsLocated, IsOfOther, IsOfRemote, IsOnly}
use Rattle.refspec_request.specs.Remotes.{IsGroup, IsInFile, IsOnlyOrOrigin, listed_in, members_of, members_text}
use Rattle.refspec_request.specs.Remotes.{remote_of_branch}

-- an element at an index
pub Any-at : {X : Type 0} (P : X → Type 0) (xs : List X) (i : ℕ) (d : X) → i < length xs → P (get_or xs i d) → Any P xs
Any-at P xs i d below p = (i, get_or xs i d, below, get_or_default xs i (get_or xs i d) d below, p)

-- an element among one more is that one, or among those before it
pub Any-next : {X : Type 0} (P : X → Type 0) (xs : List X) (i : ℕ) (d : X) → i < length xs → Any P (take (i + 1) xs)
    → Any P (take i xs) ⊎ P (get_or xs i d)
Any-next P xs i d below (k, x, within, here, p) =
    let long : length (take (i + 1) xs) ≡ i + 1 = length-take-le (i + 1) xs (omega arith) in
    let short : length (take i xs) ≡ i = length-take-le i xs (omega arith) in
    let among : get_or xs k x ≡ x = sym (get_or-take (i + 1) xs k x (omega arith)) ∙ here in
    elim (cases_lt k i) [
      | inl less ↦ inl (k, x, omega arith, get_or-take i xs k x less ∙ among, p)
      | inr above ↦
          let last : k ≡ i = omega arith in
          inr (subst P (sym among ∙ (ap (λ j. get_or xs j x) last ∙ get_or_default xs i x d below)) p)
    ]

-- no setting of a remote among one more
pub none_configured : (xs : List Setting) (i : ℕ) (d : Setting) (name : List ℕ) → i < length xs
    → ((n v : List ℕ) → ¬ (IsKey (codes "remote") n v (get_or xs i d).key.now))
    → ¬ (IsConfigured (take i xs) name) → ¬ (IsConfigured (take (i + 1) xs) name)
none_configured xs i d name below other none some = elim (Any-next (IsOfRemote name) xs i d below some) [
  | inl before ↦ none before
  | inr last ↦ other last.0 last.1 last.2
]

-- so no setting at all is one of a remote
pub none_at_all : (xs : List Setting) (i : ℕ) (name : List ℕ) → length xs ≤ i → ¬ (IsConfigured (take i xs) name)
    → ¬ (IsConfigured xs name)
none_at_all xs i name past none some = none (subst (λ (l : List Setting). IsConfigured l name)
    (sym (take_all i xs past)) some)

-- a setting of a remote
pub configured_at : (xs : List Setting) (i : ℕ) (d : Setting) (name variable : List ℕ) → i < length xs
    → IsKey (codes "remote") name variable (get_or xs i d).key.now → IsConfigured xs name
configured_at xs i d name variable below is = Any-at (IsOfRemote name) xs i d below (name, variable, is, refl)

-- what a comparison of two texts tells that differ
pub other_bytes : (x y : List ℕ) (test : Bool) → test ≡ not (bytes_eq x y) → IsTrue test ↔ (x ≢ y)
other_bytes x y test is = grind (arith, bytes_eq-Decides x y)

-- without a setting of another remote, this one is the only one
pub only_one : (xs : List Setting) (name : List ℕ) → IsConfigured xs name → ¬ (Any (IsOfOther name) xs) → IsOnly xs name
only_one xs name here none = (
  here,
  λ other (k, s, below, at, (n, v, is, same)).
      elim (cases_Bool (bytes_eq other name)) [
        | inl so ↦ (bytes_eq-Decides other name).0 so
        | inr differs ↦ absurd (none (
          k,
          s,
          below,
          at,
          (n, v, is, λ e. not_from_Decides _ (bytes_eq-Decides other name) differs (sym same ∙ e)),
        ))
      ],
)

-- with one it isn't, and neither is another
pub not_only : (xs : List Setting) (first name : List ℕ) → IsConfigured xs first → Any (IsOfOther first) xs
    → ¬ (IsOnly xs name)
not_only xs first name here (k, s, below, at, (n, v, is, differs)) only =
    differs (only.1 n (k, s, below, at, (n, v, is, refl)) ∙ sym (only.1 first here))

-- the only remote or origin is one name
pub only_once : (xs : List Setting) (one other : List ℕ) → IsOnlyOrOrigin xs one → IsOnlyOrOrigin xs other → one ≡ other
only_once xs one other (inl a) (inl b) = b.1 one a.0
only_once xs one other (inl a) (inr b) = absurd (b.0 one a)
only_once xs one other (inr a) (inl b) = absurd (a.0 other b)
only_once xs one other (inr a) (inr b) = a.1 ∙ sym b.1

-- the default if the branch has no remote
pub default_by : (xs : List Setting) (branch : List ℕ) (files : List OldRemote) (r : Option (Bor (List ℕ)))
    → remote_of_branch xs branch ≡ None
    → MatchOption r ((name : List ℕ) → IsOnlyOrOrigin xs name → ¬ (IsLocated xs files name))
    (λ name. IsOnlyOrOrigin xs name.now × IsLocated xs files name.now)
    → IsDefault xs branch files (option_map (λ name. name.now) r)
default_by xs branch files None none found = (none, found)
default_by xs branch files (Some name) none found = inr (none, found.0, found.1)

-- a file of the name at an index
pub file_at : (xs : List OldRemote) (i : ℕ) (x d : OldRemote) (name : List ℕ) → i < length xs → x ≡ get_or xs i d
    → x.name.items ≡ name → IsInFile xs name
file_at xs i x d name below is same = Any-at (λ file. file.name.items ≡ name) xs i d below
    (subst (λ (y : OldRemote). y.name.items ≡ name) is same)

-- no file of the name among one more
pub none_in_file : (xs : List OldRemote) (i : ℕ) (x d : OldRemote) (name : List ℕ) → i < length xs → x ≡ get_or xs i d
    → ¬ (x.name.items ≡ name) → ¬ (IsInFile (take i xs) name) → ¬ (IsInFile (take (i + 1) xs) name)
none_in_file xs i x d name below is other none some = elim
    (Any-next (λ file. file.name.items ≡ name) xs i d below some) [
      | inl before ↦ none before
      | inr last ↦ other (subst (λ (y : OldRemote). y.name.items ≡ name) (sym is) last)
    ]

-- so no file at all has it
pub none_in_files : (xs : List OldRemote) (i : ℕ) (name : List ℕ) → length xs ≤ i → ¬ (IsInFile (take i xs) name)
    → ¬ (IsInFile xs name)
none_in_files xs i name past none some = none (subst (λ (l : List OldRemote). IsInFile l name)
    (sym (take_all i xs past)) some)

-- the remotes of a group with one more setting
pub members_next : (group : List ℕ) (xs : List Setting) (i : ℕ) (d : Setting) → i < length xs
    → members_of group (take (i + 1) xs)
    ≡ members_of group (take i xs) ++ listed_in (members_text group (get_or xs i d))
members_next group xs i d below =
    let f : Setting → List (List ℕ) = λ s. listed_in (members_text group s) in
    ap (λ l. flat_map f l) (take_more xs i d below)
    ∙ (flat_map-append f (take i xs) (get_or xs i d ∷ [])
    ∙ ap (λ l. flat_map f (take i xs) ++ l) (append-nil (f (get_or xs i d))))

-- how many they are
members_more : (group : List ℕ) (xs : List Setting) (i : ℕ) (d : Setting) → i < length xs
    → length (members_of group (take (i + 1) xs))
    ≡ length (members_of group (take i xs)) + length (listed_in (members_text group (get_or xs i d)))
members_more group xs i d below = ap length (members_next group xs i d below)
    ∙ length-append (members_of group (take i xs)) (listed_in (members_text group (get_or xs i d)))

-- a count that may stop at a bound, or several
abbrev pub IsCounted : ℕ → ℕ → Type 0
IsCounted count long = (count ≡ long) ⊎ ((1 < count) × (1 < long))

counted_more : (count long more new most : ℕ) → IsCounted count long → 1 < most → new ≡ min (count + more) most
    → IsCounted new (long + more)
counted_more count long more new most (inl same) high is = elim (cases_lt (count + more) most) [
  | inl less ↦ let e : min (count + more) most ≡ count + more = min-eq_left (omega arith) in inl (omega arith)
  | inr above ↦
      let e : min (count + more) most ≡ most = min_comm (count + more) most ∙ min-eq_left above in
      inr (omega arith, omega arith)
]
counted_more count long more new most (inr several) high is =
    let low : 1 < min (count + more) most = le-min (omega arith) (omega arith) in
    inr (omega arith, omega arith)

-- the remotes of a group with one more setting
pub group_more : (group : List ℕ) (xs : List Setting) (i : ℕ) (d : Setting) (count more new most : ℕ) → i < length xs
    → IsCounted count (length (members_of group (take i xs))) → 1 < most
    → more ≡ length (listed_in (members_text group (get_or xs i d))) → new ≡ min (count + more) most
    → IsCounted new (length (members_of group (take (i + 1) xs)))
group_more group xs i d count more new most below so_far high is_more is =
    subst (λ n. IsCounted new n)
    (ap (λ n. length (members_of group (take i xs)) + n) is_more ∙ sym (members_more group xs i d below))
    (counted_more count (length (members_of group (take i xs))) more new most so_far high is)

-- the count tells whether there are several
several_of : (count long : ℕ) → IsCounted count long → (1 < count) ↔ (1 < long)
several_of count long (inl same) = ((λ more. omega arith), λ more. omega arith)
several_of count long (inr several) = ((λ more. several.1), λ more. several.0)

-- the same for the remotes of a group
pub group_counted : (group : List ℕ) (xs : List Setting) (i count : ℕ) → length xs ≤ i
    → IsCounted count (length (members_of group (take i xs))) → (1 < count) ↔ IsGroup xs group
group_counted group xs i count past counted = several_of count (length (members_of group xs))
    (subst (λ (l : List Setting). IsCounted count (length (members_of group l))) (take_all i xs past) counted)
