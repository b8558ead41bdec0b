-- Lists of settings, as they grow by one.
use Rattle.std.proofs.Common.{◌≡◌, ◌∙◌, ◌+◌, ◌-◌, ◌<◌, ℕ, Bool, List, [], ◌∷◌, ◌++◌, None, Option, Some, ap, get_or}
use Rattle.std.proofs.Common.{length, refl, Bor, IsTrue, MatchBool, MatchOption, append-nil, false, filter_map, take}
use Rattle.std.proofs.Common.{arith, cond, filter, sym, true, ◌⊎◌}
use Rattle.std.proofs.lemmas.Bool.{false≢true}
use Rattle.std.specs.List.{cons_option, slice_get}
use Rattle.std.proofs.lemmas.List.{length_push, take_more}
use Rattle.std.proofs.lemmas.List.Elements.{filter_map-append, filter_more}
use Rattle.refspec_io.specs.declared.settings.Setting.{Setting}
use Rattle.refspec_request.specs.Booleans.{Means}
use Rattle.refspec_request.specs.declared.booleans.Boolean.TheVariants.{Bad, False, True}
use Rattle.refspec_git.specs.Configured.{IsOff, last_of}

module _ {X Y : Type 0} (h : X → Option Y) (xs : List X) (i : ℕ) (d : X) (below : i < length xs) where
  -- what is made of one more is what it makes
  more_made : (o : Option Y) → h (get_or xs i d) ≡ o
      → filter_map h (take (i + 1) xs) ≡ filter_map h (take i xs) ++ cons_option o []
  more_made o is = ap (filter_map h) (take_more xs i d below)
      ∙ (filter_map-append h (take i xs) (get_or xs i d ∷ [])
      ∙ ap (λ p. filter_map h (take i xs) ++ cons_option p []) is)

  -- one more of which something is made
  pub made_one : (y : Y) → h (get_or xs i d) ≡ Some y
      → filter_map h (take (i + 1) xs) ≡ filter_map h (take i xs) ++ y ∷ []
  made_one y is = more_made (Some y) is

  -- one more of which nothing is made
  pub made_none : h (get_or xs i d) ≡ None → filter_map h (take (i + 1) xs) ≡ filter_map h (take i xs)
  made_none is = more_made None is ∙ append-nil (filter_map h (take i xs))

module _ {X : Type 0} (p : X → Bool) (xs : List X) (i : ℕ) (d : X) (below : i < length xs) where
  -- those that are kept, by what is said of one more
  more_kept : (b : Bool) → b ≡ p (get_or xs i d)
      → filter p (take (i + 1) xs) ≡ filter p (take i xs) ++ cond b (get_or xs i d ∷ []) []
  more_kept b is = filter_more p xs i d below
      ∙ ap (λ b. filter p (take i xs) ++ cond b (get_or xs i d ∷ []) []) (sym is)

  -- one more that is kept
  pub kept_one : true ≡ p (get_or xs i d) → filter p (take (i + 1) xs) ≡ filter p (take i xs) ++ get_or xs i d ∷ []
  kept_one is = more_kept true is

  -- one more that isn't
  pub kept_none : false ≡ p (get_or xs i d) → filter p (take (i + 1) xs) ≡ filter p (take i xs)
  kept_none is = more_kept false is ∙ append-nil (filter p (take i xs))

-- the last of some and one more
pub last_push : {A : Type 0} (xs : List A) (x : A) → last_of (xs ++ x ∷ []) ≡ Some x
last_push {A} xs x =
    let long : length (xs ++ x ∷ []) - 1 ≡ length xs = omega (arith, length_push xs x) in
    ap (slice_get (xs ++ x ∷ [])) long ∙ at_end xs
  where
    at_end : (ys : List A) → slice_get (ys ++ x ∷ []) (length ys) ≡ Some x
    at_end [] = refl
    at_end (y ∷ ys) = at_end ys

-- a setting whose value isn't true
pub off : (s : Setting) → MatchOption s.value (IsTrue false)
    (λ text. MatchBool false (Means text.now True) (Means text.now False ⊎ Means text.now Bad)) → IsOff s
off s told = by s.value told
  where
    by : (value : Option (Bor (List ℕ))) → MatchOption value (IsTrue false)
        (λ text. MatchBool false (Means text.now True) (Means text.now False ⊎ Means text.now Bad))
        → MatchOption value ⊥ (λ text. Means text.now False ⊎ Means text.now Bad)
    by None never = absurd (false≢true never)
    by (Some text) means = means
