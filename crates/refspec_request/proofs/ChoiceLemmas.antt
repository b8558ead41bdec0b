-- Remotes that arguments name.
use Rattle.std.proofs.Common.{◌≡◌, inl, inr, ℕ, ◌-◌, ◌<◌, ◌≤◌, Bool, Bor, MatchBool, true, false, List, [], ◌∷◌, Option}
use Rattle.std.proofs.Common.{None, Some, length, take, drop, slice_index_or, map, option_map, sym, ap, subst, arith}
use Rattle.std.proofs.Common.{take_all, refl}
use Rattle.std.proofs.lemmas.Bool.{false≢true}
use Rattle.std.specs.Option.{IsSome}
use Rattle.refspec_request.specs.declared.choice.Repository.{Repository}
use Rattle.refspec_request.specs.Choices.{AreNamed, IsTakenForRemote, IsTakenForSpec, PrecedesDashes}

-- no argument precedes `--`
pub none_precedes : (d : Option ℕ) (n : ℕ) → d ≡ Some n → n ≡ 0 → ¬ (PrecedesDashes d)
none_precedes d n is zero p = let q : 0 < n = subst PrecedesDashes is p in omega (arith, q, zero)

-- there is a `--`
pub has_dashes : (d : Option ℕ) (n : ℕ) → d ≡ Some n → IsSome d
has_dashes d n is = subst IsSome (sym is) refl

-- the first argument is the remote, and the others are the specs
pub named_first : (dashes : Option ℕ) (r : Repository) (remote : Option (Bor (List ℕ))) (items xs : List (Bor (List ℕ)))
    (d : Bor (List ℕ)) (b : Bool) → remote ≡ None → xs ≡ items → 1 ≤ length xs
    → MatchBool b (IsTakenForRemote dashes r (slice_index_or xs 0 d).now)
    (IsTakenForSpec dashes r (slice_index_or xs 0 d).now) → b ≡ true
    → AreNamed dashes r (option_map (λ text. text.now) remote) (map (λ text. text.now) items)
    (Some (slice_index_or xs 0 d).now, map (λ text. text.now) (take (length xs - 1) (drop 1 xs)))
named_first dashes r remote items [] d b none same long told so = absurd (omega (arith, long))
named_first dashes r remote items (x ∷ xs) d b none same long told so =
    let rest : take (length (x ∷ xs) - 1) xs ≡ xs = take_all (length (x ∷ xs) - 1) xs (omega arith) in
    subst (λ o. AreNamed dashes r (option_map (λ text. text.now) o) (map (λ text. text.now) items)
    (Some x.now, map (λ text. text.now) (take (length (x ∷ xs) - 1) xs))) (sym none)
    (subst (λ l. AreNamed dashes r None (map (λ text. text.now) l)
    (Some x.now, map (λ text. text.now) (take (length (x ∷ xs) - 1) xs))) same
    (inl (by b told so, ap (λ (l : List (Bor (List ℕ))). (Some x.now, map (λ text. text.now) l)) rest)))
  where
    by : (t : Bool) → MatchBool t (IsTakenForRemote dashes r x.now) (IsTakenForSpec dashes r x.now) → t ≡ true
        → IsTakenForRemote dashes r x.now
    by true is e = is
    by false is e = absurd (false≢true e)

-- all arguments are specs
pub spec_first : (dashes : Option ℕ) (r : Repository) (remote : Option (Bor (List ℕ))) (items xs : List (Bor (List ℕ)))
    (d : Bor (List ℕ)) (b : Bool) → remote ≡ None → xs ≡ items → 1 ≤ length xs
    → MatchBool b (IsTakenForRemote dashes r (slice_index_or xs 0 d).now)
    (IsTakenForSpec dashes r (slice_index_or xs 0 d).now) → b ≡ false
    → AreNamed dashes r (option_map (λ text. text.now) remote) (map (λ text. text.now) items)
    (None, map (λ text. text.now) xs)
spec_first dashes r remote items [] d b none same long told so = absurd (omega (arith, long))
spec_first dashes r remote items (x ∷ xs) d b none same long told so =
    subst (λ o. AreNamed dashes r (option_map (λ text. text.now) o) (map (λ text. text.now) items)
    (None, map (λ text. text.now) (x ∷ xs))) (sym none)
    (subst (λ l. AreNamed dashes r None (map (λ text. text.now) l) (None, map (λ text. text.now) (x ∷ xs))) same
    (inr (by b told so, refl)))
  where
    by : (t : Bool) → MatchBool t (IsTakenForRemote dashes r x.now) (IsTakenForSpec dashes r x.now) → t ≡ false
        → IsTakenForSpec dashes r x.now
    by true is e = absurd (false≢true (sym e))
    by false is e = is
