-- The name that a partial source takes: the first of its candidates that a ref has.
use Rattle.gix_refspec_text.proofs.Common.{Matches, Bool, Decides, [], arith, ◌≡◌, ◌⊎◌, inl, inr, ℕ, List, ◌∷◌, ◌++◌}
use Rattle.gix_refspec_text.proofs.Common.{None, refl, sym, ap, ◌∙◌, subst, AllByRecursion, bytes_eq, bytes_eq-Decides}
use Rattle.gix_refspec_text.proofs.Common.{partial, HasKind, IsCandidate, Ref, HasName, IsFirstCandidate, Takes}
use Rattle.gix_refspec_text.proofs.Common.{FirstCandidate}
use Rattle.gix_refspec_text.proofs.lemmas.lists.LacksLemmas.{first_with}

decided_or : {P Q : Type 0} (b : Bool) → Decides b P → Q ⊎ (Q → ⊥) → (P ⊎ Q) ⊎ (P ⊎ Q → ⊥)
decided_or b told rest = grind arith

has_name : (refs : List Ref) (n : List ℕ) → HasName refs n ⊎ (HasName refs n → ⊥)
has_name [] n = inr (λ none. none)
has_name (r ∷ refs) n = decided_or (bytes_eq r.name n) (bytes_eq-Decides r.name n) (has_name refs n)

-- of names some of which refs have, one is the first that a ref has
first_behind : (refs : List Ref) (earlier : List (List ℕ)) (n : List ℕ) (later : List (List ℕ)) → HasName refs n
    → (m : List ℕ) × (e : List (List ℕ)) × (l : List (List ℕ)) × (earlier ++ (n ∷ later) ≡ e ++ (m ∷ l))
    × AllByRecursion (λ k. ¬ (HasName refs k)) e × HasName refs m
first_behind refs [] n later has = (n, [], later, refl, tt, has)
first_behind refs (c ∷ earlier) n later has = elim (has_name refs c) [
  | inl there ↦ (c, [], earlier ++ (n ∷ later), refl, tt, there)
  | inr none ↦ let (m, e, l, here, absent, present) = first_behind refs earlier n later has in
      (m, c ∷ e, l, ap (λ (k : List (List ℕ)). c ∷ k) here, (none, absent), present)
]

pub some_first : (refs : List Ref) (x n : List ℕ) → IsCandidate x n → HasName refs n → (m : List ℕ)
    × IsFirstCandidate refs x m
some_first refs x n one has =
    let (m, e, l, here, absent, present) = first_behind refs one.earlier n one.later has in
    (m, record { earlier = e; later = l; here = one.here ∙ here; absent = absent; present = present })

pub first_candidate : (refs : List Ref) (x n : List ℕ) → IsFirstCandidate refs x n → IsCandidate x n
first_candidate refs x n first = record { earlier = first.earlier; later = first.later; here = first.here }

pub first_once : (refs : List Ref) (x n m : List ℕ) → IsFirstCandidate refs x n → IsFirstCandidate refs x m → n ≡ m
first_once refs x n m a b =
    (first_with (HasName refs) a.earlier b.earlier n m a.later b.later a.absent b.absent a.present b.present
    (sym a.here ∙ b.here)).1

pub first_of_one : (x : List ℕ) (r : Ref) → IsCandidate x r.name → IsFirstCandidate (r ∷ []) x r.name
first_of_one x r one =
    let (n, first) = some_first (r ∷ []) x r.name one (inl refl) in
    let same : n ≡ r.name = (let present = first.present in grind arith) in
    subst (IsFirstCandidate (r ∷ []) x) same first

pub taken_by_first : (refs : List Ref) (x : List ℕ) (r : Ref) → HasKind x (partial x) → IsFirstCandidate refs x r.name
    → Takes refs x r None
taken_by_first refs x r kind first =
    let matches : Matches x r None =
    record { kind = partial x; of = kind; is = (refl, first_candidate refs x r.name first) } in
    record {
      matches = matches;
      first = λ n also. subst (λ (y : List ℕ). IsFirstCandidate refs y r.name)
          (sym also.0) first;
    }

pub takes_first : (x : List ℕ) (refs : List Ref) → FirstCandidate x refs
takes_first x refs lacks outside no_id =
    let kind : HasKind x (partial x) = (refl, lacks, outside, no_id) in
    record {
      takes = λ r. (λ found. found.1.first x kind, λ first. (None, taken_by_first refs x r kind first));
      one =
          first_once refs x;
      some = some_first refs x;
    }
