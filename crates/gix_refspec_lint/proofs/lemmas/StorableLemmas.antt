-- Refs that a repository can have: no name is a directory of another.
use Rattle.gix_refspec_lint.proofs.Common.{◌≡◌, ◌↔◌, inl, inr, Bool, true, false, not, false≢true, IsTrue, MatchBool, ℕ}
use Rattle.gix_refspec_lint.proofs.Common.{List, [], ◌∷◌, ◌++◌, codes, append_assoc, refl, sym, ap, ◌∙◌, subst, Lacks}
use Rattle.gix_refspec_lint.proofs.Common.{HasName, Ref, Source, name, id, ref_named, refs_of, AreStorable}
use Rattle.gix_refspec_lint.proofs.Common.{IsDirectoryOf}
use Rattle.gix_refspec_text.proofs.lemmas.lists.LacksLemmas.{first_once}
use Rattle.gix_refspec_plan.proofs.lemmas.plan.DirectoryLemmas.{not_itself}

directory_as : (n m a b : List ℕ) → n ≡ a → m ≡ b → IsDirectoryOf a b → IsDirectoryOf n m
directory_as n m a b is same d = subst (IsDirectoryOf n) (sym same) (subst (λ x. IsDirectoryOf x b) (sym is) d)

pub pair_storable : (n m : List ℕ) → ¬ (IsDirectoryOf n m) → ¬ (IsDirectoryOf m n)
    → AreStorable (ref_named n ∷ ref_named m ∷ [])
pair_storable n m one other a b (inl is) (inl same) d = not_itself n (directory_as n n a b is same d)
pair_storable n m one other a b (inl is) (inr (inl same)) d = one (directory_as n m a b is same d)
pair_storable n m one other a b (inl is) (inr (inr none)) d = none
pair_storable n m one other a b (inr (inl is)) (inl same) d = other (directory_as m n a b is same d)
pair_storable n m one other a b (inr (inl is)) (inr (inl same)) d = not_itself m (directory_as m m a b is same d)
pair_storable n m one other a b (inr (inl is)) (inr (inr none)) d = none
pair_storable n m one other a b (inr (inr none)) also d = none

-- as is told of the second name, where the first isn't a directory of it
pub together_told : (n m : List ℕ) (b : Bool) → ¬ (IsDirectoryOf n m) → IsTrue b ↔ IsDirectoryOf m n
    → MatchBool (not b) (AreStorable (ref_named n ∷ ref_named m ∷ []))
    (¬ (AreStorable (ref_named n ∷ ref_named m ∷ [])))
together_told n m true one other = λ all. all m n (inr (inl refl)) (inl refl) (other.0 refl)
together_told n m false one other = pair_storable n m one (λ d. false≢true (other.1 d))

one_storable : (n : List ℕ) → AreStorable (ref_named n ∷ [])
one_storable n a b (inl is) (inl same) d = not_itself n (directory_as n n a b is same d)
one_storable n a b (inl is) (inr none) d = none
one_storable n a b (inr none) also d = none

-- an object needs no ref
pub first_object : (bytes : List ℕ) (t : Source) → AreStorable (refs_of (id bytes) ++ refs_of t)
first_object bytes (name n) = one_storable n
first_object bytes (id others) = λ a b none also d. none

pub second_object : (s : Source) (bytes : List ℕ) → AreStorable (refs_of s ++ refs_of (id bytes))
second_object (name n) bytes = one_storable n
second_object (id others) bytes = λ a b none also d. none

-- fewer refs can stand together too
pub fewer_storable : (refs few : List Ref) → ((n : List ℕ) → HasName few n → HasName refs n) → AreStorable refs
    → AreStorable few
fewer_storable refs few among all n m one other = all n m (among n one) (among m other)

-- where names with a byte in place of a word are one in the other, so are those with the word
pub directory_moved : (z : ℕ) (front back start end word : List ℕ) → Lacks z front → Lacks z start
    → IsDirectoryOf (front ++ (z ∷ back)) (start ++ (z ∷ end))
    → IsDirectoryOf (front ++ (word ++ back)) (start ++ (word ++ end))
directory_moved z front back start end word lacks also d =
    let rest = back ++ (codes "/" ++ d.after) in
    let both = first_once z start front end rest also lacks (d.here ∙ simp append_assoc) in
    let same : start ++ (word ++ end) ≡ front ++ (word ++ rest) = ap (λ x. x ++ (word ++ end)) both.0 ∙ ap
    (λ y. front ++ (word ++ y)) both.1 in
    record { after = d.after; here = same ∙ simp append_assoc }
