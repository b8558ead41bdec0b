-- The faults of ref names: texts that have them, and similar ones that haven't.
use Rattle.gix_refspec_text.proofs.Common.{refl, true, ◌≡◌, ◌++◌, is_refused_byte, rules, ℕ, ◌==◌, List, [], ◌∷◌, codes}
use Rattle.gix_refspec_text.proofs.Common.{subst, AllByRecursion, slice_split, Error, Empty, EmptyComponent}
use Rattle.gix_refspec_text.proofs.Common.{StartsWithDot, LockSuffix, EndsWithDot, RepeatedDot, ReflogPortion, Asterisk}
use Rattle.gix_refspec_text.proofs.Common.{InvalidByte, SomeComponent, HasFault, slash}
use Rattle.gix_refspec_text.proofs.lemmas.texts.ComponentLemmas.{AllByRecursion-parts}
use Rattle.gix_refspec_text.proofs.readers.Texts.{faultless, faulty, split_again}
pub use Rattle.gix_refspec_text.proofs.readers.Texts.{begins_not}

-- if no word between slashes satisfies P, no component does
pub no_component : (P : List ℕ → Type 0) (x : List ℕ) → AllByRecursion (λ w. ¬ (P w)) (slice_split (λ c. c == slash) x)
    → ¬ (SomeComponent P x)
no_component P x none some =
    AllByRecursion-parts (λ w. ¬ (P w)) some.before some.component some.after
    (subst (λ (l : List (List ℕ)). AllByRecursion (λ w. ¬ (P w)) l) (split_again P x some) none) some.fact

abbrev Has : List ℕ × Error → Type 0
Has p = HasFault p.0 p.1

-- the empty text, which alone is empty; a slash that is first, last or after another one, which leaves an empty
-- component; a dot
-- at the start and `.lock` at the end of the first component or of the last one; a dot at the end of the name; two dots
-- in a row and
-- `@` right before a brace anywhere; one star or several; and a refused byte that the text contains
pub faults : AllByRecursion Has
    (([], Empty) ∷ (codes "/a", EmptyComponent) ∷ (codes "a/", EmptyComponent) ∷ (codes "a//a", EmptyComponent)
    ∷ (codes ".b/a", StartsWithDot) ∷ (codes "a/.b", StartsWithDot) ∷ (codes "b.lock/a", LockSuffix)
    ∷ (codes "a/b.lock", LockSuffix)
    ∷ (codes "a/.lock", LockSuffix) ∷ (codes "a/b.", EndsWithDot) ∷ (codes "..a", RepeatedDot)
    ∷ (codes "a/b..", RepeatedDot)
    ∷ (codes "@{1}", ReflogPortion) ∷ (codes "*a", Asterisk) ∷ (codes "a*/*", Asterisk) ∷ (codes "a b", InvalidByte 32)
    ∷ (codes "a~:", InvalidByte 58) ∷ (codes "foo..bar", RepeatedDot) ∷ (codes "foo.lock", LockSuffix)
    ∷ (codes "foo.lock/bar", LockSuffix)
    ∷ (codes "foo@{bar", ReflogPortion) ∷ (codes "ba.lock", LockSuffix) ∷ [])
faults = search (rules, faulty)

-- the empty text has no component; a dot within or at the end of a component; `.lock` within one, and without its dot;
-- two dots apart;
-- `@` apart from the brace, alone or after it; no other refused byte than the text has, and no other byte of the text
pub no_faults : AllByRecursion (λ p. ¬ (Has p))
    ((codes "/", Empty) ∷ (codes "a/b", EmptyComponent) ∷ ([], EmptyComponent) ∷ (codes "a./b.c", StartsWithDot)
    ∷ (codes "a.lock.b/block", LockSuffix) ∷ (codes "a./b", EndsWithDot) ∷ (codes "a.b.c./.d", RepeatedDot)
    ∷ (codes "@a{/{@/@", ReflogPortion) ∷ ([], Asterisk) ∷ (codes "a b", InvalidByte 58) ∷ (codes "a b", InvalidByte 97)
    ∷ [])
no_faults = search (rules, faultless)

-- a refused byte is a fault wherever it is
pub refused_byte : (before after : List ℕ) (b : ℕ) → is_refused_byte b ≡ true → HasFault (before ++ (b ∷ after))
    (InvalidByte b)
refused_byte before after b refuses = (record { before = before; after = after; here = refl }, refuses)
