-- Refs with the same names have the same mappings, from right to left if no destination is an id.
use Rattle.gix_refspec.proofs.Common.{all_weaker, ◌≡◌, ℕ, ◌+◌, inl, inr, List, [], ◌∷◌, Option, sym, ◌∙◌, subst}
use Rattle.gix_refspec.proofs.Common.{Reading, SideKind, object, HasKind, Ref, Matches, MatchesAs, HasName}
use Rattle.gix_refspec.proofs.Common.{IsFirstCandidate, Takes, IsJoinedFrom, Ends, AreBackwardEnds, AreForwardEnds, Hit}
use Rattle.gix_refspec.proofs.Common.{IsHit, AreSpecHits, HasIdDestination, HaveSameNames, NamesDecide, NamesDecideBack}
use Rattle.gix_refspec.proofs.Common.{rules, AllByRecursion, recursion_from_All, Contains}
use Rattle.gix_refspec.proofs.lemmas.keep.AlikeLemmas.{made_zip, zip_keys}
use Rattle.gix_refspec.proofs.lemmas.keep.FilterLemmas.{item_named, mapped_from, mapped_there, name_there}

pub has_also : (A B : List Ref) (n : List ℕ) → HaveSameNames A B → HasName A n → HasName B n
has_also A B n same has =
    let (a, in_A, is) = item_named A n has in
    let (b, in_B, named) = mapped_from (λ (r : Ref). r.name) B a.name
    (subst (λ (names : List (List ℕ)). Contains names a.name) same (mapped_there (λ (r : Ref). r.name) A a in_A)) in
    subst (HasName B) (named ∙ is) (name_there B b in_B)

first_also : (A B : List Ref) (x n : List ℕ) → HaveSameNames A B → IsFirstCandidate A x n → IsFirstCandidate B x n
first_also A B x n same first = search (rules, all_weaker, has_also)

matches_also : (kind : SideKind) (a b : Ref) (word : Option (List ℕ)) → a.name ≡ b.name
    → ((id : List ℕ) → ¬ (kind ≡ object id)) → MatchesAs kind a word → MatchesAs kind b word
matches_also kind a b word same none fits = search rules

pub matches_by_name : (ends : Ends) (a b : Ref) (word : Option (List ℕ)) → a.name ≡ b.name
    → ((id : List ℕ) → ¬ (HasKind ends.near (object id))) → Matches ends.near a word → Matches ends.near b word
matches_by_name ends a b word named none matches =
    search (rules, matches_also matches.kind a b word named (λ id is. none id (rw is at matches.of)) matches.is)

takes_also : (A B : List Ref) (ends : Ends) (a b : Ref) (word : Option (List ℕ)) → HaveSameNames A B → a.name ≡ b.name
    → ((id : List ℕ) → ¬ (HasKind ends.near (object id))) → Takes A ends.near a word → Takes B ends.near b word
takes_also A B ends a b word same named none takes = search (rules, first_also, matches_by_name)

hit_also : (T U : List ℕ → Ref → Option (List ℕ) → Type 0) (ends : Ends) (k j : ℕ) (a b : Ref) (hit : Hit)
    → ((word : Option (List ℕ)) → T ends.near a word → U ends.near b word) → a.name ≡ b.name → IsHit T ends k j a hit
    → IsHit U ends k j b hit
hit_also T U ends k j a b hit also named is = search (rules, also is.word is.takes)

-- a spec whose side takes refs by their names takes the same refs
spec_zip : (HasEnds : Reading → Ends → Type 0) (T U : List ℕ → Ref → Option (List ℕ) → Type 0) (A B : List Ref) (k : ℕ)
    (r : Reading) (hits : List Hit) → HaveSameNames A B
    → ((ends : Ends) (a b : Ref) (word : Option (List ℕ)) → HasEnds r ends → a.name ≡ b.name
    → (T ends.near a word → U ends.near b word) × (U ends.near b word → T ends.near a word))
    → AreSpecHits HasEnds T A k r hits → AreSpecHits HasEnds U B k r hits
spec_zip HasEnds T U A B k r hits same also (inl (ends, has, made)) = inl (
  ends,
  has,
  made_zip (λ a b. a.name ≡ b.name) (IsHit T ends k) (IsHit U ends k)
      (λ j a b hit named. (
        hit_also T U ends k j a b hit (λ word. (also ends a b word has named).0) named,
        hit_also U T ends k j b a hit (λ word. (also ends a b word has named).1) (sym named),
      )) 0 A B hits (zip_keys (λ (r : Ref). r.name) (λ (r : Ref). r.name) A B same) made,
)
spec_zip HasEnds T U A B k r hits same also (inr none) = inr none

spec_also : (A B : List Ref) (k : ℕ) (r : Reading) (hits : List Hit) → HaveSameNames A B
    → AreSpecHits AreForwardEnds (Takes A) A k r hits → AreSpecHits AreForwardEnds (Takes B) B k r hits
spec_also A B k r hits same =
    spec_zip AreForwardEnds (Takes A) (Takes B) A B k r hits same
    (λ ends a b word has named. (
      takes_also A B ends a b word same named has.no_object,
      takes_also B A ends b a word
          (sym same) (sym named) has.no_object,
    ))

joined_each : {X Y : Type 0} (P : X → Type 0) (R S : ℕ → X → List Y → Type 0)
    → ((k : ℕ) (x : X) (ys : List Y) → P x → R k x ys → S k x ys) → (k : ℕ) (xs : List X) (ys : List Y)
    → AllByRecursion P xs → IsJoinedFrom R k xs ys → IsJoinedFrom S k xs ys
joined_each P R S each k [] ys all joined = joined
joined_each P R S each k (x ∷ xs) ys all (made, rest, of, more, is) =
    (made, rest, each k x made all.0 of, joined_each P R S each (k + 1) xs rest all.1 more, is)

-- from right to left a spec matches the same refs, if its destination isn't an id
no_object : (r : Reading) (ends : Ends) → ¬ (HasIdDestination r) → AreBackwardEnds r ends → (id : List ℕ)
    → ¬ (HasKind ends.near (object id))
no_object r ends none has id is = none (ends.near, has.near, (id, is.2))

spec_back : (A B : List Ref) (k : ℕ) (r : Reading) (hits : List Hit) → ¬ (HasIdDestination r) → HaveSameNames A B
    → AreSpecHits AreBackwardEnds Matches A k r hits → AreSpecHits AreBackwardEnds Matches B k r hits
spec_back A B k r hits none same =
    spec_zip AreBackwardEnds Matches Matches A B k r hits same
    (λ ends a b word has named. (
      matches_by_name ends a b word named (no_object r ends none has),
      matches_by_name ends b a word (sym named) (no_object r ends none has),
    ))

pub names_decide : (g : List Reading) (A : List Ref) → NamesDecide g A
names_decide g A B same kept are =
    let joined = joined_each (λ r. Unit {0}) (AreSpecHits AreForwardEnds (Takes A) A)
    (AreSpecHits AreForwardEnds (Takes B) B) (λ k r hits _. spec_also A B k r hits same) 0 g are.forward.hits in
    search (rules, joined (recursion_from_All (λ r. Unit {0}) g (λ k d below. tt)) are.forward.are_hits)

pub names_decide_back : (g : List Reading) (A : List Ref) → NamesDecideBack g A
names_decide_back g A none B same kept are =
    let joined = joined_each (λ r. ¬ (HasIdDestination r)) (AreSpecHits AreBackwardEnds Matches A)
    (AreSpecHits AreBackwardEnds Matches B) (λ k r hits of_r. spec_back A B k r hits of_r same) 0 g
    are.backward.hits in
    search (rules, joined none are.backward.are_hits)
