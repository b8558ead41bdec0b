-- The records of a text, in order.
use Rattle.std.proofs.Common.{◌≡◌, ◌≢◌, ◌⊎◌, inl, inr, ℕ, List, [], ◌∷◌, ◌++◌, map, length, refl, sym, ap, ◌∙◌, subst}
use Rattle.std.proofs.Common.{append_assoc, length-append, Bor, arith}
use Rattle.std.proofs.lemmas.List.{append-nil, map-append}
use Rattle.gix_refspec.specs.Texts.Words.{Lacks}
use Rattle.refspec_io.specs.Input.{AreRecords, IsFirstRecord}

-- the bytes of records
abbrev pub bytes_of : List (Bor (List ℕ)) → List (List ℕ)
bytes_of records = map (λ r. r.now) records

-- any split of the rest into records completes the records so far to those of the input
abbrev pub Completes : ℕ → List (Bor (List ℕ)) → List ℕ → List ℕ → Type 0
Completes end records rest input = (more : List (List ℕ)) → AreRecords end more rest
    → AreRecords end (bytes_of records ++ more) input

-- at the start the whole input is the rest
pub Completes-start : (end : ℕ) (records : List (Bor (List ℕ))) (input : List ℕ) → records ≡ []
    → Completes end records input input
Completes-start end records input none more split =
    subst (λ (rs : List (Bor (List ℕ))). AreRecords end (bytes_of rs ++ more) input) (sym none) split

-- an empty text contains no end byte
nothing_ends : (end : ℕ) (first rest : List ℕ) → [] ≡ first ++ (end ∷ rest) → ⊥
nothing_ends end first rest same = omega (arith, ap length same, length-append first (end ∷ rest))

not_of_nothing : (end : ℕ) (first : List ℕ) (more : List (List ℕ))
    → ((rest : List ℕ) × ([] ≡ first ++ (end ∷ rest)) × AreRecords end more rest)
    ⊎ ((first ≢ []) × (more ≡ []) × ([] ≡ first)) → ⊥
not_of_nothing end first more (inl split) = nothing_ends end first split.0 split.1
not_of_nothing end first more (inr split) = split.0 (sym split.2)

-- an empty text has no records
no_records : (end : ℕ) (more : List (List ℕ)) → AreRecords end more [] → more ≡ []
no_records end [] split = refl
no_records end (first ∷ more) split = absurd (not_of_nothing end first more split.1)

-- the first record and the records of the rest are those of the text
pub first_and_more : (end : ℕ) (text first rest : List ℕ) (more : List (List ℕ)) → text ≢ [] → Lacks end first
    → AreRecords end more rest → ((text ≡ first ++ (end ∷ rest)) ⊎ ((text ≡ first) × (rest ≡ [])))
    → AreRecords end (first ∷ more) text
first_and_more end text first rest more full lacks split (inl ended) = (lacks, inl (rest, ended, split))
first_and_more end text first rest more full lacks split (inr last) =
    let none = no_records end more (subst (AreRecords end more) last.1 split) in
    (lacks, inr (λ empty. full (last.0 ∙ empty), none, last.0))

-- one more record
pub Completes-more : (end : ℕ) (old new : List (Bor (List ℕ))) (r : Bor (List ℕ)) (text rest input : List ℕ) → text ≢ []
    → IsFirstRecord end text r.now rest → new ≡ old ++ r ∷ [] → Completes end old text input
    → Completes end new rest input
Completes-more end old new r text rest input full first grown so_far more split =
    let all = first_and_more end text r.now rest more full first.0 split first.1 in
    let same : bytes_of new ++ more ≡ bytes_of old ++ (r.now ∷ more) = ap (λ rs. bytes_of rs ++ more) grown
    ∙ (ap (λ bs. bs ++ more) (map-append (λ (r : Bor (List ℕ)). r.now) old (r ∷ [])) ∙ append_assoc (bytes_of old)
    (r.now ∷ []) more) in
    subst (λ (rs : List (List ℕ)). AreRecords end rs input) (sym same) (so_far (r.now ∷ more) all)

-- at the end the rest is empty
pub Completes-end : (end : ℕ) (records : List (Bor (List ℕ))) (rest input : List ℕ) → rest ≡ []
    → Completes end records rest input → AreRecords end (bytes_of records) input
Completes-end end records rest input none so_far = subst (λ (rs : List (List ℕ)). AreRecords end rs input)
    (append-nil (bytes_of records)) (so_far [] none)
