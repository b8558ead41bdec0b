-- Records of an input, and what isn't one.
use Rattle.std.proofs.Common.{◌≡◌, ℕ, ◌+◌, List, [], ◌∷◌, ◌++◌, Some, inl, inr, codes, length, refl, sym, ap, ◌∙◌}
use Rattle.std.proofs.Common.{subst, arith}
use Rattle.gix_refspec.specs.Texts.Words.{Lacks}
use Rattle.gix_refspec_text.proofs.facts.FitFacts.{other_byte}
use Rattle.gix_refspec_text.proofs.facts.ManualFacts.{Lacks-tested, full, other_length}
use Rattle.refspec_io.specs.declared.call.Terminator.TheVariants as ends
use Rattle.refspec_io.specs.Input.{AreRecords, IsFirstRecord, ReadsToEnd, end_byte}
use Rattle.gix_refspec_text.proofs.lemmas.lists.LacksLemmas.{Lacks-here, first_once}

-- a newline, or a zero byte, which also ends the records of settings
pub end_bytes : (end_byte ends.Newline ≡ 10) × (end_byte ends.Zero ≡ 0) × (end_byte ends.Settings ≡ 0)
end_bytes = (refl, refl, refl)

-- ---- records

-- an empty input has no records
no_records : (end : ℕ) (records : List (List ℕ)) → AreRecords end records [] → records ≡ []
no_records end [] split = refl
no_records end (first ∷ records) (lacks, inl (rest, here, more)) = absurd (nothing first here)
  where
    nothing : (front : List ℕ) → [] ≡ front ++ (end ∷ rest) → ⊥
    nothing [] same = full _ _ (sym same)
    nothing (b ∷ front) same = full _ _ (sym same)
no_records end (first ∷ records) (lacks, inr (some, last, here)) = absurd (some (sym here))

-- an input has only one list of records
pub records_once : (end : ℕ) (xs ys : List (List ℕ)) (input : List ℕ) → AreRecords end xs input
    → AreRecords end ys input → xs ≡ ys
records_once end [] ys input split other = sym (no_records end ys (subst (AreRecords end ys) split other))
records_once end (x ∷ xs) [] input split other = no_records end (x ∷ xs) (subst (AreRecords end (x ∷ xs)) other split)
records_once end (x ∷ xs) (y ∷ ys) input (in_x, inl (rest, here, more)) (in_y, inl (after, there, later)) =
    let once = first_once end x y rest after in_x in_y (sym here ∙ there) in
    let same = records_once end xs ys after (subst (AreRecords end xs) once.1 more) later in
    ap (λ z. z ∷ xs) once.0 ∙ ap (λ zs. y ∷ zs) same
records_once end (x ∷ xs) (y ∷ ys) input (in_x, inl (rest, here, more)) (in_y, inr (some, last, there)) =
    absurd (Lacks-here end x rest (subst (Lacks end) (sym there ∙ here) in_y))
records_once end (x ∷ xs) (y ∷ ys) input (in_x, inr (some, last, here)) (in_y, inl (rest, there, more)) =
    absurd (Lacks-here end y rest (subst (Lacks end) (sym here ∙ there) in_x))
records_once end (x ∷ xs) (y ∷ ys) input (in_x, inr (some, last, here)) (in_y, inr (full, none, there)) =
    ap (λ z. z ∷ xs) (sym here ∙ there) ∙ ap (λ zs. y ∷ zs) (last ∙ sym none)

-- the last record has its end byte or lacks it
pub one_record : AreRecords 10 (codes "a" ∷ []) (codes "a\n") × AreRecords 10 (codes "a" ∷ []) (codes "a")
one_record = (
  (Lacks-tested 10 (codes "a") refl, inl ([], refl, refl)),
  (Lacks-tested 10 (codes "a") refl, inr (full _ _, refl, refl)),
)

-- records that end with zero bytes may contain newlines and carriage returns, and lines may contain carriage returns
pub records : AreRecords 10 (codes "a\r" ∷ codes "b" ∷ []) (codes "a\r\nb")
    × AreRecords 0 (codes "a\r\nb" ∷ []) (codes "a\r\nb" ++ 0 ∷ [])
records = (
  (
    Lacks-tested 10 (codes "a\r") refl,
    inl (codes "b", refl, (Lacks-tested 10 (codes "b") refl, inr (full _ _, refl, refl))),
  ),
  (Lacks-tested 0 (codes "a\r\nb") refl, inl ([], refl, refl)),
)

-- an empty record has its end byte, and an empty input has no record
pub empty_records : AreRecords 10 ([] ∷ []) (codes "\n") × AreRecords 10 (codes "a" ∷ [] ∷ []) (codes "a\n\n")
    × AreRecords 10 [] []
empty_records = (
  (tt, inl ([], refl, refl)),
  (Lacks-tested 10 (codes "a") refl, inl (codes "\n", refl, (tt, inl ([], refl, refl)))),
  refl,
)

-- so there is no record after the last end byte, and no record contains that
pub no_other_records : ¬ (AreRecords 10 (codes "a" ∷ [] ∷ []) (codes "a\n")) × ¬ (AreRecords 10 ([] ∷ []) [])
    × ¬ (AreRecords 10 (codes "a\n" ∷ []) (codes "a\n")) × ¬ (AreRecords 10 (codes "a\nb" ∷ []) (codes "a\nb"))
no_other_records = (
  (λ split. omega (
    arith,
    ap length (records_once 10 (codes "a" ∷ [] ∷ []) (codes "a" ∷ []) (codes "a\n") split one_record.0),
  )),
  (λ split. omega (arith, ap length (records_once 10 ([] ∷ []) [] [] split empty_records.2))),
  (λ split. Lacks-here 10 (codes "a") [] split.0),
  λ split. Lacks-here 10 (codes "a") (codes "b") split.0,
)

-- the first record, and what follows its end byte
pub first_records : IsFirstRecord 10 (codes "a\nb\n") (codes "a") (codes "b\n")
    × IsFirstRecord 10 (codes "a") (codes "a") [] × IsFirstRecord 10 (codes "\na") [] (codes "a")
first_records = (
  (Lacks-tested 10 (codes "a") refl, inl refl),
  (Lacks-tested 10 (codes "a") refl, inr (refl, refl)),
  (tt, inl refl),
)

-- nothing of the rest is lost, the end byte isn't part of it, and the second record isn't the first
pub no_first_records : ¬ (IsFirstRecord 10 (codes "a\nb") (codes "a") [])
    × ¬ (IsFirstRecord 10 (codes "a\nb") (codes "a") (codes "\nb"))
    × ¬ (IsFirstRecord 10 (codes "a\nb") (codes "b") []) × ¬ (IsFirstRecord 10 (codes "a\nb") (codes "a\nb") [])
no_first_records = (
  lost [] (λ size. omega (arith, size)),
  lost (codes "\nb") (λ size. omega (arith, size)),
  second,
  λ is. Lacks-here 10 (codes "a") (codes "b") is.0,
)
  where
    lost : (rest : List ℕ) → ¬ (3 ≡ 2 + length rest) → ¬ (IsFirstRecord 10 (codes "a\nb") (codes "a") rest)
    lost rest differ (lacks, inl here) = differ (omega (arith, ap length here))
    lost rest differ (lacks, inr (here, none)) =
        other_length (codes "a\nb") (codes "a") (λ size. omega (arith, size)) here

    second : ¬ (IsFirstRecord 10 (codes "a\nb") (codes "b") [])
    second (lacks, inl here) = other_byte 0 (codes "a\nb") (codes "b\n") (λ byte. omega (arith, byte)) here
    second (lacks, inr (here, none)) = other_byte 0 (codes "a\nb") (codes "b") (λ byte. omega (arith, byte)) here

-- nothing follows a record without its end byte
pub none_behind : ¬ (IsFirstRecord 10 (codes "a") (codes "a") (codes "b"))
none_behind (lacks, inl here) = omega (arith, ap length here)
none_behind (lacks, inr (here, none)) = omega (arith, ap length none)

-- ---- readers

-- all that the reader had is read, and nothing else
pub read : ReadsToEnd (Some (codes "ab")) (Some []) (codes "ab") × ReadsToEnd (Some []) (Some []) []
read = (record { taken = refl; ended = refl }, record { taken = refl; ended = refl })

pub not_read : ¬ (ReadsToEnd (Some (codes "ab")) (Some (codes "b")) (codes "a"))
    × ¬ (ReadsToEnd (Some (codes "ab")) (Some []) (codes "a")) × ¬ (ReadsToEnd (Some []) (Some []) (codes "a"))
not_read = (
  (λ to. omega (arith, ap length to.ended)),
  (λ to. omega (arith, ap length to.taken)),
  λ to. omega (arith, ap length to.taken),
)
