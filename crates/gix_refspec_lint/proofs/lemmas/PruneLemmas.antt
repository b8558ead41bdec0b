-- That the local refs which are tried tell of all, whether a pruning fetch treats them otherwise without a value.
use Rattle.gix_refspec_lint.proofs.Common.{append_assoc, ◌≢◌, ◌≡◌, ◌⊎◌, inl, inr, ℕ, ◌≤◌, List, [], ◌∷◌, ◌++◌, None}
use Rattle.gix_refspec_lint.proofs.Common.{refl, sym, ap, ◌∙◌, subst, arith, AllByRecursion, Contains, of_element}
use Rattle.gix_refspec_lint.proofs.Common.{all_join, first_once, Lacks, HasName, Ref, drop, zero, Reading, name}
use Rattle.gix_refspec_lint.proofs.Common.{IsExcluded, SidesLack, IsRefName, AreValid, one_word, refs_of, words_with}
use Rattle.gix_refspec_lint.proofs.Common.{IsDeciding, IsOverlap}
use Rattle.gix_refspec_lint.proofs.lemmas.IndexLemmas.{all_listed}
use Rattle.gix_refspec_lint.proofs.lemmas.MovedLemmas.{IsWithByte, lacks_parts, word_or_moved}
use Rattle.gix_refspec_lint.proofs.lemmas.ByteLemmas.{excluded_moved, lacks_in}
use Rattle.gix_refspec_lint.proofs.lemmas.StaleLemmas.{excluding_in, excluded_same, from_cases, moved_from, named_valid}
use Rattle.gix_refspec_lint.proofs.lemmas.StaleLemmas.{no_object, pattern_cases, pattern_from, same_beside, stale_alone}
use Rattle.gix_refspec_lint.proofs.lemmas.StaleLemmas.{stale_beside, stale_moved, writable_moved}
use Rattle.gix_refspec_plan.specs.Matching.Stale.{CanWriteFrom, CanWriteObject, IsSourceOf, IsStale, IsWritable}
use Rattle.gix_refspec_lint.specs.Matching.Removal.{PruneOtherwise}
use Rattle.gix_refspec_lint.specs.Private.Removals.{AreLists, AreSameExcluded, IsSameAt, WritesPatterns, all_of}
use Rattle.gix_refspec_lint.specs.Private.Removals.{rest_of}
use Rattle.gix_refspec_lint.specs.declared.removal.pruning.Lists.{Lists}

-- the longer of two texts without the byte lacks it
pub longer_lacks : (z : ℕ) (x y longer : List ℕ) → Lacks z x → Lacks z y → (longer ≡ x) ⊎ (longer ≡ y) → Lacks z longer
longer_lacks z x y longer one other (inl is) = subst (Lacks z) (sym is) one
longer_lacks z x y longer one other (inr is) = subst (Lacks z) (sym is) other

pub none_among : {P : Type 0} (prefix suffix n : List ℕ) (most : ℕ) → IsDeciding [] prefix suffix most n
    → ((k : ℕ) → k ≤ most → IsOverlap prefix suffix k → n ≡ prefix ++ drop k suffix → P) → P
none_among prefix suffix n most (inl (w, there, is)) by = absurd (omega (arith, there.1))
none_among prefix suffix n most (inr (k, most_k, overlap, is)) by = by k most_k overlap is

module _ (lists : Lists) (r : Reading) (are : AreLists r lists) where
  abbrev g : List Reading
  g = all_of lists

  abbrev h : List Reading
  h = rest_of lists

  abbrev z : ℕ
  z = are.letter

  pub lacking : AllByRecursion (SidesLack z) h
  lacking = all_rest h (λ q there. of_element (SidesLack z) g q are.free.lacks (are.values.rest q there))
    where
      all_rest : (l : List Reading) → ((q : Reading) → Contains l q → SidesLack z q) → AllByRecursion (SidesLack z) l
      all_rest l each = all_listed (SidesLack z) l each

  pub side_of : (q : Reading) → Contains h q → SidesLack z q
  side_of q there = of_element (SidesLack z) h q lacking there

  pub own_side : SidesLack z r
  own_side = of_element (SidesLack z) g r are.free.lacks are.values.one

  -- ---- one more reading of patterns

  module _ (q : Reading) (sides : SidesLack z q) (p t a b : List ℕ) (writes : WritesPatterns q p t a b) where
    pub near_lacks : Lacks z p × Lacks z t
    near_lacks = lacks_parts g z are.free writes.source.text p t
        (lacks_in z are.free.usable q.source writes.source.text writes.source.has sides.0) writes.source.split

    pub far_lacks : Lacks z a × Lacks z b
    far_lacks = lacks_parts g z are.free writes.destination.text a b
        (lacks_in z are.free.usable q.destination writes.destination.text writes.destination.has sides.1)
        writes.destination.split

  moved_local : (a b e rest : List ℕ) → a ++ ((e ++ rest) ++ b) ≡ (a ++ e) ++ (rest ++ b)
  moved_local a b e rest = simp append_assoc

  byte_local : (a b e : List ℕ) → a ++ ((e ++ z ∷ []) ++ b) ≡ (a ++ e) ++ (z ∷ b)
  byte_local a b e = simp append_assoc

  -- a stale local ref whose word was moved
  module _ (a b e rest : List ℕ) (lacks_a : Lacks z a) (lacks_e : Lacks z e) where
    lacks_front : Lacks z (a ++ e)
    lacks_front = all_join (λ k. k ≢ z) a e lacks_a lacks_e

    pub stale_byte : (l : List Reading) → AllByRecursion (SidesLack z) l → IsStale l [] (a ++ ((e ++ rest) ++ b))
        → IsWritable l (a ++ ((e ++ z ∷ []) ++ b)) → IsStale l [] (a ++ ((e ++ z ∷ []) ++ b))
    stale_byte l all stale writable =
        subst (IsStale l []) (sym (byte_local a b e))
        (stale_moved g z are.free (a ++ e) rest b lacks_front l all
        (subst (IsStale l []) (moved_local a b e rest) stale) (subst (IsWritable l) (byte_local a b e) writable))

    writable_word : (l : List Reading) → AllByRecursion (SidesLack z) l → IsWritable l (a ++ ((e ++ z ∷ []) ++ b))
        → IsWritable l (a ++ ((e ++ rest) ++ b))
    writable_word l all writable = subst (IsWritable l) (sym (moved_local a b e rest))
        (writable_moved g z are.free (a ++ e) rest b lacks_front l all
        (subst (IsWritable l) (byte_local a b e) writable))

    -- a source with the byte in place of the word is that of the local ref with the byte, if it is that of the one with
    -- the word
    source_word : (l : List Reading) → AllByRecursion (SidesLack z) l → (p t : List ℕ) → Lacks z p
        → IsSourceOf l (a ++ ((e ++ z ∷ []) ++ b)) (p ++ ((e ++ z ∷ []) ++ t)) → IsSourceOf l (a ++ ((e ++ rest) ++ b))
        (p ++ ((e ++ rest) ++ t))
    source_word l all p t lacks_p (q, there, from) =
        let (f, y, is, lacks_f, moved) = moved_from g z are.free (a ++ e) rest b lacks_front q
        (of_element (SidesLack z) l q all there) (p ++ ((e ++ z ∷ []) ++ t))
        (subst (λ n. CanWriteFrom q n (p ++ ((e ++ z ∷ []) ++ t))) (byte_local a b e) from) in
        let both = first_once z (p ++ e) f t y (all_join (λ k. k ≢ z) p e lacks_p lacks_e) lacks_f
        (sym (byte_local p t e) ∙ is) in
        let same : f ++ (rest ++ y) ≡ p ++ ((e ++ rest) ++ t) = ap (λ x. x ++ (rest ++ y)) (sym both.0)
        ∙ ap (λ x. (p ++ e) ++ (rest ++ x)) (sym both.1) ∙ sym (moved_local p t e rest) in (
          q,
          there,
          subst (λ n. CanWriteFrom q n (p ++ ((e ++ rest) ++ t))) (sym (moved_local a b e rest))
              (subst (CanWriteFrom q ((a ++ e) ++ (rest ++ b))) same moved),
        )

    excluded_word : (l : List Reading) → AllByRecursion (SidesLack z) l → (p t : List ℕ)
        → IsExcluded l (p ++ ((e ++ z ∷ []) ++ t)) → IsExcluded l (p ++ ((e ++ rest) ++ t))
    excluded_word l all p t by = subst (IsExcluded l) (sym (moved_local p t e rest))
        (excluded_moved z are.free.usable l (p ++ e) rest t all (subst (IsExcluded l) (byte_local p t e) by))

  -- ---- without a value of patterns

  module _ (p t a b : List ℕ) (writes : WritesPatterns r p t a b) where
    pub excluded_gone : (remote : List Ref) (w : List ℕ) → IsExcluded g (p ++ (w ++ t))
        → ¬ (IsStale g remote (a ++ (w ++ b)))
    excluded_gone remote w by stale = stale.included (p ++ (w ++ t))
        (r, are.values.one, pattern_from r p t a b writes w) by

    there_gone : (remote : List Ref) (w : List ℕ) → HasName remote (p ++ (w ++ t))
        → ¬ (IsStale g remote (a ++ (w ++ b)))
    there_gone remote w has stale = stale.absent (p ++ (w ++ t)) (r, are.values.one, pattern_from r p t a b writes w)
        has

    writable_with : (w : List ℕ) → IsWritable g (a ++ (w ++ b))
    writable_with w = let from = pattern_from r p t a b writes w in (r, from.word, are.values.one, from.writes)

    -- with each of the words, and where sources are excluded and others write the local ref, nothing is otherwise
    module _ (tried : AllByRecursion (λ w. IsSameAt g h (a ++ (w ++ b)) (name (p ++ (w ++ t)) ∷ [])) (words_with z))
        (excluded : (e : Reading) → Contains h e → AreSameExcluded lists p t a b e) where
      same_word : (w : List ℕ) → Contains (words_with z) w → IsSameAt g h (a ++ (w ++ b)) (name (p ++ (w ++ t)) ∷ [])
      same_word w there = of_element (λ w. IsSameAt g h (a ++ (w ++ b)) (name (p ++ (w ++ t)) ∷ []))
          (words_with z) w tried there

      module _ (w : List ℕ) (named : IsRefName (a ++ (w ++ b))) where
        -- what is stale without it has no source that is excluded
        not_excluded : (remote : List Ref) → IsStale h remote (a ++ (w ++ b)) → ¬ (IsExcluded g (p ++ (w ++ t)))
        not_excluded remote stale by =
            let (e, there, one) = excluding_in h (p ++ (w ++ t))
            (excluded_same g h r are.values writes.positive (p ++ (w ++ t)) by) in
            let (other, word, inside, also) = stale.writable in
            excluded e there w other word one inside also named
            (inr (excluded_gone [] w by, stale_alone h remote (a ++ (w ++ b)) stale))

        -- another value can write what is stale with it
        written_besides : IsStale g [] (a ++ (w ++ b)) → ¬ (¬ (IsWritable h (a ++ (w ++ b))))
        written_besides stale none =
            elim (word_or_moved g z are.free w (record { front = a; back = b } ∷ []) (named, tt)) [
              | inl listed ↦ (same_word w listed).alone named (inl (stale, λ also. none also.writable))
              | inr m ↦
                  let e = m.ending ++ z ∷ [] in
                  let far = far_lacks r own_side p t a b writes in
                  let before : IsStale g [] (a ++ ((m.ending ++ m.rest) ++ b)) =
                  subst (λ v. IsStale g [] (a ++ (v ++ b))) m.is stale in
                  let with_byte : IsStale g [] (a ++ (e ++ b)) = stale_byte a b m.ending m.rest far.0 m.lacks g
                  are.free.lacks before (writable_with e) in
                  (same_word e m.listed).alone (inl m.written.0)
                  (inl (
                    with_byte,
                    λ also. none
                        (subst (λ v. IsWritable h (a ++ (v ++ b))) (sym m.is)
                        (writable_word a b m.ending m.rest far.0 m.lacks h lacking also.writable)),
                  ))
            ]

        -- and its source isn't there, where a local ref is stale without it
        not_there : (remote : List Ref) → AreValid remote → IsStale h remote (a ++ (w ++ b))
            → ¬ (HasName remote (p ++ (w ++ t)))
        not_there remote valid stale has =
            elim (word_or_moved g z are.free w (record { front = a; back = b } ∷ record { front = p; back = t } ∷ [])
            (named, (source_valid, tt))) [
              | inl listed ↦ (same_word w listed).beside (name (p ++ (w ++ t))) (zero, omega arith, refl) source_valid
                  named
                  (inr (
                    there_gone (refs_of (name (p ++ (w ++ t)))) w (inl refl),
                    stale_beside h remote (a ++ (w ++ b))
                        (p ++ (w ++ t)) stale other,
                  ))
              | inr m ↦ moved m
            ]
          where
            source_valid : IsRefName (p ++ (w ++ t))
            source_valid = named_valid remote (p ++ (w ++ t)) valid has

            other : ¬ (IsSourceOf h (a ++ (w ++ b)) (p ++ (w ++ t)))
            other source = stale.absent (p ++ (w ++ t)) source has

            moved : IsWithByte z w (record { front = a; back = b } ∷ record { front = p; back = t } ∷ []) → ⊥
            moved m =
                let e = m.ending ++ z ∷ [] in
                let far = far_lacks r own_side p t a b writes in
                let near = near_lacks r own_side p t a b writes in
                let local = a ++ (e ++ b) in
                let source = p ++ (e ++ t) in
                let same = same_word e m.listed in
                let before : IsStale h [] (a ++ ((m.ending ++ m.rest) ++ b)) =
                subst (λ v. IsStale h [] (a ++ (v ++ b))) m.is (stale_alone h remote (a ++ (w ++ b)) stale) in
                let unwritable : ¬ (IsWritable h local) = λ writable.
                let alone = stale_byte a b m.ending m.rest far.0 m.lacks h lacking before writable in
                let apart : ¬ (IsSourceOf h local source) =
                λ of. other (subst (λ v. IsSourceOf h (a ++ (v ++ b)) (p ++ (v ++ t))) (sym m.is)
                (source_word a b m.ending m.rest far.0 m.lacks h lacking p t near.0 of)) in
                same.beside (name source) (zero, omega arith, refl) (inl m.written.1.0) (inl m.written.0)
                (inr (
                  there_gone (refs_of (name source)) e (inl refl),
                  stale_beside h [] local source alone apart,
                )) in
                let included : ¬ (IsExcluded g source) = λ by. not_excluded remote stale
                (subst (λ v. IsExcluded g (p ++ (v ++ t))) (sym m.is)
                (excluded_word a b m.ending m.rest far.0 m.lacks g are.free.lacks p t by)) in
                let with_byte : IsStale g [] local = record {
                  writable = writable_with e;
                  no_object = λ (q, there, object). elim (are.values.all q there) [
                    | inl inside ↦ unwritable (q, None, inside, object.writes)
                    | inr is ↦
                        no_object r p t a b writes local (subst (λ x. CanWriteObject x local) is object)
                  ];
                  absent = λ s of none. none;
                  included = λ s (q, there, from) by. elim (are.values.all q there) [
                    | inl inside ↦ unwritable (q, from.word, inside, from.writes)
                    | inr is ↦
                        let (v, at, is_source) = from_cases r p t a b writes local s
                        (subst (λ x. CanWriteFrom x local s) is from) in
                        let same_words : v ≡ e = one_word a b local v e at refl in
                        included (subst (IsExcluded g) (is_source ∙ ap (λ v. p ++ (v ++ t)) same_words) by)
                  ];
                } in
                same.alone (inl m.written.0) (inl (with_byte, λ also. unwritable also.writable))

      pub pattern_same : ¬ (PruneOtherwise g h)
      pattern_same o =
          let n = o.local in
          let at : (w : List ℕ) → n ≡ a ++ (w ++ b) → IsRefName (a ++ (w ++ b)) = λ w is. subst IsRefName is o.named in
          same_beside g h r are.values writes.positive o.remote n
          (λ word by stale none. let (w, is, some) = pattern_cases r p t a b writes n word by in written_besides w
          (at w is) (subst (IsStale g []) is stale) (λ writable. none (subst (IsWritable h) (sym is) writable)))
          (λ stale. no_object r p t a b writes n)
          (λ s stale from has. let (w, is, source) = from_cases r p t a b writes n s from in not_there w
          (at w is) o.remote o.valid (subst (IsStale h o.remote) is stale) (subst (HasName o.remote) source has))
          (λ s stale from by. let (w, is, source) = from_cases r p t a b writes n s from in not_excluded w
          (at w is) o.remote (subst (IsStale h o.remote) is stale) (subst (IsExcluded g) source by))
          o.differ
