-- That the names which decide tell of all local refs whose sources are excluded.
use Rattle.gix_refspec_lint.proofs.Common.{◌≡◌, inl, inr, ℕ, List, [], ◌∷◌, ◌++◌, Option, None, Some, refl, sym, ap}
use Rattle.gix_refspec_lint.proofs.Common.{◌∙◌, subst, AllByRecursion, Contains, append_cancel_left}
use Rattle.gix_refspec_lint.proofs.Common.{append_cancel_right, of_element, all_join, all_right, Lacks, IsSplit}
use Rattle.gix_refspec_lint.proofs.Common.{same_Some, drop, Fits, Reading, Negative, IsPositive, IsExcludedBy}
use Rattle.gix_refspec_lint.proofs.Common.{IsRefName, one_word, by_pattern, Excludes, ◌≢◌, CanBeWritten, words_with}
use Rattle.gix_refspec_lint.proofs.Common.{AreCommon, AreApart, Common, HasSourcePattern}
use Rattle.gix_refspec_lint.proofs.lemmas.MovedLemmas.{IsWithByte, lacks_parts, word_or_moved}
use Rattle.gix_refspec_lint.proofs.lemmas.ByteLemmas.{lacks_in}
use Rattle.gix_refspec_lint.proofs.lemmas.OneSpecLemmas.{fits_excluded, own_name}
use Rattle.gix_refspec_lint.proofs.lemmas.WordLemmas.{IsParted, between, common_name, within}
use Rattle.gix_refspec_lint.proofs.lemmas.StaleLemmas.{excluded_in, far_cases, from_cases, pattern_from}
use Rattle.gix_refspec_lint.proofs.lemmas.StaleLemmas.{pattern_written, stale_alone, stale_less, stale_more}
use Rattle.gix_refspec_lint.proofs.lemmas.PruneLemmas.{excluded_gone, far_lacks, lacking, longer_lacks, near_lacks}
use Rattle.gix_refspec_lint.proofs.lemmas.PruneLemmas.{none_among, own_side, side_of, stale_byte}
use Rattle.gix_refspec_plan.specs.Matching.Stale.{CanWrite, CanWriteFrom, IsStale, IsWritable}
use Rattle.gix_refspec_lint.specs.Private.Runs.{HasDestinationPattern}
use Rattle.gix_refspec_lint.specs.Matching.Removal.{IsStaleByOne, PruneOtherwise}
use Rattle.gix_refspec_lint.specs.Private.Removals.{AreLists, AreSameAmong, AreSameExcluded, AreSameOverlapping}
use Rattle.gix_refspec_lint.specs.Private.Removals.{AreSameOverlappingFrom, AreSameWithin, AreSameWithout}
use Rattle.gix_refspec_lint.specs.Private.Removals.{ExcludesWithin, IsSameAlone, IsSameFrom, WritesPatterns, all_of}
use Rattle.gix_refspec_lint.specs.Private.Removals.{rest_of}
use Rattle.gix_refspec_lint.specs.declared.removal.pruning.Lists.{Lists}

excludes_text : (e : Reading) (x n : List ℕ) → e.source ≡ Some x → IsExcludedBy n e → Excludes x n
excludes_text e x n has by = subst (λ y. Excludes y n) (same_Some _ _ (sym by.source ∙ has)) by.excludes

excludes_fitting : (e : Reading) (c k n u : List ℕ) → e.mode ≡ Negative → HasSourcePattern e c k → Fits c k n u
    → IsExcludedBy n e
excludes_fitting e c k n u negative source fits = record {
  negative = negative;
  text = source.text;
  source = source.has;
  excludes = by_pattern c k u source.split fits;
}

module _ (lists : Lists) (r : Reading) (are : AreLists r lists) where
  abbrev g : List Reading
  g = all_of lists

  abbrev h : List Reading
  h = rest_of lists

  abbrev z : ℕ
  z = are.letter

  -- ---- without a value of patterns, where e excludes its source

  module _ (e : Reading) (excluding : Contains h e) (p t a b : List ℕ) (writes : WritesPatterns r p t a b) where
    gone : (w : List ℕ) → IsExcludedBy (p ++ (w ++ t)) e → ¬ (IsStale g [] (a ++ (w ++ b)))
    gone w by = excluded_gone lists r are p t a b writes [] w
        (excluded_in g e (p ++ (w ++ t)) (are.values.rest e excluding) by)

    stale_without : (w : List ℕ) → IsExcludedBy (p ++ (w ++ t)) e → IsStaleByOne g h [] (a ++ (w ++ b))
        → IsStale h [] (a ++ (w ++ b))
    stale_without w by (inl (stale, none)) = absurd (gone w by stale)
    stale_without w by (inr (none, stale)) = stale

    module _ (prefix suffix : List ℕ) (around : ExcludesWithin z e p t a b prefix suffix) (q : Reading)
        (inside : Contains h q) where
      -- another value that writes one name
      pub one_within : (d : List ℕ) → ((n : List ℕ) (word : Option (List ℕ)) → CanWrite q n word → n ≡ d)
          → IsSameAlone g h d → AreSameWithin lists a b prefix suffix q
      one_within d only same w u word fits by = subst (IsSameAlone g h) (sym (only (a ++ (w ++ b)) word by)) same

      -- or by a pattern
      module _ (c k : List ℕ) (far : HasDestinationPattern q c k) where
        pub apart_within : AreApart a b c k → AreSameWithin lists a b prefix suffix q
        apart_within none w u word fits by = let (v, at, some) = far_cases q c k far (a ++ (w ++ b)) word by in absurd
            (none (a ++ (w ++ b)) w v refl at)

        module _ (shared : Common) (common : AreCommon a b c k shared) (overlapping : AreSameOverlapping g h shared)
          where
            abbrev P : List ℕ
            P = shared.prefix.now

            abbrev S : List ℕ
            S = shared.suffix.now

            shared_cases : (w v : List ℕ) → Fits c k (a ++ (w ++ b)) v → IsRefName (a ++ (w ++ b))
                → IsStaleByOne g h [] (a ++ (w ++ b)) → IsParted a b c k P S (a ++ (w ++ b)) w v
            shared_cases w v at named differ =
                elim (common_name [] a b c k P S shared.most (a ++ (w ++ b)) w v common.prefix common.suffix common.most
                refl at) [
                  | inl one ↦ one
                  | inr deciding ↦ none_among P S (a ++ (w ++ b)) shared.most deciding
                      (λ l most overlap is. absurd
                      (overlapping l most overlap (subst IsRefName is named)
                      (subst (λ n. IsStaleByOne g h [] n) is differ)))
                ]

            pub all_apart : AreApart P S prefix suffix → AreSameWithin lists a b prefix suffix q
            all_apart none w u word fits by named differ =
                let (v, at, some) = far_cases q c k far (a ++ (w ++ b)) word by in
                let one = shared_cases w v at named differ in
                none (a ++ (w ++ b)) one.word u one.whole fits

            module _ (third : Common) (also : AreCommon P S prefix suffix third)
                (among : AreSameAmong g h (words_with z) third) where
              abbrev front : List ℕ
              front = third.prefix.now

              abbrev back : List ℕ
              back = third.suffix.now

              front_lacks : Lacks z front
              front_lacks =
                  let own = (far_lacks lists r are r (own_side lists r are) p t a b writes).0 in
                  let other = (lacks_parts g z are.free far.text c k
                  (lacks_in z are.free.usable q.destination far.text far.has (side_of lists r are q inside).1)
                  far.split).0 in
                  longer_lacks z P prefix front (longer_lacks z a c P own other common.prefix.is) around.lacks
                  also.prefix.is

              -- with the byte in place of the rest of the word it would be otherwise too
              moved_within : (w v u : List ℕ) (word : Option (List ℕ)) → Fits prefix suffix (a ++ (w ++ b)) u
                  → CanWrite q (a ++ (w ++ b)) word → IsStaleByOne g h [] (a ++ (w ++ b))
                  → (one : IsParted a b c k P S (a ++ (w ++ b)) w v)
                  → (two : IsParted P S prefix suffix front back (a ++ (w ++ b)) one.word u)
                  → IsWithByte z two.word (record { front = front; back = back } ∷ []) → ⊥
              moved_within w v u word fits by differ one two m =
                  let x = m.ending ++ z ∷ [] in
                  let local = front ++ (x ++ back) in
                  let u1 = two.x ++ (x ++ two.y) in
                  let w1 = one.x ++ (u1 ++ one.y) in
                  let in_shared : local ≡ P ++ (u1 ++ S) = within P S front back two.x two.y x two.before two.after in
                  let in_far : local ≡ a ++ (w1 ++ b) = in_shared
                  ∙ within a b P S one.x one.y u1 one.before one.after in
                  let in_other : Fits c k local (one.p ++ (u1 ++ one.q)) = in_shared
                  ∙ within c k P S one.p one.q u1 one.front one.back in
                  let in_around : Fits prefix suffix local (two.p ++ (x ++ two.q)) =
                  within prefix suffix front back two.p two.q x two.front two.back in
                  let before : IsStale h [] (front ++ ((m.ending ++ m.rest) ++ back)) =
                  subst (IsStale h []) (two.whole ∙ ap (λ o. front ++ (o ++ back)) m.is)
                  (stale_without w (around.excludes w u fits) differ) in
                  let writable : IsWritable h local = (
                    q,
                    Some (one.p ++ (u1 ++ one.q)),
                    inside,
                    pattern_written q far.text c k local
                        (one.p ++ (u1 ++ one.q)) by.positive far.has far.split in_other,
                  ) in
                  let stale = stale_byte lists r are front back m.ending m.rest front_lacks m.lacks h
                  (lacking lists r are) before writable in
                  let none : ¬ (IsStale g [] local) =
                  λ also. gone w1
                  (around.excludes w1 (two.p ++ (x ++ two.q))
                  (subst (λ n. Fits prefix suffix n (two.p ++ (x ++ two.q))) in_far in_around))
                  (subst (IsStale g []) in_far also) in
                  among local (inl (x, m.listed, refl)) (inl m.written.0) (inr (none, stale))

              pub all_within : AreSameWithin lists a b prefix suffix q
              all_within w u word fits by named differ =
                  let n = a ++ (w ++ b) in
                  let (v, at, some) = far_cases q c k far n word by in
                  let one = shared_cases w v at named differ in
                  elim (common_name [] P S prefix suffix front back third.most n one.word u also.prefix also.suffix
                  also.most one.whole fits) [
                    | inr deciding ↦ none_among front back n third.most deciding
                        (λ l most overlap is. among (front ++ drop l back) (inr (l, most, overlap, refl))
                        (subst IsRefName is named) (subst (λ n. IsStaleByOne g h [] n) is differ))
                    | inl two ↦ elim (word_or_moved g z are.free two.word (record { front = front; back = back } ∷ [])
                        (subst IsRefName two.whole named, tt)) [
                          | inl listed ↦ among n (inl (two.word, listed, two.whole)) named differ
                          | inr m ↦ moved_within w v u word fits by differ one two m
                        ]
                  ]

    -- e has no star
    pub one_excluded : (x : List ℕ) → e.source ≡ Some x → ((before after : List ℕ) → ¬ (IsSplit before after x))
        → IsSameFrom g h p t a b x → AreSameExcluded lists p t a b e
    one_excluded x has plain same w other word by inside also =
        same w (own_name x (p ++ (w ++ t)) plain (excludes_text e x (p ++ (w ++ t)) has by))

    -- or is a pattern
    module _ (c k : List ℕ) (source : HasSourcePattern e c k) (negative : e.mode ≡ Negative) where
      pub apart_excluded : AreApart p t c k → AreSameExcluded lists p t a b e
      apart_excluded none w other word by inside also =
          let (v, fits) = fits_excluded source.text c k (p ++ (w ++ t)) source.split
          (excludes_text e source.text (p ++ (w ++ t)) source.has by) in
          absurd (none (p ++ (w ++ t)) w v refl fits)

      module _ (taken : Common) (common : AreCommon p t c k taken) (x y prefix suffix : List ℕ)
          (begins : taken.prefix.now ≡ p ++ x) (ends : taken.suffix.now ≡ y ++ t) (is_prefix : prefix ≡ a ++ x)
          (is_suffix : suffix ≡ y ++ b) where
        pub excludes_within : ExcludesWithin z e p t a b prefix suffix
        excludes_within = record {
          lacks =
              let own = (near_lacks lists r are r (own_side lists r are) p t a b writes).0 in
              let far = (far_lacks lists r are r (own_side lists r are) p t a b writes).0 in
              let sides = side_of lists r are e excluding in
              let other = (lacks_parts g z are.free source.text c k
              (lacks_in z are.free.usable e.source source.text source.has sides.0) source.split).0 in
              let longer = longer_lacks z p c taken.prefix.now own other common.prefix.is in
              subst (Lacks z) (sym is_prefix)
              (all_join (λ b. b ≢ z) a x far (all_right (λ b. b ≢ z) p x (subst (Lacks z) begins longer)));
          excludes = λ w u fits.
              let word : w ≡ x ++ (u ++ y) = one_word a b (a ++ (w ++ b)) w (x ++ (u ++ y)) refl
              (fits ∙ within a b prefix suffix x y u is_prefix is_suffix) in
              let whole : p ++ (w ++ t) ≡ taken.prefix.now ++ (u ++ taken.suffix.now) = ap (λ o. p ++ (o ++ t)) word
              ∙ sym (within p t taken.prefix.now taken.suffix.now x y u begins ends) in
              let after = common.prefix.other.after in
              let before = common.suffix.other.before in
              excludes_fitting e c k (p ++ (w ++ t)) (after ++ (u ++ before)) negative source
              (whole ∙ within c k taken.prefix.now taken.suffix.now after before u common.prefix.other.here
              common.suffix.other.here);
        }

        pub all_excluded : AreSameOverlappingFrom g h p t a b taken
            → ((other : Reading) → Contains h other → AreSameWithin lists a b prefix suffix other)
            → AreSameExcluded lists p t a b e
        all_excluded overlapping each w other word by inside also named differ =
            let s = p ++ (w ++ t) in
            let (v, fits) = fits_excluded source.text c k s source.split
            (excludes_text e source.text s source.has by) in
            elim (common_name [] p t c k taken.prefix.now taken.suffix.now taken.most s w v common.prefix common.suffix
            common.most refl fits) [
              | inr deciding ↦ none_among taken.prefix.now taken.suffix.now s taken.most deciding
                  (λ l most overlap is. overlapping l most overlap w (sym is) named differ)
              | inl one ↦
                  let same_x : x ≡ one.x = append_cancel_left p x one.x (sym begins ∙ one.before) in
                  let same_y : y ≡ one.y = append_cancel_right y one.y t (sym ends ∙ one.after) in
                  let word_is : w ≡ x ++ (one.word ++ y) = one.one ∙ ap (λ o. o ++ (one.word ++ one.y)) (sym same_x)
                  ∙ ap (λ o. x ++ (one.word ++ o)) (sym same_y) in
                  let within_it : Fits prefix suffix (a ++ (w ++ b)) one.word = ap (λ o. a ++ (o ++ b)) word_is
                  ∙ sym (within a b prefix suffix x y one.word is_prefix is_suffix) in
                  each other inside w one.word word within_it also named differ
            ]

  -- ---- without a negative value

  module _ (negative : r.mode ≡ Negative) where
    excludes_gone : (q : Reading) (n s : List ℕ) → Contains h q → CanWriteFrom q n s → IsExcludedBy s r
        → ¬ (IsStale g [] n)
    excludes_gone q n s inside from by stale = stale.included s (q, are.values.rest q inside, from)
        (excluded_in g r s are.values.one by)

    never_written : (n : List ℕ) (word : Option (List ℕ)) → ¬ (CanWrite r n word)
    never_written n word by = subst IsPositive negative by.positive

    pub exclusion_same : ((q : Reading) → Contains h q → AreSameWithout lists r q) → ¬ (PruneOtherwise g h)
    exclusion_same each o = elim o.differ [
      | inl (stale, none) ↦
          let (q, word, there, by) = stale.writable in
          elim (are.values.all q there) [
            | inl inside ↦ none (stale_less g h r are.values o.remote o.local stale (q, word, inside, by))
            | inr same ↦ never_written o.local word (subst (λ x. CanWrite x o.local word) same by)
          ]
      | inr (none, stale) ↦
          none (stale_more g h r are.values o.remote o.local stale (λ object. never_written o.local None object.writes)
          (λ s from has. never_written o.local from.word from.writes)
          (λ s from by. never_written o.local from.word from.writes)
          (λ q s inside from by. each q inside o.local s from by o.named
          (inr (excludes_gone q o.local s inside from by, stale_alone h o.remote o.local stale))))
    ]

    module _ (q : Reading) (p t a b : List ℕ) (writes : WritesPatterns q p t a b) where
      pub one_without : (x : List ℕ) → r.source ≡ Some x → ((before after : List ℕ) → ¬ (IsSplit before after x))
          → IsSameFrom g h p t a b x → AreSameWithout lists r q
      one_without x has plain same n s from by =
          let (w, local, source) = from_cases q p t a b writes n s from in
          subst (IsSameAlone g h) (sym local) (same w (own_name x s plain (excludes_text r x s has by) ∙ source))

      module _ (inside : Contains h q) (c k : List ℕ) (source : HasSourcePattern r c k) where
        pub apart_without : AreApart p t c k → AreSameWithout lists r q
        apart_without none n s from by =
            let (w, local, is) = from_cases q p t a b writes n s from in
            let (v, fits) = fits_excluded source.text c k s source.split
            (excludes_text r source.text s source.has by) in
            absurd (none s w v is fits)

        module _ (taken : Common) (common : AreCommon p t c k taken)
            (tried : AllByRecursion (λ w. IsSameFrom g h p t a b (taken.prefix.now ++ (w ++ taken.suffix.now)))
            (words_with z)) (overlapping : AreSameOverlappingFrom g h p t a b taken) where
          abbrev begin : List ℕ
          begin = taken.prefix.now

          abbrev end : List ℕ
          end = taken.suffix.now

          x_lacks : (x : List ℕ) → begin ≡ p ++ x → Lacks z (a ++ x)
          x_lacks x begins =
              let sides = side_of lists r are q inside in
              let near = (near_lacks lists r are q sides p t a b writes).0 in
              let far = (far_lacks lists r are q sides p t a b writes).0 in
              let other = (lacks_parts g z are.free source.text c k
              (lacks_in z are.free.usable r.source source.text source.has (own_side lists r are).0)
              source.split).0 in
              all_join (λ b. b ≢ z) a x far
              (all_right (λ b. b ≢ z) p x
              (subst (Lacks z) begins (longer_lacks z p c begin near other common.prefix.is)))

          same_source : (u : List ℕ) → Contains (words_with z) u → IsSameFrom g h p t a b (begin ++ (u ++ end))
          same_source u there = of_element (λ w. IsSameFrom g h p t a b (begin ++ (w ++ end))) (words_with z) u tried
              there

          moved_without : (w v : List ℕ) → IsStale h [] (a ++ (w ++ b))
              → (one : IsParted p t c k begin end (p ++ (w ++ t)) w v)
              → IsWithByte z one.word (record { front = a ++ one.x; back = one.y ++ b } ∷ []) → ⊥
          moved_without w v stale one m =
              let x = m.ending ++ z ∷ [] in
              let w1 = one.x ++ (x ++ one.y) in
              let front = a ++ one.x in
              let back = one.y ++ b in
              let local : front ++ (x ++ back) ≡ a ++ (w1 ++ b) = between a one.x x one.y b in
              let was : a ++ (w ++ b) ≡ front ++ ((m.ending ++ m.rest) ++ back) = ap (λ o. a ++ (o ++ b)) one.one
              ∙ sym (between a one.x one.word one.y b) ∙ ap (λ o. front ++ (o ++ back)) m.is in
              let from = pattern_from q p t a b writes w1 in
              let writable : IsWritable h (front ++ (x ++ back)) = subst (IsWritable h) (sym local)
              (q, from.word, inside, from.writes) in
              let moved = stale_byte lists r are front back m.ending m.rest (x_lacks one.x one.before) m.lacks h
              (lacking lists r are) (subst (IsStale h []) was stale) writable in
              let fits : Fits c k (p ++ (w1 ++ t)) (one.p ++ (x ++ one.q)) =
              sym (within p t begin end one.x one.y x one.before one.after)
              ∙ within c k begin end one.p one.q x one.front one.back in
              let by = excludes_fitting r c k (p ++ (w1 ++ t)) (one.p ++ (x ++ one.q)) negative source fits in
              same_source x m.listed w1 (within p t begin end one.x one.y x one.before one.after)
              (inl (subst (λ n. CanBeWritten (Some n)) local m.written.0))
              (inr (excludes_gone q (a ++ (w1 ++ b)) (p ++ (w1 ++ t)) inside from by, subst (IsStale h []) local moved))

          all_words : (w : List ℕ) → IsExcludedBy (p ++ (w ++ t)) r → IsSameAlone g h (a ++ (w ++ b))
          all_words w by named differ =
              let s = p ++ (w ++ t) in
              let n = a ++ (w ++ b) in
              let (v, fits) = fits_excluded source.text c k s source.split
              (excludes_text r source.text s source.has by) in
              elim
              (common_name [] p t c k begin end taken.most s w v common.prefix common.suffix common.most refl fits) [
                | inr deciding ↦ none_among begin end s taken.most deciding
                    (λ l most overlap is. overlapping l most overlap w (sym is) named differ)
                | inl one ↦ elim (word_or_moved g z are.free one.word
                    (record { front = a ++ one.x; back = one.y ++ b } ∷ []) (
                      subst IsRefName (ap (λ o. a ++ (o ++ b)) one.one ∙ sym (between a one.x one.word one.y b)) named,
                      tt,
                    )) [
                      | inl listed ↦ same_source one.word listed w (sym one.whole) named differ
                      | inr m ↦ moved_without w v
                          (elim differ [
                            | inl also ↦ absurd (excludes_gone q n s inside (pattern_from q p t a b writes w) by also.0)
                            | inr also ↦ also.1
                          ]) one m
                    ]
              ]

          pub all_without : AreSameWithout lists r q
          all_without n s from by =
              let (w, local, is) = from_cases q p t a b writes n s from in
              subst (IsSameAlone g h) (sym local) (all_words w (subst (λ o. IsExcludedBy o r) is by))
