-- Overlaps that come to nothing for one reason.
use Rattle.gix_refspec_lint.proofs.Common.{drop_at, take_at, ◌≡◌, ◌≢◌, ◌⊎◌, inl, inr, ℕ, zero, suc, ◌+◌, ◌<◌, ◌≤◌, List}
use Rattle.gix_refspec_lint.proofs.Common.{[], ◌∷◌, ◌++◌, drop, length, take, append_assoc, append-nil, length-append}
use Rattle.gix_refspec_lint.proofs.Common.{refl, sym, ap, ◌∙◌, subst, arith, EndsWith, upto, IsOverlap, power}
use Rattle.gix_refspec_lint.proofs.Common.{IsFirstOf, IsNextOf, IsRun, Run, Why, Unknown, take-append-drop, length-drop}
use Rattle.gix_refspec_lint.proofs.Common.{length-take-le, get_or, AllByRecursion, take_more, all_join, of_element}
use Rattle.gix_refspec_lint.proofs.Common.{Contains-get_or, IsDeciding, AreOverlaps}
use Rattle.gix_refspec_lint.proofs.lemmas.RepeatLemmas.{power_long, power_length}

-- the reason holds for a name with the word once more, if it does for those with fewer
abbrev pub Goes : (Why → List ℕ → Type 0) → Type 0
Goes Holds = (why : Why) (x v y : List ℕ) (i : ℕ) → why ≢ Unknown → v ≢ [] → 5 ≤ length (power v i)
    → ((j : ℕ) → j ≤ i → Holds why (x ++ (power v j ++ y))) → Holds why (x ++ (power v (i + 1) ++ y))

module _ (Holds : Why → List ℕ → Type 0) (prefix suffix : List ℕ) where
  -- one that begins with an overlap
  pub run_first : (k : ℕ) (why : Why) (run : Run) → k ≤ length suffix → EndsWith (take k suffix) prefix
      → Holds why (prefix ++ drop k suffix) → IsFirstOf k why run → IsRun Holds prefix suffix run
  run_first k why run within ends holds is = record {
    front = take k suffix;
    word = 0 ∷ [];
    times = 0;
    rest = drop k suffix;
    whole = sym (take-append-drop k suffix);
    some = λ none. cc;
    shortest = length-take-le k suffix within ∙ sym is.shortest;
    longest = omega (arith, is.shortest, is.longest);
    ends = ends;
    equal = λ over. absurd (omega (arith, over));
    holds = λ i below. let none : i ≡ 0 = omega arith in rw (none, is.why) holds;
  }

  module _ (run : Run) (is : IsRun Holds prefix suffix run) (k : ℕ) (overlap : IsOverlap prefix suffix k)
      (below : k ≤ run.shortest) where
    -- what this one has more than the last
    abbrev more : List ℕ
    more = drop k is.front

    sizes : (length (take k is.front) ≡ k) × (k + length more ≡ run.shortest)
    sizes = (length-take-le k is.front (omega (arith, is.shortest)), omega (arith, length-drop k is.front, is.shortest))

    whole : suffix ≡ take k is.front ++ (more ++ (power is.word is.times ++ is.rest))
    whole = is.whole ∙ ap (λ x. x ++ (power is.word is.times ++ is.rest)) (sym (take-append-drop k is.front))
        ∙ append_assoc (take k is.front) more _

    more_ends : EndsWith more prefix
    more_ends = record {
      before = is.ends.before ++ take k is.front;
      here = is.ends.here ∙ ap (λ x. is.ends.before ++ x)
          (sym (take-append-drop k is.front)) ∙ sym (append_assoc is.ends.before _ more);
    }

    -- if there was one more before, by as much as this one has more, it is the word once more
    again : (0 < is.times → length more ≡ run.step) → (i : ℕ) → i ≤ is.times → power is.word i ≡ power more i
    again apart zero l = refl
    again apart (suc i) l =
        let some : 0 < is.times = omega (arith, l) in
        let (ends, long) = is.equal some in
        let same : length more_ends.before ≡ length ends.before =
        omega (arith, ap length (sym ends.here ∙ more_ends.here), length-append {A = ℕ}, long, apart some) in
        ap (λ v. power v (suc i)) (sym (drop_at ends.before is.word (length ends.before) refl)
        ∙ ap (drop (length ends.before)) (sym ends.here ∙ more_ends.here) ∙ drop_at more_ends.before more _ same)

    name_is : (0 < is.times → length more ≡ run.step) → prefix ++ drop k suffix ≡ prefix
        ++ (power more (suc is.times) ++ is.rest)
    name_is apart = ap (λ x. prefix ++ x) (ap (drop k) whole ∙ drop_at (take k is.front) _ k sizes.0
        ∙ ap (λ v. more ++ (v ++ is.rest)) (again apart is.times (omega arith)) ∙ simp append_assoc)

    -- so it goes on without a look
    goes : Goes Holds → (why : Why) → why ≡ run.why → why ≢ Unknown → run.shortest + 5 ≤ run.longest
        → k + run.step ≡ run.shortest → Holds why (prefix ++ drop k suffix)
    goes law why same known long step =
        let apart : 0 < is.times → length more ≡ run.step = λ some. omega (arith, sizes.1) in
        let next : is.times + 1 ≡ suc is.times = omega arith in
        let enough : 5 ≤ length (power more is.times) = omega (
          arith,
          ap length (again apart is.times (omega arith)),
          is.longest,
        ) in
        subst (Holds why) (ap (λ j. prefix ++ (power more j ++ is.rest)) next ∙ sym (name_is apart))
        (law why prefix more is.rest is.times known (λ none. omega (arith, rw none at enough, power_length [] is.times))
        enough (λ j below. rw (same, ← again apart j below) (is.holds j below)))

    run_next : (why : Why) (new : Run) → IsNextOf run k why new → Holds why (prefix ++ drop k suffix)
        → IsRun Holds prefix suffix new
    run_next why new next holds =
        let long : length more ≡ new.step = omega (arith, sizes.1, next.step) in
        let apart : 0 < is.times → length more ≡ run.step =
        λ some. elim next.equal [
          | inl first ↦ absurd (omega (arith, first, is.longest, power_long is.word is.times is.some))
          | inr equal ↦
              long ∙ equal
        ] in
        let old = again apart is.times (omega arith) in
        record {
          front = take k is.front;
          word = more;
          times = suc is.times;
          rest = is.rest;
          whole = whole ∙ ap (λ v. take k is.front ++ (more ++ (v ++ is.rest))) old ∙ simp append_assoc;
          some = λ none. omega (arith, next.some, long, ap length none);
          shortest = sizes.0 ∙ sym next.shortest;
          longest = omega (
            arith,
            next.shortest,
            next.longest,
            sizes.1,
            is.longest,
            length-append more (power more is.times),
            ap length old,
          );
          ends = subst (λ x. EndsWith x prefix) (ap (take k) whole ∙ take_at (take k is.front) _ k sizes.0)
              overlap.ends;
          equal = λ over. (more_ends, long);
          holds = λ i upper. elim (upto i (suc is.times) (omega (arith, upper))) [
            | inl fewer ↦ rw (next.why ∙ next.same, ← again apart i (omega (arith, fewer)))
                (is.holds i (omega (arith, fewer)))
            | inr all ↦ rw (all, next.why, ← name_is apart) holds
          ];
        }

-- P holds of the names of these overlaps, and the run goes on with the last of them
pub record AreSoFar (P : List ℕ → Type 0) (Holds : Why → List ℕ → Type 0) (prefix suffix list : List ℕ) (run : Run) :
    Type 0 where
  pub all : AllByRecursion (λ k. P (prefix ++ drop k suffix)) list
  pub goes : IsRun Holds prefix suffix run

module _ (P : List ℕ → Type 0) (Holds : Why → List ℕ → Type 0) (prefix suffix : List ℕ) (most : ℕ) (list : List ℕ)
    (are : AreOverlaps prefix suffix most list) (i : ℕ) (run : Run)
    (so_far : AreSoFar P Holds prefix suffix (take i list) run) (below : i < length list) where
  abbrev k : ℕ
  k = get_or list i 0

  overlap : IsOverlap prefix suffix k
  overlap = of_element (IsOverlap prefix suffix) list k are.each (Contains-get_or list i 0 below)

  pub one_more : (why : Why) (new : Run) → P (prefix ++ drop k suffix) → Holds why (prefix ++ drop k suffix)
      → IsFirstOf k why new ⊎ IsNextOf run k why new → AreSoFar P Holds prefix suffix (take (i + 1) list) new
  one_more why new holds reason next = record {
    all = subst (AllByRecursion (λ j. P (prefix ++ drop j suffix))) (sym (take_more list i 0 below))
        (all_join (λ j. P (prefix ++ drop j suffix)) (take i list) (k ∷ []) so_far.all (holds, tt));
    goes = elim next [
      | inl first ↦ run_first Holds prefix suffix k why new overlap.within overlap.ends reason first
      | inr next ↦ run_next Holds prefix suffix run so_far.goes k overlap (omega (arith, next.step)) why new next reason
    ];
  }

  -- one more of which nobody asks
  pub passed_over : Goes Holds → ((why : Why) (n : List ℕ) → why ≢ Unknown → Holds why n → P n)
      → (why : Why) (new : Run)
      → (why ≡ run.why) × (why ≢ Unknown) × (run.shortest + 5 ≤ run.longest) × (k + run.step ≡ run.shortest)
      → IsFirstOf k why new ⊎ IsNextOf run k why new → AreSoFar P Holds prefix suffix (take (i + 1) list) new
  passed_over law nothing why new (same, known, long, step) next =
      let reason = goes Holds prefix suffix run so_far.goes k overlap (omega (arith, step)) law why same known long
      step in
      one_more why new (nothing why (prefix ++ drop k suffix) known reason) reason next

pub none_so_far : (P : List ℕ → Type 0) (Holds : Why → List ℕ → Type 0) (prefix suffix : List ℕ) (run : Run)
    → Holds Unknown (prefix ++ suffix) → IsFirstOf 0 Unknown run → AreSoFar P Holds prefix suffix [] run
none_so_far P Holds prefix suffix run holds first =
    record {
      all = tt;
      goes = run_first Holds prefix suffix 0 Unknown run (omega arith)
          (record { before = prefix; here = sym (append-nil prefix) }) holds first;
    }

-- what holds with each word and at each overlap holds at the names that decide
pub each_deciding : (P : List ℕ → Type 0) (words : List (List ℕ)) (prefix suffix : List ℕ) (most : ℕ)
    → AllByRecursion (λ w. P (prefix ++ (w ++ suffix))) words
    → ((k : ℕ) → k ≤ most → IsOverlap prefix suffix k → P (prefix ++ drop k suffix)) → (n : List ℕ)
    → IsDeciding words prefix suffix most n → P n
each_deciding P words prefix suffix most by_word overlapping n (inl (w, there, is)) =
    subst P (sym is) (of_element (λ w. P (prefix ++ (w ++ suffix))) words w by_word there)
each_deciding P words prefix suffix most by_word overlapping n (inr (k, below, overlap, is)) =
    subst P (sym is) (overlapping k below overlap)

pub each_overlap : (P : List ℕ → Type 0) (prefix suffix : List ℕ) (most : ℕ) (list : List ℕ)
    → AreOverlaps prefix suffix most list → AllByRecursion (λ k. P (prefix ++ drop k suffix)) list
    → (k : ℕ) → k ≤ most → IsOverlap prefix suffix k → P (prefix ++ drop k suffix)
each_overlap P prefix suffix most list are all k below overlap = of_element (λ k. P (prefix ++ drop k suffix)) list k
    all (are.all k below overlap)
