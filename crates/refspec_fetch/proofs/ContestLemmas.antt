-- Conflicts, from sorted claims.
use Rattle.std.proofs.Common.{◌≡◌, ◌≢◌, ◌⊎◌, inl, inr, ◌↔◌, ℕ, zero, suc, ◌+◌, ◌-◌, ◌<◌, ◌≤◌, Bool, false, cond, List}
use Rattle.std.proofs.Common.{[], ◌∷◌, ◌++◌, Option, None, Some, option_map, drop, get_or, length, map, take, refl, sym}
use Rattle.std.proofs.Common.{ap, ◌∙◌, subst, arith}
use Rattle.bstr.specs.Owned.{bstring_bytes}
use Rattle.std.specs.List.{AllByRecursion, Contains, cons_option, slice_get}
use Rattle.std.specs.List.Sorted.{IsStrictlySortedBy}
use Rattle.std.specs.Cmp.Lexicographic.{slice_cmp}
use Rattle.std.specs.Ordering.{nat_cmp}
use Rattle.std.specs.declared.cmp.Ordering.{Ordering}
use Rattle.std.specs.declared.cmp.Ordering.TheVariants.{Less}
use Rattle.std.proofs.lemmas.Bool.{cases_lt}
use Rattle.std.proofs.lemmas.List.{take-append-drop}
use Rattle.std.proofs.lemmas.List.Elements.{All-from_recursion, Contains-append_left, Contains-push}
use Rattle.std.proofs.lemmas.Option.{slice_get-map, slice_get_read}
use Rattle.gix_refspec_plan.specs.declared.Update.{Update as PlannedUpdate}
use Rattle.gix_refspec_plan.specs.declared.Verdict.{Verdict}
use Rattle.gix_refspec_plan.specs.declared.Verdict.TheVariants as verdict
use Rattle.gix_refspec.specs.Matching.Lists.{IsMadeFrom}
use Rattle.gix_refspec_plan.specs.Matching.Plan.{Planned}
use Rattle.gix_refspec_plan.specs.Views.Plan.{planned_of}
use Rattle.gix_refspec.proofs.lemmas.validate.FirstLemmas.{Has, Increase}
use Rattle.gix_refspec.proofs.lemmas.validate.UpdateLemmas.{strict_left, strict_right}
use Rattle.gix_refspec_text.proofs.lemmas.lists.AllLemmas.{all_join, all_right, all_weaker}
use Rattle.gix_refspec_text.proofs.lemmas.lists.OrderLemmas.{not_below_itself}
use Rattle.refspec_fetch.specs.declared.conflicts.Claimed.{Claimed}
use Rattle.refspec_fetch.specs.declared.conflicts.Contest.{Contest as DeclaredContest}
use Rattle.refspec_fetch.specs.Conflicts.{AreContests, AreOrdered, AreThoseTo, Contest, HasClaim, IsContestOf}
use Rattle.refspec_fetch.specs.Conflicts.{IsInConflictAt, IsRun, claim_cmp, contest_of, goal_of, those_at}
use Rattle.refspec_fetch.specs.Verdicts.{in_conflict_of, is_in_conflict}
use Rattle.refspec_fetch.proofs.ClaimLemmas.{AreClaimsUpto, HasClaim-cases, HasClaim-left, HasClaim-right}
use Rattle.refspec_fetch.proofs.ClaimLemmas.{claimed_indexes, claims_more, claims_same, indexes_rise, indexes_to_one}

-- ---- the claims of updates

-- an update of a plan, as plain data
planned_at : (us : List PlannedUpdate) (i : ℕ) (x : PlannedUpdate) → i < length us → x ≡ get_or us i x
    → slice_get (map planned_of us) i ≡ Some (planned_of x)
planned_at us i x below is = slice_get-map planned_of us i ∙ ap (option_map planned_of)
    (slice_get_read us (length us) i x refl below is)

-- an update in conflict adds its claim
pub claim_more : (us : List PlannedUpdate) (x : PlannedUpdate) (cs new : List Claimed) (c : Claimed)
    → c.index < length us → x ≡ get_or us c.index x → (planned_of x).verdict ≡ verdict.InConflict
    → c.destination.now ≡ goal_of (planned_of x) → new ≡ cs ++ c ∷ [] → AreClaimsUpto (map planned_of us) c.index cs
    → AreClaimsUpto (map planned_of us) (c.index + 1) new
claim_more us x cs new c below is judged to grown made = claims_more (map planned_of us) cs new c grown
    (planned_of x, planned_at us c.index x below is, judged, sym to) made

-- and another one doesn't
pub claim_same : (us : List PlannedUpdate) (x : PlannedUpdate) (i : ℕ) (cs : List Claimed) → i < length us
    → x ≡ get_or us i x → ((planned_of x).verdict ≡ verdict.InConflict → ⊥) → AreClaimsUpto (map planned_of us) i cs
    → AreClaimsUpto (map planned_of us) (i + 1) cs
claim_same us x i cs below is other made = claims_same (map planned_of us) i cs none made
  where
    none : (d : List ℕ) → IsInConflictAt (map planned_of us) i d → ⊥
    none d (p, is_p, judged, to) =
        let same : Some (planned_of x) ≡ Some p = sym (planned_at us i x below is) ∙ is_p in
        let one : planned_of x ≡ p = cc in
        other (ap (λ (y : Planned). y.verdict) one ∙ judged)

conflict_or : (v : Verdict) → (v ≡ verdict.InConflict) ⊎ (is_in_conflict v ≡ false)
conflict_or verdict.Written = inr refl
conflict_or (verdict.LeftOut side) = inr refl
conflict_or verdict.InConflict = inl refl
conflict_or verdict.Overruled = inr refl
conflict_or verdict.DirectoryConflict = inr refl

-- ---- the updates at the indexes of a run

here_at : (whole : List Planned) (k : ℕ) (x : Planned) (rest : List Planned)
    → ((j : ℕ) → slice_get (x ∷ rest) j ≡ slice_get whole (k + j)) → slice_get whole k ≡ Some x
here_at whole k x rest at = let same : k ≡ k + 0 = omega arith in ap (slice_get whole) same ∙ sym (at 0)

tail_at : (whole : List Planned) (k : ℕ) (x : Planned) (rest : List Planned)
    → ((j : ℕ) → slice_get (x ∷ rest) j ≡ slice_get whole (k + j)) → (j : ℕ) → slice_get rest j ≡ slice_get whole
    ((k + 1) + j)
tail_at whole k x rest at j = let same : k + suc j ≡ (k + 1) + j = omega arith in at (suc j) ∙ ap (slice_get whole) same

not_below : (ns : List ℕ) (n k : ℕ) → AllByRecursion (λ m. n < m) ns → Has ns k → n < k
not_below [] n k all has = absurd has
not_below (m ∷ ns) n k all (inl same) = subst (λ (x : ℕ). n < x) same all.0
not_below (m ∷ ns) n k all (inr has) = not_below ns n k all.1 has

-- the updates at strictly increasing indexes, which are those where P holds
made_at : (P : Planned → Type 0) (whole : List Planned) (k : ℕ) (rest : List Planned) (ns : List ℕ)
    → ((j : ℕ) → slice_get rest j ≡ slice_get whole (k + j))
    → ((j : ℕ) (p : Planned) → k ≤ j → slice_get whole j ≡ Some p → Has ns j ↔ P p)
    → ((j : ℕ) → Has ns j → (p : Planned) × (slice_get whole j ≡ Some p)) → Increase ns → AllByRecursion (λ n. k ≤ n) ns
    → IsMadeFrom (λ j p q. (q ≡ p) × P p) k rest (those_at whole ns)
made_at P whole k [] [] at has inside rises above = refl
made_at P whole k [] (n ∷ ns) at has inside rises above =
    let (p, is_p) = inside n (inl refl) in
    let same : k + (n - k) ≡ n = (let low = above.0 in omega (arith, low)) in
    let none : None ≡ Some p = at (n - k) ∙ ap (slice_get whole) same ∙ is_p in
    absurd (cc)
made_at P whole k (x ∷ rest) [] at has inside rises above = (
  None,
  [],
  (λ y both. (has k x (omega arith) (here_at whole k x rest at)).1 both.1),
  made_at P whole (k + 1) rest []
      (tail_at whole k x rest at) (λ j p low is. has j p (omega arith) is) inside rises tt,
  refl,
)
made_at P whole k (x ∷ rest) (n ∷ ns) at has inside rises above = elim (cases_lt k n) [
  | inl less ↦ (
    None,
    those_at whole (n ∷ ns),
    (λ y both. not_there less ((has k x (omega arith) (here_at whole k x rest at)).1 both.1)),
    made_at P whole (k + 1) rest (n ∷ ns) (tail_at whole k x rest at) (λ j p low is. has j p (omega arith) is) inside
        rises (
          (omega (arith, less)),
          all_weaker (λ m. n < m) (λ m. k + 1 ≤ m) (λ m below. omega (arith, below, less))
              ns rises.0,
        ),
    refl,
  )
  | inr more ↦
      let same : n ≡ k = (let low = above.0 in omega (arith, low, more)) in
      let is_x : slice_get whole k ≡ Some x = here_at whole k x rest at in (
        Some x,
        those_at whole ns,
        (refl, (has k x (omega arith) is_x).0 (inl same)),
        made_at P whole (k + 1) rest ns (tail_at whole k x rest at) (later same) (λ j there. inside j (inr there))
            rises.1 (all_weaker (λ m. n < m) (λ m. k + 1 ≤ m) (λ m below. omega (arith, below, same)) ns rises.0),
        ap (λ (o : Option Planned). cons_option o (those_at whole ns)) (ap (slice_get whole) same ∙ is_x),
      )
]
  where
    not_there : k < n → Has (n ∷ ns) k → ⊥
    not_there less (inl same) = omega (arith, less, same)
    not_there less (inr in_rest) = let past = not_below ns n k rises.0 in_rest in omega (arith, less, past)

    later : n ≡ k → (j : ℕ) (p : Planned) → k + 1 ≤ j → slice_get whole j ≡ Some p → Has ns j ↔ P p
    later same j p low is = (
      (λ there. (has j p (omega arith) is).0 (inr there)),
      (λ holds. elim ((has j p (omega arith) is).1 holds) [
        | inl first ↦ absurd (omega (arith, first, same, low))
        | inr there ↦ there
      ]),
    )

-- the updates in conflict to a destination are those to it among the updates in conflict
among : (d : List ℕ) (k j : ℕ) (ps qs : List Planned)
    → IsMadeFrom (λ i p q. (q ≡ p) × ((p.verdict ≡ verdict.InConflict) × (goal_of p ≡ d))) k ps qs
    → IsMadeFrom (λ i p q. (q ≡ p) × (goal_of p ≡ d)) j (in_conflict_of ps) qs
among d k j [] qs empty = empty
among d k j (p ∷ ps) qs (None, rest, none, more, is) = elim (conflict_or p.verdict) [
  | inl judged ↦
      subst (λ (b : Bool). IsMadeFrom (λ i x q. (q ≡ x) × (goal_of x ≡ d)) j
      (cond b (p ∷ in_conflict_of ps) (in_conflict_of ps)) qs) (sym (ap is_in_conflict judged))
      (None, rest, (λ y both. none y (both.0, (judged, both.1))), among d (k + 1) (j + 1) ps rest more, is)
  | inr other ↦
      subst (λ (b : Bool). IsMadeFrom (λ i x q. (q ≡ x) × (goal_of x ≡ d)) j
      (cond b (p ∷ in_conflict_of ps) (in_conflict_of ps)) qs) (sym other)
      (subst (λ (l : List Planned). IsMadeFrom (λ i x q. (q ≡ x) × (goal_of x ≡ d)) j (in_conflict_of ps) l) (sym is)
      (among d (k + 1) j ps rest more))
]
among d k j (p ∷ ps) qs (Some y, rest, makes, more, is) =
    subst (λ (b : Bool). IsMadeFrom (λ i x q. (q ≡ x) × (goal_of x ≡ d)) j
    (cond b (p ∷ in_conflict_of ps) (in_conflict_of ps)) qs) (sym (ap is_in_conflict makes.1.0))
    (Some y, rest, (makes.0, makes.1.1), among d (k + 1) (j + 1) ps rest more, is)

split_contained : (p q : Planned) (xs : List Planned) → Contains (q ∷ xs) p → (q ≡ p) ⊎ Contains xs p
split_contained p q xs (zero, below, is) = inl is
split_contained p q xs (suc i, below, is) = inr (i, omega (arith, below), is)

-- an update among those in conflict is in conflict
in_conflict_there : (ps : List Planned) (p : Planned) → Contains (in_conflict_of ps) p → (k : ℕ)
    × IsInConflictAt ps k (goal_of p)
in_conflict_there [] p (i, below, is) = absurd (omega (arith, below))
in_conflict_there (q ∷ ps) p there = elim (conflict_or q.verdict) [
  | inl judged ↦
      elim (split_contained p q (in_conflict_of ps)
      (subst (λ (b : Bool). Contains (cond b (q ∷ in_conflict_of ps) (in_conflict_of ps)) p) (ap is_in_conflict judged)
      there)) [
        | inl here ↦ (0, (q, refl, judged, ap goal_of here))
        | inr more ↦ let at = in_conflict_there ps p more in (suc at.0, at.1)
      ]
  | inr other ↦ let at =
      in_conflict_there ps p (subst (λ (b : Bool). Contains (cond b (q ∷ in_conflict_of ps) (in_conflict_of ps)) p)
      other there) in (suc at.0, at.1)
]

-- ---- the conflicts of the claims so far

abbrev HasContest : List Contest → List ℕ → Type 0
HasContest cs d = (c : Contest) × Contains cs c × (c.destination ≡ d)

-- the conflicts of the updates whose claims aren't among the rest
pub record AreSettled (ps : List Planned) (rest : List Claimed) (cs : List Contest) : Type 0 where
  pub left : (k : ℕ) (d : List ℕ) → HasClaim rest k d → IsInConflictAt ps k d
  pub all : (k : ℕ) (d : List ℕ) → IsInConflictAt ps k d → HasClaim rest k d
      ⊎ AllByRecursion (λ c. slice_cmp nat_cmp d c.destination.now ≡ Less) rest
  pub order : IsStrictlySortedBy claim_cmp rest
  pub each : AllByRecursion (λ c. (c.updates ≢ []) × AreThoseTo c.destination (in_conflict_of ps) c.updates) cs
  pub below : AllByRecursion (λ c. AllByRecursion (λ x. slice_cmp nat_cmp c.destination x.destination.now ≡ Less) rest)
      cs
  pub rise : IsStrictlySortedBy (λ c d. slice_cmp nat_cmp c.destination d.destination) cs
  pub every : (k : ℕ) (d : List ℕ) → IsInConflictAt ps k d → HasContest cs d ⊎ HasClaim rest k d

-- before the loop all claims are in the rest
pub settled_none : (ps : List Planned) (claims : List Claimed) → AreOrdered ps claims → AreSettled ps claims []
unfolding IsStrictlySortedBy
settled_none ps claims are = record {
  left = λ k d. (are.are k d).0;
  all = λ k d is. inl ((are.are k d).1 is);
  order = are.order;
  each = tt;
  below = tt;
  rise = tt;
  every = λ k d is. inr ((are.are k d).1 is);
}

-- and after it none is
pub all_settled : (ps : List Planned) (rest : List Claimed) (cs : List Contest) → length rest ≡ 0
    → AreSettled ps rest cs → AreContests (in_conflict_of ps) cs
all_settled ps [] cs empty settled = record {
  order = settled.rise;
  each = λ c there. subst (λ (x : Contest). (x.updates ≢ []) × AreThoseTo x.destination (in_conflict_of ps) x.updates)
      there.2 (All-from_recursion (λ (x : Contest). (x.updates ≢ []) × AreThoseTo x.destination
      (in_conflict_of ps) x.updates) cs settled.each there.0 c there.1);
  all = λ p there. let at = in_conflict_there ps p there in elim (settled.every at.0 (goal_of p) at.1) [
    | inl told ↦ told
    | inr has ↦ absurd has
  ];
}
all_settled ps (c ∷ rest) cs empty settled = absurd (omega arith)

not_beyond : (x : List ℕ) (cs : List Claimed) (k : ℕ)
    → AllByRecursion (λ c. slice_cmp nat_cmp x c.destination.now ≡ Less) cs → HasClaim cs k x → ⊥
not_beyond x [] k beyond has = has
not_beyond x (c ∷ cs) k beyond (inl is) =
    not_below_itself x (subst (λ (d : List ℕ). slice_cmp nat_cmp x d ≡ Less) is.1 beyond.0)
not_beyond x (c ∷ cs) k beyond (inr has) = not_beyond x cs k beyond.1 has

to_same : (x : List ℕ) (cs : List Claimed) (k : ℕ) (d : List ℕ) → AllByRecursion (λ c. c.destination.now ≡ x) cs
    → HasClaim cs k d → d ≡ x
to_same x [] k d same has = absurd has
to_same x (c ∷ cs) k d same (inl is) = sym is.1 ∙ same.0
to_same x (c ∷ cs) k d same (inr has) = to_same x cs k d same.1 has

-- the run at the start of the rest has all claims to its destination
claims_of_run : (ps : List Planned) (run others : List Claimed) (cs : List Contest) → 0 < length run
    → (split : IsRun run others) → AreSettled ps (run ++ others) cs → (k : ℕ) → HasClaim run k split.destination
    ↔ IsInConflictAt ps k split.destination
claims_of_run ps [] others cs some split settled k = absurd (omega arith)
claims_of_run ps (c ∷ run) others cs some split settled k = (
  (λ has. settled.left k split.destination (HasClaim-left (c ∷ run) others k split.destination has)),
  (λ is. elim (settled.all k split.destination is) [
    | inl has ↦ elim (HasClaim-cases (c ∷ run) others k split.destination has) [
      | inl here ↦ here
      | inr there ↦ absurd (not_beyond split.destination others k split.beyond there)
    ]
    | inr past ↦ absurd (not_beyond split.destination ((c ∷ run) ++ others) c.index past (inl (refl, split.same.0)))
  ]),
)

-- after a run, a claim is among the others, or its destination is less than all of theirs, if that was so before
behind_run : (run others : List Claimed) (k : ℕ) (d : List ℕ) → (split : IsRun run others)
    → HasClaim (run ++ others) k d ⊎ AllByRecursion (λ c. slice_cmp nat_cmp d c.destination.now ≡ Less) (run ++ others)
    → HasClaim others k d ⊎ AllByRecursion (λ c. slice_cmp nat_cmp d c.destination.now ≡ Less) others
behind_run run others k d split (inl has) = elim (HasClaim-cases run others k d has) [
  | inl here ↦ inr (subst (λ (x : List ℕ). AllByRecursion (λ c. slice_cmp nat_cmp x c.destination.now ≡ Less) others)
      (sym (to_same split.destination run k d split.same here)) split.beyond)
  | inr there ↦ inl there
]
behind_run run others k d split (inr past) =
    inr (all_right (λ c. slice_cmp nat_cmp d c.destination.now ≡ Less) run others past)

strict_more : {X : Type 0} (cmp : X → X → Ordering) (xs : List X) (y : X) → IsStrictlySortedBy cmp xs
    → AllByRecursion (λ x. cmp x y ≡ Less) xs → IsStrictlySortedBy cmp (xs ++ y ∷ [])
unfolding IsStrictlySortedBy
strict_more cmp [] y strict below = (tt, tt)
strict_more cmp (x ∷ xs) y strict below = (
  all_join (λ z. cmp x z ≡ Less) xs (y ∷ []) strict.0 (below.0, tt),
  strict_more cmp xs y strict.1 below.1,
)

-- the conflict of a run is to its destination, and has all updates to it
pub record IsOfRun (ps : List Planned) (run : List Claimed) (c : Contest) : Type 0 where
  pub to : AllByRecursion (λ u. u.destination.now ≡ c.destination) run
  pub updates : c.updates ≡ those_at ps (claimed_indexes run)

some_updates : (ps : List Planned) (run : List Claimed) (x : List ℕ) → 0 < length run
    → AllByRecursion (λ u. u.destination.now ≡ x) run → ((k : ℕ) → HasClaim run k x → IsInConflictAt ps k x)
    → those_at ps (claimed_indexes run) ≢ []
some_updates ps [] x some same told empty = absurd (omega arith)
some_updates ps (u ∷ run) x some same told empty =
    let (p, is, judged, to) = told u.index (inl (refl, same.0)) in
    let whole : cons_option (slice_get ps u.index) (those_at ps (claimed_indexes run)) ≡ p ∷ those_at ps
    (claimed_indexes run) = ap (λ (o : Option Planned). cons_option o (those_at ps (claimed_indexes run))) is in
    let gone : p ∷ those_at ps (claimed_indexes run) ≡ [] = sym whole ∙ empty in
    absurd (cc)

any_above : (ns : List ℕ) → AllByRecursion (λ n. 0 ≤ n) ns
any_above [] = tt
any_above (n ∷ ns) = (omega arith, any_above ns)

-- the updates of a run are those to its destination
those_of_run : (ps : List Planned) (run : List Claimed) (x : List ℕ) → AllByRecursion (λ u. u.destination.now ≡ x) run
    → IsStrictlySortedBy claim_cmp run → ((k : ℕ) → HasClaim run k x ↔ IsInConflictAt ps k x)
    → AreThoseTo x (in_conflict_of ps) (those_at ps (claimed_indexes run))
those_of_run ps run x same strict are =
    among x 0 0 ps (those_at ps (claimed_indexes run))
    (made_at (λ p. (p.verdict ≡ verdict.InConflict) × (goal_of p ≡ x)) ps 0 ps (claimed_indexes run) at has inside
    (indexes_rise x run same strict) (any_above (claimed_indexes run)))
  where
    at : (j : ℕ) → slice_get ps j ≡ slice_get ps (0 + j)
    at j = let one : j ≡ 0 + j = omega arith in ap (slice_get ps) one

    inside : (j : ℕ) → Has (claimed_indexes run) j → (p : Planned) × (slice_get ps j ≡ Some p)
    inside j there = let told = (are j).0 ((indexes_to_one x run j same).0 there) in (told.0, told.1)

    has : (j : ℕ) (p : Planned) → 0 ≤ j → slice_get ps j ≡ Some p → Has (claimed_indexes run) j
        ↔ ((p.verdict ≡ verdict.InConflict) × (goal_of p ≡ x))
    has j p low is = (
      (λ there.
          let (q, is_q, judged, to) = (are j).0 ((indexes_to_one x run j same).0 there) in
          let both : Some q ≡ Some p = sym is_q ∙ is in
          let one : q ≡ p = cc in
          (ap (λ (y : Planned). y.verdict) (sym one) ∙ judged, ap goal_of (sym one) ∙ to)),
      (λ told. (indexes_to_one x run j same).1 ((are j).1 (p, is, told.0, told.1))),
    )

-- one more conflict is appended
contested : (ps : List Planned) (run others : List Claimed) (cs : List Contest) (c : Contest) → 0 < length run
    → IsRun run others → IsOfRun ps run c → AreSettled ps (run ++ others) cs → AreSettled ps others (cs ++ c ∷ [])
contested ps [] others cs c some split over settled = absurd (omega arith)
contested ps (r ∷ run) others cs c some split over settled =
    let x = split.destination in
    let to : c.destination ≡ x = sym over.to.0 ∙ split.same.0 in
    let are = claims_of_run ps (r ∷ run) others cs some split settled in
    let strict = strict_left claim_cmp (r ∷ run) others settled.order in record {
      left = λ k d has. settled.left k d (HasClaim-right (r ∷ run) others k d has);
      all = λ k d is. behind_run (r ∷ run) others k d split (settled.all k d is);
      order = strict_right claim_cmp (r ∷ run) others settled.order;
      each = all_join (λ y. (y.updates ≢ []) × AreThoseTo y.destination (in_conflict_of ps) y.updates) cs
          (c ∷ []) settled.each (
            (
              (λ empty. some_updates ps (r ∷ run) x some split.same (λ k. (are k).0) (sym over.updates ∙ empty)),
              subst (λ (l : List Planned). AreThoseTo c.destination (in_conflict_of ps) l) (sym over.updates)
                  (subst (λ (d : List ℕ). AreThoseTo d (in_conflict_of ps) (those_at ps (claimed_indexes (r ∷ run))))
                  (sym to) (those_of_run ps (r ∷ run) x split.same strict are)),
            ),
            tt,
          );
      below = all_join (λ y. AllByRecursion (λ z. slice_cmp nat_cmp y.destination z.destination.now ≡ Less) others) cs
          (c ∷ []) (still_below cs settled.below) (
            subst (λ (d : List ℕ). AllByRecursion (λ z. slice_cmp nat_cmp d z.destination.now ≡ Less) others)
                (sym to) split.beyond,
            tt,
          );
      rise = strict_more (λ (y : Contest) (z : Contest). slice_cmp nat_cmp y.destination z.destination) cs c
          settled.rise (lower cs settled.below);
      every = λ k d is. elim (settled.every k d is) [
        | inl told ↦ inl (told.0, Contains-append_left cs (c ∷ []) told.0 told.1, told.2)
        | inr has ↦ elim (HasClaim-cases (r ∷ run) others k d has) [
          | inl here ↦ inl (c, Contains-push cs c, to ∙ sym (to_same x (r ∷ run) k d split.same here))
          | inr there ↦ inr there
        ]
      ];
    }
  where
    still_below : (ys : List Contest)
        → AllByRecursion (λ y. AllByRecursion (λ z. slice_cmp nat_cmp y.destination z.destination.now ≡ Less)
        ((r ∷ run) ++ others)) ys
        → AllByRecursion (λ y. AllByRecursion (λ z. slice_cmp nat_cmp y.destination z.destination.now ≡ Less) others) ys
    still_below [] below = tt
    still_below (y ∷ ys) below = (
      all_right (λ z. slice_cmp nat_cmp y.destination z.destination.now ≡ Less) (r ∷ run) others below.0,
      still_below ys below.1,
    )

    lower : (ys : List Contest)
        → AllByRecursion (λ y. AllByRecursion (λ z. slice_cmp nat_cmp y.destination z.destination.now ≡ Less)
        ((r ∷ run) ++ others)) ys → AllByRecursion (λ y. slice_cmp nat_cmp y.destination c.destination ≡ Less) ys
    lower [] below = tt
    lower (y ∷ ys) below = (
      subst (λ (d : List ℕ). slice_cmp nat_cmp y.destination d ≡ Less) over.to.0 below.0.0,
      lower ys below.1,
    )

-- the conflict of the first claims
of_run : (ps : List Planned) (run : List Claimed) (others : List Claimed) (c : DeclaredContest) → 0 < length run
    → IsRun run others → IsContestOf run c → IsOfRun ps run (contest_of ps c)
of_run ps [] others c some split is = absurd (omega arith)
of_run ps (x ∷ run) others c some split is =
    let first : Some x.destination.now ≡ Some (bstring_bytes c.destination) = is.destination in
    let to : x.destination.now ≡ bstring_bytes c.destination = cc in record {
      to = all_weaker (λ u. u.destination.now ≡ split.destination)
          (λ u. u.destination.now ≡ bstring_bytes c.destination) (λ u same. same ∙ (sym split.same.0 ∙ to))
          (x ∷ run) split.same;
      updates = ap (those_at ps) (is.indexes);
    }

-- the step of the loop: after the conflict of a run is added, the others are the rest
pub settled_more : (ps : List Planned) (rest : List Claimed) (n : ℕ) (cs : List Contest) (c : DeclaredContest)
    → 0 < length (take n rest) → IsRun (take n rest) (drop n rest) → IsContestOf (take n rest) c → AreSettled ps rest cs
    → AreSettled ps (drop n rest) (cs ++ contest_of ps c ∷ [])
settled_more ps rest n cs c some split is settled =
    let whole : take n rest ++ drop n rest ≡ rest = take-append-drop n rest in
    contested ps (take n rest) (drop n rest) cs (contest_of ps c)
    some split (of_run ps (take n rest) (drop n rest) c some split is)
    (subst (λ (xs : List Claimed). AreSettled ps xs cs) (sym whole) settled)
