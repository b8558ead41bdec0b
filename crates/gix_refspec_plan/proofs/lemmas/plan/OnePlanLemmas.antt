-- A wish and the refs of a remote have one plan.
use Rattle.gix_refspec_plan.proofs.Common.{◌≡◌, inl, inr, ℕ, List, [], ◌∷◌, ◌++◌, map, refl, sym, ap, ◌∙◌, subst}
use Rattle.gix_refspec_plan.proofs.Common.{AllZip, Origin, Verdict, star, Reading, Ref, Lacks-ContainsText, Mapped}
use Rattle.gix_refspec_plan.proofs.Common.{AreKeptForward, one_forward, AreAsked, AreConfigured, AreMapped, AreMerges}
use Rattle.gix_refspec_plan.proofs.Common.{AreTaken, AreThose, AreUncovered, Asked, HasSecondVerdict, IsCompleted}
use Rattle.gix_refspec_plan.proofs.Common.{IsNegativeReading, IsPlanned, IsPlannedBesides, IsPositiveReading, IsTracked}
use Rattle.gix_refspec_plan.proofs.Common.{Planned, Wish, OnePlan, rules, Configured, arith, Given}
use Rattle.gix_refspec_plan.proofs.lemmas.plan.OpposedLemmas.{as_second}
use Rattle.gix_refspec_match.proofs.lemmas.lists.ListsLemmas.{made_once}

those_once : (P : Reading → Type 0) (origin_at : ℕ → Origin) (specs : List Reading) (a b : List Asked)
    → AreThose P origin_at specs a → AreThose P origin_at specs b → a ≡ b
those_once P origin_at specs =
    made_once (λ (k : ℕ) (r : Reading) (a : Asked). (a ≡ record { reading = r; origin = origin_at k }) × P r)
    (λ k r x y of_x of_y. of_x.0 ∙ sym of_y.0) 0 specs

pub reading_once : (r a b : Reading) → IsCompleted r a → IsCompleted r b → a ≡ b
reading_once r a b is also =
    let destination : a.destination ≡ b.destination =
    grind (arith, Lacks-ContainsText star, is.destination, also.destination) in
    λ i. record {
      operation = (is.operation ∙ sym also.operation) i;
      mode = (is.mode ∙ sym also.mode) i;
      source =
          (is.source ∙ sym also.source) i;
      destination = destination i;
    }

pub completed_once : (g a b : List Reading) → AllZip IsCompleted g a → AllZip IsCompleted g b → a ≡ b
completed_once [] [] [] all also = refl
completed_once (r ∷ g) (x ∷ a) (y ∷ b) all also = let here = reading_once r x y all.0 also.0 in let rest =
    completed_once g a b all.1 also.1 in cc
completed_once g a b all also = absurd (search rules)

mapped_once : (a b : List Asked) (refs : List Ref) (l m : List Mapped) → a ≡ b → AreMapped a refs l → AreMapped b refs m
    → l ≡ m
mapped_once a b refs l m same is other =
    let also = subst (λ (x : List Asked). AreMapped x refs m) (sym same) other in
    one_forward also.completed refs l m
    (subst (λ (g : List Reading). AreKeptForward g refs l)
    (completed_once (map (λ x. x.reading) a) is.completed also.completed is.are also.are) is.kept) also.kept

pub none_merged : (merges : List (List ℕ)) (mapped : List Mapped) (a : List Asked) → merges ≡ []
    → AreMerges merges mapped a → a ≡ []
none_merged merges mapped a none are = subst (λ (l : List (List ℕ)). AreMerges l mapped a) none are

uncovered_once : (wish : Wish) (refs : List Ref) (a b : List Asked) → AreUncovered wish refs a
    → AreUncovered wish refs b → a ≡ b
uncovered_once wish refs a b (inl (none, is)) (inl (again, also)) = is ∙ sym also
uncovered_once wish refs a b (inl (none, is)) (inr (specs, mapped, those, are, made)) = is
    ∙ sym (none_merged wish.merges mapped b none made)
uncovered_once wish refs a b (inr (specs, mapped, those, are, made)) (inl (none, is)) =
    none_merged wish.merges mapped a none made ∙ sym is
uncovered_once wish refs a b (inr (specs, mapped, those, are, made))
    (inr (others, others_mapped, others_those, others_are, others_made)) =
    let same = mapped_once specs others refs mapped others_mapped
    (those_once (λ r. Unit {0}) Configured wish.configured specs others those others_those) are others_are in
    made_once _ (λ k n x y of_x of_y. of_x.0 ∙ sym of_y.0) 0 wish.merges a b made (rw (← same) at others_made)

configured_once : (wish : Wish) (refs : List Ref) (a b : List Asked) → AreConfigured wish refs a
    → AreConfigured wish refs b → a ≡ b
configured_once wish refs a b (AreConfigured.by_configuration specs merges some those are is)
    (AreConfigured.by_configuration others others_merges others_some others_those others_are also) =
    let same = those_once (λ r. Unit {0}) Configured wish.configured specs others those others_those in
    let same_merges = uncovered_once wish refs merges others_merges are others_are in
    cc
configured_once wish refs a b (AreConfigured.by_configuration specs merges some those are is)
    (AreConfigured.by_default empty alone also) = absurd (elim some [ inl has ↦ has empty | inr has ↦ has alone ])
configured_once wish refs a b (AreConfigured.by_default empty alone is)
    (AreConfigured.by_configuration specs merges some those are also) =
    absurd (elim some [ inl has ↦ has empty | inr has ↦ has alone ])
configured_once wish refs a b (AreConfigured.by_default empty alone is) (AreConfigured.by_default again too also) = is
    ∙ sym also

asked_once : (wish : Wish) (refs : List Ref) (a b : List Asked) → AreAsked wish refs a → AreAsked wish refs b → a ≡ b
asked_once wish refs a b (AreAsked.by_call given some those is) (AreAsked.by_call others again others_those also) =
    let same = those_once (λ r. Unit {0}) Given wish.given given others those others_those in cc
asked_once wish refs a b (AreAsked.by_call given some those is) (AreAsked.without specs none are also) =
    absurd (some none)
asked_once wish refs a b (AreAsked.without specs none are is) (AreAsked.by_call given some those also) =
    absurd (some none)
asked_once wish refs a b (AreAsked.without specs none are is) (AreAsked.without others again others_are also) =
    let same = configured_once wish refs specs others are others_are in cc

taken_once : (given : List Reading) (refs : List Ref) (i j : List ℕ) (s t : List Ref) → AreTaken given refs i s
    → AreTaken given refs j t → (i ≡ j) × (s ≡ t)
taken_once given refs i j s t is also =
    let same = mapped_once is.asked also.asked refs is.mapped also.mapped
    (those_once IsPositiveReading Given given is.asked also.asked is.are_asked also.are_asked) is.are_mapped
    also.are_mapped in
    let indexes = made_once _ (λ k r x y of_x of_y. of_x.0 ∙ sym of_y.0) 0 refs i j (rw same at is.are_indexes)
    also.are_indexes in (
      indexes,
      made_once _ (λ k r x y of_x of_y. of_x.0 ∙ sym of_y.0) 0 refs s t (rw same at is.are_taken)
          also.are_taken,
    )

tracked_once : (wish : Wish) (refs : List Ref) (a b : List Asked) (i j : List ℕ) (l m : List Mapped)
    → IsTracked wish refs a i l → IsTracked wish refs b j m → (a ≡ b) × (i ≡ j) × (l ≡ m)
tracked_once wish refs a b i j l m (IsTracked.by_call positive negative taken some those bars is are mapped)
    (IsTracked.by_call others others_negative others_taken again others_those others_bars also others_are
    others_mapped) =
    let same = those_once IsPositiveReading Configured wish.configured positive others those others_those in
    let same_negative = those_once IsNegativeReading Given wish.given negative others_negative bars others_bars in
    let specs : a ≡ b = cc in
    let (indexes, items) = taken_once wish.given refs i j taken others_taken are others_are in (
      specs,
      indexes,
      mapped_once a b others_taken l m specs (subst (λ (x : List Ref). AreMapped a x l) items mapped)
          others_mapped,
    )
tracked_once wish refs a b i j l m (IsTracked.by_call positive negative taken some those bars is are mapped)
    (IsTracked.nothing none no_specs no_indexes no_mappings) = absurd (some none)
tracked_once wish refs a b i j l m (IsTracked.nothing none no_specs no_indexes no_mappings)
    (IsTracked.by_call positive negative taken some those bars is are mapped) = absurd (some none)
tracked_once wish refs a b i j l m (IsTracked.nothing none no_specs no_indexes no_mappings)
    (IsTracked.nothing again no_specs_too no_indexes_too no_mappings_too) =
    (no_specs ∙ sym no_specs_too, no_indexes ∙ sym no_indexes_too, no_mappings ∙ sym no_mappings_too)

second_verdict_once : (firsts l all : List Mapped) (m : Mapped) (v w : Verdict) → HasSecondVerdict firsts l all m v
    → HasSecondVerdict firsts l all m w → v ≡ w
second_verdict_once firsts l all m v w has also = grind arith

planned_once : (asked : List Asked) (firsts seconds : List Mapped) (k : ℕ) (m : Mapped) (p q : Planned)
    → IsPlanned asked firsts seconds m p → IsPlanned asked firsts seconds m q → p ≡ q
planned_once asked firsts seconds k m p q is also =
    grind (arith, is, also, second_verdict_once [] firsts (firsts ++ seconds) m, as_second firsts (firsts ++ seconds) m)

besides_once : (asked : List Asked) (indexes : List ℕ) (firsts seconds : List Mapped) (k : ℕ) (m : Mapped)
    (p q : Planned)
    → IsPlannedBesides asked indexes firsts seconds m p → IsPlannedBesides asked indexes firsts seconds m q → p ≡ q
besides_once asked indexes firsts seconds k m p q is also =
    grind (arith, is, also, second_verdict_once firsts seconds (firsts ++ seconds) m)

pub one_plan : (wish : Wish) (refs : List Ref) → OnePlan wish refs
one_plan wish refs p q missing others is also =
    let asked = asked_once wish refs is.asked also.asked is.are_asked also.are_asked in
    let firsts = mapped_once is.asked also.asked refs is.firsts also.firsts asked is.are_firsts also.are_firsts in
    let (tracking, indexes, seconds) = tracked_once wish refs is.tracking also.tracking is.indexes also.indexes
    is.seconds also.seconds is.are_seconds also.are_seconds in
    let before = made_once _ (planned_once also.asked also.firsts also.seconds) 0 also.firsts is.before also.before
    (rw (asked, firsts, seconds) at is.are_before) also.are_before in
    let behind = made_once _ (besides_once also.tracking also.indexes also.firsts also.seconds) 0 also.seconds is.behind
    also.behind (rw (tracking, indexes, firsts, seconds) at is.are_behind) also.are_behind in
    let lacking = made_once _ (λ k a x y of_x of_y. of_x.0 ∙ sym of_y.0) 0 also.asked missing others
    (rw asked at is.lacks) also.lacks in (
      is.all ∙ ap (λ (l : List Planned). l ++ is.behind) before ∙ ap (λ (l : List Planned). also.before ++ l) behind
          ∙ sym also.all,
      lacking,
    )
