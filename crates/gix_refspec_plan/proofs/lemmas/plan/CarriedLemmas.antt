-- A plan is carried out exactly if no source is missing that has to be there, and no two updates conflict.
use Rattle.gix_refspec_plan.proofs.Common.{◌≡◌, ◌≢◌, ◌⊎◌, inl, inr, ℕ, Bool, List, [], ◌∷◌, ◌++◌, codes, get_or, refl}
use Rattle.gix_refspec_plan.proofs.Common.{sym, ap, subst, arith, Contains, All-from_recursion, Contains-append_cases}
use Rattle.gix_refspec_plan.proofs.Common.{Contains-append_left, Contains-get_or, recursion_from_All, same_Some, Origin}
use Rattle.gix_refspec_plan.proofs.Common.{star, Lacks, Reading, all_tags, fetched_alone, head, Ref, LacksSource}
use Rattle.gix_refspec_plan.proofs.Common.{AreAsked, AreConfigured, AreThose, AreUncovered, Asked, IsPlan, MayBeMissing}
use Rattle.gix_refspec_plan.proofs.Common.{Planned, Wish, tags_asked, CarriedOutExactly, IsRequired, All-contains}
use Rattle.gix_refspec_plan.proofs.Common.{InConflict, Configured, Default, Given, rules}
use Rattle.gix_refspec_plan.proofs.lemmas.plan.MadeLemmas.{made_from, made_has, nothing_in, one_in}
use Rattle.gix_refspec_plan.proofs.lemmas.plan.OpposedLemmas.{in_conflict, opposed}

-- a spec with this reading, whose source has to be there
abbrev IsAskedWith : List Asked → Reading → Type 0
IsAskedWith asked r = (a : Asked) × Contains asked a × ((a.reading ≡ r) × ¬ (MayBeMissing a.origin))

with_more : (l more asked : List Asked) (r : Reading) → asked ≡ l ++ more → IsAskedWith l r → IsAskedWith asked r
with_more l more asked r is (a, has, told) =
    (a, subst (λ (all : List Asked). Contains all a) (sym is) (Contains-append_left l more a has), told)

those_have : (origin_at : ℕ → Origin) (specs : List Reading) (asked : List Asked) (r : Reading)
    → ((k : ℕ) → ¬ (MayBeMissing (origin_at k))) → AreThose (λ r. Unit {0}) origin_at specs asked → Contains specs r
    → IsAskedWith asked r
those_have origin_at specs asked r stays those has =
    made_has _ (λ (a : Asked). (a.reading ≡ r) × ¬ (MayBeMissing a.origin)) 0 specs asked r those has
    (λ k. (record { reading = r; origin = origin_at k }, (refl, tt)))
    (λ k a (is, any). (
      ap (λ (x : Asked). x.reading) is,
      λ may. stays k (subst MayBeMissing (ap (λ (x : Asked). x.origin) is) may),
    ))

those_are : (origin_at : ℕ → Origin) (specs : List Reading) (asked : List Asked) (a : Asked)
    → AreThose (λ r. Unit {0}) origin_at specs asked → Contains asked a → Contains specs a.reading
those_are origin_at specs asked a those has =
    let (k, r, inside, (is, any)) = made_from _ 0 specs asked a those has in subst (Contains specs)
    (sym (ap (λ (x : Asked). x.reading) is)) inside

merges_may : (wish : Wish) (refs : List Ref) (merges : List Asked) (a : Asked) → AreUncovered wish refs merges
    → Contains merges a → MayBeMissing a.origin
merges_may wish refs merges a (inl (none, empty)) has = absurd (nothing_in merges a empty has)
merges_may wish refs merges a (inr (configured, mapped, those, are_mapped, made)) has =
    let (k, n, inside, told) = made_from _ 0 wish.merges merges a made has in
    subst MayBeMissing (sym (ap (λ (x : Asked). x.origin) told.0)) tt

pub tags_lack_nothing : (refs : List Ref) → ¬ (LacksSource refs all_tags)
tags_lack_nothing refs lacks = elim lacks.named [ inl full ↦ starred full.1 | inr short ↦ starred short.1 ]
  where
    starred : ¬ (Lacks star lacks.source)
    starred lack =
        (subst (Lacks star) (sym (same_Some (codes "refs/tags/*") lacks.source lacks.is)) lack).1.1.1.1.1.1.1.1.1.1.0
        refl

tags_are : (b : Bool) (a : Asked) → Contains (tags_asked b) a → a.reading ≡ all_tags
tags_are b a has = grind (arith, one_in)

configured_asked : (wish : Wish) (refs : List Ref) (asked : List Asked) (r : Reading) → AreConfigured wish refs asked
    → IsRequired wish r → wish.given ≡ [] → IsAskedWith asked r
configured_asked wish refs asked r are (IsRequired.by_call has) none = absurd (nothing_in wish.given r none has)
configured_asked wish refs asked r (AreConfigured.by_configuration configured merges some those uncovered joined)
    (IsRequired.by_configuration also has) none =
    with_more configured merges asked r joined
    (those_have Configured wish.configured configured r (λ k may. may) those has)
configured_asked wish refs asked r (AreConfigured.by_configuration configured merges some those uncovered joined)
    (IsRequired.by_default also empty alone same) none = absurd (search (rules, some))
configured_asked wish refs asked r (AreConfigured.by_default empty alone only) (IsRequired.by_configuration also has)
    none = absurd (nothing_in wish.configured r empty has)
configured_asked wish refs asked r (AreConfigured.by_default none_configured none_merged only)
    (IsRequired.by_default also empty alone same) none =
    (record { reading = fetched_alone head; origin = Default }, rw only (0, omega arith, refl), (sym same, λ may. may))

required_asked : (wish : Wish) (refs : List Ref) (asked : List Asked) (r : Reading) → AreAsked wish refs asked
    → IsRequired wish r → IsAskedWith asked r
required_asked wish refs asked r (AreAsked.by_call given some those is) (IsRequired.by_call has) =
    with_more given (tags_asked wish.tags) asked r is (those_have Given wish.given given r (λ k may. may) those has)
required_asked wish refs asked r (AreAsked.by_call given some those is) (IsRequired.by_configuration none has) =
    absurd (some none)
required_asked wish refs asked r (AreAsked.by_call given some those is) (IsRequired.by_default none empty alone same) =
    absurd (some none)
required_asked wish refs asked r (AreAsked.without all none are is) required =
    with_more all (tags_asked wish.tags) asked r is (configured_asked wish refs all r are required none)

configured_required : (wish : Wish) (refs : List Ref) (asked : List Asked) (a : Asked) → AreConfigured wish refs asked
    → Contains asked a → ¬ (MayBeMissing a.origin) → wish.given ≡ [] → IsRequired wish a.reading
configured_required wish refs asked a (AreConfigured.by_configuration configured merges some those uncovered joined) has
    stays none =
    search (
      rules,
      Contains-append_cases configured merges a (rw joined at has),
      those_are Configured wish.configured configured a those,
      merges_may wish refs merges a uncovered,
    )
configured_required wish refs asked a (AreConfigured.by_default none_configured none_merged only) has stays none =
    search (rules, one_in _ a (rw only at has))

asked_required : (wish : Wish) (refs : List Ref) (asked : List Asked) (a : Asked) → AreAsked wish refs asked
    → Contains asked a → ¬ (MayBeMissing a.origin) → IsRequired wish a.reading ⊎ (a.reading ≡ all_tags)
asked_required wish refs asked a (AreAsked.by_call given some those is) has stays =
    search (
      rules,
      Contains-append_cases given (tags_asked wish.tags) a (rw is at has),
      those_are Given wish.given given a those,
      tags_are wish.tags a,
    )
asked_required wish refs asked a (AreAsked.without all none are is) has stays =
    search (
      rules,
      Contains-append_cases all (tags_asked wish.tags) a (rw is at has),
      configured_required wish refs all a are,
      tags_are wish.tags a,
    )

module _ (wish : Wish) (refs : List Ref) (planned : List Planned) (missing : List Origin)
    (plan : IsPlan wish refs planned missing) where
  -- what is told is required
  told_lacking : ((r : Reading) → IsRequired wish r → ¬ (LacksSource refs r)) → (l : List Origin) → missing ≡ l → l ≡ []
  told_lacking none [] is = refl
  told_lacking none (o ∷ l) is =
      let (k, a, has, (same, stays, lacks)) = made_from _ 0 plan.asked missing o plan.lacks
      (subst (λ (all : List Origin). Contains all o) (sym is) (0, omega arith, refl)) in
      let free : ¬ (a.reading ≡ all_tags) = λ tags. tags_lack_nothing refs (subst (LacksSource refs) tags lacks) in
      absurd (search (
        rules,
        asked_required wish refs plan.asked a plan.are_asked has
            (λ may. stays (subst MayBeMissing (sym same) may)),
        none a.reading,
        free,
      ))

pub carried_out_exactly : (wish : Wish) (refs : List Ref) → CarriedOutExactly wish refs
carried_out_exactly wish refs planned missing plan = (
  (λ carried. (
    (λ r required lacks.
        let (a, has, (is, stays)) = required_asked wish refs plan.asked r plan.are_asked required in
        let (o, inside, any) = made_has _ (λ o. Unit {0}) 0 plan.asked missing a plan.lacks has
        (λ k. (a.origin, (refl, stays, rw is lacks))) (λ k o told. tt) in
        nothing_in missing o carried.whole inside),
    (λ p q has_p has_q both.
        let free = All-from_recursion (λ (x : Planned). x.verdict ≢ InConflict) planned carried.free in
        All-contains (λ (x : Planned). x.verdict ≢ InConflict) planned p free has_p
        (in_conflict wish refs planned missing plan p q has_p has_q both)),
  )),
  (λ (none, apart). record {
    whole = told_lacking wish refs planned missing plan none missing refl;
    free = recursion_from_All (λ (p : Planned). p.verdict ≢ InConflict) planned (λ k d below is.
        let has = Contains-get_or planned k d below in
        let (q, has_q, both) = opposed wish refs planned missing plan (get_or planned k d) has is in
        apart (get_or planned k d) q has has_q both);
  }),
)
