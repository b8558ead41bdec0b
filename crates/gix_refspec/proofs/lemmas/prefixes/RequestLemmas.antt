-- What is requested for a group: those of its ref prefixes that don't begin with another one, if they can be sent.
use Rattle.gix_refspec.proofs.Common.{Any as AnyAt, ◌≡◌, ◌≢◌, inl, inr, ℕ, List, [], ◌∷◌, ◌++◌, map, sym, ap, ◌∙◌}
use Rattle.gix_refspec.proofs.Common.{subst, arith, bstring_bytes, all_weaker, BeginsWith, Reading, Ref, Source, name}
use Rattle.gix_refspec.proofs.Common.{Mapped, Any-right, some_of, HasNoList, Lists, ListsGroup, Serves, AreFetches}
use Rattle.gix_refspec.proofs.Common.{AskedItems}
use Rattle.gix_refspec.proofs.lemmas.keep.FilterLemmas.{fewer_items}
use Rattle.gix_refspec.proofs.lemmas.prefixes.AskedLemmas.{lists_once, serves, taken_begins}
use Rattle.gix_refspec.specs.Matching.Asked.{CanBeSent, IfNotAll, ListsBeside, Requests, RequestsBeside}
use Rattle.gix_refspec.specs.Private.Requested.{RequestsList}
use Rattle.gix_refspec.specs.declared.match_group.prefixes.RefPrefixes.{RefPrefixes}
use Rattle.gix_refspec.specs.declared.match_group.prefixes.RefPrefixes.TheVariants.{Nothing, Listed, All}
use Rattle.gix_refspec_match.proofs.lemmas.duplicates.RedundantLemmas.{needed_apart, needed_begin, none_needed}
use Rattle.gix_refspec_match.proofs.lemmas.lists.JoinLemmas.{one_joined}
use Rattle.gix_refspec_match.specs.Matching.Redundant.{NoneBeginsAnother}
use Rattle.std.proofs.Common.{Result, refl}
use Rattle.std.specs.Prelude.{OnErr}

-- what begins with a ref prefix of a spec begins with one that is sent
begins_beside : (others : List (List ℕ)) (g : List Reading) (list : List (List ℕ)) (n : List ℕ)
    (beside : ListsBeside others g list) → AnyAt (λ p. BeginsWith p n) beside.0 → AnyAt (λ p. BeginsWith p n) list
begins_beside others g list n (whole, lists, needed) any = needed_begin (others ++ whole) list n needed
    (Any-right (λ p. BeginsWith p n) others whole (some_of (λ p. BeginsWith p n) whole any))

serves_beside : (others : List (List ℕ)) (g : List Reading) (list : List (List ℕ)) → ListsBeside others g list
    → Serves list g
serves_beside others g list beside fetches items kept are =
    all_weaker _ _ (λ m begins n is. begins_beside others g list n beside (begins n is)) kept
    (serves g beside.0 beside.1 fetches items kept are)

pub asked_items : (g : List Reading) (A B : List Ref) → AskedItems g A B
asked_items g A B others list beside fetches are = (fewer_items g A B).forward are.part
    (λ item there any. are.asked item there
    (begins_beside others g list item.name beside (taken_begins g beside.0 A item beside.1 fetches any)))

pub request_serves : (g : List Reading) (asked : RefPrefixes) → Requests g asked
    → IfNotAll asked (λ list. Serves list g)
request_serves g Nothing beside = serves_beside [] g [] beside
request_serves g (Listed list) is = serves_beside [] g (map bstring_bytes list.items) is.0
request_serves g All is = tt

pub request_apart : (g : List Reading) (asked : RefPrefixes) → Requests g asked → IfNotAll asked NoneBeginsAnother
request_apart g Nothing beside = tt
request_apart g (Listed list) is = needed_apart is.0.0 (map bstring_bytes list.items) is.0.2
request_apart g All is = tt

pub request_is : (others : List (List ℕ)) (g : List Reading) (list : List (List ℕ)) → ListsBeside others g list
    → (asked : RefPrefixes) → RequestsList list asked → RequestsBeside others g asked
request_is others g list beside Nothing none = subst (ListsBeside others g) none beside
request_is others g list beside (Listed some) (same, some_are, sent) =
    (subst (ListsBeside others g) same beside, some_are, subst CanBeSent same sent)
request_is others g list beside All too_much = inr (list, beside, too_much)

empty_parts : (others whole : List (List ℕ)) → others ++ whole ≡ [] → (others ≡ []) × (whole ≡ [])
empty_parts [] whole none = (λ i. [], none)
empty_parts (p ∷ others) whole none = absurd (cc)

-- nothing is requested only if there are no others, and no spec asks for something
pub nothing_beside : (others : List (List ℕ)) (g : List Reading) → ListsBeside others g []
    → (others ≡ []) × ListsGroup g []
nothing_beside others g (whole, lists, needed) =
    let both = empty_parts others whole (none_needed (others ++ whole) needed) in
    (both.0, subst (ListsGroup g) both.1 lists)

pub group_once : (g : List Reading) (a b : List (List ℕ)) → ListsGroup g a → ListsGroup g b → a ≡ b
group_once g a b one other = one_joined (λ k r names. Lists r names) (λ k r y z. lists_once r y z) 0 g a b one other

-- a group that asks for nothing, beside nothing
pub group_beside : (g : List Reading) → ListsGroup g [] → ListsBeside [] g []
group_beside g lists = ([], lists, record { are = refl; begin = tt })

pub err_weaker : {T E : Type 0} (r : Result T E) (P Q : Type 0) → (P → Q) → OnErr r P → OnErr r Q
err_weaker r P Q make p = grind (arith, make, p)
