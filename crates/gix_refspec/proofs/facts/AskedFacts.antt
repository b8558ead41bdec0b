-- Examples of ref prefixes, for sides and groups like those of git-fetch(1), and what a caller concludes from them.
use Rattle.gix_refspec.proofs.Common.{begins_not, blob_kind, every, no_dev, short_kind, mapping, inl, inr, ℕ, List, []}
use Rattle.gix_refspec.proofs.Common.{◌∷◌, ◌++◌, None, Some, codes, refl, arith, BeginsWith, Normal, fetched, pushed}
use Rattle.gix_refspec.proofs.Common.{pattern, partial, full_name, object, candidates, Ref, Mapped, AreKeptForward}
use Rattle.gix_refspec.proofs.Common.{HasNoList, Lists, ListsGroup, ListsSide, Serves, by_cases, rules, same_Some, ◌≡◌}
use Rattle.gix_refspec.proofs.Common.{AllByRecursion, ap, bstring_bytes, length, map, subst, sym, ◌∙◌}
use Rattle.gix_refspec.proofs.facts.KeptFacts.{of_one}
use Rattle.gix_refspec.proofs.lemmas.prefixes.AskedLemmas.{no_list}
use Rattle.gix_refspec.proofs.lemmas.prefixes.RequestLemmas.{group_once}
use Rattle.gix_refspec.specs.Matching.Asked.{CanBeSent, ListsBeside, Requests}
use Rattle.gix_refspec.specs.declared.match_group.prefixes.RefPrefixes.TheVariants.{Nothing, Listed, All}
use Rattle.gix_refspec_match.proofs.facts.RedundantFacts.{needed, needed_once, one_needed}
use Rattle.gix_refspec_match.specs.Matching.Redundant.{AreNeeded}
use Rattle.gix_refspec.proofs.Common.{all_weaker, ◌≤◌, Global}
use Rattle.gix_refspec_text.proofs.facts.PrefixFacts.{bracket_split, suffix_split, tells}
use Rattle.gix_refspec.proofs.Common.{Vec}
use Rattle.bstr.specs.declared.bstring.BString.{BString}

-- the list of a pattern is its prefix, that of a partial name and `HEAD` their candidates and nothing less, that of an
-- id empty, that of a full name itself. A star directly after `refs/` has no list
pub lists_of_sides : ListsSide (codes "refs/heads/*") (codes "refs/heads/" ∷ []) × ListsSide (codes "main")
    (candidates (codes "main")) × ListsSide (codes "HEAD") (candidates (codes "HEAD"))
    × ListsSide (codes "e69de29bb2d1d6434b8b29ae775ad8c2e48c5391") [] × ListsSide (codes "refs/heads/main")
    (codes "refs/heads/main" ∷ [])
    × ((list : List (List ℕ)) → ¬ (ListsSide (codes "refs/*") list) × ¬ (ListsSide (codes "HEAD") (codes "HEAD" ∷ []))
    × ¬ (ListsSide (codes "main") []))
lists_of_sides = (
  record { kind = pattern (codes "refs/heads/") []; of = search rules; is = search rules },
  record { kind = partial (codes "main"); of = short_kind; is = refl },
  record {
    kind = partial (codes "HEAD");
    of = (refl, search rules, (λ begins. cc (begins.here)), λ is. search rules);
    is = refl;
  },
  record { kind = object _; of = blob_kind; is = refl },
  record { kind = full_name _; of = search rules; is = refl },
  λ list. (
    no_list (codes "refs/*") (codes "refs/") [] (search rules) ((tells.1 []).0) list,
    (λ lists. search rules),
    λ lists. search rules,
  ),
)

-- a `]` after the star is allowed, but a star after a `]` has no list
pub lists_at_brackets : ListsSide (codes "refs/a*/]") (codes "refs/a" ∷ [])
    × ((list : List (List ℕ)) → ¬ (ListsSide (codes "refs/a]*") list))
lists_at_brackets = (
  record { kind = pattern (codes "refs/a") (codes "/]"); of = suffix_split; is = search rules },
  no_list (codes "refs/a]*") (codes "refs/a]") [] bracket_split (λ tells. search rules),
)

-- the list of a negative spec is empty, and a push without a destination has none. The lists of a group follow one
-- another
pub lists_of_specs : Lists every (codes "refs/heads/" ∷ []) × Lists no_dev []
    × ((list : List (List ℕ)) → ¬ (Lists (pushed Normal (Some (codes "main")) None) list))
    × ListsGroup (fetched Normal (codes "main") None ∷ no_dev ∷ every ∷ [])
    (candidates (codes "main") ++ codes "refs/heads/" ∷ [])
lists_of_specs =
    let below : Lists every (codes "refs/heads/" ∷ []) = inr (codes "refs/heads/*", search rules, lists_of_sides.0) in (
      below,
      inl (refl, refl),
      (λ list lists. search rules),
      (
        _,
        _,
        inr (codes "main", search rules, lists_of_sides.1),
        ([], _, inl (refl, refl), (_, [], below, refl, refl), refl),
        refl,
      ),
    )

pub none_for_all : HasNoList (every ∷ fetched Normal (codes "refs/*") (Some (codes "refs/x/*")) ∷ [])
    × ¬ (HasNoList (every ∷ []))
none_for_all =
    let none : (list : List (List ℕ)) → ¬ (Lists (fetched Normal (codes "refs/*") (Some (codes "refs/x/*"))) list) =
    λ list lists.
    by_cases lists (λ negative. cc (negative.0))
    (λ asked. (lists_of_sides.5 list).0 (rw (← same_Some (codes "refs/*") asked.0 asked.1.side) at asked.2)) in (
      (1, _, omega arith, refl, none),
      λ none. of_one (λ r. (list : List (List ℕ)) → ¬ (Lists r list)) every none
          (codes "refs/heads/" ∷ []) lists_of_specs.0,
    )

-- if the list serves, no tag is a source, over any items
pub no_tag_served : Serves (codes "refs/heads/" ∷ []) (every ∷ []) → (items : List Ref) (d : ℕ) (rest : List Mapped)
    → ¬ (AreKeptForward (every ∷ []) items (mapping 0 (codes "refs/tags/v1") None d ∷ rest))
no_tag_served serves items d rest are =
    begins_not (codes "refs/heads/") (codes "refs/tags/v1") refl
    (of_one (λ p. BeginsWith p (codes "refs/tags/v1")) (codes "refs/heads/")
    ((serves (refl, tt) items _ are).0 (codes "refs/tags/v1") refl))

-- so many ref prefixes can be sent, and one that long, but no more
pub sent : ((p : List ℕ) → length p ≡ 65505 → CanBeSent (p ∷ []))
    × ((p : List ℕ) → length p ≡ 65506 → ¬ (CanBeSent (p ∷ [])))
    × ((list : List (List ℕ)) → length list ≡ 65535 → AllByRecursion (λ p. length p ≤ 65505) list → CanBeSent list)
    × ((list : List (List ℕ)) → length list ≡ 65536 → ¬ (CanBeSent list))
sent = (
  (λ p size. record { few = omega arith; short = (omega (arith, size), tt) }),
  (λ p size sent. let short = sent.short.0 in absurd (omega (arith, size, short))),
  (λ list size short. record {
    few = omega (arith, size);
    short = all_weaker _ _ (λ p fits. omega (arith, fits)) list
        short;
  }),
  λ list size sent. absurd (omega (arith, size, sent.few)),
)

-- the list for all branches, and for one of them too, beside others
of_branches : ListsGroup (every ∷ []) (codes "refs/heads/" ∷ [])
of_branches = (codes "refs/heads/" ∷ [], [], lists_of_specs.0, refl, refl)

pub beside : ListsBeside [] (every ∷ []) (codes "refs/heads/" ∷ [])
    × ListsBeside (codes "refs/heads/main" ∷ []) (every ∷ []) (codes "refs/heads/" ∷ [])
    × ¬ (ListsBeside [] (every ∷ []) [])
beside = (
  (codes "refs/heads/" ∷ [], of_branches, one_needed (codes "refs/heads/")),
  (codes "refs/heads/" ∷ [], of_branches, needed.4),
  λ (whole, lists, are).
      let same = group_once (every ∷ []) whole (codes "refs/heads/" ∷ []) lists of_branches in
      omega (
        arith,
        ap length (needed_once whole (codes "refs/heads/" ∷ []) []
            (subst (λ (l : List (List ℕ)). AreNeeded l (codes "refs/heads/" ∷ [])) (sym same)
            (one_needed (codes "refs/heads/"))) are),
      ),
)

-- nothing is requested for negative specs, all refs if a spec has no list, and otherwise a list, which isn't empty
pub requested : (list : Vec BString Global) → map bstring_bytes list.items ≡ codes "refs/heads/" ∷ []
    → Requests (no_dev ∷ []) Nothing × Requests (every ∷ []) (Listed list)
    × Requests (fetched Normal (codes "refs/*") (Some (codes "refs/x/*")) ∷ []) All
    × ¬ (Requests (every ∷ []) Nothing) × ¬ (Requests (every ∷ []) All)
requested list one = (
  ([], ([], [], lists_of_specs.1, refl, refl), record { are = refl; begin = tt }),
  (
    subst (ListsBeside [] (every ∷ [])) (sym one) beside.0,
    (λ none. omega (arith, ap length (sym one ∙ ap (map bstring_bytes) none))),
    subst CanBeSent (sym one) (record { few = omega arith; short = (omega arith, tt) }),
  ),
  inl (0, _, omega arith, refl, no_list_of_all),
  beside.2,
  listed_not_all,
)
  where
    no_list_of_all : (l : List (List ℕ)) → ¬ (Lists (fetched Normal (codes "refs/*") (Some (codes "refs/x/*"))) l)
    no_list_of_all l lists = by_cases lists (λ negative. cc (negative.0))
        (λ asked. (lists_of_sides.5 l).0 (rw (← same_Some (codes "refs/*") asked.0 asked.1.side) at asked.2))

    listed_not_all : ¬ (Requests (every ∷ []) All)
    listed_not_all (inl none) = none_for_all.1 none
    listed_not_all (inr (l, (whole, lists, are), unsent)) =
        let same = group_once (every ∷ []) whole (codes "refs/heads/" ∷ []) lists of_branches in
        let is : codes "refs/heads/" ∷ [] ≡ l = needed_once (codes "refs/heads/" ∷ []) (codes "refs/heads/" ∷ []) l
        (one_needed (codes "refs/heads/")) (subst (λ (x : List (List ℕ)). AreNeeded x l) same are) in
        unsent (subst CanBeSent is (record { few = omega arith; short = (omega arith, tt) }))
