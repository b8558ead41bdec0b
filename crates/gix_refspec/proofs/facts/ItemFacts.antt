-- Which items may be left out, what of an item decides, and what a caller concludes from the laws on that.
use Rattle.gix_refspec.proofs.Common.{some_of, not_covering, branch_and_tag, main_branch, main_tag, main_ends}
use Rattle.gix_refspec.proofs.Common.{main_to_x, takes_the_tag, named, dev_ref, every, main_ref, no_dev, origin_split}
use Rattle.gix_refspec.proofs.Common.{short, short_no_id, tag_ref, of_element, push_is_none, fetches_all_but_dev}
use Rattle.gix_refspec.proofs.Common.{forward_ends, taken_by, takes_no_tag, tracked, tracks_all_but_dev, ◌≡◌, inl, ℕ}
use Rattle.gix_refspec.proofs.Common.{List, [], ◌∷◌, None, Some, codes, refl, arith, Bool, true, false, map, filter}
use Rattle.gix_refspec.proofs.Common.{Any, Contains, bstr_bytes, false≢true, Item, head, Normal, fetched, pushed}
use Rattle.gix_refspec.proofs.Common.{pattern, Ref, Matches, Takes, name, Mapped, HasPair, AreForwardEnds}
use Rattle.gix_refspec.proofs.Common.{AreBackwardEnds, AreKeptForward, AreKeptBackward, ref_of, AreAskedFor, ArePart}
use Rattle.gix_refspec.proofs.Common.{AskedItems, TakesItem, HasTaken, HaveSamePairs, FewerItems, FetchesHead, IsListed}
use Rattle.gix_refspec.proofs.Common.{AreListedItems, ListedItems, PassesTaken, FilteredItems, is_begun}
use Rattle.gix_refspec.proofs.Common.{FilteredByEntries, FilteredByList, by_cases, empty_blob, IsIdText-empty_blob}
use Rattle.gix_refspec.proofs.Common.{blob_kind, object, AsksForNoId, HaveSameNames, MakesForward, NamesDecide}
use Rattle.gix_refspec.proofs.Common.{ListsGroup, NamesDecideBack, rules, matches_as}
use Rattle.gix_refspec.proofs.facts.AskedFacts.{lists_of_specs}
use Rattle.gix_refspec_match.proofs.facts.RedundantFacts.{one_needed}
use Rattle.gix_refspec.proofs.facts.KeptFacts.{group, remote_refs, tracking_refs}
use Rattle.gix_refspec.proofs.facts.LawFacts.{asks}
use Rattle.gix_refspec.proofs.{facts.LawFacts.{expansions, head_spec}, lemmas.prefixes.CoverLemmas.joined_covers}

-- the branches of the remote, each once and in another order
abbrev branches : List Ref
branches = main_ref ∷ dev_ref ∷ []

pub parts : ArePart remote_refs branches × ¬ (ArePart (dev_ref ∷ []) branches) × ¬ (ArePart [] (main_ref ∷ []))
parts = (
  (λ item. search rules),
  (λ part. let there : Contains (dev_ref ∷ []) main_ref = part main_ref (search rules) in search rules),
  λ part. of_element (λ r. ⊥) [] main_ref tt (search rules),
)

no_tag : ¬ (Any (TakesItem AreForwardEnds (Takes remote_refs) tag_ref) group)
no_tag some = by_cases (some_of _ group some)
    (λ taken. takes_no_tag remote_refs 1 _
    (record {
      word = taken.word;
      takes = search rules;
      far = (pattern _ [], origin_split, refl);
      near = refl;
      spec =
          refl;
      item = refl;
    })) (λ negative. search rules)

-- the spec takes the branch and no tag, and a negative one takes nothing. So the tag may be left out; but of a branch
-- and a tag with the same name a partial source takes the tag, which may not
pub taken : ((refs : List Ref) → TakesItem AreForwardEnds (Takes refs) main_ref every)
    × ¬ (TakesItem AreForwardEnds (Takes remote_refs) tag_ref every)
    × ¬ (TakesItem AreForwardEnds (Takes remote_refs) main_ref no_dev)
    × HasTaken AreForwardEnds (Takes remote_refs) group remote_refs branches
    × ¬ (HasTaken AreForwardEnds (Takes branch_and_tag) (main_to_x ∷ []) branch_and_tag (main_branch ∷ []))
taken = (
  (λ refs. let hit = taken_by refs 0 0 (codes "main") in record {
    ends = forward_ends;
    has = search rules;
    word =
        hit.word;
    takes = hit.takes;
  }),
  (λ taken. no_tag (0, every, omega arith, refl, taken)),
  (λ taken. taken.has.positive),
  (λ item. search (rules, no_tag)),
  λ has. let there : Contains (main_branch ∷ []) main_tag =
      has main_tag (1, omega arith, refl) (
        0,
        main_to_x,
        omega arith,
        refl,
        record { ends = main_ends; has = search (rules, short_no_id); word = None; takes = takes_the_tag.0 },
      ) in
      search rules,
)

pub same_pairs : HaveSamePairs (tracked 2 (codes "main") ∷ [])
    (tracked 5 (codes "main") ∷ tracked 3 (codes "main") ∷ []) × ¬ (HaveSamePairs (tracked 2 (codes "main") ∷ []) [])
    × ¬ (HaveSamePairs [] (tracked 2 (codes "main") ∷ []))
same_pairs = (
  (λ pair. search rules),
  (λ same. (same (tracked 2 (codes "main"))).0 (search rules)),
  λ same. (same (tracked 2 (codes "main"))).1 (search rules),
)

-- by the law the branch is mapped over the branches alone, and the excluded one isn't. So it is from right to left,
-- where they are in another order
pub mapped_still : (fewer : List Mapped) → (FewerItems group remote_refs branches → AreKeptForward group branches fewer
    → HasPair fewer (tracked 7 (codes "main")) × ¬ (HasPair fewer (tracked 0 (codes "dev-a"))))
    × (FewerItems group tracking_refs
    (named (codes "refs/remotes/origin/main") ∷ named (codes "refs/remotes/origin/dev-a") ∷ [])
    → AreKeptBackward group (named (codes "refs/remotes/origin/main") ∷ named (codes "refs/remotes/origin/dev-a") ∷ [])
    fewer → HasPair fewer (tracked 7 (codes "main")))
mapped_still fewer = (
  (λ law are. let same = law.forward parts.0 taken.3 (tracked 2 (codes "main") ∷ []) fewer fetches_all_but_dev are in (
    (same (tracked 7 (codes "main"))).0 (search rules),
    λ has. by_cases ((same (tracked 0 (codes "dev-a"))).1 has)
        (λ pair. cc (pair.source)) (λ none. none),
  )),
  λ law are. (law.backward (λ item. search rules) (λ item. search rules) (tracked 1 (codes "main") ∷ []) fewer
      tracks_all_but_dev are (tracked 7 (codes "main"))).0 (search rules),
)

-- `HEAD` is listed if it is among the refs, and not if only another of its candidates is. A covering source is listed,
-- whatever the refs are, and a star outside `refs/` isn't
pub listed_sources : FetchesHead (named head ∷ []) head_spec
    × ¬ (FetchesHead (named (codes "refs/heads/HEAD") ∷ []) head_spec)
    × ¬ (FetchesHead (named head ∷ []) (pushed Normal (Some head) None)) × ¬ (FetchesHead (named head ∷ []) short)
    × IsListed [] every × IsListed [] no_dev × IsListed (named head ∷ []) head_spec × ¬ (IsListed [] head_spec)
    × ¬ (IsListed (named head ∷ []) (fetched Normal (codes "*") None))
listed_sources = search (rules, push_is_none, asks, not_covering)

-- the branches are what a server lists for that; it doesn't list fewer, nor refs that aren't there. They are so for the
-- ref prefix, for which one of two isn't
pub listed_refs : AreListedItems group remote_refs branches × ¬ (AreListedItems group remote_refs (main_ref ∷ []))
    × ¬ (AreListedItems group [] (main_ref ∷ []))
    × AreAskedFor (codes "refs/heads/" ∷ []) remote_refs branches
    × ¬ (AreAskedFor (codes "refs/heads/" ∷ []) remote_refs (main_ref ∷ [])) × ¬ (AreAskedFor [] [] (main_ref ∷ []))
listed_refs =
    let alone : ¬ (Contains (main_ref ∷ []) dev_ref) = λ has. search rules in (
      search (rules, expansions, parts),
      (λ are. alone
          (are.listed dev_ref (0, omega arith, refl)
          (joined_covers _ group 0 are.entries
          (0, every, omega arith, refl, record { entries = _; expansion = expansions.0; one = search rules })
          are.expansions))),
      (λ are. parts.2 are.part),
      record { part = parts.0; asked = λ item. search rules },
      (λ are. alone (are.asked dev_ref (0, omega arith, refl) (search rules))),
      λ are. parts.2 are.part,
    )

-- so by the law it loses no pair: neither of one spec, nor of all
pub none_lost : ListedItems group remote_refs branches → (fewer : List Mapped) → AreKeptForward group branches fewer
    → HasPair fewer (tracked 7 (codes "main")) × HaveSamePairs (tracked 2 (codes "main") ∷ []) fewer
none_lost law fewer are =
    let hit = taken_by remote_refs 0 2 (codes "main") in
    let made : MakesForward remote_refs (name (codes "refs/heads/main")) (Some (codes "refs/remotes/origin/main"))
    every =
    record {
      ends = forward_ends;
      has = search rules;
      one = (
        2,
        main_ref,
        omega arith,
        refl,
        record {
          word = hit.word;
          name = refl;
          takes = hit.takes;
          becomes =
              hit.far;
        },
      );
    } in (
      law.some listed_refs.0 (tracked 2 (codes "main") ∷ []) fewer fetches_all_but_dev are (tracked 7 (codes "main"))
          (search rules) (0, every, omega arith, refl, (inl asks.0, made)),
      law.all listed_refs.0 (inl asks.0, (inl (search rules), tt)) (tracked 2 (codes "main") ∷ []) fewer
          fetches_all_but_dev are,
    )

-- and for the ref prefix the same pairs are kept, and they can't be lost
pub asked_for : AskedItems group remote_refs branches → ((fewer : List Mapped) → AreKeptForward group branches fewer
    → HaveSamePairs (tracked 2 (codes "main") ∷ []) fewer) × ¬ (AreKeptForward group branches [])
asked_for law =
    let lists : ListsGroup group (codes "refs/heads/" ∷ []) =
    (codes "refs/heads/" ∷ [], [], lists_of_specs.0, ([], [], lists_of_specs.1, refl, refl), refl) in
    let same = law [] (codes "refs/heads/" ∷ [])
    (codes "refs/heads/" ∷ [], lists, one_needed (codes "refs/heads/")) (refl, (refl, tt)) listed_refs.3 in
    ((λ fewer. same _ fewer fetches_all_but_dev), λ are. same_pairs.1 (same _ [] fetches_all_but_dev are))

-- a name begins with one of the entries or with none. If all items pass, those that some spec takes do; if none does,
-- the branch is taken and doesn't pass
pub passing : (is_begun (codes "refs/tags/" ∷ codes "refs/heads/" ∷ []) (codes "refs/heads/main") ≡ true)
    × (is_begun (codes "heads/" ∷ []) (codes "refs/heads/main") ≡ false)
    × (is_begun [] (codes "refs/heads/main") ≡ false)
    × ((items : List Item) → PassesTaken AreForwardEnds (Takes (map ref_of items)) group items (λ item. true))
    × ((item : Item) → ref_of item ≡ main_ref
    → ¬ (PassesTaken AreForwardEnds (Takes (map ref_of (item ∷ []))) group (item ∷ []) (λ other. false)))
passing = (
  refl,
  refl,
  refl,
  (λ items item there taken. refl),
  λ item is passes. false≢true
      (passes item (0, omega arith, refl) (0, every, omega arith, refl, rw is (taken.0 (main_ref ∷ [])))),
)

-- by the laws the items that pass such a filter are some with those that a spec takes, in both directions, or are those
-- listed
pub filtered : (items some : List Item) → ((p : Item → Bool) → FilteredItems group items some → some ≡ filter p items
    → (PassesTaken AreForwardEnds (Takes (map ref_of items)) group items p
    → ArePart (map ref_of items) (map ref_of some) × HasTaken AreForwardEnds (Takes (map ref_of items)) group
    (map ref_of items) (map ref_of some))
    × (PassesTaken AreBackwardEnds Matches group items p → HasTaken AreBackwardEnds Matches group (map ref_of items)
    (map ref_of some)))
    × (some ≡ filter (λ item. is_begun (codes "refs/heads/" ∷ []) (bstr_bytes item.full_ref_name)) items
    → (FilteredByEntries group items some → AreListedItems group (map ref_of items) (map ref_of some))
    × (FilteredByList items some → AreAskedFor (codes "refs/heads/" ∷ []) (map ref_of items) (map ref_of some)))
filtered items some = (
  (λ p law is. ((λ passes. (law.part p is, law.forward p is passes)), law.backward p is)),
  λ is. ((λ law. law _ expansions.2 is), λ law. law _ is),
)

-- a ref with this name, and other ids than in the example
abbrev moved : List ℕ → Ref
moved n = record { name = n; target = 2 ∷ []; object = Some (3 ∷ []) }

-- which groups ask for no id, and which refs don't have the same names. Of two refs with the same name, a destination
-- that is an id matches the one with this id
pub ids_asked_for : AsksForNoId (no_dev ∷ main_to_x ∷ [])
    × ¬ (AsksForNoId
    (main_to_x ∷ fetched Normal (codes "main") (Some (codes "e69de29bb2d1d6434b8b29ae775ad8c2e48c5391")) ∷ []))
    × ¬ (HaveSameNames (main_ref ∷ []) (dev_ref ∷ [])) × ¬ (HaveSameNames (main_ref ∷ []) (main_ref ∷ main_ref ∷ []))
    × Matches (codes "e69de29bb2d1d6434b8b29ae775ad8c2e48c5391")
    (record { name = codes "refs/tags/blob"; target = empty_blob; object = None }) None
    × ¬ (Matches (codes "e69de29bb2d1d6434b8b29ae775ad8c2e48c5391") (named (codes "refs/tags/blob")) None)
ids_asked_for =
    let other : ¬ (Matches (codes "e69de29bb2d1d6434b8b29ae775ad8c2e48c5391") (named (codes "refs/tags/blob")) None) =
    λ matches.
    by_cases (matches_as _ (object empty_blob) (named (codes "refs/tags/blob")) None blob_kind matches).1 (λ same. cc)
    (λ same. cc) in (
      search rules,
      (λ none. none.1.0 (_, refl, (empty_blob, IsIdText-empty_blob))),
      (λ same. cc),
      (λ same. cc),
      record { kind = object empty_blob; of = blob_kind; is = (refl, inl refl) },
      other,
    )

-- other ids change no mapping from left to right, nor from right to left, if no destination is an id
pub names_alone :
    (NamesDecide group remote_refs
    → AreKeptForward group (moved dev_ref.name ∷ moved tag_ref.name ∷ moved main_ref.name ∷ moved main_ref.name ∷ [])
    (tracked 2 (codes "main") ∷ []))
    × (NamesDecideBack (no_dev ∷ main_to_x ∷ []) (main_ref ∷ []) → (l : List Mapped)
    → AreKeptBackward (no_dev ∷ main_to_x ∷ []) (main_ref ∷ []) l → AreKeptBackward (no_dev ∷ main_to_x ∷ [])
    (moved main_ref.name ∷ []) l)
names_alone = ((λ law. law _ refl _ fetches_all_but_dev), λ law. law ids_asked_for.0 _ refl)
