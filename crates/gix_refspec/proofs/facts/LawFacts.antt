-- Examples of the definitions that only laws use: on directions, covering sources, canonical texts and expansions.
use Rattle.gix_refspec.proofs.Common.{below_heads, covering, not_covering, Lacks-tested, IsPattern-tested, named}
use Rattle.gix_refspec.proofs.Common.{begins_not, empty_blob, IsIdText-empty_blob, lower_of-empty_blob, every, no_dev}
use Rattle.gix_refspec.proofs.Common.{short, short_kind, push_is_none, mapping, tracked, fetches_all_but_dev}
use Rattle.gix_refspec.proofs.Common.{tracks_all_but_dev, tracks_nothing, tag_to_x, tag_to_foo, tag_alone, ◌≡◌, ◌≢◌}
use Rattle.gix_refspec.proofs.Common.{◌⊎◌, ◌<◌, ℕ, List, [], ◌∷◌, Option, None, Some, length, codes, refl, sym, ap, ◌∙◌}
use Rattle.gix_refspec.proofs.Common.{subst, inl, inr, arith, Push, Fetch, BeginsWith, IsPattern, Normal, Forced}
use Rattle.gix_refspec.proofs.Common.{Negative, Reading, Reads, fetched, pushed, candidates, IsCandidate, Fits, name}
use Rattle.gix_refspec.proofs.Common.{id, Mapped, HasPair, AreApart, AreKeptForward, AreKeptBackward, OneForward}
use Rattle.gix_refspec.proofs.Common.{OneBackward, KeptOnce, Ref, Matches, HasName, Takes, ValidatedOnce}
use Rattle.gix_refspec.proofs.Common.{DestinationsHaveOneSource, HaveDistinctDestinations, ForwardFits, IndexesFit}
use Rattle.gix_refspec.proofs.Common.{push_delete, fetch_only, printed, meaning_of, Refusal, PatternUnbalanced}
use Rattle.gix_refspec.proofs.Common.{NegativeEmpty, ReferenceName, IsRefused, IsIdText, IsLowerText, HasIdFault}
use Rattle.gix_refspec.proofs.Common.{LockSuffix, RepeatedDot, IsPrefix, Expands, to_prefix, to_candidates}
use Rattle.gix_refspec.proofs.Common.{HasCoveringSource, MapAlike, AreReadAgain, AsksFor, AtSpec, EachSource, Transpose}
use Rattle.gix_refspec.proofs.Common.{Cover, CoverTogether, FetchGroupReadsBack, IsCoveredBy, IsSourceAmong}
use Rattle.gix_refspec.proofs.Common.{IsDestinationAmong, GoesBothWays, ReadsAgainAs, Lacks-ContainsText, BeginsWithOne}
use Rattle.gix_refspec.proofs.Common.{AreExpansions, same_Some, by_cases, EqualGroups, AreFetches, FetchTheSame, rules}
use Rattle.gix_refspec.proofs.Common.{main_ref, IsExpansion}
use Rattle.gix_refspec.proofs.facts.KeptFacts.{at_spec, group, remote_refs, tracking_refs}
use Rattle.gix_refspec.proofs.facts.ValidationFacts.{both_to_x, foo_fix, validated, unequal}
use Rattle.gix_refspec.specs.Laws.Reasons.{ReasonRefuses}
use Rattle.gix_refspec_text.proofs.facts.GrammarFacts.{fetches_main}
use Rattle.gix_refspec_text.proofs.facts.UnreadFacts.{unbalanced_sides}
use Rattle.gix_refspec_text.proofs.lemmas.hits.MatchLemmas.{outside_none}
use Rattle.gix_refspec_text.specs.Laws.Readings.{ReadsOnce, ReadsOrRefused, IsSameReason, SaysForOperation}
use Rattle.gix_refspec_text.specs.Laws.Readings.{IsPrintedBack, ReadsBack, EqualReadings, HasOneId, HasOneFault}
use Rattle.gix_refspec_text.specs.Laws.Readings.{HasCandidates, KeepsOperation, EqualTexts, NothingAgainst}
use Rattle.gix_refspec_text.specs.Laws.Readings.{ClonesExactly, OneWord, PrefixBegins, OnePrefix, Candidates, IdOrFault}
use Rattle.gix_refspec_text.specs.Laws.Readings.{OneLowerText, OneRefusal}
use Rattle.gix_refspec_text.specs.Texts.PatternError.{IsPatternFault}
use Rattle.gix_refspec_text.specs.declared.name.Error.{Error as NameError}
use Rattle.gix_refspec_text.specs.declared.name.PatternError.{PatternError}
use Rattle.gix_refspec_text.specs.declared.name.PatternError.TheVariants.{Name}
use Rattle.gix_refspec_text.specs.declared.oid.Error.{Error as IdError, TheVariants.Length}

abbrev forced : Reading
forced = fetched Forced (codes "main") None

-- a spec with one side below `refs/` doesn't go both ways; the spec of `git clone`, two full names, a source alone, and
-- a negative spec do
pub go_one_way : ¬ (GoesBothWays (fetched Normal (codes "main") (Some (codes "refs/x/main"))))
    × ¬ (GoesBothWays (fetched Normal (codes "refs/heads/a") (Some (codes "b"))))
    × (GoesBothWays every × GoesBothWays (fetched Normal (codes "refs/heads/a") (Some (codes "refs/x/a")))
    × GoesBothWays short × GoesBothWays no_dev)
go_one_way = (
  (λ goes. by_cases (goes tt (codes "main") (codes "refs/x/main") refl refl)
      (λ stars. search (rules, Lacks-ContainsText, Lacks-tested)) (λ below. cc (below.0.here))),
  (λ goes. by_cases (goes tt (codes "refs/heads/a") (codes "b") refl refl)
      (λ stars. search (rules, Lacks-ContainsText, Lacks-tested)) (λ below. cc (below.1.here))),
  search rules,
)

pub among : IsSourceAmong (named (codes "a") ∷ named (codes "b") ∷ []) (name (codes "b"))
    × ¬ (IsSourceAmong (named (codes "a") ∷ []) (id (codes "a"))) × IsDestinationAmong (named (codes "a") ∷ [])
    (Some (codes "a"))
    × ¬ (IsDestinationAmong (named (codes "a") ∷ []) None) × ¬ (HasName (named (codes "a") ∷ []) (codes "aa"))
among = search rules

pub looked_up : Transpose group remote_refs tracking_refs → ((m : List Mapped) → AreKeptBackward group tracking_refs m
    → HasPair m (tracked 0 (codes "main"))) × ((l : List Mapped) → AreKeptForward group remote_refs l
    → HasPair l (tracked 0 (codes "main")))
looked_up law =
    let found = λ (l m : List Mapped). law (go_one_way.2.0, (go_one_way.2.3, tt)) l m in (
      (λ m back. ((found _ m fetches_all_but_dev back (tracked 0 (codes "main"))).0 (search rules)).0),
      λ l forward. ((found l _ forward tracks_all_but_dev (tracked 0 (codes "main"))).1 (search rules)).0,
    )

-- the canonical text of a fetch without a destination, forced or not, reads as one that isn't forced, and that of a
-- push as nothing again. Groups read again in the same order, and have the same length
pub reads_unforced : ReadsAgainAs forced short × ReadsAgainAs short short × ¬ (ReadsAgainAs forced forced)
    × ((s d : Option (List ℕ)) (q : Reading) → ¬ (ReadsAgainAs (pushed Normal s d) q))
    × AreReadAgain (forced ∷ short ∷ []) (short ∷ short ∷ []) × ¬ (AreReadAgain (short ∷ []) [])
    × ¬ (AreReadAgain [] (short ∷ [])) × ¬ (AreReadAgain (pushed Normal None None ∷ []) (short ∷ []))
reads_unforced =
    let reads = fetches_main.0 in
    let again : ReadsAgainAs forced short × ReadsAgainAs short short = search rules in (
      again.0,
      again.1,
      (λ again. search rules),
      (λ s d q again. push_is_none again.fetch),
      (again.0, (again.1, tt)),
      (λ none. none),
      (λ none. none),
      λ again. search rules,
    )

-- the force of a fetch counts only if it has a destination, and pushes, even with the same meaning, aren't fetches
pub same_fetches : FetchTheSame forced short
    × ¬ (FetchTheSame (fetched Normal (codes "refs/heads/*") (Some (codes "refs/remotes/origin/*"))) every)
    × (meaning_of (pushed Normal (Some (codes "main")) None) ≡ meaning_of
    (pushed Normal (Some (codes "main")) (Some (codes "main"))))
    × ¬ (FetchTheSame (pushed Normal (Some (codes "main")) None)
    (pushed Normal (Some (codes "main")) (Some (codes "main"))))
    × AreFetches group × AreFetches [] × ¬ (AreFetches (pushed Normal (Some (codes "main")) None ∷ every ∷ []))
    × ¬ (AreFetches (every ∷ pushed Normal (Some (codes "main")) None ∷ []))
same_fetches = search (rules, push_is_none)

-- so by either law they map alike, and groups that do map alike in each direction
pub mapped_alike : (kept : List Mapped)
    → (FetchGroupReadsBack (forced ∷ []) (short ∷ []) (main_ref ∷ []) ⊎ EqualGroups (forced ∷ []) (short ∷ [])
    (main_ref ∷ [])
    → (AreKeptForward (forced ∷ []) (main_ref ∷ []) kept → AreKeptForward (short ∷ []) (main_ref ∷ []) kept)
    × AreKeptBackward (forced ∷ []) (main_ref ∷ []) [])
    × ((g h : List Reading) (items : List Ref) → MapAlike g h items
    → (AreKeptForward h items kept → AreKeptForward g items kept)
    × (AreKeptBackward g items kept → AreKeptBackward h items kept))
mapped_alike kept = (
  (λ law. let alike : MapAlike (forced ∷ []) (short ∷ []) (main_ref ∷ []) =
      by_cases law (λ back. back (reads_unforced.0, tt)) (λ equal. equal (same_fetches.0, tt)) in search
      (rules, tracks_nothing)),
  search rules,
)

-- the expansions of the specs of a group, one after the other; that of a negative spec is empty. A name begins with one
-- entry of a list, or with none
pub expansions : IsExpansion every (codes "refs/heads/" ∷ []) × AreExpansions (every ∷ no_dev ∷ short ∷ [])
    (codes "refs/heads/" ∷ candidates (codes "main"))
    × AreExpansions group (codes "refs/heads/" ∷ []) × BeginsWithOne (codes "refs/tags/" ∷ codes "refs/heads/" ∷ [])
    (codes "refs/heads/main") × ¬ (BeginsWithOne (codes "heads/" ∷ []) (codes "refs/heads/main"))
expansions =
    let below : IsExpansion every (codes "refs/heads/" ∷ []) =
    inl (codes "refs/heads/*", search rules, to_prefix (codes "refs/heads/") below_heads refl) in
    let all = to_candidates (outside_none (codes "main") (λ same. unequal same refl) short_kind.2) short_kind.2
    short_kind.3 refl in
    let three : AreExpansions (every ∷ no_dev ∷ short ∷ []) (codes "refs/heads/" ∷ candidates (codes "main")) = (
      _,
      _,
      below,
      (
        [],
        _,
        search rules,
        (_, [], inl (codes "main", record { positive = tt; side = refl }, all), refl, refl),
        refl,
      ),
      refl,
    ) in (
      below,
      three,
      (_, [], below, ([], [], search rules, refl, refl), refl),
      (1, codes "refs/heads/", omega arith, refl, search rules),
      λ begins. search rules,
    )

abbrev pub head_spec : Reading
head_spec = fetched Normal (codes "HEAD") None

-- a fetch of `HEAD` covers the name `HEAD`, and no other, one of all branches any, and a push none
pub asks : HasCoveringSource every × AsksFor head_spec (codes "HEAD") × ¬ (AsksFor head_spec (codes "refs/heads/HEAD"))
    × ((n : List ℕ) → AsksFor every n × ¬ (AsksFor (pushed Normal (Some (codes "HEAD")) None) n))
asks = search (rules, covering, not_covering, by_cases)

-- the branch begins with an entry of the expansion of its spec, whatever the other specs are, and of that of its group
pub covered : ((others : List Reading) (kept : List Mapped) → Cover (every ∷ others) remote_refs
    → AreKeptForward (every ∷ others) remote_refs (tracked 2 (codes "main") ∷ kept)
    → IsCoveredBy (codes "refs/heads/main") every)
    × (Cover group remote_refs → IsCoveredBy (codes "refs/heads/main") every)
    × (CoverTogether group remote_refs → (entries : List (List ℕ)) → AreExpansions group entries
    → BeginsWithOne entries (codes "refs/heads/main"))
covered = (
  (λ others kept law are. at_spec (every ∷ others) 0 _ every refl
      ((law (tracked 2 (codes "main") ∷ kept) are).0 (codes "refs/heads/main") refl) (inl asks.0)),
  (λ law. at_spec group 0 _ every refl ((law _ fetches_all_but_dev).0 (codes "refs/heads/main") refl) (inl asks.0)),
  λ law entries are. at_spec group 0 _ every refl
      ((law entries are _ fetches_all_but_dev).0 (codes "refs/heads/main") refl) (inl asks.0),
)

-- what holds of the spec of a mapping holds of the one at its index, and there has to be one. What holds of each source
-- and its spec holds of the branch, whose mapping is the only one
pub each_source :
    ((P : Reading → Type 0) → (AtSpec (no_dev ∷ every ∷ []) (mapping 0 (codes "refs/heads/main") None 1) P → P every)
    × ¬ (AtSpec (every ∷ []) (mapping 0 (codes "refs/heads/main") None 1) P))
    × ((P : Reading → List ℕ → Type 0) → EachSource group remote_refs P → P every (codes "refs/heads/main"))
    × (OneForward group remote_refs → EachSource group remote_refs (λ r n. (r ≡ every) × (n ≡ codes "refs/heads/main")))
each_source = (
  search rules,
  (λ P each. at_spec group 0 (λ r. P r _) every refl ((each _ fetches_all_but_dev).0 _ refl)),
  λ law kept are. rw (law kept _ are fetches_all_but_dev) (search rules),
)

-- a pattern has one prefix and one expansion; a name that begins with no entry of the expansion of a spec isn't covered
-- by it
pub one_below : OnePrefix (codes "refs/heads/*")
    → ((p : List ℕ) → IsPrefix (codes "refs/heads/*") p → p ≡ codes "refs/heads/")
    × ((list : List (List ℕ)) → Expands (codes "refs/heads/*") list → list ≡ codes "refs/heads/" ∷ [])
    × ¬ (IsCoveredBy (codes "refs/tags/v1") every) × ¬ (IsCoveredBy (codes "refs/heads/dev-a") no_dev)
one_below law =
    let expanded : (list : List (List ℕ)) → Expands (codes "refs/heads/*") list → list ≡ codes "refs/heads/" ∷ [] =
    λ list expands.
    law.expanded list _ expands (to_prefix (codes "refs/heads/") below_heads refl) in
    let tag : ¬ (IsCoveredBy (codes "refs/tags/v1") every) = λ covers. by_cases covers.expansion
    (λ (x, asked, expands). let same =
    expanded covers.entries (rw (← same_Some (codes "refs/heads/*") x asked.side) at expands) in begins_not
    (codes "refs/heads/") (codes "refs/tags/v1") refl (search rules))
    (λ (none, same). search rules) in
    ((λ p prefix. law.prefix p _ prefix below_heads), expanded, tag, λ covers. search rules)

pub one_answer : (OneForward group remote_refs → (l : List Mapped) → AreKeptForward group remote_refs l
    → l ≡ tracked 2 (codes "main") ∷ [])
    × (OneBackward group tracking_refs → (l : List Mapped) → AreKeptBackward group tracking_refs l
    → l ≡ tracked 1 (codes "main") ∷ [])
    × ((g : List Reading) (items : List Ref) → KeptOnce g items → (l m : List Mapped) → AreKeptForward g items l
    → AreKeptBackward g items m → AreApart l × AreApart m)
    × (OneWord (codes "a") [] (codes "ab") → (word : List ℕ) → Fits (codes "a") [] (codes "ab") word → word ≡ codes "b")
one_answer = (
  (λ law l kept. law l _ kept fetches_all_but_dev),
  (λ law l kept. law l _ kept tracks_all_but_dev),
  (λ g items law l m forward back. (law l (inl forward), law m (inr back))),
  λ law word fits. law word (codes "b") fits refl,
)

pub fits : (ForwardFits group remote_refs → IndexesFit group (tracked 2 (codes "main") ∷ []))
    × ((g : List Reading) (items : List Ref) (m n : Mapped) → ForwardFits g items → AreKeptForward g items (m ∷ n ∷ [])
    → n.spec < length g)
    × (ValidatedOnce both_to_x remote_refs → DestinationsHaveOneSource (tag_to_x ∷ tag_alone ∷ [])
    × (AreKeptForward both_to_x remote_refs (tag_to_x ∷ tag_to_foo ∷ tag_alone ∷ [])
    → HaveDistinctDestinations (tag_to_x ∷ tag_alone ∷ [])))
fits = (
  (λ law. law _ fetches_all_but_dev),
  (λ g items m n law kept. (law _ kept).1.0),
  λ law. law _ _ (foo_fix ∷ []) validated,
)

-- a partial name is expanded to its candidates and nothing else, and matches each. Over one ref it takes each. A ref
-- that a pattern matches begins with the prefix of the pattern
pub asked_for : (Candidates (codes "main") → Expands (codes "main") (candidates (codes "main"))
    × ((list : List (List ℕ)) → Expands (codes "main") list → list ≡ candidates (codes "main"))
    × ((r : Ref) → IsCandidate (codes "main") r.name → ((word : Option (List ℕ)) × Matches (codes "main") r word)
    × ((word : Option (List ℕ)) × Takes (r ∷ []) (codes "main") r word)))
    × (HasCandidates (codes "main") → (r : Ref) (word : Option (List ℕ)) → Matches (codes "main") r word
    ⊎ Takes (r ∷ []) (codes "main") r word → IsCandidate (codes "main") r.name)
    × (PrefixBegins (codes "refs/heads/*") → (r : Ref) (word : Option (List ℕ)) → Matches (codes "refs/heads/*") r word
    → BeginsWith (codes "refs/heads/") r.name)
asked_for = (
  (λ law. let all = law short_kind.1 (λ same. unequal same refl) short_kind.2 short_kind.3 in
      (all.expands, all.only, λ r one. ((all.matches r).1 one, (all.takes r).1 one))),
  search rules,
  λ law r word. law (codes "refs/heads/") r word below_heads (λ same. cc),
)

-- a text of another length isn't an id and has one fault; the id of the empty blob is that of its text alone, and
-- prints as it
pub one_id : (IdOrFault (codes "e69de29bb2d1d6434b8b29ae775ad8c2e48c5391")
    → ((i : List ℕ) → IsIdText (codes "e69de29bb2d1d6434b8b29ae775ad8c2e48c5391") i → i ≡ empty_blob)
    × ((e : IdError) → ¬ (HasIdFault (codes "e69de29bb2d1d6434b8b29ae775ad8c2e48c5391") e)))
    × ((IdOrFault (codes "e69de2") → ((e : IdError) → HasIdFault (codes "e69de2") e → e ≡ Length 6)
    × ((i : List ℕ) → ¬ (IsIdText (codes "e69de2") i)))
    × (HasOneId (codes "e69de29bb2d1d6434b8b29ae775ad8c2e48c5391") → (i : List ℕ)
    × IsIdText (codes "e69de29bb2d1d6434b8b29ae775ad8c2e48c5391") i)
    × (HasOneFault (codes "e69de2") → (e : IdError) × HasIdFault (codes "e69de2") e))
    × (OneLowerText empty_blob
    → ((t : List ℕ) → IsLowerText t empty_blob → t ≡ codes "e69de29bb2d1d6434b8b29ae775ad8c2e48c5391")
    × IsLowerText (codes "e69de29bb2d1d6434b8b29ae775ad8c2e48c5391") empty_blob)
one_id = (
  (λ law. by_cases law (λ one. ((λ i text. one.only i text ∙ sym (one.only empty_blob IsIdText-empty_blob)), one.sound))
      (λ fault. absurd (fault.unread empty_blob IsIdText-empty_blob))),
  search rules,
  λ law. (
    (λ t lower. law.only t lower ∙ lower_of-empty_blob),
    subst (λ (t : List ℕ). IsLowerText t empty_blob)
        lower_of-empty_blob law.lower,
  ),
)

-- a pattern of one byte is never refused, not even for memory; a longer one has no fault, but may need memory
pub nothing_wrong : (NothingAgainst (codes "*") → (e : PatternError) → ¬ (IsPatternFault e (codes "*")))
    × ((x : List ℕ) → NothingAgainst x → IsPattern x → (fault : NameError) → ¬ (IsPatternFault (Name fault) x))
nothing_wrong = (
  (λ law e fault. let long : 256 < 1 = (law (IsPattern-tested [] [] refl refl refl) e fault).1 in omega
      (arith, long)),
  λ x law pattern fault has. cc ((law pattern (Name fault) has).0),
)

pub cloned : {T : Type 0} (is_clone : T → T → Type 0) (is_infallible : T → Type 0)
    → ClonesExactly is_clone is_infallible → (x y : T) → is_infallible x × (is_clone x y → y ≡ x)
cloned is_clone is_infallible law x y = ((law x).0, (law x).1 y)

-- a text has one reading or is refused, for one reason, except that any fault of a name may be reported, if that
-- applies to its parts: faults of a name are one reason, but a fault and another reason, or two
-- others, are two. Its operation is that of the reading, and texts mean the same exactly if their canonical texts are
-- equal
pub of_texts : (ReadsOnce Fetch (codes "main") → Reads Fetch (codes "main") short → (r : Reading)
    → Reads Fetch (codes "main") r → r ≡ short)
    × (Reads Fetch (codes "main") short → (e : Refusal) → ¬ (IsRefused Fetch (codes "main") e))
    × (ReadsOrRefused Fetch (codes "main") → ((r : Reading) → ¬ (Reads Fetch (codes "main") r)) → (e : Refusal)
    × IsRefused Fetch (codes "main") e)
    × (ReasonRefuses Fetch (codes "a*") → (r : Reading) → ¬ (Reads Fetch (codes "a*") r))
    × (EqualTexts Fetch (codes "+main") (codes "main") → (r q : Reading) → Reads Fetch (codes "+main") r
    → Reads Fetch (codes "main") q → (printed r ≡ printed q → meaning_of r ≡ meaning_of q)
    × (meaning_of r ≡ meaning_of q → printed r ≡ printed q))
    × ((OneRefusal Fetch (codes "a*") → ¬ (IsRefused Fetch (codes "a*") NegativeEmpty))
    × (KeepsOperation Fetch (codes "main") → (r : Reading) → Reads Fetch (codes "main") r → r.operation ≡ Fetch)
    × ((r : Reading) → SaysForOperation r → (d : List ℕ) → meaning_of r ≡ Some (push_delete d) → r.operation ≡ Push)
    × IsSameReason (ReferenceName LockSuffix) (ReferenceName RepeatedDot) × IsSameReason NegativeEmpty NegativeEmpty
    × ¬ (IsSameReason NegativeEmpty (ReferenceName LockSuffix))
    × ¬ (IsSameReason (ReferenceName LockSuffix) PatternUnbalanced))
of_texts = (
  (λ law reads r other. law.only r other ∙ sym (law.only short reads)),
  (λ reads e refused. refused.unread short reads),
  (λ law unread. by_cases law (λ once. absurd (unread once.reading once.reads)) (λ refused. refused)),
  search (rules, unbalanced_sides),
  (λ law r q reads_r reads_q. let alike = law r q reads_r reads_q in (alike.1, alike.0)),
  search rules,
)

-- the canonical text of a forced fetch without a destination has one reading, with the same meaning. Readings for one
-- operation with the same canonical text mean the same; a fetch and a push never do
pub read_back_once : (ReadsBack Fetch (codes "+main") → Reads Fetch (codes "+main") forced → (q : Reading)
    → Reads Fetch (codes "main") q → meaning_of q ≡ Some (fetch_only (codes "main")))
    × (IsPrintedBack Fetch forced → (q : Reading) × Reads Fetch (codes "main") q)
    × (((r q : Reading) → EqualReadings r q
    → (r.operation ≡ q.operation → printed r ≡ printed q → meaning_of r ≡ meaning_of q)
    × (meaning_of r ≡ meaning_of q → (r.operation ≡ q.operation) × (printed r ≡ printed q)))
    × (EqualReadings (fetched Negative (codes "a") None) (pushed Negative (Some (codes "a")) None)
    → meaning_of (fetched Negative (codes "a") None) ≢ meaning_of (pushed Negative (Some (codes "a")) None)))
read_back_once = (
  (λ law reads q again. let back = law forced reads in ap meaning_of
      (back.again.only q (rw (same_Some (codes "main") back.text back.is) at again)) ∙ back.same),
  (λ back. (back.again.reading, rw (← same_Some (codes "main") back.text back.is) at back.again.reads)),
  search (rules, push_is_none),
)
