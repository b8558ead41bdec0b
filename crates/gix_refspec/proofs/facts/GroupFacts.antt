-- The plain data of names, items, mappings, groups and issues whose fields differ: none is lost or taken for another.
use Rattle.gix_refspec.proofs.Common.{Mapped, mapping, empty_blob, lower_of-empty_blob, Option, ◌≡◌, ◌≢◌, ℕ, List, []}
use Rattle.gix_refspec.proofs.Common.{◌∷◌, ◌++◌, None, Some, true, false, map, filter, option_map, replicate, Vec}
use Rattle.gix_refspec.proofs.Common.{Global, codes, refl, sym, ap, ◌∙◌, BString, bstring_bytes, Item, Mapping}
use Rattle.gix_refspec.proofs.Common.{MatchGroup, NameRef, Borrowed, Owned, SourceRef, Fix}
use Rattle.gix_refspec.proofs.Common.{MappingWithPartialDestinationRemoved, Issue, Sha1, Push, Fetch, RefSpecRef}
use Rattle.gix_refspec.proofs.Common.{Normal, Forced, fetched, pushed, reading_of, name, id, Conflict, name_bytes}
use Rattle.gix_refspec.proofs.Common.{start_of, mapped_of, ref_of, text_of_source, readings_of, is_for}
use Rattle.gix_refspec.proofs.Common.{is_same_operation, IsGathered, ForwardOutcome, mappings_of, conflict_of}
use Rattle.gix_refspec.proofs.Common.{conflicts_of, removed_of, IsSameFix, IfConflicts, IfMemory, tracked}
use Rattle.gix_refspec.proofs.Common.{fetches_all_but_dev, tracks_all_but_dev, Outcome, AreForward, AreBackward}
use Rattle.gix_refspec.proofs.Common.{AreKeptForward, AreKeptBackward, IsOutcome, Maps}
use Rattle.gix_refspec.proofs.facts.KeptFacts.{group, remote_refs, tracking_refs}
use Rattle.bstr.specs.Utf8.{pieces_from}
use Rattle.gix_refspec.specs.declared.match_group.validate.Error.{Error}
use Rattle.gix_refspec.specs.declared.match_group.validate.Issue.TheVariants.{Conflict as ConflictIssue}
use Rattle.gix_refspec.specs.declared.match_group.validate.Refusal.TheVariants.{Conflicts, Memory}
use Rattle.gix_refspec_match.proofs.lemmas.hits.HitLemmas.{one_forward, one_backward}
use Rattle.gix_refspec_match.specs.declared.types.SourceRef.TheVariants.{FullName, ObjectId as IdSource}
use Rattle.gix_refspec_text.proofs.facts.ViewFacts.{lent, Accepted, spec_of, owned_of, blob_id}
use Rattle.gix_refspec_text.specs.declared.oid.ObjectId.{ObjectId}
use Rattle.gix_refspec_text.specs.declared.spec.RefSpec.{accepted-type}
use Rattle.std.specs.Char.{encode_utf8}
use Rattle.std.specs.Iterator.{YieldsFirst, Drains}
use Rattle.gix_refspec_text.specs.declared.types.Mode.TheVariants as mode

abbrev lent_name : List ℕ → NameRef
lent_name x = Borrowed (lent x)

-- the source of a mapping is a name or an id: a name with the bytes of an id isn't an id. An id is printed in lower
-- case, a name that is UTF-8, like `ä`, unchanged, and U+FFFD replaces a byte that isn't UTF-8
pub names_seen : (name_bytes (lent_name (codes "main")) ≡ codes "main")
    × ((o : BString) → bstring_bytes o ≡ codes "main" → name_bytes (Owned o) ≡ codes "main")
    × (start_of (FullName (lent_name (codes "refs/heads/main"))) ≡ name (codes "refs/heads/main"))
    × (start_of (IdSource blob_id) ≡ id empty_blob)
    × (start_of (FullName (lent_name empty_blob)) ≢ start_of (IdSource blob_id))
    × (text_of_source (IdSource blob_id) ≡ codes "e69de29bb2d1d6434b8b29ae775ad8c2e48c5391")
    × (text_of_source (FullName (lent_name (0xC3 ∷ 0xA4 ∷ []))) ≡ 0xC3 ∷ 0xA4 ∷ [])
    × (text_of_source (FullName (lent_name (codes "a" ++ 0xFF ∷ codes "b"))) ≡ codes "a" ++ 239 ∷ 191 ∷ 189
    ∷ codes "b")
unfolding pieces_from encode_utf8
names_seen = (refl, (λ o is. is), refl, refl, (λ same. cc), lower_of-empty_blob, refl, refl)

abbrev item_of : ObjectId → Option ObjectId → Item
item_of target object = record {
  full_ref_name = lent (codes "refs/tags/v1");
  target =
      record { ref_ptr = (0, 0); now = target };
  object = option_map (λ o. record { ref_ptr = (0, 0); now = o }) object;
}

abbrev branch : Mapping
branch = record {
  item_index = Some 3;
  lhs = FullName (lent_name (codes "refs/heads/a"));
  rhs =
      Some (lent_name (codes "refs/x/a"));
  spec_index = 5;
}

-- the object of a tag isn't its target, and may be missing. The indexes of the item and of the spec aren't swapped, nor
-- are the source and the destination, and a push isn't a fetch
pub mappings_seen :
    (ref_of (item_of (record { kind = Sha1; buffer = replicate 32 1 }) (Some blob_id))
    ≡ record { name = codes "refs/tags/v1"; target = replicate 20 1; object = Some empty_blob })
    × (ref_of (item_of blob_id None) ≡ record { name = codes "refs/tags/v1"; target = empty_blob; object = None })
    × (mapped_of branch ≡ mapping 3 (codes "refs/heads/a") (Some (codes "refs/x/a")) 5)
    × (mapped_of (record { item_index = None; lhs = IdSource blob_id; rhs = None; spec_index = 1 })
    ≡ record { item = None; source = id empty_blob; destination = None; spec = 1 })
    × ((o : ForwardOutcome) → o.mappings.items ≡ branch ∷ record {
      item_index = None;
      lhs = IdSource blob_id;
      rhs =
          None;
      spec_index = 1;
    } ∷ []
    → mappings_of o ≡ mapping 3 (codes "refs/heads/a") (Some (codes "refs/x/a")) 5 ∷ record {
      item = None;
      source =
          id empty_blob;
      destination = None;
      spec = 1;
    } ∷ [])
    × (is_same_operation Push Push ∷ is_same_operation Push Fetch ∷ is_same_operation Fetch Push ∷ is_same_operation
    Fetch Fetch ∷ [] ≡ true ∷ false ∷ false ∷ true ∷ [])
mappings_seen = (refl, refl, refl, refl, (λ o are. ap (map mapped_of) are), refl)

abbrev Gathers : List RefSpecRef → MatchGroup → Type 0
Gathers = IsGathered (λ source it. it ≡ source) (YieldsFirst (λ rest. rest)) Fetch

-- and yields no others
given : (it all : List RefSpecRef) → Drains (YieldsFirst (λ rest. rest)) it all → all ≡ it
given it [] (_, (_, same, none)) = sym (same ∙ none.0)
given it (x ∷ xs) (last, (before, (rest, first, later), none)) = cc (given rest xs (last, (before, later, none)), first)

module _ (a : Accepted Fetch mode.Normal (Some (codes "a")) None)
    (b : Accepted Push mode.Normal (Some (codes "b")) None)
    (c : Accepted Fetch mode.Force (Some (codes "c")) (Some (codes "d"))) where
  abbrev all_specs : List RefSpecRef
  all_specs = spec_of Fetch mode.Normal (Some (codes "a")) None a ∷ spec_of Push mode.Normal (Some (codes "b")) None b
      ∷ spec_of Fetch mode.Force (Some (codes "c")) (Some (codes "d")) c ∷ []

  abbrev fetches : List RefSpecRef
  fetches = spec_of Fetch mode.Normal (Some (codes "a")) None a ∷ spec_of Fetch mode.Force (Some (codes "c"))
      (Some (codes "d")) c ∷ []

  -- a group of fetches gathers the two fetches among these, in order, and nothing else: not one alone, nor both in the
  -- other order, nor all three
  pub group_seen : (map (is_for Fetch) all_specs ≡ true ∷ false ∷ true ∷ [])
      × (map (is_for Push) all_specs ≡ false ∷ true ∷ false ∷ [])
      × ((g : MatchGroup)
      → (g.specs.items ≡ all_specs
      → (readings_of g ≡ fetched Normal (codes "a") None ∷ pushed Normal (Some (codes "b")) None ∷ fetched Forced
      (codes "c") (Some (codes "d")) ∷ [])
      × ¬ (Gathers all_specs g)) × (g.specs.items ≡ fetches → Gathers all_specs g)
      × (Gathers all_specs g → g.specs.items ≡ fetches))
  group_seen =
      let no_other = λ (g : MatchGroup) (gathered : Gathers all_specs g). gathered.specs ∙ ap (filter (is_for Fetch))
      (given gathered.iterator gathered.all gathered.given ∙ gathered.made) in
      let gathers : (g : MatchGroup) → g.specs.items ≡ fetches → Gathers all_specs g = λ g are.
      record {
        iterator = all_specs;
        all = all_specs;
        made = refl;
        given =
            ([], ([], (_, refl, (_, refl, (_, refl, refl))), (refl, refl)));
        specs = are;
      } in (
        refl,
        refl,
        λ g. (
          (λ are. (ap (map reading_of) are, λ gathered. cc (no_other g gathered, are))),
          gathers g,
          no_other g,
        ),
      )

-- the sources of a conflict and the texts of specs are in order, and none is taken for another
pub conflicts_seen : ((d t u : BString) (sources : Vec SourceRef Global) (texts : Vec BString Global)
    → sources.items ≡ FullName (lent_name (codes "refs/heads/a")) ∷ IdSource blob_id ∷ [] → texts.items ≡ t ∷ u ∷ []
    → conflict_of (ConflictIssue d sources texts) ≡ record {
      destination = bstring_bytes d;
      sources =
          name (codes "refs/heads/a") ∷ id empty_blob ∷ [];
      texts = bstring_bytes t ∷ bstring_bytes u ∷ [];
    })
    × ((e : Error) (i j : Issue) → e.issues.items ≡ i ∷ j ∷ [] → conflicts_of e ≡ conflict_of i ∷ conflict_of j ∷ [])
conflicts_seen = ((λ d t u sources texts come say. rw (come, say)), λ e i j are. ap (map conflict_of) are)

-- `IfConflicts` is about the error's conflicts, `IfMemory` about the outcome; each holds for the other reason, whatever
-- the predicate is
pub claims : ((e : Error) → ((P : List Conflict → Type 0) → (IfConflicts (Conflicts e) P → P (conflicts_of e))
    × (P (conflicts_of e) → IfConflicts (Conflicts e) P)) × IfMemory (Conflicts e) (λ outcome. ⊥))
    × ((o : ForwardOutcome)
    → ((Q : ForwardOutcome → Type 0) → (IfMemory (Memory o) Q → Q o) × (Q o → IfMemory (Memory o) Q))
    × IfConflicts (Memory o) (λ conflicts. ⊥))
claims = ((λ e. ((λ P. ((λ is. is), λ is. is)), tt)), λ o. ((λ Q. ((λ is. is), λ is. is)), tt))

module _ (n m o : BString) (alone : accepted-type Fetch mode.Normal (Some o) None)
    (forced : accepted-type Fetch mode.Force (Some o) None) (same_name : accepted-type Push mode.Normal (Some o) None)
  where
    abbrev fix : BString → Fix
    fix d = MappingWithPartialDestinationRemoved d (owned_of Fetch mode.Normal (Some o) None alone)

    -- fixes are the same exactly if their specs mean the same and the bytes of their destinations are equal
    pub same_fixes :
        (removed_of (MappingWithPartialDestinationRemoved n (owned_of Fetch mode.Force (Some o) None forced))
        ≡ record { destination = bstring_bytes n; spec = fetched Forced (bstring_bytes o) None })
        × IsSameFix (MappingWithPartialDestinationRemoved n (owned_of Fetch mode.Force (Some o) None forced)) (fix n)
        × (bstring_bytes n ≡ bstring_bytes m → IsSameFix (fix n) (fix m))
        × ¬ (IsSameFix (fix n)
        (MappingWithPartialDestinationRemoved n (owned_of Push mode.Normal (Some o) None same_name)))
        × (bstring_bytes n ≢ bstring_bytes m → ¬ (IsSameFix (fix n) (fix m)))
    same_fixes = (
      refl,
      record { destination = refl; spec = refl },
      (λ same. record { destination = same; spec = refl }),
      (λ same. cc (same.spec)),
      λ differ same. differ same.destination,
    )

-- for a group with a spec for all branches and one without those that begin `dev-`, an outcome has the unchanged group,
-- and the one branch that is kept, so that memory may be needed for mappings
pub main_mapped : (g : MatchGroup) (items : List Item) → readings_of g ≡ group
    → (map ref_of items ≡ remote_refs → ((o : Outcome 1) → IsOutcome AreKeptForward g items o → (o.group ≡ g)
    × (map mapped_of o.mappings.items ≡ tracked 2 (codes "main") ∷ [])) × ¬ (Maps AreForward g items []))
    × (map ref_of items ≡ tracking_refs → ((o : Outcome 0) → IsOutcome AreKeptBackward g items o → (o.group ≡ g)
    × (map mapped_of o.mappings.items ≡ tracked 1 (codes "main") ∷ [])) × ¬ (Maps AreBackward g items []))
main_mapped g items specs = (
  (λ refs. let one = λ (l : List Mapped) (are : AreKeptForward group remote_refs l). one_forward group remote_refs l _
      are fetches_all_but_dev in (
        (λ o is. (is.0, one _ (rw (specs, refs) at is.1))),
        λ none. cc (one [] (record { all = []; forward = rw (specs, refs) at none; is = refl })),
      )),
  λ refs. let one = λ (l : List Mapped) (are : AreKeptBackward group tracking_refs l). one_backward group tracking_refs
      l _ are tracks_all_but_dev in (
        (λ o is. (is.0, one _ (rw (specs, refs) at is.1))),
        λ none. cc (one [] (record { all = []; backward = rw (specs, refs) at none; is = refl })),
      ),
)
