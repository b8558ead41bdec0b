-- Examples of what the configuration of a remote asks for, each on one side of a border.
use Rattle.gix_refspec_lint.proofs.Common.{◌≢◌, inl, inr, ℕ, true, false, List, [], ◌∷◌, ◌++◌, Option, Some, codes}
use Rattle.gix_refspec_lint.proofs.Common.{refl, subst, arith, same_Some, of_element, every, heads_split, split_at_end}
use Rattle.gix_refspec_lint.proofs.Common.{other_byte, other_first, Lacks-tested, lacks_no_pattern, one_name}
use Rattle.gix_refspec_lint.proofs.Common.{BeginsWith, the_name, HasKind, full_name, Ref, fetched, Forced, Normal}
use Rattle.gix_refspec_lint.proofs.Common.{Reading, head, star, Source, id, name, IsExcluded, IsExcludedBy, IsRefName}
use Rattle.gix_refspec_lint.proofs.Common.{CanBeWritten, IsCompleted, ref_named, AreStorable, ConflictOver, DoesBefore}
use Rattle.gix_refspec_lint.proofs.Common.{Example, Fetches, IsAlwaysEarlier, IsExample, IsIdleBy, IsIdleExclusion}
use Rattle.gix_refspec_lint.proofs.Common.{Maps, MapsSoundly, refs_of, specs_of}
use Rattle.gix_refspec_lint.proofs.facts.LintFacts.{below, both, completed_as, every_never, full_name_idle, heads_seven}
use Rattle.gix_refspec_lint.proofs.facts.LintFacts.{made_by, main_twice, maps_in, no, seven}
use Rattle.gix_refspec_lint.proofs.lemmas.PatternLemmas.{spec_made, two_patterns}
use Rattle.gix_refspec_lint.proofs.lemmas.SourceLemmas.{sources_there}
use Rattle.gix_refspec_lint.proofs.lemmas.StorableLemmas.{pair_storable}
use Rattle.gix_refspec_lint.proofs.lemmas.RequiredLemmas.{dispensable_by, had_itself, had_next, named_are, none_had}
use Rattle.gix_refspec_lint.proofs.lemmas.RequiredLemmas.{required_by}
use Rattle.gix_refspec_plan.proofs.lemmas.plan.MadeLemmas.{one_in}
use Rattle.gix_refspec_text.specs.Specs.Reading.{all_tags}
use Rattle.gix_refspec_lint.specs.Matching.Lint.{FetchesBeside, IsCoveredBy, IsDispensable, IsRequired}
use Rattle.gix_refspec_lint.specs.Private.Idles.{AreNamed, AreValidOf}
use Rattle.gix_refspec_lint.specs.declared.Reason.TheVariants as reason

-- a ref and one in a directory of its name can't both be there, but a name and one that is longer can
pub storable : ¬ (AreStorable (ref_named (codes "refs/heads/a") ∷ ref_named (codes "refs/heads/a/y") ∷ []))
    × AreStorable (ref_named (codes "refs/heads/a") ∷ ref_named (codes "refs/heads/ab") ∷ [])
storable = (
  (λ all. all (codes "refs/heads/a") (codes "refs/heads/a/y") (inl refl) (inr (inl refl))
      (record { after = codes "y"; here = refl })),
  pair_storable (codes "refs/heads/a") (codes "refs/heads/ab")
      (λ d. other_byte 12 (codes "refs/heads/ab") (codes "refs/heads/a/" ++ d.after)
      (λ equal. omega (arith, equal)) d.here)
      (λ d. other_byte 12 (codes "refs/heads/a") (codes "refs/heads/ab/" ++ d.after)
      (λ equal. omega (arith, equal)) d.here),
)

abbrev in_directory : List Reading
in_directory =
    fetched Forced (codes "refs/heads/a") (Some (codes "refs/x/y")) ∷ fetched Forced (codes "refs/heads/a/*")
    (Some (codes "refs/x/*")) ∷ []

-- so these two don't conflict
pub none_in_directory : ¬ (ConflictOver in_directory
    (refs_of (name (codes "refs/heads/a")) ++ refs_of (name (codes "refs/heads/a/y"))) 0 1
    (name (codes "refs/heads/a")) (name (codes "refs/heads/a/y")) (codes "refs/x/y"))
none_in_directory c = storable.0 c.storable

-- ---- all tags

abbrev to_tags : Reading
to_tags = fetched Forced (codes "refs/heads/*") (Some (codes "refs/tags/*"))

abbrev of_tag : Example
of_tag =
    record {
      first = 0;
      second = 1;
      one = name (codes "refs/heads/v1");
      other = name (codes "refs/tags/v1");
      destination = codes "refs/tags/v1";
    }

-- branches that are written to tags conflict with these, where all are asked for, and else not
pub tags_conflict : IsExample (specs_of (record { values = to_tags ∷ []; merges = []; tags = true })) 0 1 of_tag
    × ¬ (IsExample (specs_of (record { values = to_tags ∷ []; merges = []; tags = false })) 0 1 of_tag)
tags_conflict =
    let g = to_tags ∷ all_tags ∷ [] in
    let refs = refs_of of_tag.one ++ refs_of of_tag.other in
    let tags_split = split_at_end (codes "refs/tags/") refl in
    let one : MapsSoundly g refs 0 of_tag.one (Some of_tag.destination) =
    maps_in Forced tt (codes "refs/heads/") [] (codes "refs/tags/") [] (codes "v1") heads_split tags_split refs
    (inl refl) g 0 refl (inl (below (codes "heads/v1") refl)) (below (codes "tags/v1") refl) in
    let other : MapsSoundly g refs 1 of_tag.other (Some of_tag.destination) =
    maps_in Normal tt (codes "refs/tags/") [] (codes "refs/tags/") [] (codes "v1") tags_split tags_split refs
    (inr (inl refl)) g 1 refl (inl (below (codes "tags/v1") refl)) (below (codes "tags/v1") refl) in
    let apart = pair_storable (codes "refs/heads/v1") (codes "refs/tags/v1")
    (λ d. other_byte 5 (codes "refs/tags/v1") (codes "refs/heads/v1/" ++ d.after)
    (λ equal. omega (arith, equal)) d.here)
    (λ d. other_byte 5 (codes "refs/heads/v1") (codes "refs/tags/v1/" ++ d.after)
    (λ equal. omega (arith, equal)) d.here) in
    let differ : name (codes "refs/heads/v1") ≢ name (codes "refs/tags/v1") = λ same. other_byte 5
    (codes "refs/heads/v1") (codes "refs/tags/v1") (λ equal. omega (arith, equal)) (one_name _ _ same) in
    let included : (n : List ℕ) → ¬ (IsExcluded g n) = λ n by. grind arith in
    let conflict : ConflictOver g refs 0 1 of_tag.one of_tag.other of_tag.destination =
    record {
      storable = apart;
      one = record { maps = one; included = included _ };
      other = record { maps = other; included = included _ };
      differ = differ;
    } in (
      record { first = refl; second = refl; order = omega arith; conflict = conflict },
      λ shown. let at = shown.conflict.other.maps.maps.at in cc (at),
    )

-- ---- merged refs

abbrev main_alone : Reading
main_alone = fetched Forced (codes "refs/heads/main") (Some (codes "refs/x/main"))

abbrev no_dev : Reading
no_dev = no (codes "refs/heads/dev")

dev_excluded : IsExcludedBy (codes "refs/heads/dev") no_dev
dev_excluded =
    record {
      negative = refl;
      text = codes "refs/heads/dev";
      source = refl;
      excludes = the_name (Lacks-tested star (codes "refs/heads/dev") refl) refl;
    }

-- a negative spec that excludes a merged ref isn't idle, be its value full or short; nor is one of `HEAD` where the
-- value is empty
pub excludes_merged : ¬ (IsIdleExclusion (main_alone ∷ no_dev ∷ []) (codes "refs/heads/dev" ∷ []) no_dev)
    × ¬ (IsIdleExclusion (main_alone ∷ no_dev ∷ []) (codes "dev" ∷ []) no_dev)
    × ¬ (IsIdleExclusion (main_alone ∷ no head ∷ []) ([] ∷ []) (no head))
excludes_merged =
    let valid : IsRefName (codes "refs/heads/dev") = inl (below (codes "heads/dev") refl) in
    let no_head : IsExcludedBy head
    (no head) = record {
      negative = refl;
      text = head;
      source = refl;
      excludes = the_name (Lacks-tested star head refl) refl;
    } in (
      (λ idle. idle.merged (codes "refs/heads/dev")
          (record {
            value = codes "refs/heads/dev";
            has = (0, omega arith, refl);
            candidate = (0, omega arith, refl);
            valid = valid;
          }) dev_excluded),
      (λ idle. idle.merged (codes "refs/heads/dev")
          (record {
            value = codes "dev";
            has = (0, omega arith, refl);
            candidate = (3, omega arith, refl);
            valid = valid;
          }) dev_excluded),
      (λ idle. idle.merged head (record {
        value = [];
        has = (0, omega arith, refl);
        candidate = (0, omega arith, refl);
        valid = inr refl;
      }) no_head),
    )

-- ---- required specs

abbrev gone : Reading
gone = fetched Forced (codes "refs/heads/gone") (Some (codes "refs/x/gone"))

gone_kind : HasKind (codes "refs/heads/gone") (full_name (codes "refs/heads/gone"))
gone_kind = (refl, Lacks-tested star (codes "refs/heads/gone") refl, record { after = codes "heads/gone"; here = refl })

gone_named : AreNamed gone (codes "refs/heads/gone" ∷ [])
gone_named =
    let x = codes "refs/heads/gone" in
    let are : AreValidOf (x ∷ []) (x ∷ []) = record {
      has = λ n there good. there;
      only = λ n there. (there, of_element IsRefName (x ∷ []) n (inl (below (codes "heads/gone") refl), tt) there);
    } in
    named_are gone x (full_name x) (x ∷ []) (x ∷ []) tt refl gone_kind (inl gone_kind) refl are

-- one whose ref may be gone is required beside a pattern, which is never missing
pub required : IsRequired (every ∷ gone ∷ []) 1 × ¬ (IsDispensable (every ∷ gone ∷ []) 1)
required =
    let g = every ∷ gone ∷ [] in
    let names = codes "refs/heads/gone" ∷ [] in
    let had = had_itself g 1 names 1 refl (had_next g 1 names 0 every refl (inl every_never) (none_had g 1 names)) in
    let need : IsRequired g 1 = required_by g 1 gone names 2 refl gone_named (omega arith) had in
    (need, λ free. let (j, other, l) = free need.refs need.valid need.lacks in need.alone j other l)

-- but of two equal ones neither is
pub not_required : IsDispensable (gone ∷ gone ∷ []) 1 × ¬ (IsRequired (gone ∷ gone ∷ []) 1)
not_required =
    let g = gone ∷ gone ∷ [] in (
      dispensable_by g 1 gone refl 0 gone refl (λ same. omega (arith, same)) (λ refs fine l. l),
      (λ need. need.alone 0 (λ same. omega (arith, same))
          (record { reading = need.lacks.reading; at = need.lacks.at; lacks = need.lacks.lacks })),
    )

-- ---- which earlier spec covers all

abbrev one_pull : Reading
one_pull = fetched Forced (codes "refs/heads/pr/7") (Some (codes "refs/remotes/origin/pr/7"))

abbrev behind_two : List Reading
behind_two = one_pull ∷ every ∷ every ∷ []

-- the spec that is named maps all, and not only one ref
pub covered_by : IsIdleBy behind_two 2 (reason.Duplicate 1) × ¬ (IsIdleBy behind_two 2 (reason.Duplicate 0))
covered_by =
    let included : (n : List ℕ) → ¬ (IsExcluded behind_two n) = λ n by. grind arith in
    let always : IsCoveredBy behind_two 2 1 = λ refs s d valid f. let m = f.maps.maps in record {
      reading = _;
      at = m.at;
      completed = _;
      is = m.is;
      makes = m.makes;
    } in
    let second : Fetches behind_two both 2 seven.one
    (Some seven.destination) = record { maps = heads_seven behind_two 2 refl; included = included _ } in
    let shown : DoesBefore behind_two 2 1 = record {
      refs = both;
      source = _;
      destination = _;
      fetches = second;
      before = omega arith;
      maps = (heads_seven behind_two 1 refl).maps;
    } in (
      (always, shown),
      λ is. only_seven
          (is.0 refs_of_eight eight (Some (codes "refs/remotes/origin/pr/8")) (
            inl (below (codes "heads/pr/8") refl),
            tt,
          )
          (record { maps = maps_eight; included = included _ })),
    )
  where
    eight : Source
    eight = name (codes "refs/heads/pr/8")

    refs_of_eight : List Ref
    refs_of_eight = refs_of (name (codes "refs/heads/pr/8"))

    maps_eight : MapsSoundly behind_two (refs_of (name (codes "refs/heads/pr/8"))) 2 (name (codes "refs/heads/pr/8"))
        (Some (codes "refs/remotes/origin/pr/8"))
    maps_eight =
        maps_in Forced tt (codes "refs/heads/") [] (codes "refs/remotes/origin/") [] (codes "pr/8") heads_split
        (split_at_end (codes "refs/remotes/origin/") refl)
        (refs_of (name (codes "refs/heads/pr/8"))) (inl refl) behind_two 2 refl
        (inl (below (codes "heads/pr/8") refl)) (below (codes "remotes/origin/pr/8") refl)

    only_seven : {refs : List Ref} {d : Option (List ℕ)} → ¬ (Maps behind_two refs 0 (name (codes "refs/heads/pr/8")) d)
    only_seven {refs} {d} maps =
        let seven_is = codes "refs/heads/pr/7" in
        let kind : HasKind seven_is (full_name seven_is) = (
          refl,
          Lacks-tested star seven_is refl,
          record { after = codes "heads/pr/7"; here = refl },
        ) in
        let done : IsCompleted one_pull one_pull = record {
          operation = refl;
          mode = refl;
          source = refl;
          destination = inr (Lacks-tested star (codes "refs/remotes/origin/pr/7") refl, refl);
        } in
        let makes = made_by one_pull refl done maps in
        let is = one_in (name seven_is) (name (codes "refs/heads/pr/8"))
        (sources_there one_pull seven_is refl refs d (full_name seven_is) _ kind
        (λ b a. lacks_no_pattern seven_is b a kind.1) refl (name (codes "refs/heads/pr/8")) makes) in
        other_byte 14 (codes "refs/heads/pr/8") (codes "refs/heads/pr/7") (λ equal. omega (arith, equal))
        (one_name _ _ is)

-- what comes later is no earlier spec
pub first_not_idle : ¬ (IsAlwaysEarlier (every ∷ every ∷ []) 0)
first_not_idle always =
    let sound = heads_seven (every ∷ every ∷ []) 0 refl in
    let included : (n : List ℕ) → ¬ (IsExcluded (every ∷ every ∷ []) n) = λ n by. grind arith in
    let (h, before, maps) = always both seven.one (Some seven.destination)
    (inl (below (codes "heads/pr/7") refl), (inl (below (codes "pull/7/head") refl), tt))
    (record { maps = sound; included = included _ }) in
    omega (arith, before)

-- over valid refs the first of two maps what the second fetches; over a ref `main`, whose name isn't valid, it wouldn't
pub nothing_beside : ¬ (FetchesBeside main_twice 1 0)
nothing_beside f = f.unmapped (full_name_idle.0 f.refs f.source f.destination f.valid f.fetches)

-- ---- invalid destinations

abbrev tracking : Reading
tracking = fetched Forced (codes "refs/heads/*") (Some (codes "tracking/*"))

-- a pattern whose destinations aren't below `refs/` maps nothing
pub never_written : IsIdleBy (tracking ∷ []) 0 reason.Invalid
never_written refs (id bytes) d m =
    let makes = made_by tracking refl (completed_as _ (codes "tracking/") []) m.maps in
    makes.object.1 (subst (BeginsWith (codes "refs/")) (same_Some _ _ makes.side)
    (record { after = codes "heads/*"; here = refl }))
never_written refs (name n) d m =
    let makes = made_by tracking refl (completed_as _ (codes "tracking/") []) m.maps in
    let split = split_at_end (codes "tracking/") refl in
    let spec = two_patterns tracking (codes "refs/heads/") [] (codes "tracking/") [] _ tt
    (record { text = _; has = refl; split = heads_split }) refl split in
    let (w, is, far, there) = spec_made tracking (codes "refs/heads/") [] spec refs n d makes in
    let written = subst CanBeWritten far m.destination in
    other_first 116 (codes "racking/" ++ (w ++ [])) (λ same. omega (arith, same)) written.0

-- and a pattern with valid destinations isn't idle for that reason
pub written_once : ¬ (IsIdleBy (every ∷ []) 0 reason.Invalid)
written_once never = never both seven.one (Some seven.destination) (heads_seven (every ∷ []) 0 refl)
