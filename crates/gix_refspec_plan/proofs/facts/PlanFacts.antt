-- Examples of the definitions on plans: what Git completes and leaves out, what is asked for and missing, and the
-- verdicts.
use Rattle.gix_refspec_plan.proofs.Common.{Verdict, IsSound, ◌≡◌, inl, ℕ, true, false, List, [], ◌∷◌, None, Some, codes}
use Rattle.gix_refspec_plan.proofs.Common.{map, option_map, refl, arith, rules, false≢true, same_Some, bstr_bytes}
use Rattle.gix_refspec_plan.proofs.Common.{bstring_bytes, Normal, Forced, Reading, all_tags, fetched, fetched_alone}
use Rattle.gix_refspec_plan.proofs.Common.{with_destination, partial, Matches, reading_of, Mapped, AreMissing, start_of}
use Rattle.gix_refspec_plan.proofs.Common.{AreAsked, AreConfigured, AreLacking, AreMerges, AreThose, Asked}
use Rattle.gix_refspec_plan.proofs.Common.{CanBeWritten, HasSecondVerdict, HasVerdict, IsCarriedOut, IsCompleted}
use Rattle.gix_refspec_plan.proofs.Common.{IsContested, IsNegativeReading, IsPlannedBesides, IsPositiveReading}
use Rattle.gix_refspec_plan.proofs.Common.{IsTakenOver, IsUnwritableAt, MayBeMissing, Planned, tags_asked, HasOrigin}
use Rattle.gix_refspec_plan.proofs.Common.{asked_of, planned_of, wish_of, DeclaredAsked, Update, Written, LeftOut}
use Rattle.gix_refspec_plan.proofs.Common.{HasPair, IsPlanned, ◌∙◌, ap, sym, subst, AreNested, DirectoryConflict}
use Rattle.gix_refspec_plan.proofs.Common.{InConflict, IsDirectoryOf, IsObstructed, Overruled, inr, nothing_made}
use Rattle.gix_refspec_plan.proofs.Common.{Contains-push_cases, AllTags, Configured, Default, Given, Merge}
use Rattle.gix_refspec_plan.proofs.facts.ExampleLemmas.{alone, below, every, listed, merged, unobstructed}
use Rattle.gix_refspec_plan.proofs.lemmas.plan.DirectoryLemmas.{nested_once, not_itself}
use Rattle.gix_refspec_plan.proofs.facts.ExampleLemmas.{main_candidate, main_lacking, main_ref, mapping, no_dev}
use Rattle.gix_refspec_plan.proofs.facts.ExampleLemmas.{no_ref_names, one_in, one_merge, ref_names, whole_pattern}
use Rattle.gix_refspec_plan.proofs.facts.ExampleLemmas.{short, short_kind, sound, one, update}
use Rattle.gix_refspec_plan.proofs.lemmas.plan.SpecLemmas.{Merges}
use Rattle.gix_refspec_plan.proofs.lemmas.plan.CarriedLemmas.{tags_lack_nothing}
use Rattle.gix_refspec_plan.proofs.lemmas.plan.OnePlanLemmas.{reading_once}
use Rattle.gix_refspec_plan.specs.declared.Wish.{Wish as DeclaredWish}
use Rattle.gix_refspec_plan.specs.Matching.Plan.{IsTakenAt}
use Rattle.gix_refspec.specs.declared.match_group.ref_names.InvalidSide.TheVariants as invalid

abbrev to : List ℕ → ℕ → List ℕ → Mapped
to d item s = mapping item s (Some d) 0

-- mappings from two sources to refs/x, and the update by the first
abbrev pub ax : Mapped
ax = to (codes "refs/x") 0 (codes "refs/heads/a")

abbrev pub bx : Mapped
bx = to (codes "refs/x") 1 (codes "refs/heads/b")

abbrev pub from_a : Verdict → Planned
from_a v = update ax 0 (Given 0) v

abbrev from_bad : Mapped
from_bad = to (codes "refs/x") 2 (codes "refs/../x")

-- a destination may be missing, and has to begin `refs/`
pub writable : CanBeWritten None × CanBeWritten (Some (codes "refs/heads/main"))
    × ¬ (CanBeWritten (Some (codes "HEAD"))) × ¬ (CanBeWritten (Some (codes "refs/../x")))
writable = (tt, below _ refl, (λ can. cc (can.0.here)), λ can. no_ref_names.2 (inl can))

-- `HEAD` is a source, but no destination
pub sides : IsUnwritableAt invalid.Destination (to (codes "HEAD") 0 (codes "HEAD"))
    × IsUnwritableAt invalid.Source from_bad × IsUnwritableAt invalid.Both (to (codes "HEAD") 2 (codes "refs/../x"))
    × ¬ (IsUnwritableAt invalid.Both (to (codes "HEAD") 0 (codes "HEAD")))
    × ¬ (IsUnwritableAt invalid.Destination from_bad)
    × ¬ (IsUnwritableAt invalid.Source (to (codes "HEAD") 2 (codes "refs/../x")))
    × ¬ (IsUnwritableAt invalid.Destination ax)
sides = let whole : IsSound ax = sound _ _ refl refl in search (rules, arith, writable, no_ref_names, whole)

-- each negative spec and each positive one has its index among all
pub parts : AreThose IsPositiveReading Given (no_dev ∷ every ∷ []) (listed every (Given 1) ∷ [])
    × AreThose IsNegativeReading Given (no_dev ∷ every ∷ []) (listed no_dev (Given 0) ∷ [])
parts = (
  (None, _, (λ a both. both.1), (Some _, [], (refl, tt), refl, refl), refl),
  (Some _, [], (refl, refl), (None, [], (λ a both. cc (both.1)), refl, refl), refl),
)

abbrev main_to : List ℕ → Reading
main_to d = fetched Normal (codes "main") (Some d)

-- `refs/` is put before `heads/x`, and `refs/heads/` before `x`; other destinations stay, and so do patterns; `heads/x`
-- isn't
-- completed as `match_lhs` fills it, and `x` not without a change
pub completed : IsCompleted (main_to (codes "heads/x")) (main_to (codes "refs/heads/x"))
    × IsCompleted (main_to (codes "x")) (main_to (codes "refs/heads/x"))
    × IsCompleted (main_to (codes "refs/x")) (main_to (codes "refs/x")) × IsCompleted every every
    × IsCompleted (fetched_alone (codes "main")) (fetched_alone (codes "main"))
    × ¬ (IsCompleted (main_to (codes "heads/x")) (main_to (codes "refs/heads/heads/x")))
    × ¬ (IsCompleted (main_to (codes "x")) (main_to (codes "x")))
completed =
    let whole : IsCompleted every every = whole_pattern (codes "refs/remotes/origin/") in
    let full : IsCompleted (main_to (codes "x")) (main_to (codes "refs/heads/x")) = search (rules, arith) in (
      search (rules, arith),
      full,
      search (rules, arith),
      whole,
      search (rules, arith),
      (λ is. grind arith),
      λ is. grind (arith, reading_once _ _ _ full is),
    )

-- a merged ref is fetched by its full name, and once; no other value is, nor is one that a spec fetches already, but a
-- mapping
-- that is left out fetches nothing
pub uncovered : AreMerges (codes "refs/heads/main" ∷ codes "main" ∷ codes "refs/heads/main" ∷ []) []
    (merged (codes "refs/heads/main") ∷ [])
    × AreMerges (codes "refs/heads/a" ∷ []) (ax ∷ []) [] × ¬ (AreMerges (codes "refs/heads/a" ∷ []) (bx ∷ []) [])
    × AreMerges (codes "refs/heads/a" ∷ []) (to (codes "HEAD") 0 (codes "refs/heads/a") ∷ [])
    (merged (codes "refs/heads/a") ∷ [])
uncovered = (
  (
    Some _,
    [],
    (refl, ref_names.0, (λ covers. grind arith), λ has. grind arith),
    (
      None,
      [],
      (λ a told. no_ref_names.0 told.1),
      (None, [], (λ a told. told.3 (0, omega arith, refl)), refl, refl),
      refl,
    ),
    refl,
  ),
  (None, [], (λ a told. told.2 (ax, (0, omega arith, refl), sound _ _ refl refl, refl)), refl, refl),
  (λ made. nothing_made (Merges (codes "refs/heads/a" ∷ []) (bx ∷ [])) 0 [] (codes "refs/heads/a") [] _ made
      (refl, (inl (below (codes "heads/a") refl)), (λ covers. grind (arith, one_in)), λ has. grind arith)),
  one_merge _ (to (codes "HEAD") 0 (codes "refs/heads/a") ∷ []) (inl (below (codes "heads/a") refl))
      (λ o. writable.2 (one o.1 o.2).destination),
)

-- what a spec of the call maps but leaves out isn't taken
pub not_taken : ¬ (IsTakenAt (to (codes "HEAD") 0 (codes "refs/heads/a") ∷ []) 0)
not_taken (m, has, is, at) = writable.2 (one has is).destination

-- all tags are asked for beside what is configured too
pub asked : AreAsked (record { given = []; configured = every ∷ []; merges = []; tags = true }) []
    (listed every (Configured 0) ∷ listed all_tags AllTags ∷ [])
asked = AreAsked.without _ refl
    (AreConfigured.by_configuration _ [] (inl (λ none. cc)) (Some _, [], (refl, tt), refl, refl)
    (inl (refl, refl)) refl) refl

-- all tags are asked for behind the specs of the call
pub asked_behind : AreAsked (record { given = every ∷ []; configured = []; merges = []; tags = true }) []
    (listed every (Given 0) ∷ listed all_tags AllTags ∷ [])
asked_behind = AreAsked.by_call _ (λ none. cc) (Some _, [], (refl, tt), refl, refl) refl

-- another source with the same destination makes a conflict, but not if its name is no ref name, or the destination
-- another
pub apart : HasVerdict (ax ∷ bx ∷ []) (ax ∷ bx ∷ []) ax InConflict × HasVerdict (ax ∷ []) (ax ∷ []) ax Written
    × HasVerdict (from_bad ∷ []) (from_bad ∷ []) ax Written
    × ¬ (HasVerdict (ax ∷ bx ∷ []) [] ax Written) × ¬ (HasVerdict (ax ∷ []) (ax ∷ []) ax InConflict)
    × ¬ (HasVerdict (ax ∷ to (codes "refs/y") 1 (codes "refs/heads/b") ∷ []) [] ax InConflict)
apart =
    let by_b : IsContested (ax ∷ bx ∷ []) ax = (
      bx,
      (1, omega arith, refl),
      sound _ _ refl refl,
      (_, refl, refl),
      λ same. grind arith,
    ) in
    let no_bad : ¬ (IsContested (from_bad ∷ []) ax) = λ o. no_ref_names.2 (one o.1 o.2).source in
    let no_y : ¬ (IsContested (ax ∷ to (codes "refs/y") 1 (codes "refs/heads/b") ∷ []) ax) =
    λ (n, has, s, share, differ). grind (arith, one_in, Contains-push_cases (ax ∷ []) _ n has) in
    let clear : ¬ (IsObstructed (from_bad ∷ []) ax) = λ o. no_ref_names.2 (one o.1 o.2).source in (
      (sound _ _ refl refl, by_b),
      (sound _ _ refl refl, alone ax, unobstructed ax),
      (sound _ _ refl refl, no_bad, clear),
      (λ is. is.1 by_b),
      (λ is. alone ax is.1),
      λ is. no_y is.1,
    )

-- an invalid side comes before all other verdicts; what is fetched to the destination of another mapping wins over it,
-- and isn't a
-- conflict; but a mapping that is left out doesn't win
pub not_overruled : HasVerdict (bx ∷ []) [] from_bad (LeftOut invalid.Source)
    × ¬ (HasVerdict (bx ∷ []) [] from_bad InConflict) × ¬ (HasSecondVerdict (bx ∷ []) [] [] from_bad Overruled)
    × HasSecondVerdict (ax ∷ []) (bx ∷ []) [] bx Overruled × ¬ (HasSecondVerdict (ax ∷ []) (bx ∷ []) [] bx Written)
    × ¬ (HasSecondVerdict (ax ∷ []) (ax ∷ bx ∷ []) [] bx InConflict)
    × HasSecondVerdict (from_bad ∷ []) (bx ∷ []) (bx ∷ []) bx Written
    × ¬ (HasSecondVerdict (from_bad ∷ []) (bx ∷ []) [] bx Overruled)
not_overruled =
    let by_a : IsTakenOver (ax ∷ []) bx = (ax, (0, omega arith, refl), sound _ _ refl refl, (_, refl, refl)) in
    let no_bad : ¬ (IsTakenOver (from_bad ∷ []) bx) = λ o. no_ref_names.2 (one o.1 o.2).source in (
      sides.1,
      (λ is. no_ref_names.2 is.0.source),
      (λ is. no_ref_names.2 is.0.source),
      (sound _ _ refl refl, by_a),
      (λ is. is.1 by_a),
      (λ is. is.1 by_a),
      (sound _ _ refl refl, no_bad, alone bx, unobstructed bx),
      λ is. no_bad is.1,
    )

-- refs/x/y, and refs/xy
abbrev pub to_y : Mapped
to_y = to (codes "refs/x/y") 1 (codes "refs/heads/b")

abbrev to_xy : Mapped
to_xy = to (codes "refs/xy") 1 (codes "refs/heads/b")

-- a name is a directory of those that begin with it and `/`, at any depth, and of no other: not of itself, nor of one
-- that only begins
-- with it; both are nested, in either order
pub directories : IsDirectoryOf (codes "refs/x") (codes "refs/x/y") × IsDirectoryOf (codes "refs/x")
    (codes "refs/x/y/z") × ¬ (IsDirectoryOf (codes "refs/x") (codes "refs/x"))
    × ¬ (IsDirectoryOf (codes "refs/x") (codes "refs/xy")) × ¬ (IsDirectoryOf (codes "refs/x/y") (codes "refs/x"))
    × AreNested (codes "refs/x") (codes "refs/x/y") × AreNested (codes "refs/x/y") (codes "refs/x")
    × ¬ (AreNested (codes "refs/x") (codes "refs/xy")) × ¬ (AreNested (codes "refs/x") (codes "refs/x"))
directories =
    let above : IsDirectoryOf (codes "refs/x") (codes "refs/x/y") = record { after = codes "y"; here = refl } in
    let no_prefix : ¬ (IsDirectoryOf (codes "refs/x") (codes "refs/xy")) = λ is. cc (is.here) in
    let no_back : ¬ (IsDirectoryOf (codes "refs/x/y") (codes "refs/x")) = λ is. cc (is.here) in
    let no_other : ¬ (IsDirectoryOf (codes "refs/xy") (codes "refs/x")) = λ is. cc (is.here) in (
      above,
      record { after = codes "y/z"; here = refl },
      not_itself _,
      no_prefix,
      no_back,
      inl above,
      inr above,
      (λ nests. elim nests [ inl is ↦ no_prefix is | inr is ↦ no_other is ]),
      nested_once _,
    )

-- what is a directory of another sound destination, or in it, isn't written, whichever spec makes it and also from the
-- same source; but it
-- is written beside another name or a mapping that is left out, and a conflict and what overrules it come first
pub obstructed : HasVerdict (ax ∷ []) (ax ∷ to_y ∷ []) ax DirectoryConflict × HasVerdict (to_y ∷ [])
    (to_y ∷ ax ∷ []) to_y DirectoryConflict
    × HasVerdict (ax ∷ []) (ax ∷ to (codes "refs/x/y") 0 (codes "refs/heads/a") ∷ []) ax DirectoryConflict
    × HasSecondVerdict (ax ∷ []) (to_y ∷ []) (ax ∷ to_y ∷ []) to_y DirectoryConflict × HasSecondVerdict (bx ∷ [])
    (ax ∷ []) (bx ∷ ax ∷ to_y ∷ []) ax Overruled
    × HasVerdict (ax ∷ bx ∷ []) (ax ∷ bx ∷ to_y ∷ []) ax InConflict × HasVerdict (ax ∷ []) (to_xy ∷ []) ax Written
    × HasVerdict (ax ∷ []) (to (codes "refs/x/y") 2 (codes "refs/../x") ∷ []) ax Written
    × ¬ (HasVerdict (ax ∷ []) (ax ∷ to_y ∷ []) ax Written)
    × ¬ (HasSecondVerdict (ax ∷ []) (to_y ∷ []) (ax ∷ to_y ∷ []) to_y Written)
    × ¬ (HasVerdict (ax ∷ []) (to_xy ∷ []) ax DirectoryConflict)
    × ¬ (HasVerdict (ax ∷ bx ∷ []) (ax ∷ bx ∷ to_y ∷ []) ax DirectoryConflict)
    × ¬ (HasSecondVerdict (bx ∷ []) (ax ∷ []) (bx ∷ ax ∷ to_y ∷ []) ax DirectoryConflict)
obstructed =
    let whole : IsSound ax = sound _ _ refl refl in
    let whole_y : IsSound to_y = sound _ _ refl refl in
    let nests = directories.5 in
    let by_y : IsObstructed (ax ∷ to_y ∷ []) ax = (to_y, (1, omega arith, refl), whole_y, (_, _, refl, refl, nests)) in
    let by_x : IsObstructed (to_y ∷ ax ∷ []) to_y =
    (ax, (1, omega arith, refl), whole, (_, _, refl, refl, directories.6)) in
    let by_x_too : IsObstructed (ax ∷ to_y ∷ []) to_y =
    (ax, (0, omega arith, refl), whole, (_, _, refl, refl, directories.6)) in
    let by_a : IsObstructed (ax ∷ to (codes "refs/x/y") 0 (codes "refs/heads/a") ∷ []) ax =
    (_, (1, omega arith, refl), sound _ _ refl refl, (_, _, refl, refl, nests)) in
    let by_b : IsContested (ax ∷ bx ∷ []) ax = (
      bx,
      (1, omega arith, refl),
      sound _ _ refl refl,
      (_, refl, refl),
      λ same. grind arith,
    ) in
    let over : IsTakenOver (bx ∷ []) ax = (bx, (0, omega arith, refl), sound _ _ refl refl, (_, refl, refl)) in
    let free : ¬ (IsTakenOver (ax ∷ []) to_y) = λ (n, has, is, (d, from, goes)). grind (arith, one_in) in
    let clear : ¬ (IsObstructed (to_xy ∷ []) ax) = λ (n, has, is, (d, e, from, goes, nested)).
    directories.7 (subst (λ (x : List ℕ). AreNested x (codes "refs/xy")) (same_Some _ _ (sym from))
    (subst (AreNested d) (same_Some _ _ (sym goes ∙ ap (λ (x : Mapped). x.destination) (one_in to_xy n has)))
    nested)) in
    let clear_bad : ¬ (IsObstructed (to (codes "refs/x/y") 2 (codes "refs/../x") ∷ []) ax) =
    λ o. no_ref_names.2 (one o.1 o.2).source in (
      (whole, alone ax, by_y),
      (whole_y, alone to_y, by_x),
      (whole, alone ax, by_a),
      (whole_y, free, alone to_y, by_x_too),
      (whole, over),
      (whole, by_b),
      (whole, alone ax, clear),
      (whole, alone ax, clear_bad),
      (λ is. is.2 by_y),
      (λ is. is.3 by_x_too),
      (λ is. clear is.2),
      (λ is. is.1 by_b),
      (λ is. is.1 over),
    )

-- what is fetched is in the way of what is tracked besides, and the other way round
pub nested_besides : IsPlanned (listed every (Given 0) ∷ []) (ax ∷ []) (to_y ∷ []) ax (from_a DirectoryConflict)
    × IsPlannedBesides (listed every (Configured 0) ∷ []) (4 ∷ 7 ∷ []) (ax ∷ []) (to_y ∷ []) to_y
    (update to_y 7 (Configured 0) DirectoryConflict)
nested_besides =
    let new : ¬ (HasPair (ax ∷ []) to_y) = λ pair. grind arith in (
      record { source = refl; item = refl; destination = refl; origin = (_, refl, refl); verdict = obstructed.0 },
      record {
        updates = refl;
        new = new;
        source = refl;
        item = refl;
        destination = refl;
        origin = (_, refl, refl);
        verdict = obstructed.3;
      },
    )

-- without a destination, or where the call makes the pair already, nothing is planned besides
pub nothing_besides : (specs : List Asked) (indexes : List ℕ) (p : Planned)
    → ¬ (IsPlannedBesides specs indexes [] (mapping 0 (codes "refs/heads/a") None 0 ∷ [])
    (mapping 0 (codes "refs/heads/a") None 0) p)
    × ¬ (IsPlannedBesides specs indexes (ax ∷ []) (ax ∷ []) ax p)
nothing_besides specs indexes p =
    ((λ is. false≢true is.updates), (λ is. is.new (inl (record { source = refl; destination = refl }))))

-- what is planned besides has the index of its ref among all refs
pub index_besides : IsPlannedBesides (listed every (Configured 0) ∷ []) (4 ∷ 7 ∷ []) [] (bx ∷ []) bx
    (update bx 7 (Configured 0) Written)
    × ¬ (IsPlannedBesides (listed every (Configured 0) ∷ []) (4 ∷ 7 ∷ []) [] (bx ∷ []) bx
    (update bx 1 (Configured 0) Written))
index_besides = let from : HasOrigin (listed every (Configured 0) ∷ []) bx (Configured 0) =
    (_, refl, refl) in (search (rules, arith, sound, alone, unobstructed), λ is. cc (is.item))

-- `main` is missing among no refs, but not beside a branch of that name; a negative spec and a pattern lack nothing,
-- and merged
-- refs may be missing: of a name, a merged ref and all tags only the name is missing
pub lacking : AreMissing (no_dev ∷ short ∷ all_tags ∷ []) [] (1 ∷ []) × AreMissing (short ∷ []) (main_ref ∷ []) []
    × MayBeMissing (Merge 0) × ¬ (MayBeMissing (Given 0)) × ¬ (MayBeMissing (Configured 0)) × ¬ (MayBeMissing Default)
    × AreLacking [] (listed short (Given 0) ∷ merged (codes "refs/heads/main") ∷ tags_asked true) (Given 0 ∷ [])
lacking =
    let is : Matches (codes "main") main_ref None =
    record { kind = partial _; of = short_kind; is = (refl, main_candidate) } in
    let named : AreMissing (no_dev ∷ short ∷ all_tags ∷ []) [] (1 ∷ []) = (
      None,
      _,
      (λ k told. told.1.positive),
      (Some 1, [], (refl, main_lacking), (None, [], (λ k told. tags_lack_nothing [] told.1), refl, refl), refl),
      refl,
    ) in
    let beside : AreMissing (short ∷ []) (main_ref ∷ []) [] = (
      None,
      [],
      (λ k told. told.1.absent main_ref None (0, omega arith, refl) (rw (← same_Some _ _ told.1.is) is)),
      refl,
      refl,
    ) in
    let told : AreLacking [] (listed short (Given 0) ∷ merged (codes "refs/heads/main") ∷ tags_asked true)
    (Given 0 ∷ []) = (
      Some _,
      [],
      (refl, (λ may. may), main_lacking),
      (
        None,
        [],
        (λ o told. told.1 (rw told.0 tt)),
        (None, [], (λ o told. tags_lack_nothing [] told.2), refl, refl),
        refl,
      ),
      refl,
    ) in
    (named, beside, tt, (λ may. may), (λ may. may), (λ may. may), told)

-- what is left out, overruled or nested doesn't stop a fetch, and a conflict or a missing source does
pub carried_out : IsCarriedOut [] []
    × IsCarriedOut (from_a (LeftOut invalid.Source) ∷ from_a Overruled ∷ from_a DirectoryConflict ∷ []) []
    × ¬ (IsCarriedOut (from_a Written ∷ from_a InConflict ∷ []) []) × ¬ (IsCarriedOut [] (Default ∷ []))
carried_out = search (rules, arith)

-- wishes, specs and updates as plain data, a spec with another destination, and whether all tags are asked for
pub seen :
    ((w : DeclaredWish) → wish_of w ≡ record {
      given = map reading_of w.given.now;
      configured =
          map reading_of w.configured.now;
      merges = map bstr_bytes w.merges.now;
      tags = w.tags;
    })
    × ((a : DeclaredAsked) → asked_of a ≡ record { reading = reading_of a.spec; origin = a.origin })
    × ((u : Update) → planned_of u ≡ record {
      source = start_of u.source;
      item = u.item_index;
      destination =
          option_map bstring_bytes u.destination;
      origin = u.origin;
      verdict = u.verdict;
    })
    × (with_destination every (codes "refs/x/*") ≡ fetched Forced (codes "refs/heads/*") (Some (codes "refs/x/*")))
    × (tags_asked true ≡ listed all_tags AllTags ∷ []) × (tags_asked false ≡ [])
seen = ((λ w. refl), (λ a. refl), (λ u. refl), refl, refl, refl)
