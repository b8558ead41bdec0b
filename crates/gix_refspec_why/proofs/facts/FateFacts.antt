-- Examples of fates, on each side of what decides them. What git 2.39.5 does with these specs and refs is the same.
use Rattle.gix_refspec_why.proofs.Common.{◌≡◌, ◌<◌, ◌++◌, ◌∷◌, ◌∙◌, [], ℕ, List, Option, None, Some}
use Rattle.gix_refspec_why.proofs.Common.{inl, inr, refl, sym, ap, subst, arith, codes, length, append-nil, get_or}
use Rattle.gix_refspec_why.proofs.Common.{slice_get, lacks_no_pattern, star, Lacks, IsSplit, HasKind, pattern}
use Rattle.gix_refspec_why.proofs.Common.{Reading, Negative, Forced, Normal, Ref, HasName, Source, name, id, Takes}
use Rattle.gix_refspec_why.proofs.Common.{Ends, AreForwardEnds, IsExcluded, IsExcludedBy, IsPaired, MakesForward}
use Rattle.gix_refspec_why.proofs.Common.{AreNested, CanBeWritten, AreEffects}
use Rattle.gix_refspec_why.proofs.Common.{ExcludesWith, HasFate, HaveFates, HaveRef, IsContestedBy, IsEarlierMaker}
use Rattle.gix_refspec_why.proofs.Common.{IsFetchedAt, IsFirstExclusion, IsObstructedBy, MapsFirst, MapsIncluded}
use Rattle.gix_refspec_why.proofs.Common.{MapsTo, MapsValidly, one_kind, full_name, filled, IsFilled, same_Some}
use Rattle.gix_refspec_why.proofs.lemmas.SourceLemmas.{maps_once, one_got}
use Rattle.gix_refspec_why.proofs.lemmas.RivalLemmas.{fetched_made}
use Rattle.gix_refspec_why.specs.Matching.Why.{Effect}
use Rattle.gix_refspec_why.specs.declared.Fate.TheVariants as fate
use Rattle.gix_refspec_why.specs.declared.Rival.{Rival}
use Rattle.gix_refspec_why.specs.declared.StarWord.{StarWord}
use Rattle.gix_refspec_text.specs.Specs.Grammar.{fetched}
use Rattle.gix_refspec_text.proofs.readers.Texts.{Lacks-tested, differ}
use Rattle.gix_refspec_text.proofs.facts.FitFacts.{dev_ref, every, excludes_dev, heads_split, main_ref, no_dev}
use Rattle.gix_refspec_text.proofs.facts.FitFacts.{origin_split, split_at_end, tag_ref}
use Rattle.gix_refspec_text.proofs.facts.ManualFacts.{named}
use Rattle.gix_refspec_match.proofs.facts.MatchFacts.{dev_excluded}
use Rattle.gix_refspec.proofs.facts.RefNameFacts.{no_ref_names, ref_names}
use Rattle.gix_refspec_plan.proofs.facts.ExampleLemmas.{below}
use Rattle.gix_refspec_plan.proofs.facts.PlanFacts.{completed}
use Rattle.gix_refspec_plan.proofs.lemmas.plan.DirectoryLemmas.{nested_once}
use Rattle.gix_refspec_plan.proofs.lemmas.plan.OnePlanLemmas.{completed_once}

abbrev main : List ℕ
main = codes "refs/heads/main"

abbrev stored : List ℕ
stored = codes "refs/remotes/origin/main"

abbrev main_tag : Ref
main_tag = named (codes "refs/tags/main")

-- a tag in a directory that is stored in the directory of `main`
abbrev tag_below : Ref
tag_below = named (codes "refs/tags/main/y")

-- `+refs/tags/*:refs/remotes/origin/*`
abbrev tags : Reading
tags = fetched Forced (codes "refs/tags/*") (Some (codes "refs/remotes/origin/*"))

tags_split : IsSplit (codes "refs/tags/") [] (codes "refs/tags/*")
tags_split = split_at_end (codes "refs/tags/") refl

-- ---- what the refs of a folder are mapped to

abbrev tracking : List ℕ → Reading
tracking folder = fetched Forced (folder ++ codes "*") (Some (codes "refs/remotes/origin/*"))

abbrev ends_of : List ℕ → Ends
ends_of folder = record { near = folder ++ codes "*"; far = Some (codes "refs/remotes/origin/*") }

abbrev at_origin : List ℕ → List ℕ
at_origin branch = codes "refs/remotes/origin/" ++ (branch ++ [])

module _ (folder : List ℕ) (split : IsSplit folder [] (folder ++ codes "*")) where
  has_ends : AreForwardEnds (tracking folder) (ends_of folder)
  has_ends = record {
    positive = tt;
    near = refl;
    far = refl;
    no_object = λ bytes kind. lacks_no_pattern (folder ++ codes "*") folder [] kind.0 split;
  }

  paired : (refs : List Ref) (branch : List ℕ)
      → IsPaired (Takes refs) (ends_of folder) (folder ++ branch) (Some (at_origin branch)) (named (folder ++ branch))
  paired refs branch = record {
    word = Some branch;
    name = refl;
    takes = record {
      matches = record {
        kind = pattern folder [];
        of = split;
        is = ap (λ (y : List ℕ). folder ++ y) (sym (append-nil branch));
      };
      first = λ n kind. absurd (lacks_no_pattern (folder ++ codes "*") folder [] kind.1 split);
    };
    becomes = (pattern (codes "refs/remotes/origin/") [], origin_split, refl);
  }

  maps : (refs : List Ref) (i : ℕ) (branch : List ℕ) → i < length refs
      → get_or refs i (named (folder ++ branch)) ≡ named (folder ++ branch)
      → MapsTo refs (folder ++ branch) (Some (at_origin branch)) (tracking folder)
  maps refs i branch within at = record {
    ends = ends_of folder;
    has = has_ends;
    one = (i, named (folder ++ branch), within, at, paired refs branch);
  }

  -- and nothing is excluded
  fetches : (g : List Reading) (refs : List Ref) (k i : ℕ) (branch : List ℕ) → slice_get g k ≡ Some (tracking folder)
      → slice_get refs i ≡ Some (named (folder ++ branch)) → ¬ (IsExcluded g (folder ++ branch))
      → CanBeWritten (Some (folder ++ branch)) → CanBeWritten (Some (at_origin branch))
      → IsFetchedAt g refs (name (folder ++ branch)) (at_origin branch) (record { spec_index = k; item_index = Some i })
  fetches g refs k i branch here at included source destination = record {
    reading = tracking folder;
    at = here;
    makes = record {
      index = i;
      is = refl;
      ref = named (folder ++ branch);
      stands = at;
      ends = ends_of folder;
      has = has_ends;
      paired = paired refs branch;
    };
    included = included;
    source = inl source;
    destination = destination;
  }

maps_main : (rest : List Ref) → MapsTo (main_ref ∷ rest) main (Some stored) every
maps_main rest = maps (codes "refs/heads/") heads_split (main_ref ∷ rest) 0 (codes "main") (omega arith) refl

both_included : (n : List ℕ) → ¬ (IsExcluded (every ∷ tags ∷ []) n)
both_included n (inl by) = cc (by.negative)
both_included n (inr (inl by)) = cc (by.negative)
both_included n (inr (inr none)) = none

one_included : (n : List ℕ) → ¬ (IsExcluded (every ∷ []) n)
one_included n (inl by) = cc (by.negative)
one_included n (inr none) = none

-- where `main` alone is fetched, nothing else is
only_main : (s : Source) (e : List ℕ) (rival : Rival) → IsFetchedAt (every ∷ []) (main_ref ∷ []) s e rival
    → s ≡ name main
only_main (name m) e rival is =
    let same = one_got main_ref is.makes.ref is.makes.index is.makes.stands in
    ap name (sym is.makes.paired.name ∙ ap (λ (r : Ref). r.name) same)
only_main (id bytes) e rival is =
    let by = one_got every is.reading rival.spec_index is.at in
    let text = same_Some (codes "refs/heads/*") is.makes.1.text
    (sym (ap (λ (r : Reading). r.source) by) ∙ is.makes.1.side) in
    absurd (lacks_no_pattern (codes "refs/heads/*") (codes "refs/heads/") []
    (subst (Lacks star) (sym text) is.makes.1.object.0) heads_split)

only_stored : (s : Source) (e : List ℕ) (rival : Rival) → IsFetchedAt (every ∷ []) (main_ref ∷ []) s e rival
    → Some e ≡ Some stored
only_stored s e rival is =
    let by = one_got every is.reading rival.spec_index is.at in
    maps_once (main_ref ∷ []) main every (Some e) (Some stored)
    (subst (λ r. MakesForward (main_ref ∷ []) (name main) (Some e) r) by
    (subst (λ s. MakesForward (main_ref ∷ []) s (Some e) is.reading) (only_main s e rival is)
    (fetched_made (every ∷ []) (main_ref ∷ []) s e rival is))) (maps_main [])

-- ---- the first that applies

-- a valid mapping alone is written: it is in no conflict with itself, nor in its own directory
pub written : HasFate (every ∷ []) (main_ref ∷ []) main 0 every (Some stored) fate.Written
written = (
  record {
    maps = record {
      maps = record { maps = maps_main []; included = one_included main };
      name = ref_names.0;
      destination = below (codes "remotes/origin/main") refl;
    };
    first = tt;
  },
  (λ rival (e, s, is, other, by). other (only_main s e rival by)),
  λ rival (e, far, s, is, nested, by).
      let same : e ≡ far = cc (is, only_stored s far rival by) in
      nested_once e (subst (AreNested e) (sym same) nested),
)

-- a negative spec excludes `dev-a`, and its star stands for the last byte
by_dev : IsExcludedBy (codes "refs/heads/dev-a") no_dev
by_dev = record { negative = refl; text = codes "refs/heads/dev-*"; source = refl; excludes = excludes_dev }

pub excludes_with : ExcludesWith no_dev (codes "refs/heads/dev-a") (Some (record { start = 15; len = 1 }))
excludes_with = record {
  negative = refl;
  text = codes "refs/heads/dev-*";
  source = refl;
  with = (codes "refs/heads/dev-", [], codes "a", split_at_end (codes "refs/heads/dev-") refl, refl, refl, refl);
}

-- a positive spec excludes nothing
pub positive_excludes_nothing : (n : List ℕ) (word : Option StarWord) → ¬ (ExcludesWith every n word)
positive_excludes_nothing n word is = cc (is.negative)

-- `^refs/heads/dev-a`
abbrev plain_dev : Reading
plain_dev = fetched Negative (codes "refs/heads/dev-a") None

-- the first negative spec that excludes a ref is named, and no later one
pub first_exclusion : IsFirstExclusion (every ∷ no_dev ∷ plain_dev ∷ []) (codes "refs/heads/dev-a")
    (record { spec_index = 1; word = Some (record { start = 15; len = 1 }) })
    × ¬ (IsFirstExclusion (no_dev ∷ plain_dev ∷ []) (codes "refs/heads/dev-a")
    (record { spec_index = 1; word = None }))
first_exclusion = (
  (no_dev, record { at = refl; holds = by_dev; before = ((λ by. cc (by.negative)), tt) }, excludes_with),
  λ (r, first, with). first.before.0 by_dev,
)

-- what is excluded has no later fate
pub excluded_first : (d : Option (List ℕ))
    → ¬ (MapsIncluded (every ∷ no_dev ∷ []) (dev_ref ∷ []) (codes "refs/heads/dev-a") d every)
excluded_first d is = is.included dev_excluded

-- an invalid name comes before an invalid destination, and valid ones are neither
pub name_first : (g : List Reading) (refs : List Ref) (k : ℕ) (r : Reading) (d : Option (List ℕ))
    → ¬ (HasFate g refs (codes "refs/../x") k r d fate.InvalidDestination)
    × ¬ (HasFate g refs main k r d fate.InvalidName)
    × ¬ (HasFate g refs main k r (Some stored) fate.InvalidDestination)
name_first g refs k r d = (
  (λ is. no_ref_names.2 is.1),
  (λ is. is.1 ref_names.0),
  λ is. is.2 (below (codes "remotes/origin/main") refl),
)

-- what is invalid has no later fate
pub invalid_before : (g : List Reading) (refs : List Ref) (n : List ℕ) (d : Option (List ℕ)) (r : Reading)
    → ¬ (MapsValidly g refs (codes "refs/../x") d r) × ¬ (MapsValidly g refs n (Some (codes "refs/../x")) r)
invalid_before g refs n d r = ((λ is. no_ref_names.2 is.name), λ is. no_ref_names.2 (inl is.destination))

-- a spec is no duplicate of itself, nor of the second of three equal ones; and only the first of two is written
pub duplicates : ¬ (IsEarlierMaker (every ∷ []) (main_ref ∷ []) main (Some stored) 0 0)
    × IsEarlierMaker (every ∷ every ∷ every ∷ []) (main_ref ∷ []) main (Some stored) 2 0
    × ¬ (IsEarlierMaker (every ∷ every ∷ every ∷ []) (main_ref ∷ []) main (Some stored) 2 1)
    × ¬ (MapsFirst (every ∷ every ∷ []) (main_ref ∷ []) main (Some stored) 1 every)
duplicates = (
  (λ is. let later = is.0 in omega (arith, later)),
  (omega arith, (every, record { at = refl; holds = maps_main []; before = tt })),
  (λ (earlier, (r, first)). first.before.0 (maps_main [])),
  λ is. is.first.0 (maps_main []),
)

-- another source with the same destination is in conflict; one that is excluded or invalid isn't
contesting : (rest : List Ref)
    → IsContestedBy (every ∷ tags ∷ []) (main_ref ∷ main_tag ∷ rest) main (Some stored)
    (record { spec_index = 1; item_index = Some 1 })
contesting rest = (
  stored,
  name (codes "refs/tags/main"),
  refl,
  (λ same. differ (codes "refs/tags/main") main refl (cc (same))),
  fetches (codes "refs/tags/") tags_split (every ∷ tags ∷ []) (main_ref ∷ main_tag ∷ rest) 1 1 (codes "main") refl refl
      (both_included (codes "refs/tags/main")) (below (codes "tags/main") refl)
      (below (codes "remotes/origin/main") refl),
)

pub contested : IsContestedBy (every ∷ tags ∷ []) (main_ref ∷ main_tag ∷ []) main (Some stored)
    (record { spec_index = 1; item_index = Some 1 })
contested = contesting []

pub not_fetched : (g : List Reading) (refs : List Ref) (s : Source) (e : List ℕ) (rival : Rival)
    → ¬ (IsFetchedAt (every ∷ no_dev ∷ []) refs (name (codes "refs/heads/dev-a")) e rival)
    × ¬ (IsFetchedAt g refs (name (codes "refs/../x")) e rival) × ¬ (IsFetchedAt g refs s (codes "refs/../x") rival)
not_fetched g refs s e rival = (
  (λ is. is.included dev_excluded),
  (λ is. no_ref_names.2 is.source),
  λ is. no_ref_names.2 (inl is.destination),
)

-- without a destination nothing is in the way
pub nowhere : (g : List Reading) (refs : List Ref) (n : List ℕ) (rival : Rival)
    → ¬ (IsContestedBy (every ∷ tags ∷ []) (main_ref ∷ main_tag ∷ []) main None rival)
    × ¬ (IsObstructedBy g refs None rival)
nowhere g refs n rival = ((λ (e, s, is, other, by). cc (is)), λ (e, far, s, is, nested, by). cc (is))

-- a ref is in the way in whose directory the other one is
obstructing : (rest : List Ref) (i : ℕ) → slice_get (main_ref ∷ rest) i ≡ Some tag_below
    → IsObstructedBy (every ∷ tags ∷ []) (main_ref ∷ rest) (Some stored)
    (record { spec_index = 1; item_index = Some i })
obstructing rest i at = (
  stored,
  codes "refs/remotes/origin/main/y",
  name (codes "refs/tags/main/y"),
  refl,
  inl (record { after = codes "y"; here = refl }),
  fetches (codes "refs/tags/") tags_split (every ∷ tags ∷ []) (main_ref ∷ rest) 1 i (codes "main/y") refl at
      (both_included (codes "refs/tags/main/y")) (below (codes "tags/main/y") refl)
      (below (codes "remotes/origin/main/y") refl),
)

pub obstructed : IsObstructedBy (every ∷ tags ∷ []) (main_ref ∷ tag_below ∷ []) (Some stored)
    (record { spec_index = 1; item_index = Some 1 })
obstructed = obstructing (tag_below ∷ []) 1 refl

-- a conflict comes before a directory conflict, and what is in either isn't written
pub conflict_first : ¬ (HasFate (every ∷ tags ∷ []) (main_ref ∷ main_tag ∷ tag_below ∷ []) main 0 every (Some stored)
    (fate.DirectoryConflict (record { spec_index = 1; item_index = Some 2 })))
    × ¬ (HasFate (every ∷ tags ∷ []) (main_ref ∷ main_tag ∷ []) main 0 every (Some stored) fate.Written)
    × ¬ (HasFate (every ∷ tags ∷ []) (main_ref ∷ tag_below ∷ []) main 0 every (Some stored) fate.Written)
conflict_first = ((λ is. is.1 _ (contesting (tag_below ∷ []))), (λ is. is.1 _ contested), λ is. is.2 _ obstructed)

-- ---- all specs

-- each spec has an effect
pub no_fewer : ¬ (HaveFates (every ∷ []) (main_ref ∷ []) main [])
no_fewer are = let count = are.count in omega (arith, count)

-- that of `main:heads/x` is in refs/heads/x
pub completed_first : ¬ (AreEffects (fetched Normal (codes "main") (Some (codes "heads/x")) ∷ []) (main_ref ∷ []) main
    (record { destination = Some (codes "refs/heads/heads/x"); fate = fate.Written } ∷ []))
completed_first are =
    let n = codes "refs/heads/x" in
    let full : Reading = fetched Normal (codes "main") (Some n) in
    let one = completed_once (fetched Normal (codes "main") (Some (codes "heads/x")) ∷ []) are.completed (full ∷ [])
    are.are
    (completed.0, tt) in
    let effect : Effect = record { destination = Some (codes "refs/heads/heads/x"); fate = fate.Written } in
    let have = subst (λ c. HaveFates c (main_ref ∷ []) main (effect ∷ [])) one are.have in
    let maps = (have.each 0 full effect refl refl).0.maps.maps.maps in
    let (kind, of, is) = subst (λ f. IsFilled f maps.one.4.word effect.destination) (sym maps.has.far)
    maps.one.4.becomes in
    let is_full : HasKind n (full_name n) =
    (refl, Lacks-tested star n refl, record { after = codes "heads/x"; here = refl })
    in
    differ (codes "refs/heads/heads/x") n refl
    (same_Some _ _ (is ∙ ap (λ k. Some (filled k maps.one.4.word)) (one_kind n kind (full_name n) of is_full)))

no_main : ¬ (HasName (tag_ref ∷ []) main)
no_main (inl same) = differ (codes "refs/tags/v1") main refl same
no_main (inr none) = none

-- a ref that is listed is the first of its name; one that isn't comes last
pub refs_explained : HaveRef (main_ref ∷ main_ref ∷ []) main (Some 0) (main_ref ∷ main_ref ∷ [])
    × ¬ (HaveRef (main_ref ∷ main_ref ∷ []) main (Some 1) (main_ref ∷ main_ref ∷ []))
    × HaveRef (tag_ref ∷ []) main None (tag_ref ∷ main_ref ∷ [])
    × ¬ (HaveRef (tag_ref ∷ []) main None (main_ref ∷ tag_ref ∷ []))
    × ¬ (HaveRef (main_ref ∷ []) main None (main_ref ∷ main_ref ∷ []))
refs_explained = (
  (refl, (main_ref, record { at = refl; holds = refl; before = tt })),
  (λ have. have.1.1.before.0 refl),
  (no_main, (main_ref, refl, refl)),
  (λ (none, (r, named, is)). let same : main_ref ≡ tag_ref =
      cc (is) in differ main (codes "refs/tags/v1") refl (ap (λ (r : Ref). r.name) same)),
  λ have. have.0 (inl refl),
)
