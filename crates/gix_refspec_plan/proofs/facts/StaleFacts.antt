-- Examples of the definition of stale refs: what keeps a local ref from being stale, one that is, and one that a spec
-- keeps.
use Rattle.gix_refspec_plan.proofs.Common.{Matches, ref_named, AreKeptForward, HasKind, ◌++◌, ◌∙◌, ap}
use Rattle.gix_refspec_plan.proofs.Common.{append_cancel_left, ◌≡◌, inl, inr, ℕ, List, [], ◌∷◌, Option, None, Some}
use Rattle.gix_refspec_plan.proofs.Common.{codes, refl, sym, subst, arith, rules, Contains, same_Some, star, Lacks}
use Rattle.gix_refspec_plan.proofs.Common.{Negative, Normal, Reading, fetched, full_name, partial, pattern, Fits}
use Rattle.gix_refspec_plan.proofs.Common.{the_name, split_once, lacks_no_pattern, Lacks-here, Takes, IsExcludedBy}
use Rattle.gix_refspec_plan.proofs.Common.{one_forward, CanWrite, CanWriteFrom, IsCompleted, IsFetched, IsKeptBy}
use Rattle.gix_refspec_plan.proofs.Common.{IsStale}
use Rattle.gix_refspec_plan.specs.Matching.Stale.{AreStale}
use Rattle.gix_refspec_plan.proofs.facts.ExampleLemmas.{AreForwardEnds, Hit, Lacks-tested, every, forward_beside}
use Rattle.gix_refspec_plan.proofs.facts.ExampleLemmas.{forward_of, heads_split, main_candidate, main_ref, named}
use Rattle.gix_refspec_plan.proofs.facts.ExampleLemmas.{none_excluded, not_excluded, nothing_in, one_in, origin_split}
use Rattle.gix_refspec_plan.proofs.facts.ExampleLemmas.{short_kind, whole_pattern}
use Rattle.gix_refspec_plan.proofs.lemmas.plan.OnePlanLemmas.{completed_once}
use Rattle.gix_refspec_plan.proofs.lemmas.stale.PatternLemmas.{name_writes, word_taken, writes_cases}
use Rattle.gix_refspec_text.proofs.lemmas.hits.CandidateLemmas.{first_of_one, taken_by_first}
use Rattle.gix_refspec_text.proofs.facts.FitFacts.{blob_kind, short_no_id}
use Rattle.gix_refspec_text.proofs.facts.ObjectIdFacts.{empty_blob}
use Rattle.gix_refspec_text.specs.Matching.Side.{Excludes}

-- a fetch into `x`, which is refs/heads/x, and a negative spec
abbrev to_x : List ℕ → Reading
to_x source = fetched Normal source (Some (codes "x"))

abbrev x : List ℕ
x = codes "refs/heads/x"

abbrev no_tag : Reading
no_tag = fetched Negative (codes "refs/tags/main") None

writes_x : (source : List ℕ) → CanWrite (to_x source) x None
writes_x source =
    name_writes _ _ (record {
      positive = tt;
      destination = codes "x";
      has = refl;
      lacks = search (rules, arith);
      is =
          refl;
    })

from_tag : CanWriteFrom (to_x (codes "main")) x (codes "refs/tags/main")
from_tag =
    let matches : Matches (codes "main") (ref_named (codes "refs/tags/main")) None =
    record {
      kind = partial (codes "main");
      of = short_kind;
      is =
          (refl, record { earlier = _ ∷ _ ∷ []; later = _; here = refl });
    } in
    search (rules, writes_x (codes "main"), matches)

by_no_tag : IsExcludedBy (codes "refs/tags/main") no_tag
by_no_tag = let name : Excludes (codes "refs/tags/main") (codes "refs/tags/main") =
    the_name (search (rules, arith)) refl in search (rules, name)

-- what the pattern could write, and the one ref from which it could write the branch `dev` of the remote
by_every : (r : Reading) (n : List ℕ) (word : Option (List ℕ)) → Contains (every ∷ []) r → CanWrite r n word
    → (w : List ℕ) × (word ≡ Some w) × Fits (codes "refs/remotes/origin/") [] n w
by_every r n word there by = elim (writes_cases every n word (rw (one_in every r there) at by)) [
  | inl (name, none) ↦
      absurd (Lacks-here star (codes "refs/remotes/origin/") []
      (subst (Lacks star) (sym (same_Some _ _ name.has)) name.lacks))
  | inr (d, before, after, w, has, split, some, fits) ↦
      let far = split_once d before after (codes "refs/remotes/origin/") [] split
      (rw (sym (same_Some _ _ has)) origin_split) in
      (w, some, rw (far.0, far.1) at fits)
]

only_dev : (s : List ℕ) → CanWriteFrom every (codes "refs/remotes/origin/dev") s → s ≡ codes "refs/heads/dev"
only_dev s from =
    let (w, some, fits) = by_every every _ from.word (0, omega arith, refl) from.writes in
    let (before, after, split, of) = word_taken from.source s w (rw some at from.matches) in
    let near = split_once from.source before after (codes "refs/heads/") [] split
    (rw (sym (same_Some _ _ from.is)) heads_split) in
    (rw (near.0, near.1) at of)
    ∙ ap (λ (y : List ℕ). codes "refs/heads/" ++ y) (append_cancel_left (codes "refs/remotes/origin/") (w ++ [])
    (codes "dev") (sym fits))

-- what could be written from a ref of the remote, from an excluded one or from an object isn't stale, nor is a local
-- ref that no
-- spec writes: a branch of one's own, or a tag where `x` is completed to refs/heads/x
pub unwritable : ¬ (IsStale (to_x (codes "main") ∷ []) (named (codes "refs/tags/main") ∷ []) x)
    × ¬ (IsStale (to_x (codes "main") ∷ no_tag ∷ []) [] x)
    × ¬ (IsStale (to_x (codes "e69de29bb2d1d6434b8b29ae775ad8c2e48c5391") ∷ []) [] x)
    × ¬ (IsStale (every ∷ []) [] (codes "refs/heads/mine"))
    × ¬ (IsStale (to_x (codes "main") ∷ []) [] (codes "refs/tags/x"))
unwritable = (
  (λ s. s.absent _ (_, (0, omega arith, refl), from_tag) (inl refl)),
  (λ s. s.included _ (_, (0, omega arith, refl), from_tag) (inr (inl by_no_tag))),
  (λ s. s.no_object (
    _,
    (0, omega arith, refl),
    record {
      writes = writes_x _;
      source = _;
      is = refl;
      bytes = empty_blob;
      asks = blob_kind;
    },
  )),
  (λ s. let (r, word, there, w) = s.writable in let (v, some, fits) = by_every r _ word there w in grind arith),
  λ s. let (r, word, there, w) =
      s.writable in elim (writes_cases _ _ word (rw (one_in (to_x (codes "main")) r there) at w)) [
        | inl (name, none) ↦ let is = rw (← same_Some _ _ name.has) at name.is in grind arith
        | inr (d, before, after, v, has, split, some, fits) ↦ lacks_no_pattern _ before after
            (Lacks-tested star (codes "x") refl) (rw (← same_Some _ _ has) at split)
      ],
)

-- `dev` is stale where the remote has `main` alone; of two local refs of one name the first is listed
pub listed_once : IsStale (every ∷ []) (main_ref ∷ []) (codes "refs/remotes/origin/dev")
    × AreStale (every ∷ []) (main_ref ∷ [])
    (named (codes "refs/remotes/origin/dev") ∷ named (codes "refs/remotes/origin/dev") ∷ [])
    (record { item = 0; kept_by = None } ∷ [])
listed_once =
    let whole : IsCompleted every every = whole_pattern (codes "refs/remotes/origin/") in
    let matches : Matches (codes "refs/remotes/origin/*") (ref_named (codes "refs/remotes/origin/dev"))
    (Some (codes "dev")) =
    record { kind = pattern (codes "refs/remotes/origin/") []; of = origin_split; is = refl } in
    let stale : IsStale (every ∷ []) (main_ref ∷ []) (codes "refs/remotes/origin/dev") = record {
      writable = (every, Some (codes "dev"), (0, omega arith, refl), search (rules, whole, matches));
      no_object = λ (r, there, w). let (v, some, fits) = by_every r _ None there w.writes in cc;
      absent = λ s (r, there, from) has. let same = only_dev s (rw (one_in every r there) at from) in grind arith;
      included = λ s of. none_excluded tt;
    } in
    (stale, (Some _, [], (refl, (λ none. none), stale), (None, [], (λ f told. told.1 (inl refl)), refl, refl), refl))

-- the specs with `x` completed, and what the first makes of the branch `main`
abbrev specs : List Reading
specs = to_x (codes "main") ∷ no_tag ∷ []

abbrev completed : List Reading
completed = fetched Normal (codes "main") (Some x) ∷ no_tag ∷ []

abbrev x_hit : Hit
x_hit = record { spec = 0; item = 0; near = codes "refs/heads/main"; far = Some x }

x_ends : AreForwardEnds (fetched Normal (codes "main") (Some x)) (record { near = codes "main"; far = Some x })
x_ends = record { positive = tt; near = refl; far = refl; no_object = λ bytes kind. short_no_id bytes kind.2 }

made : AreKeptForward completed (main_ref ∷ []) (forward_of x_hit ∷ [])
made =
    let takes : Takes (main_ref ∷ []) (codes "main") main_ref None = taken_by_first _ _ main_ref short_kind
    (first_of_one _ main_ref main_candidate) in
    let x_full : HasKind x (full_name x) =
    (refl, search (rules, arith), record { after = codes "heads/x"; here = refl }) in
    let no_main : ¬ (Excludes (codes "refs/tags/main") (codes "refs/heads/main")) =
    search (rules, arith, lacks_no_pattern (codes "refs/tags/main"), Lacks-tested) in
    record {
      all = forward_of x_hit ∷ [];
      forward = forward_beside _ _ (x_hit ∷ []) x_ends (refl, tt) (
        Some _,
        [],
        record {
          word = None;
          takes = takes;
          far = (full_name x, x_full, refl);
          near = refl;
          spec = refl;
          item = refl;
        },
        refl,
        refl,
      );
      is = (Some _, [], (refl, record { first = λ none. none; included = not_excluded tt no_main }), refl, refl);
    }

-- the spec that excludes the tag `main` keeps refs/heads/x where the remote has no `main`, but not where a fetch writes
-- it from the branch
pub kept : IsKeptBy specs [] x 1 × ((k : ℕ) → ¬ (IsKeptBy specs (main_ref ∷ []) x k))
kept = (
  record {
    unwritten = none;
    source = _;
    is_source = (_, (0, omega arith, refl), from_tag);
    negative = _;
    at =
        refl;
    excludes = by_no_tag;
  },
  (λ k by. by.unwritten main),
)
  where
    none : ¬ (IsFetched specs [] x)
    none f =
        let same : f.completed ≡ completed = completed_once specs f.completed completed f.are (search (rules, arith)) in
        let k : AreKeptForward completed [] [] =
        record { all = []; forward = forward_beside _ [] [] x_ends (refl, tt) refl; is = refl } in
        let empty : f.mapped ≡ [] = one_forward completed [] f.mapped [] (rw same at f.kept) k in
        nothing_in f.mapped f.mapping empty f.has

    main : IsFetched specs (main_ref ∷ []) x
    main = record {
      completed = _;
      are = search (rules, arith);
      mapped = _;
      kept = made;
      mapping = forward_of x_hit;
      has = (0, omega arith, refl);
      destination = refl;
    }
