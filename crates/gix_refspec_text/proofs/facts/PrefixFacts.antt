-- Sides with and without a ref prefix, and their expansions.
use Rattle.gix_refspec_text.proofs.Common.{◌==◌, ◌≡◌, false, eqb-false, ℕ, List, [], ◌∷◌, None, Some, length, codes}
use Rattle.gix_refspec_text.proofs.Common.{refl, ap, arith, IsSplit, star, slash, Normal, Negative, fetched, pushed}
use Rattle.gix_refspec_text.proofs.Common.{candidates, IsRefPrefix, IsPrefix, of_head, of_name, of_pattern, HasNoPrefix}
use Rattle.gix_refspec_text.proofs.Common.{Expands, to_prefix, to_itself, below_refs, of_object, to_candidates, IsAsked}
use Rattle.gix_refspec_text.proofs.Common.{HasPrefix, IsExpansion, same_Some}
use Rattle.gix_refspec_text.proofs.facts.CoveringFacts.{below_heads, no_bare_prefix}
use Rattle.gix_refspec_text.proofs.facts.FaultFacts.{begins_not}
use Rattle.gix_refspec_text.proofs.facts.ObjectIdFacts.{IsIdText-empty_blob, empty_blob}
use Rattle.gix_refspec_text.proofs.readers.Texts.{differ}
use Rattle.gix_refspec_text.proofs.lemmas.hits.MatchLemmas.{outside_none}
use Rattle.gix_refspec_text.proofs.lemmas.lists.LacksLemmas.{Lacks-here}
use Rattle.gix_refspec_text.proofs.lemmas.prefixes.OnePrefixLemmas.{one_prefix}
use Rattle.gix_refspec_text.proofs.lemmas.prefixes.PrefixLemmas.{no_prefix, starred_no_id}
use Rattle.gix_refspec_text.proofs.facts.ManualFacts.{IsSplit-tested, Lacks-tested, none_some, other_length}
use Rattle.gix_refspec_text.proofs.facts.FitFacts.{blob_kind, every, no_dev, other_byte, short_kind, split_at_end}

-- the text before a star is a prefix if it begins with `refs/` and is longer, and no bracket is on either side
pub tells : IsRefPrefix (codes "refs/a") (codes "/b")
    × ((after : List ℕ) → ¬ (IsRefPrefix (codes "refs/") after) × ¬ (IsRefPrefix (codes "heads/") after)
    × ¬ (IsRefPrefix (codes "refs/a]") after)) × ¬ (IsRefPrefix (codes "refs/a") (codes "/]"))
tells = search (arith, other_length, Lacks-tested, begins_not, Lacks-here)

-- `HEAD` and a full name are their own prefix; that of a pattern is the text before its star, also within a component
-- and before a suffix
pub whole_prefixes : IsPrefix (codes "HEAD") (codes "HEAD") × IsPrefix (codes "refs/a]b") (codes "refs/a]b")
    × IsPrefix (codes "refs/a*/b") (codes "refs/a")
whole_prefixes = (
  of_head refl refl,
  of_name (record { after = codes "a]b"; here = refl }) (Lacks-tested star (codes "refs/a]b") refl) refl,
  of_pattern (codes "refs/a") (codes "/b") (IsSplit-tested (codes "refs/a") (codes "/b") refl refl) tells.0 refl,
)

pub bracket_split : IsSplit (codes "refs/a]") [] (codes "refs/a]*")
bracket_split = split_at_end (codes "refs/a]") refl

pub suffix_split : IsSplit (codes "refs/a") (codes "/]") (codes "refs/a*/]")
suffix_split = IsSplit-tested (codes "refs/a") (codes "/]") refl refl

-- a pattern with its star right after `refs/`, or with a bracket, has none
pub no_prefixes : HasNoPrefix (codes "refs/*") × HasNoPrefix (codes "refs/a]*") × HasNoPrefix (codes "refs/a*/]")
    × HasNoPrefix (codes "heads/*")
no_prefixes = (
  no_bare_prefix,
  no_prefix _ _ [] bracket_split (tells.1 []).2,
  no_prefix _ _ (codes "/]") suffix_split tells.2,
  outside_none _ (differ _ _ refl)
      (begins_not (codes "refs/") (codes "heads/*") refl),
)

pub expansions_below :
    -- without a prefix, a side with one component after `refs/` is expanded to itself, and with a further slash to
    -- nothing
    Expands (codes "refs/*") (codes "refs/*" ∷ []) × Expands (codes "refs/a]*") (codes "refs/a]*" ∷ [])
    × Expands (codes "refs/a*/]") []
    -- an id is expanded to nothing, and `HEAD` to itself
    × Expands (codes "e69de29bb2d1d6434b8b29ae775ad8c2e48c5391") [] × Expands (codes "HEAD") (codes "HEAD" ∷ [])
expansions_below = (
  to_itself (codes "*") no_prefixes.0 refl (Lacks-tested slash (codes "*") refl) refl,
  to_itself (codes "a]*") no_prefixes.1 refl (Lacks-tested slash (codes "a]*") refl) refl,
  below_refs (codes "a*/]") no_prefixes.2 refl (record { before = codes "a*"; after = codes "]"; here = refl }) refl,
  of_object (outside_none (codes "e69de29bb2d1d6434b8b29ae775ad8c2e48c5391") (differ _ _ refl) blob_kind.1) blob_kind.1
      (empty_blob, IsIdText-empty_blob) refl,
  to_prefix (codes "HEAD") whole_prefixes.0 refl,
)

-- the prefix of a name is the whole name, and that of a pattern goes up to its star
pub other_prefixes : ¬ (IsPrefix (codes "refs/heads/main") (codes "refs/heads/"))
    × ¬ (IsPrefix (codes "refs/a*/b") (codes "refs/")) × ¬ (IsPrefix (codes "refs/a*/b") (codes "refs/a*/b"))
    × HasNoPrefix (codes "main") × HasNoPrefix (codes "HEAD/x")
other_prefixes = search (
  arith,
  other_length,
  one_prefix,
  Lacks-tested,
  whole_prefixes,
  outside_none,
  other_byte,
  short_kind,
  begins_not,
)

-- a partial name is expanded to its candidates, also with a star, but an id and `HEAD` are not; and a star before a
-- further slash leaves nothing
pub other_expansions : Expands (codes "heads/*") (candidates (codes "heads/*"))
    × ¬ (Expands (codes "main") (codes "main" ∷ []))
    × ¬ (Expands (codes "e69de29bb2d1d6434b8b29ae775ad8c2e48c5391")
    (candidates (codes "e69de29bb2d1d6434b8b29ae775ad8c2e48c5391")))
    × ¬ (Expands (codes "HEAD") (candidates (codes "HEAD"))) × ¬ (Expands (codes "refs/a*/]") (codes "refs/a*/]" ∷ []))
    × ¬ (Expands (codes "refs/*") [])
other_expansions = (
  heads_expands,
  other_list main_expands refl,
  other_list expansions_below.3 refl,
  other_list expansions_below.4 refl,
  other_list expansions_below.2 refl,
  other_list expansions_below.0 refl,
)
  where
    heads_expands : Expands (codes "heads/*") (candidates (codes "heads/*"))
    heads_expands = to_candidates no_prefixes.3 (begins_not (codes "refs/") (codes "heads/*") refl)
        (starred_no_id (codes "heads/*") (codes "heads/", [], split_at_end (codes "heads/") refl)) refl

    main_expands : Expands (codes "main") (candidates (codes "main"))
    main_expands = to_candidates other_prefixes.3 short_kind.2 short_kind.3 refl

    other_list : {x : List ℕ} {list other : List (List ℕ)} → Expands x other → (length list == length other) ≡ false
        → ¬ (Expands x list)
    other_list {x} {list} {other} another sizes one = eqb-false (length list) (length other) sizes
        (ap length ((one_prefix x).expanded list other one another))

pub asked :
    -- the prefix of a spec is by the source of a fetch or the destination of a push, and not by the other side; a
    -- negative spec and a push of a source
    -- alone have no such side
    IsAsked (fetched Normal (codes "a") (Some (codes "b"))) (codes "a")
    × IsAsked (pushed Normal (Some (codes "a")) (Some (codes "b"))) (codes "b")
    × ¬ (IsAsked (pushed Normal (Some (codes "a")) (Some (codes "b"))) (codes "a"))
    × ((x : List ℕ) → ¬ (IsAsked no_dev x) × ¬ (IsAsked (pushed Normal (Some (codes "a")) None) x))
    -- a reading has the prefix of its side on the remote, and a negative one has none
    × HasPrefix every (codes "refs/heads/") × HasPrefix (pushed Normal (Some (codes "refs/x/a")) (Some (codes "HEAD")))
    (codes "HEAD")
    × ((p : List ℕ) → ¬ (HasPrefix (fetched Negative (codes "HEAD") None) p)
    × ¬ (HasPrefix (pushed Normal (Some (codes "HEAD")) (Some (codes "main"))) p))
    -- a negative reading, or one without a side on the remote, is expanded to nothing; a fetch of `HEAD` isn't
    × IsExpansion (pushed Normal (Some (codes "a")) None) [] × IsExpansion no_dev []
    × ¬ (IsExpansion (fetched Normal (codes "HEAD") None) [])
    × ¬ (IsExpansion no_dev (codes "refs/heads/dev-" ∷ []))
asked = search (
  arith,
  other_byte,
  same_Some,
  none_some,
  below_heads,
  whole_prefixes,
  other_prefixes,
  one_prefix,
  expansions_below,
)
