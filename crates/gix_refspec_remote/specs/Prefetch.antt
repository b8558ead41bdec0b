-- What `git fetch --prefetch` makes of a fetch spec, by git-fetch(1): it places all refs into the namespace
-- refs/prefetch/. That tags, and what stores nothing, are left out is a rule of Git that the page lacks.
use Rattle.std.specs.Prelude.{◌≡◌, ℕ, List, ◌++◌, Some, codes}
use Rattle.gix_refspec_text.specs.Texts.Words.{BeginsWith}
use Rattle.gix_refspec_text.specs.Specs.Reading.{Reading, Forced, Negative}
use Rattle.gix_refspec_text.specs.Specs.Grammar.{IsPositive, fetched}

-- the ref name p in refs/prefetch/ for the destination d: in place of `refs/`, if d begins with that, and otherwise
-- before d
pub data IsPrefetchName (d p : List ℕ) : Type 0 where
  in_refs : (rest : List ℕ) → d ≡ codes "refs/" ++ rest → p ≡ codes "refs/prefetch/" ++ rest → IsPrefetchName d p
  outside : ¬ (BeginsWith (codes "refs/") d) → p ≡ codes "refs/prefetch/" ++ d → IsPrefetchName d p

-- the positive spec with both sides is forced, and stored there
pub record IsMoved (r made : Reading) : Type 0 where
  pub positive : IsPositive r.mode
  pub source : List ℕ
  pub from : r.source ≡ Some source
  pub no_tags : ¬ (BeginsWith (codes "refs/tags/") source)
  pub destination : List ℕ
  pub to : r.destination ≡ Some destination
  pub stored : List ℕ
  pub at : IsPrefetchName destination stored
  pub is : made ≡ fetched Forced source (Some stored)

-- so a prefetch applies the spec `made` in place of r, and a negative spec as it is
pub data IsPrefetched (r made : Reading) : Type 0 where
  kept : r.mode ≡ Negative → made ≡ r → IsPrefetched r made
  moved : IsMoved r made → IsPrefetched r made
