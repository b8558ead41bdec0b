-- Covering sources of a fetch: each ref name that such a source takes begins with an entry of its expansion.
use Rattle.std.specs.Prelude.{◌≡◌, ◌≢◌, ℕ, List, codes}
use Rattle.gix_refspec_text.specs.declared.parsing.Operation.TheVariants.{Fetch}
use Rattle.gix_refspec_text.specs.Texts.Words.{Lacks, BeginsWith}
use Rattle.gix_refspec_text.specs.Texts.Bytes.{star, head}
use Rattle.gix_refspec_text.specs.Specs.Reading.{Reading}
use Rattle.gix_refspec_text.specs.Matching.Prefix.{IsPrefix, IsAsked}

-- the side begins with `refs/` and has a prefix, or it is a partial name other than `HEAD`, or an id. Not covering
-- are `HEAD`, which also matches `refs/heads/HEAD` but is expanded to `HEAD` alone; `*` and `refs/*`, whose
-- expansions contain the star; and `refs/*/head`, whose expansion is empty
pub data IsCovering (x : List ℕ) : Type 0 where
  by_prefix : (p : List ℕ) → BeginsWith (codes "refs/") x → IsPrefix x p → IsCovering x
  by_candidates : Lacks star x → x ≢ head → ¬ (BeginsWith (codes "refs/") x) → IsCovering x

-- the reading is a fetch, and its source is covering unless the spec is negative
pub record HasCoveringSource (r : Reading) : Type 0 where
  pub fetch : r.operation ≡ Fetch
  pub source : (x : List ℕ) → IsAsked r x → IsCovering x
