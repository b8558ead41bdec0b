-- Which sources are covering.
use Rattle.gix_refspec_text.proofs.Common.{rules, [], None, Some, codes, refl, arith, star, Normal, pushed, IsPrefix}
use Rattle.gix_refspec_text.proofs.Common.{of_name, of_pattern, IsCovering, by_prefix, by_candidates, HasCoveringSource}
use Rattle.gix_refspec_text.proofs.Common.{same_Some, HasNoPrefix}
use Rattle.gix_refspec_text.proofs.facts.ManualFacts.{Lacks-tested}
use Rattle.gix_refspec_text.proofs.readers.Texts.{differ, begins}
use Rattle.gix_refspec_text.proofs.lemmas.lists.LacksLemmas.{Lacks-here}
use Rattle.gix_refspec_text.proofs.lemmas.prefixes.PrefixLemmas.{no_prefix}
use Rattle.gix_refspec_text.proofs.facts.FitFacts.{blob_kind, no_dev, other_first, push_is_none, short, short_kind}
use Rattle.gix_refspec_text.proofs.facts.FitFacts.{split_at_end}

-- the prefix of a pattern
pub below_heads : IsPrefix (codes "refs/heads/*") (codes "refs/heads/")
below_heads = of_pattern (codes "refs/heads/") [] (split_at_end (codes "refs/heads/") refl)
    (search (arith, differ, begins, Lacks-tested)) refl

-- a pattern that begins with `refs/heads/`, a full name, a partial one and an id are covering
pub covering : IsCovering (codes "refs/heads/*") × IsCovering (codes "refs/heads/main") × IsCovering (codes "main")
    × IsCovering (codes "e69de29bb2d1d6434b8b29ae775ad8c2e48c5391")
covering = (
  by_prefix _ (record { after = codes "heads/*"; here = refl }) below_heads,
  by_prefix (codes "refs/heads/main") (record { after = codes "heads/main"; here = refl })
      (of_name (record { after = codes "heads/main"; here = refl }) (Lacks-tested star (codes "refs/heads/main") refl)
      refl),
  by_candidates short_kind.1 (differ _ _ refl) short_kind.2,
  by_candidates blob_kind.0 (differ _ _ refl) blob_kind.1,
)

-- a pattern with its star right after `refs/` has no prefix
pub no_bare_prefix : HasNoPrefix (codes "refs/*")
no_bare_prefix = no_prefix (codes "refs/*") (codes "refs/") [] (split_at_end (codes "refs/") refl)
    (λ is. is.further refl)

-- `HEAD`, `*` and `refs/*` aren't
pub not_covering : ¬ (IsCovering (codes "HEAD")) × ¬ (IsCovering (codes "*")) × ¬ (IsCovering (codes "refs/*"))
not_covering = (
  search (rules, arith, other_first),
  search (rules, arith, other_first, Lacks-here),
  λ covers. elim covers [
    | by_prefix p begins prefix ↦ no_bare_prefix p prefix
    | by_candidates lacks other outside ↦
        Lacks-here star (codes "refs/") [] lacks
  ],
)

-- a negative spec and a partial name have a covering source; a push never has one, whatever its source
pub covering_sources : HasCoveringSource no_dev × HasCoveringSource short
    × ¬ (HasCoveringSource (pushed Normal (Some (codes "main")) None))
covering_sources = search (arith, same_Some, covering, push_is_none)
