-- Examples of what a prefetch applies, as Git 2.39.5 does.
use Rattle.gix_refspec_remote.proofs.Common.{Some, codes, refl, subst, same_Some, Reading}
use Rattle.gix_refspec_remote.specs.Prefetch.{IsPrefetched, in_refs, kept, moved, outside}
use Rattle.gix_refspec_text.proofs.readers.Texts.{begins_not}
use Rattle.gix_refspec_text.specs.Specs.Grammar.{fetched}
use Rattle.gix_refspec_text.specs.Specs.Reading.{Forced, Normal}
use Rattle.gix_refspec_text.specs.Texts.Words.{BeginsWith}

-- `refs/` of a destination is replaced
pub stored_in_prefetch : IsPrefetched (fetched Normal (codes "refs/heads/a") (Some (codes "refs/x/a")))
    (fetched Forced (codes "refs/heads/a") (Some (codes "refs/prefetch/x/a")))
stored_in_prefetch = moved (record {
  positive = tt;
  source = codes "refs/heads/a";
  from = refl;
  no_tags = begins_not (codes "refs/tags/") (codes "refs/heads/a") refl;
  destination = codes "refs/x/a";
  to = refl;
  stored = codes "refs/prefetch/x/a";
  at = in_refs (codes "x/a") refl refl;
  is = refl;
})

-- another destination is not completed; a tag by a partial name isn't ignored
pub stored_as_written : IsPrefetched (fetched Normal (codes "tags/v") (Some (codes "x")))
    (fetched Forced (codes "tags/v") (Some (codes "refs/prefetch/x")))
stored_as_written = moved (record {
  positive = tt;
  source = codes "tags/v";
  from = refl;
  no_tags = begins_not (codes "refs/tags/") (codes "tags/v") refl;
  destination = codes "x";
  to = refl;
  stored = codes "refs/prefetch/x";
  at = outside (begins_not (codes "refs/") (codes "x") refl) refl;
  is = refl;
})

-- a tag is ignored
pub tag_ignored : (made : Reading) → ¬ (IsPrefetched (fetched Normal (codes "refs/tags/v") (Some (codes "x"))) made)
tag_ignored made (kept negative is) = absurd (cc (negative))
tag_ignored made (moved by) = by.no_tags
    (subst (BeginsWith (codes "refs/tags/")) (same_Some _ _ by.from) (record { after = codes "v"; here = refl }))
