use Rattle.gix_refspec_diff.proofs.Common.{bstring_bytes, map}
use Rattle.gix_refspec_diff.proofs.lemmas.SharedLemmas.{decide_shared}
use Rattle.gix_refspec_diff.proofs.shared.common_sources.Goals as goal

pub returns : goal.returns
returns c p t a b shared =
    decide_shared (map bstring_bytes c.args.words.now) p t a b _ _ _ _ c.in_ok-sources.ensures
    (c.in_ok-add_overlaps.ensures p t a b shared)
