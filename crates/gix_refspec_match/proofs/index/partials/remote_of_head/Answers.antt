use Rattle.gix_refspec_match.proofs.Common.{Some, codes, Decides-eqb, strip_suffix_is, strip_prefix_is}
use Rattle.gix_refspec_match.proofs.lemmas.hits.HitLemmas.{word_left}

pub returns : Rattle.gix_refspec_match.proofs.index.partials.remote_of_head.Goals.returns
returns c =
    word_left (codes "remotes/") (codes "/HEAD") c.args.below.now c.in_ok-strip_prefix.field-0.now c.strip_suffix.result
    (strip_prefix_is Decides-eqb _ (codes "remotes/") (Some c.in_ok-strip_prefix.field-0)
    c.in_ok-strip_prefix.ensures.cases)
    (strip_suffix_is Decides-eqb _ (codes "/HEAD") _ c.strip_suffix.ensures.cases)
