use Rattle.gix_refspec_diff.proofs.Common.{◌≡◌, bstring_bytes, map, start_of, take}
use Rattle.gix_refspec_diff.specs.Private.Searches.{with_words}

abbrev pub invariant-loop-word : Rattle.gix_refspec_diff.proofs.shared.own_sources.Given.invariant-loop-word
invariant-loop-word l = map start_of l.sources.items ≡
    with_words l.texts.0.now l.texts.1.now (map bstring_bytes (take l.word-index l.words))
