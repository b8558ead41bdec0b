use Rattle.gix_refspec_text.proofs.lemmas.texts.TextLemmas.{FoundBefore}
use Rattle.gix_refspec_text.proofs.split.contains.Given as goal

abbrev pub invariant-loop-other : goal.invariant-loop-other
invariant-loop-other l = FoundBefore l.byte l.text l.other-index l.found
