-- each of the four bytes of white space was found, or is at none of the indexes so far
use Rattle.gix_refspec_text.proofs.lemmas.texts.TextLemmas.{FoundBefore}
use Rattle.refspec_io.proofs.refs.is_one_word.Given as goal

abbrev pub invariant-loop-byte : goal.invariant-loop-byte
invariant-loop-byte l = FoundBefore 10 l.text l.byte-index l.has_newline
    × FoundBefore 13 l.text l.byte-index l.has_return × FoundBefore 9 l.text l.byte-index l.has_tab
    × FoundBefore 32 l.text l.byte-index l.has_gap
