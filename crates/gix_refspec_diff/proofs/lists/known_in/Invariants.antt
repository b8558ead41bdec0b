use Rattle.gix_refspec_diff.proofs.Common.{◌≡◌, ◌+◌, length}
use Rattle.gix_refspec_diff.proofs.lemmas.ListLemmas.{AreCopied}

abbrev pub invariant-loop-index : Rattle.gix_refspec_diff.proofs.lists.known_in.Given.invariant-loop-index
invariant-loop-index l = (length l.fn.other + length l.known.items ≡ l.index)
    × AreCopied l.flags.items (length l.fn.other) l.known.items
