use Rattle.gix_refspec.proofs.Common.{map, take, bstring_bytes, reading_of, mapped_of, start_of, updated_indexes}
use Rattle.gix_refspec.proofs.lemmas.validate.ConflictLemmas.{AreTold}

abbrev pub invariant-loop-update :
    Rattle.gix_refspec.proofs.match_group.validate.conflicts.issue_of.Given.invariant-loop-update
invariant-loop-update l = AreTold (map reading_of l.specs) (map mapped_of l.mappings)
    (updated_indexes (take l.update-index l.run)) (map start_of l.sources.items) (map bstring_bytes l.texts.items)
