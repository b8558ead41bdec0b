use Rattle.gix_refspec.proofs.{Common.{map, mapped_of}, lemmas.validate.UpdateLemmas.{AreUpdatesUpto}}

abbrev pub invariant-loop-index :
    Rattle.gix_refspec.proofs.match_group.validate.conflicts.updates_in_order.Given.invariant-loop-index
invariant-loop-index l = AreUpdatesUpto (map mapped_of l.mappings) l.flags l.index l.updates.items
