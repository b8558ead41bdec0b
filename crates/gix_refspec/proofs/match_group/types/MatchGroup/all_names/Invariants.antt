use Rattle.gix_refspec.proofs.Common.{map, take, bstring_bytes, reading_of, ListsGroup}

abbrev pub invariant-loop-spec :
    Rattle.gix_refspec.proofs.match_group.types.MatchGroup.all_names.Given.invariant-loop-spec
invariant-loop-spec l = ListsGroup (map reading_of (take l.spec-index l.self.specs.items))
    (map bstring_bytes l.list.items)
