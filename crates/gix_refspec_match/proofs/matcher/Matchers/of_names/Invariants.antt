use Rattle.gix_refspec_match.proofs.Common.{map, take, reading_of, AreNamed}

abbrev pub invariant-loop-spec_index :
    Rattle.gix_refspec_match.proofs.matcher.Matchers.of_names.Given.invariant-loop-spec_index
invariant-loop-spec_index l = AreNamed (map reading_of (take l.spec_index l.specs)) l.list.items
