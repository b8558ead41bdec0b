use Rattle.gix_refspec.proofs.Common.{◌≡◌, filter, is_for}

abbrev pub invariant-loop-spec : Rattle.gix_refspec.proofs.match_group.types.MatchGroup.of.Given.invariant-loop-spec
invariant-loop-spec g l = l.group.specs.items ≡ filter (is_for l.operation) l.yielded
