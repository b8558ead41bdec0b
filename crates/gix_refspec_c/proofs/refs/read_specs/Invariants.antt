-- the specs so far were read, in order
use Rattle.std.proofs.Common.{map, take}
use Rattle.std.specs.List.{AllZip}
use Rattle.gix_refspec.specs.Views.Spec.{reading_of}
use Rattle.gix_refspec_c.specs.Refs.{ReadsAs, spec_text}
use Rattle.gix_refspec_c.proofs.refs.read_specs.Given as goal

abbrev pub invariant-loop-spec : goal.invariant-loop-spec
invariant-loop-spec l = AllZip ReadsAs (take l.spec-index (map spec_text l.specs)) (map reading_of l.group.specs.items)
