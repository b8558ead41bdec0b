-- the texts so far are those of the specs
use Rattle.std.proofs.Common.{map, take}
use Rattle.bstr.specs.Owned.{bstring_bytes}
use Rattle.gix_refspec.specs.Views.Spec.{reading_of}
use Rattle.refspec_io.specs.Rows.{AreSpecTexts}
use Rattle.refspec_io.proofs.canonical.canonical_texts.Given as goal

abbrev pub invariant-loop-spec : goal.invariant-loop-spec
invariant-loop-spec l = AreSpecTexts (map reading_of (take l.spec-index l.specs)) (map bstring_bytes l.texts.items)
