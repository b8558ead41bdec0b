-- the warnings on the negative specs so far
use Rattle.std.proofs.Common.{map, take}
use Rattle.gix_refspec_text.specs.Views.Spec.{reading_of}
use Rattle.gix_refspec_match.specs.Matching.Lists.{IsMadeFrom}
use Rattle.refspec_io.specs.Texts.{given_of}
use Rattle.refspec_commands.specs.Warned.{IsExclusionSaid}
use Rattle.refspec_commands.specs.WarnedViews.{said_of}
use Rattle.refspec_commands.proofs.warnings.idle.exclusion_warnings.Given as goal

abbrev pub invariant-loop-exclusion : goal.invariant-loop-exclusion
invariant-loop-exclusion l = IsMadeFrom
    (λ i k s. IsExclusionSaid (map reading_of l.group.specs.items) (map given_of l.group.texts.items) k s) 0
    (take l.exclusion-index l.idle) (map said_of l.warnings.items)
