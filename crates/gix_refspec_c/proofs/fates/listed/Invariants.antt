-- the structs and the text are those of the effects so far
use Rattle.std.proofs.Common.{map, take}
use Rattle.gix_refspec_why.specs.Views.Why.{effect_of}
use Rattle.gix_refspec_c.specs.Fates.{ShowEffects}
use Rattle.gix_refspec_c.proofs.fates.listed.Given as goal

abbrev pub invariant-loop-effect : goal.invariant-loop-effect
invariant-loop-effect l = ShowEffects (map effect_of (take l.effect-index l.effects)) l.structs.items l.text.items
