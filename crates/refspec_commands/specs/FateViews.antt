-- What a spec does with a ref, as plain data, for contracts of private functions.
use Rattle.refspec_commands.specs.declared.fates.report.Verdict.{Verdict as DeclaredVerdict}
use Rattle.gix_refspec_why.specs.Views.Why.{effect_of}
use Rattle.refspec_commands.specs.Fates.{Verdict}

abbrev pub verdict_of : DeclaredVerdict → Verdict
verdict_of v = record { text = v.text.now; effect = effect_of v.effect.now }
