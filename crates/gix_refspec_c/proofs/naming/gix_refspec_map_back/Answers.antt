-- The outcome is the number of the result.
use Rattle.std.proofs.Common.{inl, inr, refl}
use Rattle.gix_refspec.specs.Views.Spec.{reading_of}
use Rattle.gix_refspec_c.specs.Naming.{ShowsBackward}
use Rattle.gix_refspec_c.specs.Outcome.{fails}
use Rattle.gix_refspec_c.specs.Reading.{code_of}
use Rattle.gix_refspec_c.proofs.OutcomeLemmas.{answered}
use Rattle.gix_refspec_c.proofs.NamingLemmas.{answers, no_answer}
use Rattle.gix_refspec_c.proofs.naming.gix_refspec_map_back.Goals as goal

pub returns-in-Ok : goal.returns-in-Ok
returns-in-Ok c =
    let r = reading_of c.in-Ok.spec in
    let told = ShowsBackward c.args.name.now in
    let ok = answers c.args.buffer.now c.map_back.new.buffer c.map_back.new.made c.map_back.result _ c.args.text.now r
    c.in-Ok.ensures.ok told c.map_back.ensures.ok in
    let err = no_answer c.args.buffer.now c.map_back.new.buffer c.map_back.new.made c.map_back.result _ c.args.text.now
    r
    c.in-Ok.ensures.ok told c.args.made.now c.map_back.ensures.err in
    answered code_of c.args.operation _ _ _ c.in-Some.operation c.map_back.result c.outcome_of.result c.in-Some.ensures
    c.outcome_of.ensures ok err

pub returns-in-Err : goal.returns-in-Err
returns-in-Err c = fails c.in-Some.operation c.in-Some.ensures c.in-Err.failure c.number-in-Err.ensures
    (inr (inl c.in-Err.ensures.err, refl, refl))
