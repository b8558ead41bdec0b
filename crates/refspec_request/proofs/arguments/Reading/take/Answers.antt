-- A value, a text behind `--`, or what is before it.
use Rattle.std.proofs.Common.{inl}
use Rattle.refspec_io.proofs.ShownLemmas.{on_ok}
use Rattle.refspec_request.specs.Reading.{call_of}
use Rattle.refspec_request.proofs.ArgumentLemmas.{behind_read, has_dashes, if_err, text_refused, value_read}
use Rattle.refspec_request.proofs.arguments.Reading.take.Goals as goal

pub returns-in_ok-set_value-in-Some-clause-ok : goal.returns-in_ok-set_value-in-Some-clause-ok
returns-in_ok-set_value-in-Some-clause-ok c = λ seen call.
    let r = c.args.self.now in
    value_read seen c.args.argument.now c.in-Some.option r.options c.set_value.new.self r.texts r.wants r.dashes
    c.in-Some.is call c.in_ok-set_value-in-Some.ensures

pub returns-in-Some-dashes : goal.returns-in-Some-dashes
returns-in-Some-dashes c =
    let r = c.args.self.now in
    let a = c.args.argument.now in
    let n = c.in-Some-dashes.field-0 in
    record {
      ok = on_ok c.add.result _ _ c.add.ensures.ok
          (λ more seen call. behind_read seen a r.options r.texts c.add.new.self r.wants r.dashes n
          c.in-Some-dashes.is call more);
      refused = if_err c.add.result _ _ c.add.ensures.refused
          (λ e told seen call. text_refused seen a e (call_of r) c.in-None.is
          (inl (has_dashes r.dashes n c.in-Some-dashes.is)) call told);
    }

pub returns-in-None-dashes : goal.returns-in-None-dashes
returns-in-None-dashes c = record {
  ok = on_ok c.take_first.result _ _ c.take_first.ensures.ok
      (λ more seen call. more seen call c.in-None.is c.in-None-dashes.is);
  refused = if_err c.take_first.result _ _ c.take_first.ensures.refused
      (λ e told seen call. told seen call c.in-None.is c.in-None-dashes.is);
}
