-- `--`, a long option, letters, or a text.
use Rattle.std.proofs.Common.{◌∙◌, ap, arith, bytes_eq, codes, inr, length, refl, sym}
use Rattle.std.proofs.lemmas.Bool.{and_parts, ltb-true}
use Rattle.std.proofs.lemmas.Slice.Eq.{bytes_eq-Decides}
use Rattle.refspec_io.proofs.ShownLemmas.{on_ok}
use Rattle.refspec_request.specs.Reading.{call_of}
use Rattle.refspec_request.proofs.ArgumentLemmas.{dashes_read, if_err, letters_read, letters_refused, long_refused}
use Rattle.refspec_request.proofs.ArgumentLemmas.{other_bytes, text_read, text_refused}
use Rattle.refspec_request.proofs.arguments.Reading.take_first.Goals as goal

pub returns-then-eq-clause-ok : goal.returns-then-eq-clause-ok
returns-then-eq-clause-ok c = λ seen call complete open_.
    let r = c.args.self.now in
    let a = c.args.argument.now in
    dashes_read seen a r.options r.texts r.wants r.dashes c.len.result complete open_
    ((bytes_eq-Decides a (codes "--")).0
    (sym (c.eq.ensures ∙ ap (λ z. bytes_eq a z) c.as_slice.ensures) ∙ c.if-eq.true))
    (omega (arith, c.len.ensures, r.texts.arguments.ok.0)) call

pub returns-then-is_long : goal.returns-then-is_long
returns-then-is_long c =
    let a = c.args.argument.now in
    record {
      ok = c.take_long.ensures.ok;
      refused = if_err c.take_long.result _ _ c.take_long.ensures.refused
          (λ e told seen call complete open_. long_refused seen a e (call_of c.args.self.now) complete open_
          (other_bytes a (codes "--") c.eq.result (c.eq.ensures ∙ ap (λ z. bytes_eq a z) c.as_slice.ensures)
          c.if-eq.false)
          (sym c.if-is_long.ensures) call told);
    }

pub letters_of-requires : goal.letters_of-requires
letters_of-requires c =
    let a = c.args.argument.now in ltb-true 1 (length a) (and_parts _ _ (sym c.if-is_option.ensures)).0

pub returns-then-is_option : goal.returns-then-is_option
returns-then-is_option c =
    let r = c.args.self.now in
    let a = c.args.argument.now in
    record {
      ok = on_ok c.add_letters.result _ _ c.add_letters.ensures.ok
          (λ more seen call complete open_. letters_read seen a c.letters_of.result.now more.0 r.options
          (record r.options { switches = c.add_letters.new.switches }) r.texts r.wants r.dashes complete open_
          (sym c.if-is_option.ensures) (sym c.if-is_long.ensures) c.letters_of.ensures more.1 more.2 refl refl call);
      refused = if_err c.add_letters.result _ _ c.add_letters.ensures.refused
          (λ e told seen call complete open_. letters_refused seen a c.letters_of.result.now e (call_of r) complete
          open_ (sym c.if-is_option.ensures) (sym c.if-is_long.ensures) c.letters_of.ensures call told);
    }

pub returns : goal.returns
returns c =
    let r = c.args.self.now in
    let a = c.args.argument.now in
    let other = sym c.if-is_option.ensures in
    record {
      ok = on_ok c.add.result _ _ c.add.ensures.ok
          (λ more seen call complete open_. text_read seen a r.options r.texts c.add.new.self r.wants r.dashes complete
          open_ other call more);
      refused = if_err c.add.result _ _ c.add.ensures.refused
          (λ e told seen call complete open_. text_refused seen a e (call_of r) complete (inr other) call told);
    }
