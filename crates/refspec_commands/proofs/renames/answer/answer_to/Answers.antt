-- Each text adds what becomes of it.
use Rattle.std.proofs.Common.{[], sym, subst}
use Rattle.std.specs.List.{AllZip}
use Rattle.refspec_io.specs.Texts.{given_of}
use Rattle.refspec_io.proofs.CheckedLemmas.{zip_mapped_all}
use Rattle.refspec_commands.specs.Renames.{IsValueOf}
use Rattle.refspec_commands.proofs.EachLemmas.{zip_mapped}
use Rattle.refspec_commands.proofs.renames.answer.answer_to.Goals as goal

pub loop-text-init : goal.loop-text-init
loop-text-init c =
    let names = c.args.renaming in
    subst (AllZip (IsValueOf names.old.now names.new.now) []) (sym c.in_ok-values.ensures.items) tt

pub loop-text-preserved : goal.loop-text-preserved
loop-text-preserved c =
    let names = c.args.renaming in
    zip_mapped (IsValueOf names.old.now names.new.now) given_of c.args.texts.now c.loop-text.text-index _
    c.loop-text.values.items c.push.new.self.items c.in_ok-value_of.field-0 c.loop-text-test.true
    c.loop-text.invariant c.in_ok-value_of.ensures c.in_ok-push.ensures.items

pub returns : goal.returns
returns c =
    let names = c.args.renaming in
    zip_mapped_all (IsValueOf names.old.now names.new.now) given_of c.args.texts.now c.loop-text.text-index
    c.loop-text.values.items c.loop-text-test.false c.loop-text.invariant
