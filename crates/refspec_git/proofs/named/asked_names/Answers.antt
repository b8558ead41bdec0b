-- Each argument adds its lines.
use Rattle.std.proofs.Common.{◌∙◌, ◌++◌, ap, take_all}
use Rattle.refspec_git.specs.declared.named.NamedRef.{NamedRef}
use Rattle.refspec_git.specs.Named.{name_lines, name_lines_from}
use Rattle.refspec_git.proofs.NamedLemmas.{lines_next}
use Rattle.refspec_git.proofs.named.asked_names.Goals as goal

pub loop-number-preserved : goal.loop-number-preserved
loop-number-preserved c =
    lines_next c.args.named.now c.loop-number.number c.index-named-number.result c.loop-number.asked.items
    c.add_name.new.out.items c.loop-number-test.true
    (c.in_ok-add_name.ensures
    ∙ ap (λ (n : NamedRef). c.loop-number.asked.items ++ name_lines c.loop-number.number n) c.index-named-number.is)
    c.loop-number.invariant

pub returns : goal.returns
returns c = c.loop-number.invariant
    ∙ ap (name_lines_from 0) (take_all c.loop-number.number c.args.named.now c.loop-number-test.false)
