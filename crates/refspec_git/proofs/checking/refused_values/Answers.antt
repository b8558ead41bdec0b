-- The values of all remotes are usable, or reported.
use Rattle.std.proofs.Common.{false, true}
use Rattle.refspec_git.proofs.ChosenLemmas.{lent_decided}
use Rattle.refspec_git.proofs.checking.refused_values.Goals as goal

pub returns-then-are_usable : goal.returns-then-are_usable
returns-then-are_usable c =
    let told = lent_decided c.args.settings.now c.in_ok-values.values.items c.as_slice.result.now
    c.as_slice-3.result.now c.in_ok-texts.texts.items c.as_slice-2.result.now c.in_ok-checked.checked.items
    c.as_slice-4.result.now true c.in_ok-values.ensures c.as_slice.ensures.value c.in_ok-texts.ensures
    c.as_slice-2.ensures.value c.in_ok-checked.ensures c.as_slice-3.ensures.value c.as_slice-4.ensures.value
    c.if-are_usable.ensures in
    (c.in_ok-values.values.items, told.0, told.1)

pub returns : goal.returns
returns c =
    let told = lent_decided c.args.settings.now c.in_ok-values.values.items c.as_slice.result.now
    c.as_slice-3.result.now c.in_ok-texts.texts.items c.as_slice-2.result.now c.in_ok-checked.checked.items
    c.as_slice-4.result.now false c.in_ok-values.ensures c.as_slice.ensures.value c.in_ok-texts.ensures
    c.as_slice-2.ensures.value c.in_ok-checked.ensures c.as_slice-3.ensures.value c.as_slice-4.ensures.value
    c.if-are_usable.ensures in
    (c.in_ok-values.values.items, told.0, (told.1, c.in_ok-report.ensures))
