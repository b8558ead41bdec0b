-- Whether one is missing, or else whether one is refused.
use Rattle.std.proofs.Common.{inl}
use Rattle.refspec_git.proofs.ChosenLemmas.{none_bad}
use Rattle.refspec_git.proofs.checking.are_usable.Goals as goal

pub returns-then-has_lacking : goal.returns-then-has_lacking
returns-then-has_lacking c = inl c.if-has_lacking.ensures

pub returns : goal.returns
returns c = none_bad c.args.values.now c.args.checked.now c.has_bad.result c.if-has_lacking.ensures c.has_bad.ensures
