-- Whether the values are usable, and the texts are specs.
use Rattle.refspec_git.proofs.CheckingLemmas.{good_tested}
use Rattle.refspec_git.proofs.checking.Found.is_good.Goals as goal

pub returns : goal.returns
returns c = good_tested c.are_usable.result c.args.self.now.values.items c.as_slice.result.now c.args.self.now.answer
    c.as_slice-2.result.now c.as_slice.ensures.value c.as_slice-2.ensures.value c.are_usable.ensures
