-- By whether the branch merges anything.
use Rattle.std.proofs.Common.{map}
use Rattle.std.proofs.lemmas.Result.{IfOk-weaker}
use Rattle.refspec_io.specs.Texts.{given_of}
use Rattle.refspec_git.proofs.AskedLemmas.{empty, head_alone, merged_alone, not_empty}
use Rattle.refspec_git.proofs.specs.merged_or_head.Goals as goal

pub returns-then-is_empty : goal.returns-then-is_empty
returns-then-is_empty c =
    let none = empty c.args.merges.now c.if-is_empty.ensures in
    IfOk-weaker c.head_text.result _ _
    (λ texts is. head_alone c.args.merges.now (map given_of texts.items) none is) c.head_text.ensures

pub returns : goal.returns
returns c =
    let some = not_empty c.args.merges.now c.if-is_empty.ensures in
    IfOk-weaker c.merged_texts.result _ _
    (λ texts are. merged_alone c.args.merges.now (map given_of texts.items) some are) c.merged_texts.ensures
