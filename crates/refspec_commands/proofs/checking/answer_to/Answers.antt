-- The texts are checked, and warned of if that is asked for.
use Rattle.std.proofs.Common.{List, map, subst}
use Rattle.refspec_io.specs.declared.checked.Checked.{Checked}
use Rattle.refspec_commands.specs.WarnedViews.{asked_at, said_of, seen_of}
use Rattle.refspec_commands.specs.Warnings.{WarnsIf}
use Rattle.refspec_commands.proofs.checking.answer_to.Goals as goal

pub returns : goal.returns
returns c =
    let q = c.args.question.now in
    record {
      checked = c.in_ok-checked.ensures;
      warns = subst (λ (l : List Checked). WarnsIf q.warns q.form (asked_at q.beside) (map seen_of l)
          (map said_of c.in_ok-warnings.warnings.items)) c.as_slice.ensures.value c.in_ok-warnings.ensures;
    }
