-- The word is before the lines.
use Rattle.std.proofs.Common.{◌++◌, append_assoc, ap, codes, refl, ◌∙◌}
use Rattle.refspec_commands.proofs.warnings.Warning.write_lines.Goals as goal

pub returns : goal.returns
returns c =
    let lines = c.in_ok-lines.lines.items in (
      codes "warning: " ++ lines,
      record { after = lines; here = refl },
      c.in_ok-append.ensures.items ∙ (ap (λ l. l ++ lines) c.in_ok-extend_from_slice.ensures.items
          ∙ append_assoc c.args.out.now.items (codes "warning: ") lines),
    )
