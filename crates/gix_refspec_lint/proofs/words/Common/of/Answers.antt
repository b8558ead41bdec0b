-- Without a longer text no name fits both patterns.
use Rattle.gix_refspec_lint.proofs.Common.{append_assoc, sym, ◌∙◌}
use Rattle.gix_refspec_lint.proofs.words.Common.of.Goals as goal

pub returns-in_default : goal.returns-in_default
returns-in_default c n v w one other = c.in_default.ensures n (record { after = _; here = one })
    (record { after = _; here = other })

pub returns-in_default-longer_suffix : goal.returns-in_default-longer_suffix
returns-in_default-longer_suffix c n v w one other =
    c.in_default-longer_suffix.ensures n (record { before = _; here = one ∙ sym (append_assoc _ v _) })
    (record { before = _; here = other ∙ sym (append_assoc _ w _) })
