-- Each directory conflict adds its warning.
use Rattle.std.proofs.Common.{length, map}
use Rattle.gix_refspec_lint.specs.Views.Lint.{nesting_of}
use Rattle.refspec_io.specs.Texts.{given_of}
use Rattle.refspec_commands.specs.Warned.{AreWithin, IsNestingSaid}
use Rattle.refspec_commands.specs.WarnedViews.{said_of}
use Rattle.refspec_io.proofs.CheckedLemmas.{zip_mapped_all}
use Rattle.refspec_commands.proofs.WarnedLemmas.{all_mapped_at, zip_mapped_next}
use Rattle.refspec_commands.proofs.warnings.directories.warnings_on.Goals as goal

pub warning_on-requires : goal.warning_on-requires
warning_on-requires c = all_mapped_at (AreWithin (length c.args.texts.now)) nesting_of c.args.conflicts.now
    c.loop-conflict.conflict-index c.conflict-item.result
    c.requires c.loop-conflict-test.true c.conflict-item.is

pub loop-conflict-preserved : goal.loop-conflict-preserved
loop-conflict-preserved c = zip_mapped_next (IsNestingSaid (map given_of c.args.texts.now)) nesting_of said_of
    c.args.conflicts.now c.loop-conflict.conflict-index
    c.conflict-item.result c.loop-conflict.warnings.items c.push.new.self.items c.in_ok-warning_on.field-0
    c.loop-conflict-test.true c.conflict-item.is
    c.loop-conflict.invariant c.in_ok-warning_on.ensures c.in_ok-push.ensures.items

pub returns : goal.returns
returns c = zip_mapped_all (IsNestingSaid (map given_of c.args.texts.now)) nesting_of c.args.conflicts.now
    c.loop-conflict.conflict-index
    (map said_of c.loop-conflict.warnings.items) c.loop-conflict-test.false c.loop-conflict.invariant
