-- Each idle spec adds its warning.
use Rattle.std.proofs.Common.{false, length, map}
use Rattle.gix_refspec_lint.specs.declared.IdleSpec.{IdleSpec}
use Rattle.gix_refspec_lint.specs.declared.Reason.TheVariants as reason
use Rattle.gix_refspec_lint.specs.Views.Lint.{unused_of}
use Rattle.refspec_io.specs.Texts.{given_of}
use Rattle.refspec_commands.specs.Warned.{IsIdleSaid, IsInside}
use Rattle.refspec_commands.specs.WarnedViews.{said_of}
use Rattle.refspec_io.proofs.CheckedLemmas.{zip_mapped_all}
use Rattle.refspec_commands.proofs.WarnedLemmas.{all_mapped_or, zip_mapped_or}
use Rattle.refspec_commands.proofs.warnings.idle.warnings_on.Goals as goal

abbrev none : IdleSpec
none = record { spec_index = 0; reason = reason.Invalid; is_required = false }

pub warning_on-requires-clause-inside : goal.warning_on-requires-clause-inside
warning_on-requires-clause-inside c = all_mapped_or (IsInside (length c.args.group.now.texts.items)) unused_of
    c.args.idle.now
    c.loop-spec.spec-index none c.requires.inside c.loop-spec-test.true

pub loop-spec-preserved : goal.loop-spec-preserved
loop-spec-preserved c = zip_mapped_or (IsIdleSaid (map given_of c.args.group.now.texts.items)) unused_of said_of
    c.args.idle.now
    c.loop-spec.spec-index none c.loop-spec.warnings.items c.push.new.self.items c.in_ok-warning_on.field-0
    c.loop-spec-test.true c.loop-spec.invariant c.in_ok-warning_on.ensures c.in_ok-push.ensures.items

pub returns : goal.returns
returns c = zip_mapped_all (IsIdleSaid (map given_of c.args.group.now.texts.items)) unused_of c.args.idle.now
    c.loop-spec.spec-index (map said_of c.loop-spec.warnings.items) c.loop-spec-test.false c.loop-spec.invariant
