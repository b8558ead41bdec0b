-- A spec alone is a group.
use Rattle.std.proofs.Common.{ap, map}
use Rattle.gix_refspec.specs.Views.Spec.{reading_of}
use Rattle.refspec_commands.proofs.PrefixLemmas.{is_reason-of, listed-of}
use Rattle.refspec_commands.proofs.prefixes.answer.is_reason.Goals as goal

pub returns-in-All : goal.returns-in-All
returns-in-All c = is_reason-of (map reading_of c.in_ok-specs.specs.items) (reading_of c.args.spec.now)
    (ap (map reading_of) c.in_ok-specs.ensures.items) (rw c.in-All.is at c.in_ok-ref_prefixes.ensures.ok)

pub returns : goal.returns
returns c = listed-of (map reading_of c.in_ok-specs.specs.items) (reading_of c.args.spec.now)
    c.in_ok-ref_prefixes.field-0 (ap (map reading_of) c.in_ok-specs.ensures.items) c.in_ok-ref_prefixes.ensures.ok
    c.in_default.not-All
