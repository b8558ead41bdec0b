-- The sentence is written part by part.
use Rattle.std.proofs.Common.{ℕ, List, ◌++◌, ◌∙◌, codes, subst}
use Rattle.gix_refspec_lint.specs.Views.Lint.{example_of}
use Rattle.refspec_io.specs.Shown.{WritesQuoted}
use Rattle.refspec_commands.proofs.WarnedLemmas.{IsExampleMessage-of, after_append}
use Rattle.refspec_commands.proofs.warnings.conflicts.write_example.Goals as goal

pub returns : goal.returns
returns c empty =
    let second = c.say_source-2.new.out.items in
    let third = c.say.new.out.items in
    let to_third = subst (λ (d : List ℕ). WritesQuoted d (second ++ codes " would write both to ") third)
    (c.as_bytes-destination.ensures ∙ c.as_bstr.ensures) c.in_ok-say.ensures in
    after_append c.extend_from_slice.result c.extend_from_slice.new.self.items _ _ _ c.extend_from_slice.ensures.items
    (IsExampleMessage-of (example_of c.args.conflict.now) c.args.out.now.items c.say_source.new.out.items second
    third c.extend_from_slice.new.self.items
    empty c.in_ok-say_source.ensures c.in_ok-say_source-2.ensures to_third)
