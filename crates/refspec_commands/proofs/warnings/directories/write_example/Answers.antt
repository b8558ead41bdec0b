-- The sentence is written part by part.
use Rattle.std.proofs.Common.{ℕ, List, ◌++◌, ◌∙◌, codes, subst}
use Rattle.gix_refspec_lint.specs.Views.Lint.{nesting_of}
use Rattle.refspec_io.specs.Shown.{WritesQuoted}
use Rattle.refspec_commands.proofs.WarnedLemmas.{IsNestingMessage-of, after_append}
use Rattle.refspec_commands.proofs.warnings.directories.write_example.Goals as goal

pub returns : goal.returns
returns c empty =
    let sources = c.write_sources.new.out.items in
    let second = c.say.new.out.items in
    let third = c.say-2.new.out.items in
    let to_second = subst (λ (d : List ℕ). WritesQuoted d (sources ++ codes " would write ") second)
    (c.as_bytes-directory.ensures ∙ c.as_bstr.ensures) c.in_ok-say.ensures in
    let to_third = subst (λ (d : List ℕ). WritesQuoted d (second ++ codes " and ") third)
    (c.as_bytes-nested.ensures ∙ c.as_bstr-2.ensures) c.in_ok-say-2.ensures in
    after_append c.extend_from_slice.result c.extend_from_slice.new.self.items _ _ _ c.extend_from_slice.ensures.items
    (IsNestingMessage-of (nesting_of c.args.conflict.now) sources second third c.extend_from_slice.new.self.items
    (c.in_ok-write_sources.ensures empty) to_second to_third)
