-- The name is asked for, or not.
use Rattle.std.proofs.Common.{map, refl}
use Rattle.std.proofs.lemmas.Bool.{iff_false}
use Rattle.refspec_io.specs.Texts.{given_of}
use Rattle.refspec_git.proofs.AskedLemmas.{merged_more, merged_none}
use Rattle.refspec_git.proofs.specs.add_merged.Goals as goal

pub returns-then-is_ref_name : goal.returns-then-is_ref_name
returns-then-is_ref_name c = λ merges are.
    merged_more merges c.args.merge.now c.merged_name-name.result.now c.args.texts.now.items c.push.new.self.items
    c.argument.result c.merged_name-name.ensures (c.if-is_ref_name.ensures.0 refl) c.argument.ensures
    c.in_ok-push.ensures.items are

pub returns : goal.returns
returns c = λ merges are.
    merged_none merges c.args.merge.now c.merged_name-name.result.now (map given_of c.args.texts.now.items)
    c.merged_name-name.ensures (iff_false c.if-is_ref_name.ensures refl) are
