-- The text of all tags is added, or not.
use Rattle.std.proofs.Common.{◌∙◌, ap, map}
use Rattle.refspec_io.specs.Texts.{given_of}
use Rattle.refspec_git.specs.Asked.{asks_tags, unwritten}
use Rattle.refspec_git.proofs.AskedLemmas.{tags_added, tags_left}
use Rattle.refspec_git.proofs.specs.add_tags.Goals as goal

pub returns-then-asks_tags : goal.returns-then-asks_tags
returns-then-asks_tags c = tags_added c.args.texts.now.items c.push.new.self.items c.argument.result
    (asks_tags c.args.tags) c.if-asks_tags.ensures (c.argument.ensures ∙ ap unwritten c.as_bytes.ensures.value)
    c.in_ok-push.ensures.items

pub returns : goal.returns
returns c = tags_left (map given_of c.args.texts.now.items) (asks_tags c.args.tags) c.if-asks_tags.ensures
