-- The spec of all tags is added, or not.
use Rattle.std.proofs.Common.{map}
use Rattle.gix_refspec.specs.Views.Spec.{reading_of}
use Rattle.refspec_fetch.specs.Answer.{takes_all}
use Rattle.refspec_git.proofs.FateLemmas.{all_added, none_added}
use Rattle.refspec_git.proofs.fates.add_all_tags.Goals as goal

pub returns-then-takes_all : goal.returns-then-takes_all
returns-then-takes_all c = all_added c.args.all.now.items c.push.new.self.items c.fetch_of_all_tags.result
    (takes_all c.args.tags) c.if-takes_all.ensures c.fetch_of_all_tags.ensures c.in_ok-push.ensures.items

pub returns : goal.returns
returns c = none_added (map reading_of c.args.all.now.items) (takes_all c.args.tags) c.if-takes_all.ensures
