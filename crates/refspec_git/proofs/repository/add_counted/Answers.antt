-- The setting is added, or ignored.
use Rattle.std.proofs.Common.{List, ◌++◌, ◌∷◌, [], subst, sym}
use Rattle.refspec_io.specs.declared.settings.Setting.{Setting}
use Rattle.refspec_git.specs.Repository.{AreCounted}
use Rattle.refspec_git.proofs.RepositoryLemmas.{counted_more, counted_same}
use Rattle.refspec_git.proofs.repository.add_counted.Goals as goal

pub returns-then-counts : goal.returns-then-counts
returns-then-counts c = λ all are.
    subst (λ (l : List Setting). AreCounted (all ++ c.args.setting.now ∷ []) l) (sym c.in_ok-push.ensures.items)
    (counted_more all c.args.counted.now.items c.args.setting.now are c.if-counts.ensures)

pub returns : goal.returns
returns c = λ all are. counted_same all c.args.counted.now.items c.args.setting.now are c.if-counts.ensures
