-- The repository is as Git printed.
use Rattle.std.proofs.Common.{Bor, List, map, subst, sym, ℕ}
use Rattle.refspec_io.specs.declared.settings.Setting.{Setting}
use Rattle.refspec_io.specs.Settings.{AreSettings}
use Rattle.refspec_request.specs.declared.remotes.OldRemote.{OldRemote}
use Rattle.refspec_git.specs.Repository.{AreCounted, AreOldRemotes, IsLine, IsPath}
use Rattle.refspec_git.proofs.CallLemmas.{repository_answered}
use Rattle.refspec_git.proofs.call.answer_request.Goals as goal

pub returns : goal.returns
returns g c =
    let w = g.M.Machine.world c.args.machine.now in
    let printed = c.in-Some.printed in
    let counted = c.in_ok-settings.ensures in
    let path = c.line_of.result.now in
    let target = c.line_of-2.result.now in
    repository_answered w c.args.request.now printed.folder.items printed.config.items printed.head.items _
    c.end_in.result c.end_in.ensures (rw c.in-Some.is at c.in_ok-printed.ensures)
    (record {
      all = counted.0;
      path = path;
      target = target;
      read = subst (λ (l : List ℕ). AreSettings l counted.0) c.as_slice.ensures.value counted.1;
      counted = subst (λ (l : List Setting). AreCounted counted.0 l) (sym c.as_slice-3.ensures.value) counted.2;
      in_folder = subst (λ (l : List ℕ). IsLine l path) c.as_slice-2.ensures.value c.line_of.ensures;
      files = subst (λ (l : List OldRemote). AreOldRemotes w path l) (sym c.as_slice-5.ensures.value)
          c.in_ok-old.ensures;
      in_head = subst (λ (l : List ℕ). IsLine l target) c.as_slice-4.ensures.value c.line_of-2.ensures;
      on_branch = c.branch_of.ensures;
      argument = subst (λ (l : List (Bor (List ℕ))). IsPath w (map (λ a. a.now) l) c.is_path.result)
          c.as_slice-6.ensures.value c.is_path.ensures;
    })
