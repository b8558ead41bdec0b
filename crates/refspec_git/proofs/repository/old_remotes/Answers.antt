-- The remotes of both folders are added.
use Rattle.std.proofs.Common.{◌∙◌, ◌++◌, inl, List, ap, codes, subst, ℕ}
use Rattle.refspec_git.specs.Repository.{AreFilesIn}
use Rattle.refspec_git.proofs.repository.old_remotes.Goals as goal

pub returns : goal.returns
returns g c =
    let w = g.M.Machine.world c.args.machine.now in
    let text = c.in-Ok.ensures.cases in
    let first = c.in_ok-add_files_in.ensures in
    let second = c.in_ok-add_files_in-2.ensures in
    inl (
      text.1,
      first.0,
      second.0,
      subst (λ (l : List ℕ). AreFilesIn w l first.0) (c.as_str.ensures.value ∙ (c.in_ok-remotes.ensures.ok
          ∙ ap (λ (l : List ℕ). l ++ codes "/remotes") text.0)) first.1,
      subst (λ (l : List ℕ). AreFilesIn w l second.0) (c.as_str-2.ensures.value ∙ (c.in_ok-branches.ensures.ok
          ∙ ap (λ (l : List ℕ). l ++ codes "/branches") text.0)) second.1,
      second.2 ∙ ap (λ l. l ++ second.0) (first.2 ∙ ap (λ l. l ++ first.0) c.new-old.ensures.items),
    )
