-- Each name adds a remote.
use Rattle.std.proofs.Common.{◌≡◌, ◌∙◌, ◌++◌, ◌∷◌, [], Global, List, String, ap, map, subst, sym, take, take_all}
use Rattle.std.proofs.lemmas.List.{take_more}
use Rattle.std.specs.String.{string_bytes}
use Rattle.refspec_request.specs.declared.remotes.OldRemote.{OldRemote}
use Rattle.refspec_git.specs.Repository.{AreFiles}
use Rattle.refspec_git.proofs.RepositoryLemmas.{files_grown}
use Rattle.refspec_git.proofs.repository.add_files.Goals as goal

pub loop-name-preserved : goal.loop-name-preserved
loop-name-preserved c =
    let names = c.args.names.now in
    let i = c.loop-name.name-index in
    let name = c.name-item.result in
    let so_far = c.loop-name.invariant in
    let all = files_grown c.args.folder.now (take i names) name c.args.old.now.items c.loop-name.old.items
    c.push.new.self.items so_far.0 _ so_far.1 so_far.2 c.in_ok-push.ensures.items
    (c.in_ok-from_slice.ensures.items ∙ c.as_bytes.ensures.value) c.in_ok-from_str.ensures.ok in (
      all.0,
      subst (λ (l : List (String Global)). AreFiles c.args.folder.now (map string_bytes l) all.0)
          (ap (λ z. take i names ++ z ∷ []) c.name-item.is ∙ sym (take_more names i name c.loop-name-test.true)) all.1,
      all.2,
    )

pub returns : goal.returns
returns c = subst (λ (l : List (String Global)). (more : List OldRemote)
    × AreFiles c.args.folder.now (map string_bytes l) more × (c.loop-name.old.items ≡ c.args.old.now.items ++ more))
    (take_all c.loop-name.name-index c.args.names.now c.loop-name-test.false) c.loop-name.invariant
