-- No candidate is a ref.
use Rattle.std.proofs.Common.{◌∙◌, ◌++◌, ap, map, sym}
use Rattle.std.proofs.lemmas.List.{append-nil}
use Rattle.bstr.specs.Owned.{bstring_bytes}
use Rattle.refspec_git.specs.Named.{first_in}
use Rattle.refspec_git.proofs.NamedLemmas.{completed_new}
use Rattle.refspec_git.proofs.named.completed.Goals as goal

pub returns : goal.returns
returns c =
    completed_new c.args.existing.now c.args.remotes.now c.args.partial.now c.into_vec.result.items
    c.folder_of.result.now
    (sym (c.in-None.ensures
    ∙ ap (first_in c.args.existing.now) (ap (map bstring_bytes) c.as_slice.ensures.value ∙ c.in_ok-all.ensures)))
    c.folder_of.ensures
    (c.into_vec.ensures
    ∙ (c.in_ok-name-in-None.ensures ∙ ap (λ l. c.folder_of.result.now ++ l) (append-nil c.args.partial.now)))
