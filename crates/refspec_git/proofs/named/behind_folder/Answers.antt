-- The folder is stripped, then the slash.
use Rattle.std.proofs.Common.{◌∷◌, [], None, Some}
use Rattle.std.proofs.lemmas.Bool.Decides.{Decides-eqb}
use Rattle.std.proofs.lemmas.Slice.Eq.{strip_prefix_is}
use Rattle.refspec_git.proofs.NamedLemmas.{folder_stripped}
use Rattle.refspec_git.proofs.named.behind_folder.Goals as goal

pub returns-in_err-rest : goal.returns-in_err-rest
returns-in_err-rest c =
    rw c.from_residual.ensures (λ rest. strip_prefix_is Decides-eqb c.args.path.now c.args.folder.now None
    c.in_err-rest.ensures.cases (47 ∷ rest))

pub returns : goal.returns
returns c = folder_stripped c.args.path.now c.args.folder.now c.in_ok-rest.rest c.strip_prefix-2.result
    (strip_prefix_is Decides-eqb c.args.path.now c.args.folder.now (Some c.in_ok-rest.rest) c.in_ok-rest.ensures.cases)
    (strip_prefix_is Decides-eqb c.in_ok-rest.rest.now (47 ∷ []) c.strip_prefix-2.result c.strip_prefix-2.ensures.cases)
