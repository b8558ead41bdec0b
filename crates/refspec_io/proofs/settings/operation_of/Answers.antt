-- The key is `remote.`, a name and the variable.
use Rattle.std.proofs.Common.{◌++◌, ◌-◌, ℕ, List, Some, codes, length, take, ap, ◌∙◌}
use Rattle.std.proofs.lemmas.Bool.Decides.{Decides-eqb}
use Rattle.std.proofs.lemmas.Slice.Eq.{ends_is, strip_prefix_is}
use Rattle.refspec_io.proofs.settings.operation_of.Goals as goal

pub returns-then-ends_with : goal.returns-then-ends_with
returns-then-ends_with c =
    let v = c.in_ok-variable.variable.now in
    let after = strip_prefix_is Decides-eqb c.args.key.now (codes "remote.") (Some c.in_ok-variable.variable)
    c.in_ok-variable.ensures.cases in
    let ends = (ends_is Decides-eqb v (codes ".fetch") c.ends_with.result c.ends_with.ensures.value).0
    c.if-ends_with.true in
    (take (length v - length (codes ".fetch")) v, after ∙ ap (λ (x : List ℕ). codes "remote." ++ x) ends)

pub returns-then-ends_with-2 : goal.returns-then-ends_with-2
returns-then-ends_with-2 c =
    let v = c.in_ok-variable.variable.now in
    let after = strip_prefix_is Decides-eqb c.args.key.now (codes "remote.") (Some c.in_ok-variable.variable)
    c.in_ok-variable.ensures.cases in
    let ends = (ends_is Decides-eqb v (codes ".push") c.ends_with-2.result c.ends_with-2.ensures.value).0
    c.if-ends_with-2.true in
    (take (length v - length (codes ".push")) v, after ∙ ap (λ (x : List ℕ). codes "remote." ++ x) ends)
