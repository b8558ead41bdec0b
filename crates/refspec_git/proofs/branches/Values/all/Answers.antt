-- Each entry adds its branch.
use Rattle.std.proofs.Common.{◌≡◌, ◌∷◌, [], map, subst, sym, rules}
use Rattle.std.proofs.lemmas.List.{map-append}
use Rattle.std.proofs.lemmas.Map.Iter.{iter_end}
use Rattle.std.specs.Map.Iter.{deref_pair}
use Rattle.refspec_git.specs.Branches.{AddsBranch, AreBranchesIn}
use Rattle.refspec_git.proofs.BranchLemmas.{AreBranchesIn-more}
use Rattle.refspec_git.proofs.branches.Values.all.Goals as goal

pub loop-name-preserved : goal.loop-name-preserved
loop-name-preserved c = λ settings are.
    let e = deref_pair (c.in-Some.name, c.in-Some.values) in
    subst (λ l. AreBranchesIn settings l c.add.new.branches.items)
    (sym (map-append deref_pair c.loop-name.yielded ((c.in-Some.name, c.in-Some.values) ∷ [])))
    (AreBranchesIn-more settings (map deref_pair c.loop-name.yielded) e c.loop-name.branches.items
    c.add.new.branches.items
    (subst (λ l. AddsBranch settings e.0 l c.loop-name.branches.items c.add.new.branches.items)
    c.as_slice.ensures.value (c.in_ok-add.ensures settings are))
    (c.loop-name.invariant settings are))

pub returns : goal.returns
returns c = λ settings are.
    let whole : map deref_pair c.loop-name.yielded ≡ c.args.self.now.merges.entries = search (rules, iter_end) in (
      c.args.self.now.merges,
      are.merges,
      subst (λ l. AreBranchesIn settings l c.loop-name.branches.items) whole (c.loop-name.invariant settings are),
    )
