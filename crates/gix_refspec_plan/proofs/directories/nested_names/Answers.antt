-- The names are sorted, and what is told of these is told in any order.
use Rattle.gix_refspec_plan.proofs.Common.{Bor, IfOk-weaker, List, rules, ℕ}
use Rattle.gix_refspec_plan.proofs.lemmas.plan.DirectoryLemmas.{component_total, told_permuted}
use Rattle.std.{specs.Ordering.is_lt, proofs.lemmas.{Fn.always_returns_same, List.Sorted.ranks_by}}
use Rattle.gix_refspec_plan.specs.Private.Directories.{by_component}
use Rattle.gix_refspec_plan.proofs.directories.nested_names.Goals as goal

pub nested_in-requires : goal.nested_in-requires
nested_in-requires c = rw c.as_slice.ensures.value
    (c.sort_unstable_by.ensures.sorted (λ p q. is_lt (by_component p.now q.now))
    (ranks_by component_total (λ (x : Bor (List ℕ)). x.now)) (search (rules, always_returns_same)))

pub returns : goal.returns
returns c =
    IfOk-weaker c.nested_in.result _ _
    (λ nested told. told_permuted c.args.names.items _ nested c.sort_unstable_by.ensures.permutation told)
    (rw c.as_slice.ensures.value at c.nested_in.ensures)
