use Rattle.gix_refspec.proofs.Common.{arith, on_any_error, rules}
use Rattle.gix_refspec.proofs.lemmas.prefixes.AskedLemmas.{asks_no_names, none_at, nothing_at, one_more_list}
use Rattle.gix_refspec.proofs.match_group.types.MatchGroup.all_names.Goals as goal

pub returns-in_err-names-clause-memory : goal.returns-in_err-names-clause-memory
returns-in_err-names-clause-memory c =
    on_any_error c.from_residual.result
    (rw (← c.deref-spec-items.ensures.value)
    (λ asks. c.in_err-names.ensures.memory
    (nothing_at c.deref-spec-items.result.now c.loop-spec.spec-index c.spec-item.result c.loop-spec-test.true
    c.spec-item.is asks)))

pub returns-in_default-clause-ok : goal.returns-in_default-clause-ok
returns-in_default-clause-ok c = search (rules, none_at)

pub returns-in_err-append-clause-memory : goal.returns-in_err-append-clause-memory
returns-in_err-append-clause-memory c =
    let specs = c.deref-spec-items.result.now in
    let names = c.in-Some.names in
    let given = rw c.in-Some.is at c.in_ok-names.ensures.ok in
    on_any_error c.from_residual-in_err-append.result (λ asks.
    let nothing = rw (← c.deref-spec-items.ensures.value) at asks in
    omega (
      arith,
      c.in_err-append.ensures.full,
      c.loop-spec.list.ok.1,
      names.ok.0,
      asks_no_names specs c.loop-spec.spec-index c.spec-item.result names.items c.loop-spec-test.true c.spec-item.is
          given nothing,
    ))

pub loop-spec-preserved : goal.loop-spec-preserved
loop-spec-preserved c = search (rules, one_more_list)
