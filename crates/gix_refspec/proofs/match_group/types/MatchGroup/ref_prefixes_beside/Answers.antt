-- The needed ones of the others and of the ref prefixes of all specs.
use Rattle.gix_refspec.proofs.Common.{List, [], ℕ, ap, arith, bstring_bytes, length, length-map, map, map-append}
use Rattle.gix_refspec.proofs.Common.{on_any_error, readings_of, subst, ◌∙◌}
use Rattle.gix_refspec.proofs.lemmas.prefixes.RequestLemmas.{group_once, nothing_beside, request_is}
use Rattle.gix_refspec.proofs.match_group.types.MatchGroup.ref_prefixes_beside.Goals as goal
use Rattle.gix_refspec_match.specs.Matching.Redundant.{AreNeeded}
use Rattle.std.proofs.Common.{length-append}

pub returns-in_err-names-clause-memory : goal.returns-in_err-names-clause-memory
returns-in_err-names-clause-memory c = on_any_error c.from_residual.result (λ nothing. c.in_err-names.ensures.memory
    (nothing_beside (map bstring_bytes c.args.others.items) (readings_of c.args.self.now) nothing).1)

pub returns-in_err-append-clause-memory : goal.returns-in_err-append-clause-memory
returns-in_err-append-clause-memory c =
    let names = c.in-Some.names in
    let given = rw c.in-Some.is at c.in_ok-names.ensures.ok in
    on_any_error c.from_residual-in_err-append.result (λ nothing.
    let both = nothing_beside (map bstring_bytes c.args.others.items) (readings_of c.args.self.now) nothing in
    let none = group_once (readings_of c.args.self.now) (map bstring_bytes names.items) [] given both.1 in
    omega (
      arith,
      c.in_err-append.ensures.full,
      c.args.others.ok.1,
      names.ok.0,
      length-map names.items bstring_bytes,
      ap length none,
    ))

pub returns-in_err-without_redundant-clause-memory : goal.returns-in_err-without_redundant-clause-memory
returns-in_err-without_redundant-clause-memory c =
    let names = c.in-Some.names in
    let others = c.args.others in
    let given = rw c.in-Some.is at c.in_ok-names.ensures.ok in
    on_any_error c.from_residual-in_err-without_redundant.result (λ nothing.
    let both = nothing_beside (map bstring_bytes others.items) (readings_of c.args.self.now) nothing in
    let none = group_once (readings_of c.args.self.now) (map bstring_bytes names.items) [] given both.1 in
    omega (
      arith,
      c.in_err-without_redundant.ensures.memory,
      ap length c.in_ok-append.ensures.items,
      length-append others.items names.items,
      length-map names.items bstring_bytes,
      length-map others.items bstring_bytes,
      ap length both.0,
      ap length none,
    ))

pub returns-clause-ok : goal.returns-clause-ok
returns-clause-ok c =
    let names = c.in-Some.names.items in
    let others = c.args.others.items in
    let needed = c.in_ok-without_redundant.field-0.items in
    request_is (map bstring_bytes others) (readings_of c.args.self.now) (map bstring_bytes needed) (
      map bstring_bytes names,
      rw c.in-Some.is at c.in_ok-names.ensures.ok,
      subst (λ (l : List (List ℕ)). AreNeeded l (map bstring_bytes needed))
          (ap (map bstring_bytes) c.in_ok-append.ensures.items ∙ map-append bstring_bytes others names)
          c.in_ok-without_redundant.ensures.ok,
    )
    c.request_for.result c.request_for.ensures
