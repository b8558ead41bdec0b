-- Each argument names one ref more, or is the first that names none.
use Rattle.std.proofs.Common.{◌⊎◌, List, ◌++◌, ◌∷◌, [], subst, take_all}
use Rattle.std.proofs.lemmas.List.Elements.{All-more}
use Rattle.std.proofs.lemmas.Result.{err_from_is_err_and}
use Rattle.std.specs.List.{AllZip}
use Rattle.refspec_request.specs.Refusals.{IsForMemory}
use Rattle.refspec_git.specs.declared.named.NamedRef.{NamedRef}
use Rattle.refspec_git.specs.Named.{IsFound, IsNoRef, IsNothing}
use Rattle.refspec_git.proofs.NamedLemmas.{naming_refused, not_nothing, zip_taken}
use Rattle.refspec_git.proofs.named.names_of.Goals as goal

pub loop-one-preserved : goal.loop-one-preserved
loop-one-preserved c =
    let R = IsFound c.in_ok-existing.existing c.args.remotes.now in
    let all = c.loop-one.invariant.0 in
    let name = c.in_ok-name_of.field-0.items in (
      all ++ name ∷ [],
      zip_taken R c.args.named.now c.loop-one.one-index _ all name c.loop-one-test.true c.loop-one.invariant.1
          (subst (λ (n : NamedRef). R n name) c.one-item.is c.in_ok-name_of.ensures.ok),
      All-more (λ (n : NamedRef). ¬ (IsNothing n)) c.args.named.now c.loop-one.one-index _ c.loop-one-test.true
          c.loop-one.invariant.2
          (subst (λ (n : NamedRef). ¬ (IsNothing n)) c.one-item.is
          (not_nothing c.in_ok-existing.existing c.args.remotes.now c.one-item.result name c.in_ok-name_of.ensures.ok)),
      c.in_ok-add.ensures all c.loop-one.invariant.3,
    )

pub returns : goal.returns
returns c = record {
  ok = (
    c.in_ok-existing.existing,
    c.in_ok-existing.ensures,
    c.loop-one.invariant.0,
    subst (λ (l : List NamedRef). AllZip (IsFound c.in_ok-existing.existing c.args.remotes.now) l
        c.loop-one.invariant.0)
        (take_all c.loop-one.one-index c.args.named.now c.loop-one-test.false) c.loop-one.invariant.1,
    c.loop-one.invariant.3.new,
  );
  refused = tt;
}

pub returns-in_err-name_of-clause-refused : goal.returns-in_err-name_of-clause-refused
returns-in_err-name_of-clause-refused c =
    let q = err_from_is_err_and c.from_residual-in_err-name_of.result c.from_residual-in_err-name_of.ensures.1 in
    let e = c.in_err-name_of.field-0.0 in
    rw (q.1, q.2) (naming_refused c.args.named.now c.loop-one.one-index c.one-item.result e c.loop-one-test.true
    c.loop-one.invariant.2
    (subst (λ (n : NamedRef). IsForMemory e ⊎ IsNoRef n e) c.one-item.is c.in_err-name_of.ensures.refused))
