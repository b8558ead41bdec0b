-- The first that a ref has.
use Rattle.std.proofs.Common.{◌∙◌, Some, ap, sym}
use Rattle.refspec_git.specs.Named.{has_ref}
use Rattle.refspec_git.proofs.NamedLemmas.{first_found, first_none, first_passed}
use Rattle.refspec_git.proofs.named.first_existing.Goals as goal

pub loop-name-preserved : goal.loop-name-preserved
loop-name-preserved c =
    c.loop-name.invariant
    ∙ first_passed c.args.existing.now c.args.names.now c.loop-name.name-index c.name-item.result c.loop-name-test.true
    c.name-item.is
    (ap (has_ref c.args.existing.now) (sym c.as_bytes.ensures) ∙ (sym c.has_ref.ensures ∙ c.if-has_ref.false))

pub returns-then-has_ref : goal.returns-then-has_ref
returns-then-has_ref c =
    ap Some c.as_bytes-then-has_ref.ensures
    ∙ sym (c.loop-name.invariant
    ∙ first_found c.args.existing.now c.args.names.now c.loop-name.name-index c.name-item.result c.loop-name-test.true
    c.name-item.is
    (ap (has_ref c.args.existing.now) (sym c.as_bytes.ensures) ∙ (sym c.has_ref.ensures ∙ c.if-has_ref.true)))

pub returns : goal.returns
returns c =
    sym (c.loop-name.invariant
    ∙ first_none c.args.existing.now c.args.names.now c.loop-name.name-index c.loop-name-test.false)
