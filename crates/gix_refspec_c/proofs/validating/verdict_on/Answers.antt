-- In conflict or not, and else whether the destination can be written.
use Rattle.std.proofs.Common.{Some, sym, ap, refl, ◌∙◌}
use Rattle.std.proofs.lemmas.Bool.{false≢true}
use Rattle.gix_refspec_c.specs.Validating.{GoesTo, mapped_in}
use Rattle.gix_refspec_c.proofs.ValidatingLemmas.{contested_to, kept_alone, kept_to, removed_to}
use Rattle.gix_refspec_c.proofs.validating.verdict_on.Goals as goal

pub returns-in_default : goal.returns-in_default
returns-in_default c l are = kept_alone l (mapped_in c.args.pair.now) c.without_conflict.result
    (sym c.in_default.ensures) c.without_conflict.ensures

pub returns-in-Some-conflict_at : goal.returns-in-Some-conflict_at
returns-in-Some-conflict_at c l are =
    let goes : GoesTo c.as_bytes-destination.result.now (mapped_in c.args.pair.now) =
    sym c.in-Some.ensures ∙ ap Some (sym c.as_bytes-destination.ensures) in
    let (at, first) = c.in-Some-conflict_at.ensures l are in
    contested_to l (mapped_in c.args.pair.now) c.as_bytes-destination.result.now goes _ c.in-Some-conflict_at.first at
    first refl

pub returns-then-is_writable : goal.returns-then-is_writable
returns-then-is_writable c l are =
    let goes : GoesTo c.as_bytes-destination.result.now (mapped_in c.args.pair.now) =
    sym c.in-Some.ensures ∙ ap Some (sym c.as_bytes-destination.ensures) in
    kept_to l (mapped_in c.args.pair.now) c.as_bytes-destination.result.now goes _ (c.in-None.ensures l are)
    (c.is_writable.ensures.0 c.if-is_writable.true) c.without_conflict-then-is_writable.ensures

pub returns-else-is_writable : goal.returns-else-is_writable
returns-else-is_writable c l are =
    let goes : GoesTo c.as_bytes-destination.result.now (mapped_in c.args.pair.now) =
    sym c.in-Some.ensures ∙ ap Some (sym c.as_bytes-destination.ensures) in
    removed_to l (mapped_in c.args.pair.now) c.as_bytes-destination.result.now goes _ (c.in-None.ensures l are)
    (λ writable. false≢true (sym c.if-is_writable.false ∙ c.is_writable.ensures.1 writable))
    c.without_conflict-else-is_writable.ensures
