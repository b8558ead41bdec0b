-- No reason before those of the source applies to a positive fetch. The checks return the reasons of its sides.
use Rattle.gix_refspec_text.proofs.Common.{arith, refl, sym, ap, ◌∙◌, subst, rules, err_from_is_err_and, differs_true}
use Rattle.gix_refspec_text.proofs.Common.{differs_false, the_type, Fetch, HasCheckedShape, IsBadSide, destination_of}
use Rattle.gix_refspec_text.proofs.Common.{side_of}
use Rattle.gix_refspec_text.proofs.lemmas.parsing.{SideLemmas.now-unwrap_or, ReadsLemmas.{fine_fetch, sides_read}}
use Rattle.gix_refspec_text.proofs.lemmas.parsing.ReasonLemmas.{fetch_reaches, fetch_source_bad, fetch_source_fine}
use Rattle.gix_refspec_text.proofs.lemmas.parsing.ReasonLemmas.{reason_of_source, reason_of_destination}
use Rattle.gix_refspec_text.proofs.lemmas.parsing.ReasonLemmas.{unbalanced_fetch}
use Rattle.gix_refspec_text.proofs.parsing.reading.fetch_sides.Goals as goal

pub returns-in_err-checked-clause-err : goal.returns-in_err-checked-clause-err
returns-in_err-checked-clause-err c =
    let s = c.args.parts.source.now in
    let d = destination_of c.args.parts in
    let reason = reason_of_source Fetch _ s d (IsBadSide s) c.in_err-checked.field-0.0
    (fetch_reaches _ _ _ c.requires.positive)
    (fetch_source_bad s d) c.in_err-checked.ensures.err in
    let q = err_from_is_err_and c.from_residual.result c.from_residual.ensures.1 in
    rw (q.1, q.2, c.requires.operation) reason

pub returns-in_err-checked-2-clause-err : goal.returns-in_err-checked-2-clause-err
returns-in_err-checked-2-clause-err c =
    let target = now-unwrap_or c.args.parts.destination _ c.unwrap_or-target.result c.unwrap_or-target.ensures refl in
    let told = rw target at c.in_err-checked-2.ensures.err in
    let source = fetch_source_fine _ _ _ c.in_ok-checked.ensures.ok in
    let reason = reason_of_destination Fetch _ _ (destination_of c.args.parts) c.in_err-checked-2.field-0.0
    (fetch_reaches _ _ _ c.requires.positive) source told in
    let q = err_from_is_err_and c.from_residual-in_err-checked-2.result c.from_residual-in_err-checked-2.ensures.1 in
    rw (q.1, q.2, c.requires.operation) reason

pub returns-then-ne-clause-err : goal.returns-then-ne-clause-err
returns-then-ne-clause-err c =
    let target = now-unwrap_or c.args.parts.destination _ c.unwrap_or-target.result c.unwrap_or-target.ensures refl in
    let destination = rw target at c.in_ok-checked-2.ensures.ok in
    let differ = differs_true the_type c.in_ok-checked.field-0 c.in_ok-checked-2.field-0 (sym c.if-ne.ensures) in
    let reason = unbalanced_fetch _ _ (destination_of c.args.parts) _ _ c.requires.positive c.in_ok-checked.ensures.ok
    destination differ in
    rw c.requires.operation reason

pub returns-clause-ok : goal.returns-clause-ok
returns-clause-ok c =
    let p = c.args.parts in
    let target = now-unwrap_or p.destination _ c.unwrap_or-target.result c.unwrap_or-target.ensures refl in
    let same = differs_false the_type (search rules) c.in_ok-checked.field-0 c.in_ok-checked-2.field-0
    (sym c.if-ne.ensures) in
    let shape = subst (λ k. HasCheckedShape p.source.now k) same c.in_ok-checked.ensures.ok in
    sides_read p c.new.result
    (fine_fetch c.in_ok-checked-2.field-0 c.requires.operation c.requires.positive shape
    (rw target at c.in_ok-checked-2.ensures.ok))
    (rw c.requires.operation (c.new.ensures.source ∙ (ap side_of c.named_or_head.ensures ∙ (grind arith))))
    (c.new.ensures.destination ∙ ap side_of target)
