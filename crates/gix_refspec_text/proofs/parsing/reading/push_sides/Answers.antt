-- No reason before those of the source applies to a positive push to a destination.
use Rattle.gix_refspec_text.proofs.Common.{HasShape, Some, sym, ap, ◌∙◌, subst, rules, err_from_is_err_and}
use Rattle.gix_refspec_text.proofs.Common.{differs_true, differs_false, the_type, Push, IsBadPattern, side_of}
use Rattle.gix_refspec_text.proofs.lemmas.parsing.ReasonLemmas.{push_reaches, push_source_bad, push_source_fine}
use Rattle.gix_refspec_text.proofs.lemmas.parsing.ReasonLemmas.{reason_of_source, reason_of_destination}
use Rattle.gix_refspec_text.proofs.lemmas.parsing.ReasonLemmas.{unbalanced_push}
use Rattle.gix_refspec_text.proofs.lemmas.parsing.ReadsLemmas.{fine_push, sides_read}
use Rattle.gix_refspec_text.proofs.parsing.reading.push_sides.Goals as goal

pub returns-in_err-starred-clause-err : goal.returns-in_err-starred-clause-err
returns-in_err-starred-clause-err c =
    let s = c.args.parts.source.now in
    let t = c.args.target.now in
    let before = push_reaches _ _ t c.requires.positive.positive c.if-pushes_nowhere.ensures in
    let reason = reason_of_source Push _ s (Some t) (IsBadPattern s) c.in_err-starred.field-0.0 before
    (push_source_bad s t) c.in_err-starred.ensures.err in
    let q = err_from_is_err_and c.from_residual.result c.from_residual.ensures.1 in
    rw (q.1, q.2, c.requires.positive.operation, c.requires.target) reason

pub returns-in_err-checked-clause-err : goal.returns-in_err-checked-clause-err
returns-in_err-checked-clause-err c =
    let before = push_reaches _ _ c.args.target.now c.requires.positive.positive c.if-pushes_nowhere.ensures in
    let source = push_source_fine _ _ c.in_ok-starred.field-0 c.in_ok-starred.ensures.ok in
    let reason = reason_of_destination Push _ _ (Some c.args.target.now) c.in_err-checked.field-0.0 before source
    c.in_err-checked.ensures.err in
    let q = err_from_is_err_and c.from_residual-in_err-checked.result c.from_residual-in_err-checked.ensures.1 in
    rw (q.1, q.2, c.requires.positive.operation, c.requires.target) reason

pub returns-then-ne-clause-err : goal.returns-then-ne-clause-err
returns-then-ne-clause-err c =
    let differ = differs_true the_type c.in_ok-starred.field-0 c.in_ok-checked.field-0 (sym c.if-ne.ensures) in
    let reason = unbalanced_push _ _ _ _ _ c.requires.positive.positive c.if-pushes_nowhere.ensures
    c.in_ok-starred.ensures.ok c.in_ok-checked.ensures.ok differ in
    rw (c.requires.positive.operation, c.requires.target) reason

pub returns-clause-ok : goal.returns-clause-ok
returns-clause-ok c =
    let p = c.args.parts in
    let same = differs_false the_type (search rules) c.in_ok-starred.field-0 c.in_ok-checked.field-0
    (sym c.if-ne.ensures) in
    let shape = subst (λ k. HasShape p.source.now k) same c.in_ok-starred.ensures.ok in
    let op = c.requires.positive.operation in
    let pos = c.requires.positive.positive in
    sides_read p c.new.result
    (fine_push _ c.args.target.now op pos c.requires.target c.if-pushes_nowhere.ensures shape
    c.in_ok-checked.ensures.ok)
    (rw op (c.new.ensures.source ∙ ap side_of c.named.ensures)) (rw c.requires.target c.new.ensures.destination)
