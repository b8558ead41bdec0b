-- The wrong bytes lie in their side, and the side in the text.
use Rattle.gix_refspec_text.proofs.Common.{arith, destination_of, mode_of}
use Rattle.gix_refspec_text.proofs.lemmas.parsing.SpanLemmas.{no_span, side_inside, wrong_inside}
use Rattle.gix_refspec_text.proofs.parsing.locating.span_of.Goals as goal

pub returns-in_default-clause-span : goal.returns-in_default-clause-span
returns-in_default-clause-span c = no_span c.args.parts c.args.text.now c.requires.parts c.in_default.ensures

pub overflow_add-start : goal.overflow_add-start
overflow_add-start c =
    let p = c.args.parts in
    let found = c.in-Some.ensures in
    let inside = wrong_inside found.1.refusal found.0 c.in-Some.word.start c.in-Some.word.len found.1.wrong in
    let side = side_inside (mode_of p.mode) p.source.now (destination_of p) c.args.text.now c.in-Some.side found.0
    c.requires.parts found.1.word in
    omega (arith, inside, side, c.start_of.ensures.index, c.start_of.ensures.room)

pub returns-clause-inside : goal.returns-clause-inside
returns-clause-inside c =
    let p = c.args.parts in
    let found = c.in-Some.ensures in
    let inside = wrong_inside found.1.refusal found.0 c.in-Some.word.start c.in-Some.word.len found.1.wrong in
    let side = side_inside (mode_of p.mode) p.source.now (destination_of p) c.args.text.now c.in-Some.side found.0
    c.requires.parts found.1.word in
    omega (arith, inside, side, c.start_of.ensures.index, c.start_of.ensures.room)
