-- A source alone was checked. If it is empty, the text has a sign.
use Rattle.gix_refspec_text.proofs.Common.{arith, [], ◌≡◌, ap, ◌∙◌, Normal, mode_of, side_of}
use Rattle.gix_refspec_text.proofs.lemmas.parsing.ReadsLemmas.{fine_alone, sides_read}
use Rattle.gix_refspec_text.proofs.lemmas.lists.EmptyLemmas.{full_from_test}
use Rattle.gix_refspec_text.proofs.parsing.reading.push_alone_sides.Goals.{else-eq-via-then-eq+else-is_empty}
use Rattle.gix_refspec_text.proofs.parsing.reading.push_alone_sides.Goals.{else-eq-via-else-eq}
use Rattle.gix_refspec_text.proofs.parsing.reading.push_alone_sides.Goals as goal

pub returns-clause-ok : goal.returns-clause-ok
returns-clause-ok c =
    let p = c.args.parts in
    let full : (p.source.now ≡ [] → mode_of p.mode ≡ Normal → ⊥) = λ empty normal. elim c.else-eq.branch [
      | else-eq-via-then-eq+else-is_empty w ↦ full_from_test p.source.now w.if-is_empty.ensures empty
      | else-eq-via-else-eq w ↦ let test = w.if-eq.ensures in grind arith
    ] in
    let op = c.requires.positive.operation in
    sides_read p c.new.result
    (fine_alone c.in_ok-checked.field-0 op c.requires.positive.positive c.requires.alone full
    c.in_ok-checked.ensures.ok)
    (rw op (c.new.ensures.source ∙ ap side_of c.named.ensures)) (rw c.requires.alone c.new.ensures.destination)
