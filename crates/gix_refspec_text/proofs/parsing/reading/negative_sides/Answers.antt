use Rattle.gix_refspec_text.proofs.Common.{arith, sym, ap, ◌∙◌, false≢true, LooksLikeObjectHash, mode_of, side_of}
use Rattle.gix_refspec_text.proofs.lemmas.parsing.SideLemmas.{none_from_test}
use Rattle.gix_refspec_text.proofs.lemmas.parsing.ReasonLemmas.{reason_against_object}
use Rattle.gix_refspec_text.proofs.lemmas.parsing.ReadsLemmas.{fine_negative, source_named, sides_read}
use Rattle.gix_refspec_text.proofs.lemmas.lists.EmptyLemmas.{full_from_test}
use Rattle.gix_refspec_text.proofs.parsing.reading.negative_sides.Goals as goal

pub returns-then-looks_like_object_hash-clause-err : goal.returns-then-looks_like_object_hash-clause-err
returns-then-looks_like_object_hash-clause-err c = grind (arith, none_from_test, full_from_test, reason_against_object)

pub returns-clause-ok : goal.returns-clause-ok
returns-clause-ok c =
    let p = c.args.parts in
    let none = none_from_test p.destination c.if-is_some.ensures in
    let full = full_from_test p.source.now c.if-is_empty.ensures in
    let hash = λ (h : LooksLikeObjectHash p.source.now). false≢true (c.if-looks_like_object_hash.ensures.1 h) in
    sides_read p c.new.result
    (fine_negative c.in_ok-checked.field-0 (ap mode_of c.requires) none full c.in_ok-checked.ensures.ok hash)
    (c.new.ensures.source ∙ (ap side_of c.named.ensures ∙ sym (source_named p.operation p.source.now full)))
    (rw none c.new.ensures.destination)
