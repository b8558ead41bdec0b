use Rattle.gix_refspec_text.proofs.Common.{arith, ◌∷◌, take, get_or, sym, subst, take_all, slash, IsClean}
use Rattle.gix_refspec_text.proofs.lemmas.texts.NameLemmas.{one_more, IsClean-start, IsClean-more, HasFault-added}
use Rattle.gix_refspec_text.proofs.lemmas.texts.NameLemmas.{added_at}
use Rattle.gix_refspec_text.proofs.lemmas.{texts.NameLemmas.answer_at_end, lists.EmptyLemmas.full_from_test}
use Rattle.gix_refspec_text.proofs.name.found_fault.Goals as goal

pub loop-index-init : goal.loop-index-init
loop-index-init c = IsClean-start

pub returns-in-Some : goal.returns-in-Some
returns-in-Some c = grind (arith, HasFault-added, full_from_test, added_at)

pub loop-index-preserved : goal.loop-index-preserved
loop-index-preserved c =
    let x = c.args.text.now in
    let i = c.loop-index.index in
    subst IsClean (sym (one_more x i (omega arith)))
    (IsClean-more (slash ∷ take i x) (get_or x i 0) c.loop-index.invariant c.in_default.ensures)

pub returns : goal.returns
returns c =
    let x = c.args.text.now in
    let clean = subst (λ z. IsClean (slash ∷ z)) (take_all c.loop-index.index x (omega arith)) c.loop-index.invariant in
    answer_at_end x c.left_fault.result (full_from_test x c.if-is_empty.ensures) clean c.left_fault.ensures
