-- A destination without a star is written as it is, and one with a star fits it.
use Rattle.gix_refspec_lint.proofs.Common.{inr, option_map, refl, sym, ap, ◌∙◌, bstr_bytes, reading_of, accepted_few}
use Rattle.gix_refspec_lint.proofs.Common.{pointwise_decides, Decides-eqb}
use Rattle.gix_refspec_lint.proofs.lemmas.FoundLemmas.{unsplit_lacks}
use Rattle.gix_refspec_lint.proofs.lemmas.AlikeLemmas.{written_fits}
use Rattle.gix_refspec_lint.proofs.lemmas.SourceLemmas.{plain_made}
use Rattle.gix_refspec_lint.proofs.idle.may_write.Goals as goal

pub parts_of-requires : goal.parts_of-requires
parts_of-requires c x is = accepted_few (reading_of c.args.spec.now) x c.args.spec.now.accepted
    (inr (sym c.destination.ensures ∙ ap (option_map bstr_bytes) c.in-Some-Some.is-0 ∙ is))

pub returns-in-Some : goal.returns-in-Some
returns-in-Some c r refs s done makes = rw c.is_some.ensures
    (written_fits (reading_of c.args.spec.now) c.args.spec.now.accepted (bstr_bytes c.in-Some-Some.side)
    (sym c.destination.ensures ∙ ap (option_map bstr_bytes) c.in-Some-Some.is-0) refs s
    (bstr_bytes c.in-Some-Some.name) c.in-Some.before.now c.in-Some.after.now c.word_between.result c.in-Some.ensures
    (rw c.as_bytes.ensures at c.word_between.ensures) (rw c.in-Some-Some.is-1 at makes))

pub returns-in-None : goal.returns-in-None
returns-in-None c r refs s done makes =
    let x = bstr_bytes c.in-Some-Some.side in
    let has = sym c.destination.ensures ∙ ap (option_map bstr_bytes) c.in-Some-Some.is-0 in
    let lacks = unsplit_lacks (reading_of c.args.spec.now) c.args.spec.now.accepted x (inr has)
    (λ before after. c.in-None.ensures x before after refl) in
    c.eq.ensures ∙ (pointwise_decides Decides-eqb x (bstr_bytes c.in-Some-Some.name)).1
    (sym (plain_made r (reading_of c.args.spec.now) x done has lacks refs s (bstr_bytes c.in-Some-Some.name)
    (rw c.in-Some-Some.is-1 at makes)))
