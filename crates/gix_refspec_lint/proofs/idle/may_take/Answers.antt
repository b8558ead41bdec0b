-- What a spec takes fits its source, or ends with it, or is the head of a remote.
use Rattle.gix_refspec_lint.proofs.Common.{codes, inl, option_map, sym, ap, ◌∙◌, bstr_bytes, reading_of, accepted_few}
use Rattle.gix_refspec_lint.proofs.Common.{name_bytes}
use Rattle.gix_refspec_lint.proofs.lemmas.IdleLemmas.{ends_taken, ends_told, fits_taken}
use Rattle.gix_refspec_lint.proofs.idle.may_take.Goals as goal

pub parts_of-requires : goal.parts_of-requires
parts_of-requires c x is = accepted_few (reading_of c.args.spec.now) x c.args.spec.now.accepted
    (inl (sym c.source.ensures ∙ ap (option_map bstr_bytes) c.in-Some-FullName.is-0 ∙ is))

pub returns-in-Some : goal.returns-in-Some
returns-in-Some c refs d = rw (c.in-Some-FullName.is-1, c.is_some.ensures)
    (fits_taken (reading_of c.args.spec.now) (bstr_bytes c.in-Some-FullName.side)
    (sym c.source.ensures ∙ ap (option_map bstr_bytes) c.in-Some-FullName.is-0) refs _ d
    c.in-Some.before.now c.in-Some.after.now c.word_between.result c.in-Some.ensures
    (rw (c.as_bytes-name.ensures, c.as_bstr.ensures) at c.word_between.ensures))

pub returns-else-ends_with : goal.returns-else-ends_with
returns-else-ends_with c refs d makes =
    let x = bstr_bytes c.in-Some-FullName.side in
    let n = name_bytes c.in-Some-FullName.name in
    ends_told x (codes "/HEAD") n c.ends_with.result c.ends_with-else-ends_with.result
    (rw (c.as_bytes.ensures, c.as_bytes-name.ensures, c.as_bstr.ensures) at c.ends_with.ensures.value)
    (rw (c.as_bytes-name.ensures, c.as_bstr.ensures) at c.ends_with-else-ends_with.ensures.value) c.if-ends_with.false
    (ends_taken (reading_of c.args.spec.now) x
    (sym c.source.ensures ∙ ap (option_map bstr_bytes) c.in-Some-FullName.is-0) c.in-None.ensures refs n d
    (rw c.in-Some-FullName.is-1 at makes))
