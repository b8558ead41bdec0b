-- A side without a star excludes its own name, and a pattern each that has a word for the star.
use Rattle.gix_refspec_lint.proofs.Common.{inl, sym, ap, ◌∙◌, option_map, bstr_bytes, reading_of, accepted_few}
use Rattle.gix_refspec_lint.proofs.lemmas.OneSpecLemmas.{pattern_excludes, plain_excludes, same_bytes}
use Rattle.gix_refspec_lint.proofs.exclusions.does_exclude.Goals as goal

pub parts_of-requires : goal.parts_of-requires
parts_of-requires c x is = accepted_few (reading_of c.args.negative.now) x c.args.negative.now.accepted
    (inl (sym c.source.ensures ∙ ap (option_map bstr_bytes) c.in-Some-FullName.is-0 ∙ is))

pub returns-in-None : goal.returns-in-None
returns-in-None c =
    rw c.in-Some-FullName.is-1 (plain_excludes (reading_of c.args.negative.now) (bstr_bytes c.in-Some-FullName.side)
    c.requires (sym c.source.ensures ∙ ap (option_map bstr_bytes) c.in-Some-FullName.is-0) _ c.eq.result
    c.args.negative.now.accepted c.in-None.ensures (same_bytes _ _ _ c.eq.ensures c.as_bstr-name.ensures))

pub returns-in-Some : goal.returns-in-Some
returns-in-Some c =
    rw (c.in-Some-FullName.is-1, c.is_some.ensures)
    (pattern_excludes (reading_of c.args.negative.now) (bstr_bytes c.in-Some-FullName.side) c.requires
    (sym c.source.ensures ∙ ap (option_map bstr_bytes) c.in-Some-FullName.is-0) _
    c.in-Some.before.now c.in-Some.after.now c.word_between.result c.in-Some.ensures
    (rw (c.as_bytes.ensures, c.as_bstr-name.ensures) at c.word_between.ensures))
