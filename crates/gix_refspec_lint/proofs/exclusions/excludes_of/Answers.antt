use Rattle.gix_refspec_lint.proofs.Common.{inl, option_map, sym, ap, ◌∙◌, IfOk-weaker, bstr_bytes, reading_of}
use Rattle.gix_refspec_lint.proofs.Common.{accepted_few}
use Rattle.gix_refspec_lint.proofs.lemmas.LeftOutLemmas.{none_apart, plain_only}
use Rattle.gix_refspec_lint.proofs.lemmas.OneSpecLemmas.{parts_pattern}
use Rattle.gix_refspec_lint.proofs.exclusions.excludes_of.Goals as goal

pub parts_of-requires : goal.parts_of-requires
parts_of-requires c x is = accepted_few (reading_of c.args.spec.now) x c.args.spec.now.accepted
    (inl (sym c.source-2.ensures ∙ is))

pub returns-in_default-parts_of : goal.returns-in_default-parts_of
returns-in_default-parts_of c g is = c.excludes_named.ensures (rw c.source-2.ensures at c.in_default-parts_of.ensures)

pub parts_of-requires-2 : goal.parts_of-requires-2
parts_of-requires-2 c x is = accepted_few (reading_of c.args.negative.now) x c.args.negative.now.accepted
    (inl (sym c.source-3.ensures ∙ is))

pub returns-in_default-parts_of-2 : goal.returns-in_default-parts_of-2
returns-in_default-parts_of-2 c g is =
    IfOk-weaker c.excludes_at.result _ _
    (λ does. plain_only (reading_of c.args.negative.now) (reading_of c.args.spec.now) (bstr_bytes c.in-Some.excluded)
    does c.requires (sym c.source.ensures ∙ ap (option_map bstr_bytes) c.in-Some.is)
    (rw c.source-3.ensures at c.in_default-parts_of-2.ensures))
    (rw (c.source_named-name.ensures, c.in_ok-from_slice.ensures) at c.excludes_at.ensures)

pub returns-in-None : goal.returns-in-None
returns-in-None c g is =
    none_apart (reading_of c.args.negative.now) (reading_of c.args.spec.now) _ _ _ _ c.requires c.args.spec.now.accepted
    (parts_pattern _ c.in-Some-parts_of-2.parts (rw c.source-3.ensures at c.in-Some-parts_of-2.ensures))
    (parts_pattern _ c.in-Some-parts_of.taken (rw c.source-2.ensures at c.in-Some-parts_of.ensures))
    c.in-None.ensures

pub returns-in-Some-of : goal.returns-in-Some-of
returns-in-Some-of c g is =
    let one = parts_pattern (reading_of c.args.negative.now) c.in-Some-parts_of-2.parts
    (rw c.source-3.ensures at c.in-Some-parts_of-2.ensures) in
    let other = parts_pattern (reading_of c.args.spec.now) c.in-Some-parts_of.taken
    (rw c.source-2.ensures at c.in-Some-parts_of.ensures) in
    c.excludes_common.ensures g is
    (record {
      before = _;
      after = _;
      prefix = _;
      suffix = _;
      one = one;
      other = other;
      shared =
          c.in-Some-of.ensures;
    })
