use Rattle.gix_refspec_diff.proofs.Common.{IfOk-weaker, ap, inl, inr, map, name, reading_of, sym, ◌∙◌}
use Rattle.gix_refspec_lint.proofs.Common.{accepted_few}
use Rattle.gix_refspec_lint.proofs.lemmas.OneSpecLemmas.{parts_pattern}
use Rattle.gix_refspec_diff.specs.Private.Searches.{side_names}
use Rattle.gix_refspec_diff.proofs.shared.excluded_sources.Goals as goal

pub parts_of-requires : goal.parts_of-requires
parts_of-requires c x is =
    accepted_few (reading_of c.args.negative.now) x c.args.negative.now.accepted (inl (sym c.source.ensures ∙ is))

pub returns-in_default : goal.returns-in_default
returns-in_default c =
    IfOk-weaker c.named_source.result _ _
    (λ sources same. inl (
      rw c.source.ensures at c.in_default.ensures,
      same ∙ ap (λ x. map name (side_names x)) c.source-in_default.ensures,
    ))
    c.named_source.ensures

pub returns-in-None : goal.returns-in-None
returns-in-None c = inr (
  _,
  _,
  parts_pattern _ c.in-Some.others (rw c.source.ensures at c.in-Some.ensures),
  inl c.in-None.ensures,
)

pub returns-in-Some-of : goal.returns-in-Some-of
returns-in-Some-of c =
    IfOk-weaker c.common_sources.result _ _
    (λ sources told. inr (
      _,
      _,
      parts_pattern _ c.in-Some.others (rw c.source.ensures at c.in-Some.ensures),
      inr told,
    ))
    (c.common_sources.ensures _ _ _ _ c.in-Some-of.ensures)
