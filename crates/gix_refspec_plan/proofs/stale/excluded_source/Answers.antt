-- What the source may stand for is told by its kind.
use Rattle.gix_refspec_plan.proofs.Common.{inl, inr, Some, option_map, sym, ap, ◌∙◌, IfOk-weaker, bstr_bytes}
use Rattle.gix_refspec_plan.proofs.Common.{reading_of, accepted_few, pattern, None, object}
use Rattle.gix_refspec_plan.proofs.lemmas.stale.SourceLemmas.{full_excluded, named_as}
use Rattle.gix_refspec_plan.proofs.lemmas.stale.{SourceLemmas.partial_excluded, FetchedLemmas.no_object_named}
use Rattle.gix_refspec_plan.proofs.stale.excluded_source.Goals as goal

pub kind_of-requires : goal.kind_of-requires
kind_of-requires c =
    rw c.as_bytes.ensures
    (accepted_few _ _ c.args.spec.now.accepted (inl (sym c.source.ensures ∙ ap (option_map bstr_bytes) c.in-Some.is)))

pub returns-in-FullName : goal.returns-in-FullName
returns-in-FullName c =
    let source = sym c.source.ensures ∙ ap (option_map bstr_bytes) c.in-Some.is ∙ ap Some (sym c.as_bytes.ensures) in
    full_excluded c.args.exclusions.now (reading_of c.args.spec.now) c.as_bytes.result.now source c.in-FullName.name.now
    c.spec_of.result c.in-FullName.ensures c.spec_of.ensures

pub returns-in-Partial : goal.returns-in-Partial
returns-in-Partial c =
    let source = sym c.source.ensures ∙ ap (option_map bstr_bytes) c.in-Some.is ∙ ap Some (sym c.as_bytes.ensures) in
    IfOk-weaker c.excluded_candidate.result _ _
    (λ by. partial_excluded c.args.exclusions.now (reading_of c.args.spec.now) c.as_bytes.result.now source
    c.in-Partial.name.now by c.in-Partial.ensures) c.excluded_candidate.ensures

pub returns-in-Pattern : goal.returns-in-Pattern
returns-in-Pattern c s named excluded =
    let source = sym c.source.ensures ∙ ap (option_map bstr_bytes) c.in-Some.is ∙ ap Some (sym c.as_bytes.ensures) in
    elim c.in-Pattern.is [
      | inl (before, after, is) ↦ named_as c.args.exclusions.now (reading_of c.args.spec.now) c.as_bytes.result.now
          source (pattern before.now after.now) s (rw is at c.kind_of.ensures) named
      | inr (found, is) ↦ let kind = rw is at c.kind_of.ensures in no_object_named _ s None _ kind
          (named_as c.args.exclusions.now (reading_of c.args.spec.now) c.as_bytes.result.now source
          (object _) s kind named)
    ]
