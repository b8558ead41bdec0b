-- without an issue nothing is in conflict; without a fix all survive, and otherwise those that the filter keeps do
use Rattle.gix_refspec.proofs.Common.{◌≡◌, [], map, refl, sym, ◌∙◌, arith, rules, eqb-true, mapped_of, Survives}
use Rattle.gix_refspec.proofs.Common.{nil_from_length}
use Rattle.gix_refspec.proofs.lemmas.validate.AfterLemmas.{filtered_so, kept_whole, validated_so}
use Rattle.gix_refspec.proofs.match_group.validate.match_lhs+Outcome.validated.Goals as goal

pub returns-then-is_empty-clause-ok : goal.returns-then-is_empty-clause-ok
returns-then-is_empty-clause-ok c =
    let ms = c.args.self.mappings.items in
    let issues = c.in-Ok.issues in
    let fixes = c.in-Ok-fixes_of.fixes in
    let no_issue : issues.items ≡ [] = nil_from_length issues.items
    (let none = eqb-true _ _ (sym c.is_empty.ensures ∙ c.if-not-is_empty.false) in omega
    (arith, none, issues.ok.0, issues.ok.1)) in
    let no_fix : fixes.items ≡ [] = nil_from_length fixes.items
    (let none = eqb-true _ _ (sym c.is_empty-2.ensures ∙ c.if-is_empty.true) in omega
    (arith, none, fixes.ok.0, fixes.ok.1)) in (
      refl,
      validated_so _ c.args.self.group.specs.items _ _ ms issues.items fixes.items
          (map mapped_of ms) c.as_slice-specs.ensures.value c.as_slice.ensures.value c.as_slice-2.ensures.value no_issue
          c.in-Ok.ensures.ok c.in-Ok-fixes_of.ensures.ok
          (kept_whole Survives 0 (map mapped_of ms)
          (rw c.as_slice-2.ensures.value at (c.in-Ok-fixes_of.ensures.none no_fix))),
    )

pub returns-clause-ok : goal.returns-clause-ok
returns-clause-ok c =
    let ms = c.args.self.mappings.items in
    let issues = c.in-Ok.issues in
    let no_issue : issues.items ≡ [] = nil_from_length issues.items
    (let none = eqb-true _ _ (sym c.is_empty.ensures ∙ c.if-not-is_empty.false) in omega
    (arith, none, issues.ok.0, issues.ok.1)) in (
      refl,
      validated_so _ c.args.self.group.specs.items _ _ ms issues.items c.in-Ok-fixes_of.fixes.items
          (map mapped_of c.retain.new.self.items) c.as_slice-specs.ensures.value c.as_slice.ensures.value
          c.as_slice-2.ensures.value no_issue c.in-Ok.ensures.ok c.in-Ok-fixes_of.ensures.ok
          (filtered_so Survives _ (λ p m b q told. search rules) _ ms c.retain.new.self.items
          c.retain.ensures.filtered),
    )
