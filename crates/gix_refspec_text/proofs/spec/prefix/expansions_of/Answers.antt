-- The kind of the side decides. Only entries need memory.
use Rattle.gix_refspec_text.proofs.Common.{IsPrefix, refl, sym, ◌∙◌, IfOk-weaker, false≢true, of_head, of_name}
use Rattle.gix_refspec_text.proofs.Common.{of_pattern, to_prefix}
use Rattle.gix_refspec_text.proofs.lemmas.prefixes.PrefixLemmas.{no_prefix, prefix_expands, on_any_error}
use Rattle.gix_refspec_text.proofs.spec.prefix.expansions_of.Goals as goal

pub pattern_expansions-requires : goal.pattern_expansions-requires
pattern_expansions-requires c =
    let k = c.in-Pattern in (
      no_prefix c.args.side.now k.before.now k.after.now k.ensures
          (λ tells. false≢true (c.if-is_ref_prefix.ensures.1 tells)),
      (k.before.now, k.after.now, k.ensures),
    )

pub returns-in-Pattern : goal.returns-in-Pattern
returns-in-Pattern c =
    let is : IsPrefix c.args.side.now c.in-Pattern.before.now = of_pattern _ _ c.in-Pattern.ensures
    (c.if-is_ref_prefix.ensures.0 refl) refl in
    let memory = on_any_error c.one_entry.result (prefix_expands c.args.side.now c.in-Pattern.before.now is) in
    record {
      ok = IfOk-weaker c.one_entry.result _ _ (λ list same. to_prefix c.in-Pattern.before.now is same)
          c.one_entry.ensures;
      memory = memory;
    }

pub returns-in-FullName : goal.returns-in-FullName
returns-in-FullName c =
    let is : IsPrefix c.args.side.now c.in-FullName.name.now = of_name c.in-FullName.ensures.2 c.in-FullName.ensures.1
    c.in-FullName.ensures.0 in
    let memory = on_any_error c.one_entry-in-FullName.result
    (prefix_expands c.args.side.now c.in-FullName.name.now is) in
    record {
      ok = IfOk-weaker c.one_entry-in-FullName.result _ _ (λ list same. to_prefix c.in-FullName.name.now is same)
          c.one_entry-in-FullName.ensures;
      memory = memory;
    }

pub returns-in-Partial-clause-ok : goal.returns-in-Partial-clause-ok
returns-in-Partial-clause-ok c =
    let is_name = c.in-Partial.ensures.0 in
    IfOk-weaker c.one_entry-in-Partial.result _ _
    (λ list is. to_prefix c.in-Partial.name.now (of_head (sym is_name ∙ c.if-is_head.ensures.0 refl) is_name) is)
    c.one_entry-in-Partial.ensures
