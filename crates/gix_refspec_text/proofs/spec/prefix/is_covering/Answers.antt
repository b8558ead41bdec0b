use Rattle.gix_refspec_text.proofs.{Common.refl, lemmas.prefixes.PrefixLemmas.{told_name, told_pattern}}
use Rattle.gix_refspec_text.proofs.spec.prefix.is_covering.Goals as goal

pub returns-in-Pattern : goal.returns-in-Pattern
returns-in-Pattern c = told_pattern c.args.source.now c.in-Pattern.before.now c.in-Pattern.after.now
    c.is_ref_prefix.result c.in-Pattern.ensures c.is_ref_prefix.ensures

pub returns-in-FullName : goal.returns-in-FullName
returns-in-FullName c = (
  (λ _. told_name c.args.source.now c.kind_of.result c.kind_of.ensures c.in-FullName.is),
  (λ _. refl),
)
