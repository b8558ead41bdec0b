use Rattle.gix_refspec_text.proofs.Common.{subst, sym, MatchOption, HasNoPrefix, IsPrefix}
use Rattle.gix_refspec_text.proofs.lemmas.prefixes.PrefixLemmas.{pattern_prefix}
use Rattle.gix_refspec_text.proofs.spec.prefix.prefix_of.Goals as goal

pub returns-in-Pattern : goal.returns-in-Pattern
returns-in-Pattern c =
    let x = c.args.side.now in
    let k = c.in-Pattern in
    subst (λ r. MatchOption r (HasNoPrefix x) (λ p. IsPrefix x p.now)) (sym c.then_some.ensures)
    (pattern_prefix x k.before k.after c.is_ref_prefix.result k.ensures c.is_ref_prefix.ensures)
