use Rattle.gix_refspec.proofs.{Common.{sym, ◌∙◌, false≢true}, lemmas.prefixes.AskedLemmas.{no_list}}
use Rattle.gix_refspec.proofs.match_group.prefixes.list_of.Goals as goal

pub returns-then-not-is_ref_prefix-clause-ok : goal.returns-then-not-is_ref_prefix-clause-ok
returns-then-not-is_ref_prefix-clause-ok c =
    let k = c.in-Pattern in
    no_list c.args.side.now k.before.now k.after.now k.ensures
    (λ tells. false≢true (sym c.if-not-is_ref_prefix.true ∙ c.is_ref_prefix.ensures.1 tells))
