-- The pattern itself, its candidates or nothing. Only entries need memory.
use Rattle.gix_refspec_text.proofs.Common.{arith, ap, map, IfOk-weaker, bstring_bytes, to_itself, below_refs}
use Rattle.gix_refspec_text.proofs.Common.{to_candidates}
use Rattle.gix_refspec_text.proofs.lemmas.texts.TextLemmas.{Lacks-ContainsText}
use Rattle.gix_refspec_text.proofs.lemmas.prefixes.PrefixLemmas.{starred_no_id, on_any_error}
use Rattle.gix_refspec_text.proofs.spec.prefix.pattern_expansions.Goals as goal

pub returns-in-Some-clause-ok : goal.returns-in-Some-clause-ok
returns-in-Some-clause-ok c = below_refs c.in-Some.rest.now c.requires.0 c.in-Some.ensures c.if-contains.ensures
    (ap (map bstring_bytes) c.new.ensures.items)

pub returns-in-Some-2 : goal.returns-in-Some-2
returns-in-Some-2 c =
    let memory = on_any_error c.one_entry.result (λ h. grind (arith, Lacks-ContainsText)) in
    record {
      ok = IfOk-weaker c.one_entry.result _ _
          (λ list is. to_itself c.in-Some.rest.now c.requires.0 c.in-Some.ensures c.if-contains.ensures is)
          c.one_entry.ensures;
      memory = memory;
    }

pub returns-in-None : goal.returns-in-None
returns-in-None c =
    let no_id = starred_no_id c.args.side.now c.requires.1 in
    let memory = on_any_error c.candidates.result (λ h. grind arith) in
    record {
      ok = IfOk-weaker c.candidates.result _ _ (λ list is. to_candidates c.requires.0 c.in-None.ensures no_id is)
          c.candidates.ensures;
      memory = memory;
    }
