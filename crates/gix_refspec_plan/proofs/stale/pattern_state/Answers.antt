-- The ref with the same word is excluded, or it isn't.
use Rattle.gix_refspec_plan.proofs.{Common.rules, lemmas.stale.SourceLemmas.source_included}
use Rattle.gix_refspec_plan.proofs.stale.pattern_state.Goals as goal

pub returns-in_default-source : goal.returns-in_default-source
returns-in_default-source c = search (rules, c.in-Some.ensures, c.in_default-source.is)

pub returns-in-None : goal.returns-in-None
returns-in-None c =
    source_included c.args.exclusions.now c.args.pattern.now c.args.name.now c.in-Some.word.now c.in-Some.ensures
    (c.in-Some-source.before, c.in-Some-source.after) c.in-Some-source.is
    (rw (c.as_bytes.ensures, c.as_bstr.ensures, c.in_ok-source.ensures) at c.in-None.ensures)
