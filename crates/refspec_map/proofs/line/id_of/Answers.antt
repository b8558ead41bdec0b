-- A word with a fault doesn't spell an id.
use Rattle.refspec_map.proofs.LineLemmas.{unspelled}
use Rattle.refspec_map.proofs.line.id_of.Goals as goal

pub returns-in-Err : goal.returns-in-Err
returns-in-Err c = unspelled c.args.word.now c.in-Err.field-0 c.id_or_fault.ensures c.in-Err.ensures
