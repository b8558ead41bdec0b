-- Nothing is read.
use Rattle.refspec_request.proofs.ArgumentLemmas.{nothing_read}
use Rattle.refspec_request.proofs.arguments.Reading.new.Goals as goal

pub returns : goal.returns
returns c = nothing_read c.new.result c.new-2.result c.new.ensures c.new-2.ensures
