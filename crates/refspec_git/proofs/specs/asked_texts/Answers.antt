-- The named specs, and all tags.
use Rattle.std.proofs.Common.{map}
use Rattle.refspec_io.specs.Texts.{given_of}
use Rattle.refspec_git.proofs.specs.asked_texts.Goals as goal

pub returns : goal.returns
returns c = (map given_of c.in_ok-texts.texts.items, c.in_ok-texts.ensures, c.in_ok-add_tags.ensures)
