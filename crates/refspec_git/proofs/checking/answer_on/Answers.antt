-- The question has these texts.
use Rattle.std.proofs.Common.{map, refl}
use Rattle.refspec_io.specs.Texts.{given_of}
use Rattle.refspec_git.proofs.CheckingLemmas.{answered_by}
use Rattle.refspec_git.proofs.checking.answer_on.Goals as goal

pub returns : goal.returns
returns c = answered_by c.args.request.now (map given_of c.args.texts.now) _ c.in_ok-answer.answer _
    c.in_ok-more.more.items c.in_ok-answer.ensures refl refl refl refl c.in_ok-append.ensures.items c.in_ok-more.ensures
