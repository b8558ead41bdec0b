-- Whether the refs of the remote are known decides what is asked.
use Rattle.std.proofs.Common.{MatchBool, subst, sym}
use Rattle.refspec_commands.specs.declared.fates.question.Known.{Known}
use Rattle.refspec_commands.specs.Fates.{IsFetched, IsUnfetched}
use Rattle.refspec_commands.proofs.fates.answer.Answer.is_fetched.Goals as goal

pub returns-in-Assumed : goal.returns-in-Assumed
returns-in-Assumed c =
    let a = c.args.self.now in
    subst (λ (k : Known). MatchBool c.is_stored.result (IsFetched k a) (IsUnfetched k a)) (sym c.in-Assumed.is)
    c.is_stored.ensures

pub returns-in-Listed : goal.returns-in-Listed
returns-in-Listed c =
    let a = c.args.self.now in
    subst (λ (k : Known). MatchBool c.is_taken.result (IsFetched k a) (IsUnfetched k a)) (sym c.in-Listed.is)
    c.is_taken.ensures
