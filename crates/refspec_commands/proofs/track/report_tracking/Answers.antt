-- One remote without a name is asked about.
use Rattle.std.proofs.Common.{ℕ, List, Bor, [], ◌∷◌, ◌++◌, None, map, ap, refl, subst, ◌∙◌}
use Rattle.refspec_commands.specs.declared.tracking.question.Remote.{Remote}
use Rattle.refspec_commands.specs.Answer.{IsAnswer}
use Rattle.refspec_commands.specs.Track.{named}
use Rattle.refspec_commands.proofs.AnswerLemmas.{AddsTracked-of}
use Rattle.refspec_commands.proofs.track.report_tracking.Goals as goal

pub returns : goal.returns
returns c =
    let r : Remote = record { name = None; specs = c.args.specs } in
    let answer = c.in_ok-answer.answer in
    let refs = c.in_ok-refs.refs.items in
    let same = c.in_ok-refs.ensures ∙ ap (λ (l : List (Bor (List ℕ))). map named (map (λ n. n.now) l))
    c.as_slice.ensures.value in
    let one = c.in_ok-push.ensures.items ∙ ap (λ (l : List Remote). l ++ r ∷ []) c.in_ok-remotes.ensures.items in
    let is = subst (λ (rs : List Remote). IsAnswer refs rs answer.remotes.items answer.refs.items) one
    c.in_ok-answer.ensures in
    AddsTracked-of c.args.report.now.form (map (λ w. w.now) c.args.call.now.refs.items) refs r answer.remotes.items
    answer.refs.items c.status.result
    c.args.report.now.results.items c.report_answer.new.report.results.items refl same is c.in_ok-report_answer.ensures
    c.status.ensures
