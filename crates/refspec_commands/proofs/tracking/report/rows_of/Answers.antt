-- Each remote adds its rows, which are then sorted if they are to be by ref.
use Rattle.std.proofs.Common.{◌++◌, map, flat_map, take, take_all, ap, sym, subst, rules, ◌∙◌}
use Rattle.std.proofs.lemmas.List.Sorted.{answers_always}
use Rattle.refspec_commands.specs.declared.tracking.answer.Tracked.{Tracked}
use Rattle.refspec_commands.specs.declared.tracking.question.Order.{Order}
use Rattle.refspec_commands.specs.Answer.{AreRows, ref_index, rows_in}
use Rattle.refspec_commands.specs.Rows.{shown_row}
use Rattle.refspec_commands.proofs.AnswerLemmas.{rows_in-more}
use Rattle.refspec_commands.proofs.tracking.report.rows_of.Goals as goal

pub loop-remote-init : goal.loop-remote-init
loop-remote-init c = ap (map shown_row) c.new-rows.ensures.items

pub loop-remote-preserved : goal.loop-remote-preserved
loop-remote-preserved c =
    let i = c.loop-remote.remote-index in
    let ts = c.args.remotes.now in
    c.in_ok-add_rows.ensures ∙ (ap (λ l. l ++ rows_in c.remote-item.result) c.loop-remote.invariant
    ∙ (ap (λ (t : Tracked). flat_map rows_in (take i ts) ++ rows_in t) c.remote-item.is ∙ sym (rows_in-more ts i
    c.remote-item.result c.loop-remote-test.true)))

pub returns-in-Specs : goal.returns-in-Specs
returns-in-Specs c =
    let all = c.loop-remote.invariant ∙ ap (flat_map rows_in) (take_all c.loop-remote.remote-index c.args.remotes.now
    c.loop-remote-test.false) in
    subst (λ (o : Order). AreRows o c.args.remotes.now c.loop-remote.rows.items) (sym c.in-Specs.is) all

pub returns-in_ok-sort_by_key-in-Refs : goal.returns-in_ok-sort_by_key-in-Refs
returns-in_ok-sort_by_key-in-Refs c =
    let all = c.loop-remote.invariant ∙ ap (flat_map rows_in) (take_all c.loop-remote.remote-index c.args.remotes.now
    c.loop-remote-test.false) in
    subst (λ (o : Order). AreRows o c.args.remotes.now c.sort_by_key.new.self.items) (sym c.in-Refs.is) (
      c.loop-remote.rows.items,
      all,
      record {
        moved = c.sort_by_key.ensures.permutation;
        sorted = c.in_ok-sort_by_key-in-Refs.ensures.sorted ref_index
            (answers_always _ _ _ (λ f a r g h. search rules));
        stable = c.sort_by_key.ensures.stable ref_index (answers_always _ _ _ (λ f a r g h. search rules));
      },
    )
