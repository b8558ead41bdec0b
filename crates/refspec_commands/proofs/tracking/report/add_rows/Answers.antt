-- One more mapping adds its row.
use Rattle.std.proofs.Common.{◌<◌, ◌≡◌, List, ap, get_or, length, map, option_map, subst, sym, ◌∙◌}
use Rattle.std.proofs.lemmas.List.{append-nil}
use Rattle.bstr.specs.Owned.{bstring_bytes}
use Rattle.gix_refspec.specs.Views.Group.{mapped_of}
use Rattle.gix_refspec_match.specs.declared.types.Mapping.{Mapping}
use Rattle.refspec_commands.specs.Answer.{row_with}
use Rattle.refspec_commands.specs.Rows.{shown_row}
use Rattle.refspec_commands.proofs.AnswerLemmas.{mapped_more, row_same}
use Rattle.refspec_commands.proofs.tracking.report.add_rows.Goals as goal

pub loop-mapping-init : goal.loop-mapping-init
loop-mapping-init c = sym (append-nil (map shown_row c.args.rows.now.items))

pub loop-mapping-preserved : goal.loop-mapping-preserved
loop-mapping-preserved c =
    let t = c.args.remote.now in
    let texts = map bstring_bytes t.texts.items in
    let row = λ (m : Mapping). row_with (option_map (λ n. n.now) t.name) texts (mapped_of m) in
    let m = c.mapping-item.result in
    let i = c.loop-mapping.mapping-index in
    let all = c.deref-mapping-items.ensures.value in
    let below = subst (λ (l : List Mapping). i < length l) all c.loop-mapping-test.true in
    let here = subst (λ (l : List Mapping). m ≡ get_or l i m) all c.mapping-item.is in
    mapped_more shown_row row t.mappings.items i m (map shown_row c.args.rows.now.items) _ _ _ below
    (row_same t _ _ m c.as_slice.ensures.value c.text_at.ensures ∙ ap row here)
    c.in_ok-push.ensures.items c.loop-mapping.invariant
