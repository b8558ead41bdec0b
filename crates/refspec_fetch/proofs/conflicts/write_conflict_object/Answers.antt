-- The members of the object are the destination and the claims.
use Rattle.std.proofs.Common.{◌≡◌, ap, map, rules, ◌∙◌}
use Rattle.gix_refspec_plan.specs.Views.Plan.{planned_of}
use Rattle.refspec_json.specs.Views.{claim_texts}
use Rattle.refspec_io.specs.Json.{json_text}
use Rattle.refspec_io.proofs.ShownLemmas.{on_ok}
use Rattle.refspec_fetch.specs.Conflicts.{claims_of, contest_of, those_at}
use Rattle.refspec_fetch.proofs.ConflictLemmas.{conflict_line-of}
use Rattle.refspec_fetch.proofs.conflicts.write_conflict_object.Goals as goal

pub returns : goal.returns
returns c =
    let texts = c.args.texts.now in
    let ps = map planned_of c.args.updates.now in
    let conflict = contest_of ps c.args.contest.now in
    let name : c.as_bytes.result.now ≡ conflict.destination = search rules in
    let claims = ap (map claim_texts) c.as_slice-2.ensures.value
    ∙ (c.in_ok-claims.ensures ∙ ap (λ xs. claims_of texts (those_at ps xs)) c.as_slice.ensures.value) in
    let shown = c.as_str.ensures.value ∙ (c.in_ok-destination.ensures ∙ ap json_text name) in
    on_ok c.write_line.result _ _ c.write_line.ensures
    (conflict_line-of texts conflict c.as_str.result.now (map claim_texts c.as_slice-2.result.now)
    c.args.out.now.items c.write_line.new.out.items shown claims)
