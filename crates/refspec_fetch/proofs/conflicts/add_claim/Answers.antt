-- The claim is that of the update at the index.
use Rattle.std.proofs.Common.{◌≡◌, ◌++◌, ◌∷◌, [], ℕ, List, ap, map, option_map, subst, sym, ◌∙◌}
use Rattle.std.proofs.lemmas.List.{append-nil, map-append}
use Rattle.gix_refspec_plan.specs.Matching.Plan.{Planned}
use Rattle.gix_refspec_plan.specs.Views.Plan.{planned_of}
use Rattle.refspec_json.specs.Views.{claim_texts}
use Rattle.refspec_io.specs.Rows.{source_text}
use Rattle.refspec_fetch.specs.Conflicts.{claim_with, claims_of}
use Rattle.refspec_fetch.specs.Origins.{text_of}
use Rattle.refspec_fetch.proofs.ConflictLemmas.{those-none, those-some}
use Rattle.refspec_fetch.proofs.conflicts.add_claim.Goals as goal

pub returns-in_default : goal.returns-in_default
returns-in_default c =
    let texts = c.args.texts.now in
    let ps = map planned_of c.args.updates.now in
    let at = those-none ps c.args.index
    (sym c.update_at.ensures ∙ ap (option_map (λ u. planned_of u.now)) c.in_default.is) in
    let old = map claim_texts c.args.claims.now.items in
    subst (λ (l : List Planned). old ≡ old ++ claims_of texts l) (sym at) (sym (append-nil old))

pub returns : goal.returns
returns c =
    let texts = c.args.texts.now in
    let ps = map planned_of c.args.updates.now in
    let p = planned_of c.in-Some.update.now in
    let at = those-some ps c.args.index p
    (sym c.update_at.ensures ∙ ap (option_map (λ u. planned_of u.now)) c.in-Some.is) in
    let old = map claim_texts c.args.claims.now.items in
    let one : claim_texts c.in_ok-claim_of.field-0 ≡ claim_with (source_text p.source) (text_of texts p.origin)
    p.origin =
    c.in_ok-claim_of.ensures
    ∙ (ap (λ (s : List ℕ). claim_with s c.text_of-text.result.now p.origin) c.in_ok-source.ensures
    ∙ ap (λ (t : List ℕ). claim_with (source_text p.source) t p.origin) c.text_of-text.ensures) in
    subst (λ (l : List Planned). map claim_texts c.push.new.self.items ≡ old ++ claims_of texts l) (sym at)
    (ap (map claim_texts) c.in_ok-push.ensures.items
    ∙ (map-append claim_texts c.args.claims.now.items (c.in_ok-claim_of.field-0 ∷ [])
    ∙ ap (λ x. old ++ x ∷ []) one))
