use Rattle.gix_refspec_plan.proofs.Common.{rules, mapped_of, bstr_bytes, option_map, name_bytes, Some, ap, ◌∙◌, sym}
use Rattle.gix_refspec_plan.proofs.lemmas.plan.MadeLemmas.{made_one, made_none}
use Rattle.gix_refspec_plan.proofs.stale.destinations_of.Goals as goal

pub loop-mapping-preserved : goal.loop-mapping-preserved
loop-mapping-preserved c =
    let ms = c.args.written.now in
    let i = c.loop-mapping.mapping-index in
    elim c.match-mapping.branch [
      | goal.in-Some+in_ok-push w ↦ rw w.names-is
          (made_one _ mapped_of bstr_bytes ms i c.mapping-item.result _ c.loop-mapping-test.true c.mapping-item.is
          c.loop-mapping.invariant _ _
          (ap (option_map name_bytes) w.in-Some.is ∙ ap Some (sym w.as_bstr.ensures)) w.in_ok-push.ensures.items)
      | goal.in_default w ↦ rw w.names-is
          (made_none _ mapped_of bstr_bytes ms i c.mapping-item.result _ c.loop-mapping-test.true c.mapping-item.is
          c.loop-mapping.invariant (λ n same. search (rules, w.in_default.not-Some, same)))
    ]
