use Rattle.gix_refspec_plan.proofs.Common.{rules, mapped_of, bstr_bytes, start_of, ap, name, sym, ◌∙◌, false≢true}
use Rattle.gix_refspec_plan.proofs.lemmas.plan.MadeLemmas.{made_one, made_none}
use Rattle.gix_refspec_plan.proofs.specs.sources_of.Goals as goal

pub loop-mapping-preserved : goal.loop-mapping-preserved
loop-mapping-preserved c =
    let ms = c.args.mappings.now in
    let i = c.loop-mapping.mapping-index in
    let m = c.mapping-item.result in
    elim c.match-mapping.branch [
      | goal.in-FullName+then-is_sound+in_ok-push w ↦ rw w.names-is
          (made_one _ mapped_of bstr_bytes ms i m _ c.loop-mapping-test.true c.mapping-item.is c.loop-mapping.invariant
          _ _
          (w.is_sound.ensures.0 w.if-is_sound.true, ap start_of w.in-FullName.is ∙ ap name (sym w.as_bstr.ensures))
          w.in_ok-push.ensures.items)
      | goal.in-FullName+else-is_sound w ↦ rw w.names-is
          (made_none _ mapped_of bstr_bytes ms i m _ c.loop-mapping-test.true c.mapping-item.is c.loop-mapping.invariant
          (λ n both. false≢true (sym w.if-is_sound.false ∙ w.is_sound.ensures.1 both.0)))
      | goal.in_default w ↦ rw w.names-is
          (made_none _ mapped_of bstr_bytes ms i m _ c.loop-mapping-test.true c.mapping-item.is c.loop-mapping.invariant
          (λ n both. search (rules, w.in_default.not-FullName, both.1)))
    ]
