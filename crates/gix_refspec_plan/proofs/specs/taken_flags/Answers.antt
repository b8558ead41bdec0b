use Rattle.gix_refspec_plan.proofs.Common.{◌≡◌, sym, ◌∙◌, arith, false≢true}
use Rattle.gix_refspec_plan.proofs.lemmas.plan.SpecLemmas.{none_taken, taken_here, taken_same}
use Rattle.gix_refspec_plan.proofs.specs.taken_flags.Goals as goal

pub loop-mapping-init : goal.loop-mapping-init
loop-mapping-init c = none_taken c.args.len _ c.new-flags.result.items c.resize.new.self.items c.new-flags.ensures.items
    c.new-flags.ensures.len c.in_ok-resize.ensures.items

pub loop-mapping-preserved : goal.loop-mapping-preserved
loop-mapping-preserved c =
    let i = c.loop-mapping.mapping-index in
    let m = c.mapping-item.result in
    let flags = c.loop-mapping.flags in
    let long = c.loop-mapping.invariant.0 in
    elim c.match-mapping.branch [
      | goal.in-Some+then-index-len+then-is_sound w ↦ rw w.flags-is
          (taken_here c.args.mappings.now i m c.args.len flags.items c.loop-mapping-test.true c.mapping-item.is
          c.loop-mapping.invariant w.in-Some.index (w.is_sound.ensures.0 w.if-is_sound.true) w.in-Some.is
          (omega (arith, w.if-index-len.true, w.len.ensures, long, flags.ok)))
      | goal.in-Some+else-index-len w ↦ rw w.flags-is
          (taken_same c.args.mappings.now i m c.args.len flags.items c.loop-mapping-test.true c.mapping-item.is
          c.loop-mapping.invariant
          (elim w.else-index-len.branch [
            | goal.else-index-len-via-then-index-len+else-is_sound v ↦
                λ k below sound. absurd (false≢true (sym v.if-is_sound.false ∙ v.is_sound.ensures.1 sound))
            | goal.else-index-len-via-else-index-len v ↦ λ k below sound other. let same : w.in-Some.index ≡ k =
                cc (w.in-Some.is, other) in omega (
                  arith,
                  same,
                  below,
                  v.if-index-len.false,
                  w.len.ensures,
                  long,
                  flags.ok,
                )
          ]))
      | goal.in_default w ↦ rw w.flags-is
          (taken_same c.args.mappings.now i m c.args.len flags.items c.loop-mapping-test.true c.mapping-item.is
          c.loop-mapping.invariant (λ k below sound. w.in_default.not-Some k))
    ]
