use Rattle.std.proofs.Common.{length-append}
use Rattle.gix_refspec_lint.proofs.Common.{[], ◌∷◌, None, Some, append-nil, map, refl, sym, ap, ◌∙◌, take_all, arith}
use Rattle.gix_refspec_lint.proofs.Common.{length, map-append, reading_of, unused_of}
use Rattle.gix_refspec_lint.proofs.idle.idle_in.Goals.{in-Some+in_ok-is_required+in_ok-push-2, in_default}
use Rattle.gix_refspec_lint.proofs.lemmas.AlikeLemmas.{earlier_there, reasons_more}
use Rattle.gix_refspec_lint.proofs.lemmas.IdleSpecLemmas.{idle_of, idle_next}
use Rattle.gix_refspec_lint.proofs.lemmas.RequiredLemmas.{required_same}
use Rattle.gix_refspec_lint.proofs.idle.idle_in.Goals as goal

pub reason_at-requires-clause-earlier : goal.reason_at-requires-clause-earlier
reason_at-requires-clause-earlier c = earlier_there (map reading_of c.args.group.now.specs.now)
    c.in_ok-earlier.earlier.items c.loop-spec_index.spec_index c.index-before.result.now
    (omega (arith, c.loop-spec_index-test.true, c.in_ok-earlier.ensures.long)) c.index-before.ensures
    c.in_ok-earlier.ensures.alike

pub reason_at-requires-clause-long : goal.reason_at-requires-clause-long
reason_at-requires-clause-long c = ap length c.as_slice.ensures.value ∙ c.loop-spec_index.invariant.0

pub is_required_but_for-requires-clause-earlier : goal.is_required_but_for-requires-clause-earlier
is_required_but_for-requires-clause-earlier c = earlier_there (map reading_of c.args.group.now.specs.now)
    c.in_ok-earlier.earlier.items c.loop-spec_index.spec_index c.index-before.result.now
    (omega (arith, c.loop-spec_index-test.true, c.in_ok-earlier.ensures.long)) c.index-before.ensures
    c.in_ok-earlier.ensures.alike

pub loop-spec_index-preserved : goal.loop-spec_index-preserved
loop-spec_index-preserved c =
    let specs = c.args.group.now.specs.now in
    let i = c.loop-spec_index.spec_index in
    let old = c.loop-spec_index.idle.items in
    let reasons = c.loop-spec_index.reasons.items in
    let why = c.in_ok-reason.reason in
    let test = c.loop-spec_index-test.true in (
      omega (
        arith,
        ap length c.in_ok-push.ensures.items,
        length-append reasons (why ∷ []),
        c.loop-spec_index.invariant.0,
      ),
      λ g is.
          let (so_far, are) = c.loop-spec_index.invariant.1 g is in
          let told = c.in_ok-reason.ensures g is (rw c.as_slice.ensures.value are) in (
            elim c.match-reason.branch [
              | in-Some+in_ok-is_required+in_ok-push-2 w ↦ rw w.idle-is
                  (idle_next g specs i (map unused_of old) _
                  (Some (record { spec = i; reason = w.in-Some.reason; required = w.in_ok-is_required.is_required }))
                  test
                  (λ r at. let (positive, by) = rw w.in-Some.is at (told r at) in (
                    positive,
                    record {
                      spec = refl;
                      reason = by;
                      required = required_same g (map reading_of specs) is.completed i w.in_ok-is_required.is_required
                          w.in_ok-is_required.ensures;
                    },
                  ))
                  so_far
                  (ap (map unused_of) w.in_ok-push-2.ensures.items ∙ map-append unused_of old _))
              | in_default w ↦ rw w.idle-is (idle_next g specs i (map unused_of old) _ None test
                  (λ r at. rw w.in_default.is at (told r at)) so_far (sym (append-nil (map unused_of old))))
            ],
            reasons_more g (map reading_of specs) i reasons _ why c.loop-spec_index.invariant.0
                c.in_ok-push.ensures.items told are,
          ),
    )

pub returns : goal.returns
returns c g is =
    idle_of g (map reading_of c.args.group.now.specs.now) (map unused_of c.loop-spec_index.idle.items) is.completed
    (rw (take_all c.loop-spec_index.spec_index c.args.group.now.specs.now (omega arith)) at
    (c.loop-spec_index.invariant.1 g is).0)
