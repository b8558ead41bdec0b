use Rattle.gix_refspec.proofs.Common.{map, rules, InvalidMapping, mapped_of, IsLeftOut, HasRefNames, left_out_of}
use Rattle.gix_refspec.proofs.lemmas.validate.AfterLemmas.{nothing_more, one_more}
use Rattle.gix_refspec.proofs.lemmas.validate.RefNameLemmas.{bad_unnamed, copied_mapping, some_unnamed}
use Rattle.gix_refspec.proofs.match_group.ref_names.invalid_mappings.Goals.{in-Some+in_ok-clone+in_ok-push, in_default}
use Rattle.gix_refspec.proofs.match_group.ref_names.invalid_mappings.Goals as goal

pub returns-in_err-clone-clause-memory : goal.returns-in_err-clone-clause-memory
returns-in_err-clone-clause-memory c = search (rules, some_unnamed)

pub returns-in_err-push-clause-memory : goal.returns-in_err-push-clause-memory
returns-in_err-push-clause-memory c = search (rules, some_unnamed)

pub loop-mapping-preserved : goal.loop-mapping-preserved
loop-mapping-preserved c =
    let ms = c.args.mappings.now in
    let i = c.loop-mapping.mapping-index in
    let m = c.mapping-item.result in
    let bad = map left_out_of c.loop-mapping.bad.items in
    elim c.match-invalid_side.branch [
      | in-Some+in_ok-clone+in_ok-push w ↦
          let one : InvalidMapping = record { mapping = w.in_ok-clone.field-0; side = w.in-Some.side } in
          let left : IsLeftOut (mapped_of m) (left_out_of one) =
          record {
            same = copied_mapping m w.in_ok-clone.field-0 w.in_ok-clone.ensures.keeps;
            bad =
                w.in-Some.ensures;
          } in
          rw w.bad-is (one_more (λ k n made. IsLeftOut n made) HasRefNames left_out_of ms i m c.loop-mapping.bad.items
          w.push.new.self.items one c.loop-mapping-test.true c.mapping-item.is w.in_ok-push.ensures.items left
          c.loop-mapping.invariant.0)
      | in_default w ↦
          rw w.bad-is
          (nothing_more (λ k n made. IsLeftOut n made) HasRefNames ms i m bad c.loop-mapping-test.true c.mapping-item.is
          (λ made out. bad_unnamed made.side (mapped_of m) out.bad w.in_default.ensures) w.in_default.ensures
          c.loop-mapping.invariant)
    ]
