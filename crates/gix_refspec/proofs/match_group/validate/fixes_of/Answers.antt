use Rattle.gix_refspec.proofs.Common.{MappingWithPartialDestinationRemoved, map, sym, ◌∙◌, rules, false≢true, Fix}
use Rattle.gix_refspec.proofs.Common.{reading_of, mapped_of, IsFix, Survives, removed_of, Removed}
use Rattle.gix_refspec.proofs.lemmas.validate.AfterLemmas.{fix_of, no_fix_written, nothing_more, one_more}
use Rattle.gix_refspec.proofs.lemmas.validate.ConflictLemmas.{spec_fits}
use Rattle.gix_refspec.proofs.match_group.validate.fixes_of.Goals.{in-Some+then-not-can_be_written+in_ok-from_slice+in_ok-to_owned+in_ok-push}
use Rattle.gix_refspec.proofs.match_group.validate.fixes_of.Goals.{in-Some+else-not-can_be_written, in_default}
use Rattle.gix_refspec.proofs.match_group.validate.fixes_of.Goals as goal

pub bounds-specs-mapping : goal.bounds-specs-mapping
bounds-specs-mapping c = spec_fits c.args.specs.now c.args.mappings.now c.loop-mapping.mapping-index
    c.mapping-item.result c.requires c.loop-mapping-test.true c.mapping-item.is

pub offset_bounds-specs-mapping : goal.offset_bounds-specs-mapping
offset_bounds-specs-mapping c = let below = bounds-specs-mapping c in search rules

pub loop-mapping-preserved : goal.loop-mapping-preserved
loop-mapping-preserved c =
    let specs = c.args.specs.now in
    let ms = c.args.mappings.now in
    let g = map reading_of specs in
    let i = c.loop-mapping.mapping-index in
    let m = c.mapping-item.result in
    let fixes = map removed_of c.loop-mapping.fixes.items in
    elim c.match-mapping.branch [
      | in-Some+then-not-can_be_written+in_ok-from_slice+in_ok-to_owned+in_ok-push w ↦
          let one : Fix = MappingWithPartialDestinationRemoved w.in_ok-from_slice.field-0 w.in_ok-to_owned.field-0 in
          let is = fix_of specs m w.in-Some.name w.index-specs-mapping.result (removed_of one) w.in-Some.is
          (λ writable. false≢true (sym w.if-not-can_be_written.true ∙ w.can_be_written.ensures.1 writable))
          (spec_fits specs ms i m c.requires c.loop-mapping-test.true c.mapping-item.is) w.index-specs-mapping.is
          (w.in_ok-from_slice.ensures ∙ w.as_bstr.ensures) w.in_ok-to_owned.ensures.keeps in
          rw w.fixes-is (one_more (λ k n fix. IsFix g n fix) Survives removed_of ms i m c.loop-mapping.fixes.items
          w.push.new.self.items one c.loop-mapping-test.true c.mapping-item.is w.in_ok-push.ensures.items is
          c.loop-mapping.invariant.0)
      | in-Some+else-not-can_be_written w ↦
          let writable = w.can_be_written.ensures.0 w.if-not-can_be_written.false in
          rw w.fixes-is (nothing_more (λ k n fix. IsFix g n fix) Survives ms i m fixes c.loop-mapping-test.true
          c.mapping-item.is (no_fix_written g m w.in-Some.name w.in-Some.is writable) (rw w.in-Some.is writable)
          c.loop-mapping.invariant)
      | in_default w ↦
          let no_fix : (fix : Removed) → ¬ (IsFix g (mapped_of m) fix) = λ fix is. let gone =
          rw w.in_default.is at is.goes in cc in
          rw w.fixes-is (nothing_more (λ k n fix. IsFix g n fix) Survives ms i m fixes c.loop-mapping-test.true
          c.mapping-item.is no_fix (rw w.in_default.is tt) c.loop-mapping.invariant)
    ]
